use Rattle.std.proofs.Common.{◌≡◌, ◌++◌, map, drop}
use Rattle.txs_values.specs.View.{ty_of}
use Rattle.txs_values.specs.TableView.{field_of}
use Rattle.txs_values.specs.Value.{field_types}
use Rattle.txs_types.proofs.global_names.types_of.Given as goal

abbrev pub invariant-loop-field : goal.invariant-loop-field
invariant-loop-field l = map ty_of l.types ++ field_types (map field_of (drop l.field-index l.fields)) ≡ field_types (map field_of l.fields)
