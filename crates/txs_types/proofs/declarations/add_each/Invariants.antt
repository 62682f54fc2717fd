use Rattle.std.proofs.Common.{◌≡◌, ◌++◌, map, drop}
use Rattle.txs_values.specs.View.{ty_of}
use Rattle.txs_values.specs.TableView.{field_of}
use Rattle.txs_types.specs.Files.{each_of}
use Rattle.txs_types.proofs.declarations.add_each.Given as goal

abbrev pub invariant-loop-name : goal.invariant-loop-name
invariant-loop-name l =
    map field_of l.variables ++ each_of (ty_of l.ty) (drop l.name-index l.names) ≡ map field_of l.initial.variables ++ each_of (ty_of l.ty) l.names
