use Rattle.std.proofs.Common.{◌≡◌, ◌++◌, map, drop}
use Rattle.txs_values.specs.TableView.{field_of}
use Rattle.txs_typing.specs.Names.{selectors}
use Rattle.txs_typing.specs.inner.View.{globals_of}
use Rattle.txs_types.proofs.global_names.add_selectors.Given as goal

abbrev pub invariant-loop-place : goal.invariant-loop-place
invariant-loop-place l =
    globals_of l.list ++ selectors l.constructor l.of l.place (map field_of (drop l.place l.fields))
    ≡ globals_of l.initial.list ++ selectors l.constructor l.of 0 (map field_of l.fields)
