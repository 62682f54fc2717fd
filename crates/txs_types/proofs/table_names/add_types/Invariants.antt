use Rattle.std.proofs.Common.{◌≡◌, ◌++◌, drop}
use Rattle.txs_values.specs.TableView.{table_of}
use Rattle.txs_typing.specs.Names.{table_globals}
use Rattle.txs_typing.specs.inner.View.{globals_of}
use Rattle.txs_types.proofs.table_names.add_types.Given as goal

abbrev pub invariant-loop-place : goal.invariant-loop-place
invariant-loop-place l =
    globals_of l.list ++ table_globals l.place l.first (table_of (drop l.place l.types))
    ≡ globals_of l.initial.list ++ table_globals 0 0 (table_of l.types)
