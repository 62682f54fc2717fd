use Rattle.std.proofs.Common.{◌≡◌, ◌++◌, drop}
use Rattle.txs_values.specs.TableView.{table_of}
use Rattle.txs_types.specs.Files.{names_of}
use Rattle.txs_types.proofs.query.names_of_table.Given as goal

abbrev pub invariant-loop-def : goal.invariant-loop-def
invariant-loop-def l = l.types ++ names_of (table_of (drop l.def-index l.table)) ≡ names_of (table_of l.table)
