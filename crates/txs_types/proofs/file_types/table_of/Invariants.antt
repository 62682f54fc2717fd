use Rattle.std.proofs.Common.{◌≡◌, ◌++◌, drop}
use Rattle.txs_types.specs.Files as files
use Rattle.txs_types.proofs.file_types.table_of.Given as goal

-- the types so far, with those that are left
abbrev pub invariant-loop-def : goal.invariant-loop-def
invariant-loop-def l = l.table ++ files.table_in l.types (drop l.def-index l.defs) ≡ files.table_in l.types l.defs
