use Rattle.std.proofs.Common.{◌≡◌, ◌++◌, drop}
use Rattle.txs_types.specs.Files as files
use Rattle.txs_types.proofs.file_types.excused.Given as goal

-- the types so far, with those that are left
abbrev pub invariant-loop-def : goal.invariant-loop-def
invariant-loop-def l = l.table ++ files.excused l.types (drop l.def-index l.defs) ≡ files.excused l.types l.defs
