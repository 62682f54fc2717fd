use Rattle.std.proofs.Common.{◌≡◌, ◌++◌, drop}
use Rattle.txs_types.specs.Files as files
use Rattle.txs_types.proofs.definitions.defined_names.Given as goal

-- the names so far, with those that are left
abbrev pub invariant-loop-def : goal.invariant-loop-def
invariant-loop-def l = l.names ++ files.defined_names (drop l.def-index l.defs) ≡ files.defined_names l.defs
