use Rattle.std.proofs.Common.{◌≡◌, ◌++◌, drop}
use Rattle.txs_types.specs.Files as files
use Rattle.txs_types.proofs.definitions.constructor_names.Given as goal

-- the names so far, with those that are left
abbrev pub invariant-loop-con : goal.invariant-loop-con
invariant-loop-con l = l.names ++ files.constructor_names (drop l.con-index l.cons) ≡ files.constructor_names l.cons
