use Rattle.std.proofs.Common.{◌≡◌, drop}
use Rattle.txs_outside.specs.Held.{held}
use Rattle.txs_outside.proofs.sure_files.found.Given as goal

-- the name is not among the files so far
abbrev pub invariant-loop-file : goal.invariant-loop-file
invariant-loop-file l = held (drop l.file-index l.files) l.name ≡ held l.files l.name
