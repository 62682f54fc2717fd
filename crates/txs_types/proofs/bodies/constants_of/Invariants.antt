use Rattle.std.proofs.Common.{take}
use Rattle.txs_types.specs.inner.Among.{IsOfFile}
use Rattle.txs_types.specs.inner.Collected.{ConstantsCollected}
use Rattle.txs_types.proofs.bodies.constants_of.Given as goal

-- the constants so far
abbrev pub invariant-loop-def : goal.invariant-loop-def
invariant-loop-def l = record { collected : ConstantsCollected l.file (take l.def-index l.def-items) l.constants; scope : IsOfFile l.file l.scope }
