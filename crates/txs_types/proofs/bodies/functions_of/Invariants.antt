use Rattle.std.proofs.Common.{take}
use Rattle.txs_types.specs.inner.Among.{IsOfFile}
use Rattle.txs_types.specs.inner.Collected.{FunctionsCollected}
use Rattle.txs_types.proofs.bodies.functions_of.Given as goal

-- the functions so far
abbrev pub invariant-loop-def : goal.invariant-loop-def
invariant-loop-def l = record { collected : FunctionsCollected l.file (take l.def-index l.def-items) l.functions; scope : IsOfFile l.file l.scope }
