use Rattle.std.proofs.Common.{take}
use Rattle.txs_typing.specs.inner.Told.{Finds}
use Rattle.txs_types.specs.inner.Among.{AmongDefs, TwiceIn}
use Rattle.txs_types.proofs.offences.twice_parameter.Given as goal

-- the fault so far
abbrev pub invariant-loop-def : goal.invariant-loop-def
invariant-loop-def l = Finds l.fault (AmongDefs TwiceIn (take l.def-index l.defs))
