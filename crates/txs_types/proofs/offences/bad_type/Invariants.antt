use Rattle.std.proofs.Common.{take}
use Rattle.txs_typing.specs.inner.Told.{Finds}
use Rattle.txs_types.specs.inner.Among.{Among, BadDefault}
use Rattle.txs_types.proofs.offences.bad_type.Given as goal

-- the fault so far
abbrev pub invariant-loop-place : goal.invariant-loop-place
invariant-loop-place l = Finds l.fault (Among (BadDefault l.table) (take l.place l.types))
