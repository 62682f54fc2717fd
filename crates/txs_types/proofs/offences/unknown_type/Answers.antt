use Rattle.txs_types.specs.inner.Among.{UnknownIn}
use Rattle.txs_types.proofs.lists.Deciding.{among_none, among_more, among_end}
use Rattle.txs_types.proofs.offences.unknown_type.Goals as goal

pub loop-def-init : goal.loop-def-init
loop-def-init c = λ o p. among_none (λ i. UnknownIn c.args.types.now) o p

pub loop-def-preserved : goal.loop-def-preserved
loop-def-preserved c =
    among_more (λ i. UnknownIn c.args.types.now) c.args.defs.now c.loop-def.def-index c.def-item.result c.loop-def.fault c.unknown_in.result c.least-fault.result
    c.loop-def-test.true c.def-item.is c.loop-def.invariant c.unknown_in.ensures c.least-fault.ensures

pub returns : goal.returns
returns c = among_end (λ i. UnknownIn c.args.types.now) c.args.defs.now c.loop-def.def-index c.loop-def.fault c.loop-def-test.false c.loop-def.invariant
