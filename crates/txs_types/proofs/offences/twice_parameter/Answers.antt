use Rattle.txs_types.specs.inner.Among.{TwiceIn}
use Rattle.txs_types.proofs.lists.Deciding.{among_none, among_more, among_end}
use Rattle.txs_types.proofs.offences.twice_parameter.Goals as goal

pub loop-def-init : goal.loop-def-init
loop-def-init c = λ o p. among_none (λ i. TwiceIn) o p

pub loop-def-preserved : goal.loop-def-preserved
loop-def-preserved c =
    among_more (λ i. TwiceIn) c.args.defs.now c.loop-def.def-index c.def-item.result c.loop-def.fault c.in_ok-twice_in.field-0 c.least-fault.result
    c.loop-def-test.true c.def-item.is c.loop-def.invariant c.in_ok-twice_in.ensures c.least-fault.ensures

pub returns : goal.returns
returns c = among_end (λ i. TwiceIn) c.args.defs.now c.loop-def.def-index c.loop-def.fault c.loop-def-test.false c.loop-def.invariant
