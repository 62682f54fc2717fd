use Rattle.std.proofs.Common.{ap, ◌∙◌}
use Rattle.txs_typing.specs.inner.View.{scope_of, wants_of}
use Rattle.txs_typing.proofs.judging.CallNodes.{strays_more}
use Rattle.txs_typing.proofs.call.stray_needs.Goals as goal

pub loop-arg-preserved : goal.loop-arg-preserved
loop-arg-preserved c =
    ap wants_of c.in_ok-push.ensures.ok
    ∙ strays_more (scope_of c.args.scope.now) c.args.args.now c.loop-arg._arg-index c.loop-arg.needs c._arg-item.result c.loop-arg-test.true c.loop-arg.invariant
