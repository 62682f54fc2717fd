use Rattle.std.proofs.Common.{◌∙◌, ap, sym, subst, map}
use Rattle.txs_values.specs.View.{ty_of}
use Rattle.txs_typing.specs.inner.View.{scope_of, called_of}
use Rattle.txs_typing.specs.Answer.{want_of}
use Rattle.txs_typing.specs.inner.Parts.{CallsWith}
use Rattle.txs_typing.proofs.judging.CallNodes.{calls_fitted}
use Rattle.txs_typing.proofs.call.called_with.Goals as goal

pub returns-in-Some : goal.returns-in-Some
returns-in-Some c =
    let ts = map ty_of c.args.called.now.takes in
    subst (λ f. CallsWith (scope_of c.args.scope.now) (want_of c.args.want) c.args.at ((called_of c.args.called.now).0) f c.fitted.result) (sym c.in-Ok.is)
    (calls_fitted (scope_of c.args.scope.now) (want_of c.args.want) c.args.at ((called_of c.args.called.now).0) c.in-Ok.args (ty_of c.in-Some.ty) c.applied-made.result c.fitted.result
    (sym (c.call_type.ensures ts) ∙ ap want_of c.in-Some.is) c.applied-made.ensures c.fitted.ensures)
