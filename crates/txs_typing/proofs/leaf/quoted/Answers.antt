use Rattle.std.proofs.Common.{ap, ◌∙◌}
use Rattle.txs_values.specs.declared.value.Value.TheVariants as value
use Rattle.txs_values.specs.Value.{text}
use Rattle.txs_terms.specs.Expr.{val}
use Rattle.txs_terms.specs.declared.expr.Expr.TheVariants as form
use Rattle.txs_typing.specs.inner.View.{scope_of}
use Rattle.txs_typing.specs.Answer.{want_of}
use Rattle.txs_typing.proofs.judging.Finish.{judges_text}
use Rattle.txs_typing.proofs.judging.Exprs.{seen_text}
use Rattle.txs_typing.proofs.leaf.quoted.Goals as goal

pub returns-in-Ok : goal.returns-in-Ok
returns-in-Ok c = λ offset.
    judges_text c.args.at offset (scope_of c.args.scope.now) (want_of c.args.want) c.args.text.now (form.Value (value.Text c.in-Ok.text)) c.fitted.result
    (seen_text c.in-Ok.text ∙ ap (λ s. val (text s)) c.in-Ok.ensures) c.fitted.ensures
