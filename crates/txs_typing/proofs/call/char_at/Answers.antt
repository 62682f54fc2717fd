use Rattle.std.proofs.Common.{ap, ◌∙◌}
use Rattle.txs_terms.specs.View.{expr_of, exprs_of}
use Rattle.txs_terms.specs.Expr as of
use Rattle.txs_terms.specs.declared.expr.Binary.TheVariants as binary
use Rattle.txs_typing.proofs.judging.Exprs.{seen_two}
use Rattle.txs_typing.proofs.judging.Calls.{only_two}
use Rattle.txs_typing.proofs.call.char_at.Goals as goal

pub returns : goal.returns
returns c = (
  expr_of c.in-Some-Some.a,
  expr_of c.in-Some-Some.b,
  ap exprs_of (only_two c.args.args c.pop.new.self c.pop-2.new.self c.in-Some-Some.a c.in-Some-Some.b c.requires c.in-Some-Some.ensures c.in-Some-Some.ensures'),
  seen_two binary.CharAt c.in_ok-a-in-Some-Some.a c.in_ok-new-in-Some-Some.field-0
      ∙ (ap (λ e. of.two of.char_at (expr_of e) (expr_of c.in_ok-new-in-Some-Some.field-0)) c.in_ok-a-in-Some-Some.ensures
      ∙ ap (λ e. of.two of.char_at (expr_of c.in-Some-Some.a) (expr_of e)) c.in_ok-new-in-Some-Some.ensures),
)
