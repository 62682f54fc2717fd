use Rattle.std.proofs.Common.{refl, ap, ◌∙◌}
use Rattle.txs_terms.specs.View.{expr_of}
use Rattle.txs_terms.specs.declared.expr.Expr.TheVariants as form
use Rattle.txs_terms.proofs.Views.{at_build}
use Rattle.txs_typing.proofs.judging.Exprs.{seen_constructor}
use Rattle.txs_typing.proofs.judging.Calls.{without_fields, with_fields}
use Rattle.txs_typing.proofs.call.constructed.Goals as goal

pub returns-in_ok-made_of : goal.returns-in_ok-made_of
returns-in_ok-made_of c = λ k ts want n. without_fields c.args.number k ts want c.args.args _ (c.if-is_empty.ensures.0 refl) n (seen_constructor c.in_ok-made_of.field-0 c.args.number c.new.result c.new.ensures c.in_ok-made_of.ensures)

pub returns-in_ok-new : goal.returns-in_ok-new
returns-in_ok-new c = λ k ts want n. with_fields c.args.number k ts want c.args.args _ c.if-is_empty.ensures.1 n (ap (λ l. expr_of (form.Build c.args.number l)) c.in_ok-new.ensures ∙ at_build c.args.number c.args.args)
