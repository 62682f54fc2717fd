use Rattle.std.proofs.Common.{ap, ◌∙◌}
use Rattle.txs_terms.specs.View.{unary_of, expr_of, exprs_of}
use Rattle.txs_terms.specs.Expr as of
use Rattle.txs_typing.proofs.judging.Exprs.{seen_one}
use Rattle.txs_typing.proofs.judging.Calls.{only_one}
use Rattle.txs_typing.proofs.call.one.Goals as goal

pub returns : goal.returns
returns c = (expr_of c.in-Some.a, ap exprs_of (only_one c.args.args c.pop.new.self c.in-Some.a c.requires c.in-Some.ensures), seen_one c.args.operator c.in_ok-new-in-Some.field-0 ∙ ap (λ e. of.one (unary_of c.args.operator) (expr_of e)) c.in_ok-new-in-Some.ensures)
