use Rattle.std.proofs.Common.{◌≡◌}
use Rattle.txs_terms.specs.View.{expr_of}
use Rattle.txs_eval.proofs.evaluation.past_empty.Given as goal

abbrev pub invariant-loop-inner : goal.invariant-loop-inner
invariant-loop-inner l = expr_of l.inner ≡ expr_of l.expr
