use Rattle.std.proofs.Common.{refl, sym, true≢false}
use Rattle.txs_values.specs.View.{value_of}
use Rattle.txs_eval.proofs.Sizes.{past_limits, within_limits}
use Rattle.txs_eval.proofs.texts.sized.Goals as goal

pub returns-then-is_within-clause-value : goal.returns-then-is_within-clause-value
returns-then-is_within-clause-value c = within_limits (value_of c.args.value) (c.if-is_within.ensures.0 refl)

pub returns-else-is_within-clause-value : goal.returns-else-is_within-clause-value
returns-else-is_within-clause-value c = past_limits (value_of c.args.value) (λ p. true≢false (sym (c.if-is_within.ensures.1 p)))
