use Rattle.std.proofs.Common.{◌-◌, length, ap, ◌∙◌}
use Rattle.txs_values.specs.View.{value_of}
use Rattle.txs_terms.specs.Expr.{val}
use Rattle.txs_terms.proofs.Views.{at_value, at_slot, filled_at, filled_beyond}
use Rattle.txs_terms.proofs.slots.fill_slot.Goals as goal

pub returns-in_ok-copy_value : goal.returns-in_ok-copy_value
returns-in_ok-copy_value c =
    at_value c.in_ok-copy_value.field-0
    ∙ (ap (λ v. val (value_of v)) c.in_ok-copy_value.ensures
    ∙ filled_at c.args.values.now c.args.slot c.index-values-index.result c.if-index-values.true c.index-values-index.is)

pub returns-else-index-values : goal.returns-else-index-values
returns-else-index-values c = at_slot (c.args.slot - length c.args.values.now) ∙ filled_beyond c.args.values.now c.args.slot c.if-index-values.false
