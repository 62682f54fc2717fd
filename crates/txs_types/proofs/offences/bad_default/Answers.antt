use Rattle.std.proofs.Common.{sym, ◌∙◌, true≢false}
use Rattle.txs_types.proofs.files.Offending.{empty_stands, big_stands, no_bad}
use Rattle.txs_types.proofs.offences.bad_default.Goals as goal

pub returns-in-None : goal.returns-in-None
returns-in-None c = λ table k h. empty_stands table k c.args.name.now (sym c.in-None.is ∙ h)

pub returns-then-is_big : goal.returns-then-is_big
returns-then-is_big c = λ table k h. big_stands table k c.args.name.now c.in-Some.extent (sym c.in-Some.is ∙ h) (c.is_big.ensures.0 c.if-is_big.true)

pub returns-else-is_big : goal.returns-else-is_big
returns-else-is_big c = λ table k h.
    no_bad table k c.args.name.now c.in-Some.extent (sym c.in-Some.is ∙ h) (λ b. true≢false (sym (c.is_big.ensures.1 b) ∙ c.if-is_big.false))
