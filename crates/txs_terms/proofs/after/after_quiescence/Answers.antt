use Rattle.std.proofs.Common.{ℕ, ◌<◌, ◌↔◌, subst}
use Rattle.txs_terms.specs.After.{Out, quiescence}
use Rattle.txs_terms.specs.View.{terms_of}
use Rattle.txs_terms.proofs.PlainLaws.{quiet_plain}
use Rattle.txs_terms.proofs.SetLaws.{set_rests, set_quiet, same_length}
use Rattle.txs_terms.proofs.after.after_quiescence.Goals as goal

pub returns-clause-plain : goal.returns-clause-plain
returns-clause-plain c = rw c.in_ok-found.ensures (quiet_plain c.args.out (terms_of c.args.set.now) c.requires)

pub returns-clause-after : goal.returns-clause-after
returns-clause-after c model scope sync b trace i e h =
    rw c.in_ok-found.ensures (set_rests model scope sync b trace (terms_of c.args.set.now) c.args.out c.requires i e h)

pub returns-clause-quiet : goal.returns-clause-quiet
returns-clause-quiet c model scope sync b trace i e h =
    subst (λ (n : ℕ). (0 < n) ↔ Out model scope sync b trace quiescence) (same_length _ _ c.in_ok-found.ensures)
    (set_quiet model scope sync b trace (terms_of c.args.set.now) c.args.out c.requires i e h)
