use Rattle.std.proofs.Common.{ℕ, ◌<◌, ◌↔◌, subst}
use Rattle.txs_terms.specs.After.{CanDo}
use Rattle.txs_terms.specs.View.{action_of, terms_of}
use Rattle.txs_terms.proofs.PlainLaws.{all_moves_plain}
use Rattle.txs_terms.proofs.SetLaws.{set_acts, set_can_do, same_length}
use Rattle.txs_terms.proofs.after.after_action.Goals as goal

pub returns-clause-plain : goal.returns-clause-plain
returns-clause-plain c i = rw c.in_ok-found.ensures (all_moves_plain (terms_of c.args.set.now) (action_of c.args.action.now) i c.requires)

pub returns-clause-after : goal.returns-clause-after
returns-clause-after c model scope sync b trace i h =
    rw c.in_ok-found.ensures (set_acts model scope sync b trace (terms_of c.args.set.now) (action_of c.args.action.now) c.requires i h)

pub returns-clause-moves : goal.returns-clause-moves
returns-clause-moves c model scope sync b trace i h =
    subst (λ (n : ℕ). (0 < n) ↔ CanDo model scope sync b trace (action_of c.args.action.now)) (same_length _ _ c.in_ok-found.ensures)
    (set_can_do model scope sync b trace (terms_of c.args.set.now) (action_of c.args.action.now) c.requires i h)
