-- The two channels, and the sets after a trace over them.
use Rattle.std.proofs.Common.{◌≡◌, ◌<◌, ◌↔◌, ℕ, zero, suc, List, [], ◌∷◌, ◌++◌, map, refl, ap, subst, arith}
use Rattle.std.proofs.lemmas.List.{reverse-append}
use Rattle.txs_session.specs.declared.note.Seen.{Seen}
use Rattle.txs_terms.specs.Term.{Term}
use Rattle.txs_terms.specs.Action.{Action}
use Rattle.txs_terms.specs.After.{Observable, acted}
use Rattle.txs_terms.specs.Sets.{IsAfter, IsInt}
use Rattle.txs_session.specs.Allowed.{definitions, scope, sync, observable_of, latest_first}

-- each of the two channels has one position, of type Int
pub int_channel : (c : ℕ) → c < 2 → IsInt scope c
int_channel zero h = refl
int_channel (suc zero) h = refl
int_channel (suc (suc c)) h = absurd (omega arith)

-- a set after an action, under another name of the action
pub after_on : (a x : Action) (b : Term) (trace : List Observable) (set : List Term) → a ≡ x → IsAfter definitions scope sync b (acted a ∷ trace) set → IsAfter definitions scope sync b (acted x ∷ trace) set
after_on a x b trace set e h = subst (λ (y : Action). IsAfter definitions scope sync b (acted y ∷ trace) set) e h

-- what holds where an action can be done holds where it can be done and is on a set of SYNC
pub on_sync : {P A B : Type 0} → A → P ↔ B → P ↔ (A × B)
on_sync a h = (λ p. (a, h.0 p), λ x. h.1 x.1)

-- the latest of a trace that goes on is first
pub latest_first-append : (trace : List Seen) (x : Seen) → latest_first (trace ++ x ∷ []) ≡ observable_of x ∷ latest_first trace
latest_first-append trace x = ap (map observable_of) (reverse-append trace (x ∷ []))
