-- What is left of the slots of an item whose hidden slots are fixed.
use Rattle.std.proofs.Common.{◌≡◌, ℕ, zero, suc, ◌+◌, ◌-◌, ◌<◌, ◌≤◌, Bool, true, false, cond, eqb, ltb, not, ◌||◌, inl, inr, List, [], ◌∷◌, length, refl, sym, ap, ◌∙◌, subst, arith}
use Rattle.std.proofs.lemmas.Bool.{eqb-true, ltb-true, ltb-false, eq-eqb, not-false, or_cases, or_parts}
use Rattle.txs_values.specs.Value.{Value, Ty}
use Rattle.txs_terms.specs.Expr.{Expr, val, slot, Puts, put, put_all, filled, has_slot}
use Rattle.txs_terms.specs.Eval.{Defs}
use Rattle.txs_terms.specs.Action.{has, kept, from}
use Rattle.txs_terms.specs.Term.{put_term, fill}
use Rattle.txs_terms.specs.Menu.{Item, with_slots, position, closed_up, loose_slots}
use Rattle.txs_laws.proofs.rules.Put.{Picked, then_put, filled_past, put_put_all, put_put_term}
use Rattle.txs_laws.proofs.rules.Fix.{Fixing, Reads, reads_all, reads_fixed}

-- ---- lists of slots

from_first : (i n j : ℕ) (q : Bool) → eqb i j ≡ q → i ≤ j → (i < j → has (from (suc i) n) j ≡ true) → (q || has (from (suc i) n) j) ≡ true
from_first i n j true e l go = refl
from_first i n j false e l go =
    let ne : i ≡ j → ⊥ = (λ r. let k = eq-eqb i j r in absurd (cc)) in
    go (omega arith)

has_from : (i n j : ℕ) → i ≤ j → j < i + n → has (from i n) j ≡ true
has_from i zero j a b = absurd (omega arith)
has_from i (suc n) j a b = from_first i n j (eqb i j) refl a (λ l. has_from (suc i) n j l (omega arith))

kept_first : (p : ℕ → Bool) (x j : ℕ) (xs : List ℕ) (b : Bool) → p x ≡ b → (has xs j ≡ true → has (kept p xs) j ≡ false → p j ≡ false)
    → has (x ∷ xs) j ≡ true → has (cond b (x ∷ kept p xs) (kept p xs)) j ≡ false → p j ≡ false
kept_first p x j xs true e go h k =
    let o = or_parts (eqb x j) (has (kept p xs) j) k in
    elim (or_cases (eqb x j) (has xs j) h) [ inl q ↦ (let r = o.0 in absurd (cc)) | inr q ↦ go q o.1 ]
kept_first p x j xs false e go h k =
    elim (or_cases (eqb x j) (has xs j) h) [ inl q ↦ subst (λ y. p y ≡ false) (eqb-true x j q) e | inr q ↦ go q k ]

not_kept : (p : ℕ → Bool) (j : ℕ) (xs : List ℕ) → has xs j ≡ true → has (kept p xs) j ≡ false → p j ≡ false
not_kept p j [] h k = cc
not_kept p j (x ∷ xs) h k = kept_first p x j xs (p x) refl (not_kept p j xs) h k

kept_only_first : (p : ℕ → Bool) (x j : ℕ) (xs : List ℕ) (b : Bool) → p x ≡ b → p j ≡ false → has (kept p xs) j ≡ false
    → has (cond b (x ∷ kept p xs) (kept p xs)) j ≡ false
kept_only_first p x j xs true e f h = both (eqb x j) refl
  where
    both : (q : Bool) → eqb x j ≡ q → (q || has (kept p xs) j) ≡ false
    both true r = let s = subst (λ y. p y ≡ true) (eqb-true x j r) e in absurd (cc)
    both false r = h
kept_only_first p x j xs false e f h = h

kept_only : (p : ℕ → Bool) (j : ℕ) (xs : List ℕ) → p j ≡ false → has (kept p xs) j ≡ false
kept_only p j [] f = refl
kept_only p j (x ∷ xs) f = kept_only_first p x j xs (p x) refl f (kept_only p j xs f)

not_from : (b : Bool) → b ≡ true → not b ≡ false
not_from true e = refl
not_from false e = cc

-- a slot of a channel that is shown is not loose
pub shown_fast : (ps : List ℕ) (size j : ℕ) → has ps j ≡ true → has (loose_slots ps size) j ≡ false
shown_fast ps size j h = kept_only (λ i. not (has ps i)) j (from 0 size) (not_from (has ps j) h)

pub left_slot : (ps : List ℕ) (size j : ℕ) → j < size → has (loose_slots ps size) j ≡ false → has ps j ≡ true
left_slot ps size j l h =
    not-false (has ps j) (not_kept (λ i. not (has ps i)) j (from 0 size) (has_from 0 size j (omega arith) (omega arith)) h)

-- ---- numbering anew

Picked-length : (vs : List Value) (ps : List ℕ) (ws : List Value) → Picked vs ps ws → length ps ≡ length ws
Picked-length vs [] [] h = refl
Picked-length vs [] (w ∷ ws) h = absurd h
Picked-length vs (p ∷ ps) [] h = absurd h
Picked-length vs (p ∷ ps) (w ∷ ws) h = ap suc (Picked-length vs ps ws h.1)

position_first : (vs : List Value) (p j : ℕ) (ps : List ℕ) (w : Value) (ws : List Value) (b : Bool) → eqb p j ≡ b
    → filled vs p ≡ val w → (has ps j ≡ true → filled ws (position ps j) ≡ filled vs j) → (b || has ps j) ≡ true
    → filled (w ∷ ws) (cond b 0 (suc (position ps j))) ≡ filled vs j
position_first vs p j ps w ws true e f go h = sym f ∙ ap (filled vs) (eqb-true p j e)
position_first vs p j ps w ws false e f go h = go h

at_position : (vs : List Value) (ps : List ℕ) (ws : List Value) → Picked vs ps ws → (j : ℕ) → has ps j ≡ true → filled ws (position ps j) ≡ filled vs j
at_position vs [] ws k j h = cc
at_position vs (p ∷ ps) [] k j h = absurd k
at_position vs (p ∷ ps) (w ∷ ws) k j h = position_first vs p j ps w ws (eqb p j) refl k.0 (at_position vs ps ws k.1 j) h

closed_first : (vs : List Value) (ps : List ℕ) (ws : List Value) (size j : ℕ) (b : Bool) → ltb j size ≡ b → size ≡ length vs → Picked vs ps ws
    → has (loose_slots ps size) j ≡ false → put (filled ws) (cond b (slot (position ps j)) (slot ((j - size) + length ps))) ≡ filled vs j
closed_first vs ps ws size j true e n k h = at_position vs ps ws k j (left_slot ps size j (ltb-true j size e) h)
closed_first vs ps ws size j false e n k h =
    let l = ltb-false j size e in
    let m = Picked-length vs ps ws k in
    let a : (j - size) + length ps ≡ (j - size) + length ws = omega arith in
    let b : (j - size) + length vs ≡ j = omega arith in
    ap (filled ws) a ∙ (filled_past ws (j - size) ∙ (sym (filled_past vs (j - size)) ∙ ap (filled vs) b))

closed_agrees : (vs : List Value) (ps : List ℕ) (ws : List Value) (size : ℕ) → size ≡ length vs → Picked vs ps ws
    → (j : ℕ) → not (has (loose_slots ps size) j) ≡ true → then_put (filled ws) (closed_up ps size) j ≡ filled vs j
closed_agrees vs ps ws size n k j h = closed_first vs ps ws size j (ltb j size) refl n k (not_true (has (loose_slots ps size) j) h)
  where
    not_true : (b : Bool) → not b ≡ true → b ≡ false
    not_true true e = cc
    not_true false e = refl

slots_first : (f g : Puts) (e : Expr) (gs : List Expr) (b : Bool) → put f e ≡ put g e → put_all f (with_slots gs) ≡ put_all g (with_slots gs)
    → put_all f (cond b (e ∷ with_slots gs) (with_slots gs)) ≡ put_all g (cond b (e ∷ with_slots gs) (with_slots gs))
slots_first f g e gs true h k = cc
slots_first f g e gs false h k = k

slots_alike : (f g : Puts) (gs : List Expr) → put_all f gs ≡ put_all g gs → put_all f (with_slots gs) ≡ put_all g (with_slots gs)
slots_alike f g [] h = refl
slots_alike f g (e ∷ gs) h = slots_first f g e gs (has_slot e) (cc) (slots_alike f g gs (cc))

-- what is left of an item whose hidden slots are fixed
module _ (vs : List Value) (ps : List ℕ) (ws : List Value) (size : ℕ) (n : size ≡ length vs) (k : Picked vs ps ws)
    (i : Item) (r : Reads (λ j. not (has (loose_slots ps size) j)) i) where
  pub left_guards : put_all (filled ws) (put_all (closed_up ps size) (with_slots i.guards)) ≡ put_all (filled vs) (with_slots i.guards)
  left_guards =
      put_put_all (filled ws) (closed_up ps size) (with_slots i.guards)
      ∙ slots_alike (then_put (filled ws) (closed_up ps size)) (filled vs) i.guards
      (r.guards (then_put (filled ws) (closed_up ps size)) (filled vs) (closed_agrees vs ps ws size n k))

  pub left_rest : fill ws (put_term (closed_up ps size) i.rest) ≡ fill vs i.rest
  left_rest =
      put_put_term (filled ws) (closed_up ps size) i.rest
      ∙ r.rest (then_put (filled ws) (closed_up ps size)) (filled vs) (closed_agrees vs ps ws size n k)

-- the fixed item does not read the loose slots
pub fixed_reads : {defs : Defs} {types : List Ty} (loose : List ℕ) {i i' : Item} → Fixing defs types loose i i' → Reads (λ j. not (has loose j)) i'
fixed_reads loose {i = i} x = reads_fixed x (λ j. not (has loose j)) (record {
  guards = λ f g h. (reads_all i).guards f g (λ j t. h j (excluded (has loose j)));
  rest = λ f g h. (reads_all i).rest f g (λ j t. h j (excluded (has loose j)));
})
  where
    excluded : (b : Bool) → (not b || b) ≡ true
    excluded true = refl
    excluded false = refl
