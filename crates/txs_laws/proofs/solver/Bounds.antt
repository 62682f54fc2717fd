-- A point that makes the query True keeps its bounds, and is a cell of the second case.
use Rattle.std.proofs.Common.{◌≡◌, ℕ, zero, suc, ◌+◌, ℤ, pos, negsuc, ◌+ℤ◌, ◌-ℤ◌, ◌<ℤ◌, ◌≤ℤ◌, int_lt, int_le, Bool, true, false, not, ◌&&◌, cond, eqb, ltb, inl, inr, List, [], ◌∷◌, ◌++◌, map, refl, sym, ap, ◌∙◌, subst, arith}
use Rattle.std.specs.Prelude.{Option, Some, None, slice_get}
use Rattle.std.proofs.lemmas.Int.{ints}
use Rattle.std.proofs.lemmas.Bool.{and_parts, eqb-true}
use Rattle.txs_terms.specs.Action.{from}
use Rattle.txs_values.specs.Value.{fields_in, field_types, Ty, integer, truth, string, named, Value, num, bool, text, cons, Values, no_value, and_value, Table, Field, place_of, same_value, has_type, has_fields, HaveTypes}
use Rattle.txs_terms.specs.Eval.{Defs, Run, got, run, eval, then_run, checked, are_comparable, takes_two, after, binary, fine, broken, Outcome, node_limit, height_limit, Gives, Hold, bool_true}
use Rattle.txs_terms.specs.Expr.{Binary, plus, minus, times, divide, remainder, concat, differ, less_than, at_most, more_than, at_least, char_at, Expr, val, slot, local, constant, one, two, equal, both, either, choose, apply, build, let_in, put, put_all, filled, has_slot}
use Rattle.txs_terms.specs.Rules.{In}
use Rattle.txs_guard.specs.Atom.{fixed_value, value_in}
use Rattle.txs_guard.specs.Bounds.{Bound, number_in, low, high, operator_bounds, turned, with_number, left_bounds, bounds_of, bounds_for, greatest, up_by, from_to, between, plain_made, every_value, every_slot, bounded_case}
use Rattle.txs_guard.specs.Candidates.{cells, count_made, fields_of, least}
use Rattle.txs_guard.specs.Mentioned.{flat}
use Rattle.txs_guard.specs.Point.{IsPoint, IsTrueAt}
use Rattle.txs_guard.specs.Query.{Query}
use Rattle.txs_laws.proofs.rules.Tests.{put_closed, same_value-true, cond_got, sym_same, then_run_from}
use Rattle.txs_laws.proofs.rules.Limits.{checked_got, compared_true}
use Rattle.txs_laws.proofs.rules.Lists.{In-append, In_mapped}
use Rattle.txs_laws.proofs.solver.Members.{In_with_each, In_up_to, made, place_below}
use Rattle.txs_laws.proofs.solver.Runs.{closed_gives, at_slot, place_gives}
use Rattle.txs_laws.proofs.solver.Press.{In_run_up}
use Rattle.txs_terms.proofs.typing.Lists.{same_some}

-- ---- numbers between bounds

up_by_In : (x y d s : ℤ) → s ≡ y -ℤ x → x ≤ℤ y → d ≡ s → (z e : ℤ) → x ≤ℤ z → z ≤ℤ y → e ≡ z -ℤ x → In z (up_by x d)
up_by_In x y (pos n) s es l ed z (pos j) a b ee = In_run_up x z n j (omega (arith, ints)) (omega (arith, ints))
up_by_In x y (pos n) s es l ed z (negsuc j) a b ee = absurd (omega (arith, ints))
up_by_In x y (negsuc n) s es l ed z e a b ee = absurd (omega (arith, ints))

In_from_to : (x y z : ℤ) → x ≤ℤ z → z ≤ℤ y → In z (from_to x y)
In_from_to x y z a b = up_by_In x y (y -ℤ x) (y -ℤ x) refl (omega (arith, ints)) refl z (z -ℤ x) a b refl

greatest_step : (x y z : ℤ) (ys : List ℤ) (b : Bool) → int_lt x y ≡ b → x ≤ℤ z → y ≤ℤ z → ((w : ℤ) → w ≤ℤ z → greatest w ys ≤ℤ z) → cond b (greatest y ys) (greatest x ys) ≤ℤ z
greatest_step x y z ys true e p q go = go y q
greatest_step x y z ys false e p q go = go x p

greatest_le : (x z : ℤ) (ys : List ℤ) → x ≤ℤ z → ((y : ℤ) → In y ys → y ≤ℤ z) → greatest x ys ≤ℤ z
greatest_le x z [] h k = h
greatest_le x z (y ∷ ys) h k =
    greatest_step x y z ys (int_lt x y) refl h (k y (inl refl)) (λ w l. greatest_le w z ys l (λ v i. k v (inr i)))

lowest_step : (x y z : ℤ) (ys : List ℤ) (b : Bool) → z ≤ℤ x → z ≤ℤ y → ((w : ℤ) → z ≤ℤ w → z ≤ℤ least w ys) → z ≤ℤ cond b (least y ys) (least x ys)
lowest_step x y z ys true p q go = go y q
lowest_step x y z ys false p q go = go x p

lowest_ge : (x z : ℤ) (ys : List ℤ) → z ≤ℤ x → ((y : ℤ) → In y ys → z ≤ℤ y) → z ≤ℤ least x ys
lowest_ge x z [] h k = h
lowest_ge x z (y ∷ ys) h k = lowest_step x y z ys (int_lt y x) h (k y (inl refl)) (λ w l. lowest_ge w z ys l (λ v i. k v (inr i)))

abbrev Within' : List Value → List Value → Type 0
Within' xs ys = (x : Value) → In x xs → In x ys

between_In : (ls hs : List ℤ) (z : ℤ) (vs : List Value) → between ls hs ≡ Some vs → ((y : ℤ) → In y ls → y ≤ℤ z) → ((y : ℤ) → In y hs → z ≤ℤ y) → In (num z) vs
between_In [] hs z vs e a b = cc
between_In (l ∷ ls) [] z vs e a b = cc
between_In (l ∷ ls) (h ∷ hs) z vs e a b =
    let q : map num (from_to (greatest l ls) (least h hs)) ≡ vs = same_some e in
    subst (λ (ws : List Value). In (num z) ws) q
    (In_mapped num z (from_to (greatest l ls) (least h hs))
    (In_from_to (greatest l ls) (least h hs) z (greatest_le l z ls (a l (inl refl)) (λ y i. a y (inr i))) (lowest_ge h z hs (b h (inl refl)) (λ y i. b y (inr i)))))

-- ---- what a true conjunct says of its bounds

-- the value at a slot keeps a bound
abbrev Keeps : List Value → Bound → Type 0
Keeps p b = (x : ℤ) → slice_get p b.of_slot ≡ Some (num x) → cond b.is_low (b.value ≤ℤ x) (x ≤ℤ b.value)

-- both sides gave values, and the operator made True of them
record Sides (defs : Defs) (p : List Value) (a b : Expr) (op : Value → Value → ℕ → Run) : Type 0 where
  pub left : Value
  pub right : Value
  pub height : ℕ
  pub from : ℕ
  pub mid : ℕ
  pub end : ℕ
  pub left_run : run defs height (put (filled p) a) from ≡ got left mid
  pub right_run : run defs height (put (filled p) b) mid ≡ got right end
  pub last : ℕ
  pub made_true : op left right end ≡ got (bool true) last

sides_from : (defs : Defs) (p : List Value) (a b : Expr) (op : Value → Value → ℕ → Run) (h m n : ℕ)
    → then_run (run defs h (put (filled p) a) m) (λ x i. then_run (run defs h (put (filled p) b) i) (λ y. op x y)) ≡ got (bool true) n → Sides defs p a b op
sides_from defs p a b op h m n e =
    let s = then_run_from (run defs h (put (filled p) a) m) _ (bool true) n e in
    let t = then_run_from (run defs h (put (filled p) b) s.1) _ (bool true) n s.3 in
    record { left = s.0; right = t.0; height = h; from = m; mid = s.1; end = t.1; left_run = s.2; right_run = t.2; last = n; made_true = t.3 }

equal_sides : (defs : Defs) (p : List Value) (a b : Expr) (h m n : ℕ) → run defs h (put (filled p) (equal a b)) m ≡ got (bool true) n
    → Sides defs p a b (λ x y k. checked (are_comparable defs.table x y) (got (bool (same_value x y)) k))
equal_sides defs p a b zero m n e = cc
equal_sides defs p a b (suc h) m n e = sides_from defs p a b _ h (suc m) n (cond_got (ltb m node_limit) _ (bool true) n e)

two_sides : (defs : Defs) (p : List Value) (o : Binary) (a b : Expr) (h m n : ℕ) → run defs h (put (filled p) (two o a b)) m ≡ got (bool true) n
    → Sides defs p a b (λ x y k. checked (takes_two defs.table o x y) (after (binary o x y) k))
two_sides defs p o a b zero m n e = cc
two_sides defs p o a b (suc h) m n e = sides_from defs p a b _ h (suc m) n (cond_got (ltb m node_limit) _ (bool true) n e)

after_fine : (o : Outcome) (v : Value) (m n : ℕ) → after o m ≡ got v n → o ≡ fine v
after_fine (fine w) v m n e = let q : w ≡ v = cc in ap fine q
after_fine (broken f) v m n e = cc

slot_value : (defs : Defs) (p : List Value) (i l m n : ℕ) (w : Value) → run defs l (put (filled p) (slot i)) m ≡ got w n → slice_get p i ≡ Some w
slot_value defs p i l m n w e = place_gives defs p (at_slot i) l m n w e

fixed_parts : (q : Query) (a : Expr) (v : Value) → fixed_value q a ≡ Some v → (has_slot a ≡ false) × (value_in (eval q.defs a) ≡ Some v)
fixed_parts q a v h = go (has_slot a) refl h
  where
    go : (b : Bool) → has_slot a ≡ b → cond b None (value_in (eval q.defs a)) ≡ Some v → (has_slot a ≡ false) × (value_in (eval q.defs a) ≡ Some v)
    go true x y = cc
    go false x y = (x, y)

closed_value : (q : Query) (p : List Value) (a : Expr) (v : Value) → fixed_value q a ≡ Some v → (left m n : ℕ) (w : Value)
    → run q.defs left (put (filled p) a) m ≡ got w n → w ≡ v
closed_value q p a v h left m n w r =
    let f = fixed_parts q a v h in
    closed_gives q.defs a v w left m n f.1 (ap (λ (z : Expr). run q.defs left z m) (sym (put_closed (filled p) a f.0)) ∙ r)

number_some : (o : Option Value) (k : ℤ) → number_in o ≡ Some k → o ≡ Some (num k)
number_some None k e = cc
number_some (Some (num x)) k e = let q : x ≡ k = cc in ap (λ (z : ℤ). Some (num z)) q
number_some (Some (bool b)) k e = cc
number_some (Some (text t)) k e = cc
number_some (Some (cons c vs)) k e = cc

with_In : (o : Option ℤ) (go : ℤ → List Bound) (b : Bound) → In b (with_number o go) → (k : ℤ) × (o ≡ Some k) × In b (go k)
with_In None go b h = absurd h
with_In (Some k) go b h = (k, refl, h)

-- a bound of a slot against an expression
pub record LeftBound (q : Query) (a c : Expr) (go : ℕ → ℤ → List Bound) (b : Bound) : Type 0 where
  pub of_slot : ℕ
  pub number : ℤ
  pub slot_is : a ≡ slot of_slot
  pub fixed : fixed_value q c ≡ Some (num number)
  pub among : In b (go of_slot number)

pub left_bound : (q : Query) (a c : Expr) (go : ℕ → ℤ → List Bound) (b : Bound) → In b (left_bounds q a c go) → LeftBound q a c go b
left_bound q (slot i) c go b h =
    let w = with_In (number_in (fixed_value q c)) (go i) b h in
    record { of_slot = i; number = w.0; slot_is = refl; fixed = number_some (fixed_value q c) w.0 w.1; among = w.2 }
left_bound q (val v) c go b h = absurd h
left_bound q (local i) c go b h = absurd h
left_bound q (constant k) c go b h = absurd h
left_bound q (one o a) c go b h = absurd h
left_bound q (two o x y) c go b h = absurd h
left_bound q (equal x y) c go b h = absurd h
left_bound q (both x y) c go b h = absurd h
left_bound q (either x y) c go b h = absurd h
left_bound q (choose x y z) c go b h = absurd h
left_bound q (apply k es) c go b h = absurd h
left_bound q (build k es) c go b h = absurd h
left_bound q (let_in _ x y) c go b h = absurd h

-- what the operator says, as a bound
abbrev Says : (Value → Value → Type 0) → (ℕ → ℤ → List Bound) → Type 0
Says R go = (p : List Value) (i : ℕ) (k : ℤ) (w : Value) (b : Bound) → R w (num k) → slice_get p i ≡ Some w → In b (go i k) → Keeps p b

number_there : (p : List Value) (i : ℕ) (w : Value) (x : ℤ) → slice_get p i ≡ Some w → slice_get p i ≡ Some (num x) → w ≡ num x
number_there p i w x e f = cc

same_says : Says (λ x y. same_value x y ≡ true) (λ i x. low i x ++ high i x)
same_says p i k w b r e (inl h) x f =
    let s : slice_get p i ≡ Some (num x) = ap (λ (z : Bound). slice_get p z.of_slot) (sym h) ∙ f in
    let n = number_there p i w x e s in
    let q = same_value-true (num x) (num k) (ap (λ (z : Value). same_value z (num k)) (sym n) ∙ r) in
    let xk : x ≡ k = cc in
    subst (λ (z : Bound). cond z.is_low (z.value ≤ℤ x) (x ≤ℤ z.value)) (sym h) (let g : k ≤ℤ x = omega (arith, ints) in g)
same_says p i k w b r e (inr (inl h)) x f =
    let s : slice_get p i ≡ Some (num x) = ap (λ (z : Bound). slice_get p z.of_slot) (sym h) ∙ f in
    let n = number_there p i w x e s in
    let q = same_value-true (num x) (num k) (ap (λ (z : Value). same_value z (num k)) (sym n) ∙ r) in
    let xk : x ≡ k = cc in
    subst (λ (z : Bound). cond z.is_low (z.value ≤ℤ x) (x ≤ℤ z.value)) (sym h) (let g : x ≤ℤ k = omega (arith, ints) in g)
same_says p i k w b r e (inr (inr h)) x f = absurd h

fine_true : {a : Bool} → fine (bool a) ≡ fine (bool true) → a ≡ true
fine_true e = cc

bound_low : (p : List Value) (i : ℕ) (k : ℤ) (w : Value) (b : Bound) (x : ℤ) → slice_get p i ≡ Some w → b ≡ record { of_slot = i; is_low = true; value = k }
    → slice_get p b.of_slot ≡ Some (num x) → (w ≡ num x → k ≤ℤ x) → cond b.is_low (b.value ≤ℤ x) (x ≤ℤ b.value)
bound_low p i k w b x e h f go =
    let s : slice_get p i ≡ Some (num x) = ap (λ (z : Bound). slice_get p z.of_slot) (sym h) ∙ f in
    subst (λ (z : Bound). cond z.is_low (z.value ≤ℤ x) (x ≤ℤ z.value)) (sym h) (go (number_there p i w x e s))

bound_high : (p : List Value) (i : ℕ) (k : ℤ) (w : Value) (b : Bound) (x : ℤ) → slice_get p i ≡ Some w → b ≡ record { of_slot = i; is_low = false; value = k }
    → slice_get p b.of_slot ≡ Some (num x) → (w ≡ num x → x ≤ℤ k) → cond b.is_low (b.value ≤ℤ x) (x ≤ℤ b.value)
bound_high p i k w b x e h f go =
    let s : slice_get p i ≡ Some (num x) = ap (λ (z : Bound). slice_get p z.of_slot) (sym h) ∙ f in
    subst (λ (z : Bound). cond z.is_low (z.value ≤ℤ x) (x ≤ℤ z.value)) (sym h) (go (number_there p i w x e s))

left_says : (o : Binary) → Says (λ x y. binary o x y ≡ fine (bool true)) (operator_bounds o)
left_says less_than p i k w b r e (inl h) x f =
    bound_high p i (k -ℤ pos 1) w b x e h f (λ n. let t : int_lt x k ≡ true = fine_true (ap (λ (z : Value). binary less_than z (num k)) (sym n) ∙ r) in
    let u : x <ℤ k = grind (arith, ints) in omega (arith, ints))
left_says at_most p i k w b r e (inl h) x f =
    bound_high p i k w b x e h f (λ n. let t : int_le x k ≡ true = fine_true (ap (λ (z : Value). binary at_most z (num k)) (sym n) ∙ r) in grind (arith, ints))
left_says more_than p i k w b r e (inl h) x f =
    bound_low p i (k +ℤ pos 1) w b x e h f (λ n. let t : int_lt k x ≡ true = fine_true (ap (λ (z : Value). binary more_than z (num k)) (sym n) ∙ r) in
    let u : k <ℤ x = grind (arith, ints) in omega (arith, ints))
left_says at_least p i k w b r e (inl h) x f =
    bound_low p i k w b x e h f (λ n. let t : int_le k x ≡ true = fine_true (ap (λ (z : Value). binary at_least z (num k)) (sym n) ∙ r) in grind (arith, ints))
left_says less_than p i k w b r e (inr h) x f = absurd h
left_says at_most p i k w b r e (inr h) x f = absurd h
left_says more_than p i k w b r e (inr h) x f = absurd h
left_says at_least p i k w b r e (inr h) x f = absurd h
left_says plus p i k w b r e h x f = absurd h
left_says minus p i k w b r e h x f = absurd h
left_says times p i k w b r e h x f = absurd h
left_says divide p i k w b r e h x f = absurd h
left_says remainder p i k w b r e h x f = absurd h
left_says concat p i k w b r e h x f = absurd h
left_says differ p i k w b r e h x f = absurd h
left_says char_at p i k w b r e h x f = absurd h

right_says : (o : Binary) → Says (λ x y. binary o y x ≡ fine (bool true)) (operator_bounds (turned o))
right_says more_than p i k w b r e (inl h) x f =
    bound_high p i (k -ℤ pos 1) w b x e h f (λ n. let t : int_lt x k ≡ true = fine_true (ap (λ (z : Value). binary more_than (num k) z) (sym n) ∙ r) in
    let u : x <ℤ k = grind (arith, ints) in omega (arith, ints))
right_says at_least p i k w b r e (inl h) x f =
    bound_high p i k w b x e h f (λ n. let t : int_le x k ≡ true = fine_true (ap (λ (z : Value). binary at_least (num k) z) (sym n) ∙ r) in grind (arith, ints))
right_says less_than p i k w b r e (inl h) x f =
    bound_low p i (k +ℤ pos 1) w b x e h f (λ n. let t : int_lt k x ≡ true = fine_true (ap (λ (z : Value). binary less_than (num k) z) (sym n) ∙ r) in
    let u : k <ℤ x = grind (arith, ints) in omega (arith, ints))
right_says at_most p i k w b r e (inl h) x f =
    bound_low p i k w b x e h f (λ n. let t : int_le k x ≡ true = fine_true (ap (λ (z : Value). binary at_most (num k) z) (sym n) ∙ r) in grind (arith, ints))
right_says less_than p i k w b r e (inr h) x f = absurd h
right_says at_most p i k w b r e (inr h) x f = absurd h
right_says more_than p i k w b r e (inr h) x f = absurd h
right_says at_least p i k w b r e (inr h) x f = absurd h
right_says plus p i k w b r e h x f = absurd h
right_says minus p i k w b r e h x f = absurd h
right_says times p i k w b r e h x f = absurd h
right_says divide p i k w b r e h x f = absurd h
right_says remainder p i k w b r e h x f = absurd h
right_says concat p i k w b r e h x f = absurd h
right_says differ p i k w b r e h x f = absurd h
right_says char_at p i k w b r e h x f = absurd h

side_run : (defs : Defs) (p : List Value) (a c : Expr) (l m n : ℕ) (w : Value) → a ≡ c → run defs l (put (filled p) a) m ≡ got w n → run defs l (put (filled p) c) m ≡ got w n
side_run defs p a c l m n w e r = ap (λ (z : Expr). run defs l (put (filled p) z) m) (sym e) ∙ r

equal_keeps : (q : Query) (p : List Value) (a c : Expr) (b : Bound) → Gives q.defs (put (filled p) (equal a c)) bool_true → In b (bounds_of q (equal a c)) → Keeps p b
equal_keeps q p a c b g h =
    let s = equal_sides q.defs p a c height_limit 0 g.0 g.1 in
    let t : same_value s.left s.right ≡ true = compared_true (are_comparable q.defs.table s.left s.right) (same_value s.left s.right) s.end s.last s.made_true in
    elim (In-append b (left_bounds q a c (λ i x. low i x ++ high i x)) (left_bounds q c a (λ i x. low i x ++ high i x)) h) [
      | inl x ↦ (let l = left_bound q a c (λ i x. low i x ++ high i x) b x in
          let y = closed_value q p c (num l.number) l.fixed s.height s.mid s.end s.right s.right_run in
          same_says p l.of_slot l.number s.left b (ap (same_value s.left) (sym y) ∙ t)
          (slot_value q.defs p l.of_slot s.height s.from s.mid s.left (side_run q.defs p a (slot l.of_slot) s.height s.from s.mid s.left l.slot_is s.left_run)) l.among)
      | inr x ↦ (let l = left_bound q c a (λ i x. low i x ++ high i x) b x in
          let y = closed_value q p a (num l.number) l.fixed s.height s.from s.mid s.left s.left_run in
          same_says p l.of_slot l.number s.right b (sym_same s.right (num l.number) ∙ (ap (λ (z : Value). same_value z s.right) (sym y) ∙ t))
          (slot_value q.defs p l.of_slot s.height s.mid s.end s.right (side_run q.defs p c (slot l.of_slot) s.height s.mid s.end s.right l.slot_is s.right_run)) l.among)
    ]

two_keeps : (q : Query) (p : List Value) (o : Binary) (a c : Expr) (b : Bound) → Gives q.defs (put (filled p) (two o a c)) bool_true → In b (bounds_of q (two o a c)) → Keeps p b
two_keeps q p o a c b g h =
    let s = two_sides q.defs p o a c height_limit 0 g.0 g.1 in
    let t = after_fine (binary o s.left s.right) (bool true) s.end s.last (checked_got (takes_two q.defs.table o s.left s.right) _ _ _ s.made_true).1 in
    elim (In-append b (left_bounds q a c (operator_bounds o)) (left_bounds q c a (operator_bounds (turned o))) h) [
      | inl x ↦ (let l = left_bound q a c (operator_bounds o) b x in
          let y = closed_value q p c (num l.number) l.fixed s.height s.mid s.end s.right s.right_run in
          left_says o p l.of_slot l.number s.left b (ap (binary o s.left) (sym y) ∙ t)
          (slot_value q.defs p l.of_slot s.height s.from s.mid s.left (side_run q.defs p a (slot l.of_slot) s.height s.from s.mid s.left l.slot_is s.left_run)) l.among)
      | inr x ↦ (let l = left_bound q c a (operator_bounds (turned o)) b x in
          let y = closed_value q p a (num l.number) l.fixed s.height s.from s.mid s.left s.left_run in
          right_says o p l.of_slot l.number s.right b (ap (λ (z : Value). binary o z s.right) (sym y) ∙ t)
          (slot_value q.defs p l.of_slot s.height s.mid s.end s.right (side_run q.defs p c (slot l.of_slot) s.height s.mid s.end s.right l.slot_is s.right_run)) l.among)
    ]

bounds_keep : (q : Query) (p : List Value) (e : Expr) (b : Bound) → Gives q.defs (put (filled p) e) bool_true → In b (bounds_of q e) → Keeps p b
bounds_keep q p (equal a c) b g h = equal_keeps q p a c b g h
bounds_keep q p (two o a c) b g h = two_keeps q p o a c b g h
bounds_keep q p (val v) b g h = absurd h
bounds_keep q p (slot i) b g h = absurd h
bounds_keep q p (local i) b g h = absurd h
bounds_keep q p (constant k) b g h = absurd h
bounds_keep q p (one o x) b g h = absurd h
bounds_keep q p (both x y) b g h = absurd h
bounds_keep q p (either x y) b g h = absurd h
bounds_keep q p (choose x y z) b g h = absurd h
bounds_keep q p (apply k es) b g h = absurd h
bounds_keep q p (build k es) b g h = absurd h
bounds_keep q p (let_in _ x y) b g h = absurd h

all_keep : (q : Query) (p : List Value) (es : List Expr) (b : Bound) → Hold q.defs (put_all (filled p) es) → In b (flat (bounds_of q) es) → Keeps p b
all_keep q p [] b g h = absurd h
all_keep q p (e ∷ es) b g h =
    elim (In-append b (bounds_of q e) (flat (bounds_of q) es) h) [ inl x ↦ bounds_keep q p e b g.0 x | inr y ↦ all_keep q p es b g.1 y ]

-- ---- the cells of the second case

pub record Bounded (i : ℕ) (is_low : Bool) (y : ℤ) (bs : List Bound) : Type 0 where
  pub bound : Bound
  pub among : In bound bs
  pub slot_is : bound.of_slot ≡ i
  pub low_is : bound.is_low ≡ is_low
  pub value_is : y ≡ bound.value

low_is : (a b : Bool) → cond a b (not b) ≡ true → b ≡ a
low_is true b e = e
low_is false true e = cc
low_is false false e = refl

bounded_step : (i : ℕ) (l : Bool) (y : ℤ) (b : Bound) (bs : List Bound) (t : Bool) → (eqb b.of_slot i && cond l b.is_low (not b.is_low)) ≡ t
    → In y (cond t (b.value ∷ bounds_for i l bs) (bounds_for i l bs)) → (In y (bounds_for i l bs) → Bounded i l y bs) → Bounded i l y (b ∷ bs)
bounded_step i l y b bs true e (inl h) go =
    let x = and_parts (eqb b.of_slot i) (cond l b.is_low (not b.is_low)) e in
    record { bound = b; among = inl refl; slot_is = eqb-true b.of_slot i x.0; low_is = low_is l b.is_low x.1; value_is = h }
bounded_step i l y b bs true e (inr h) go =
    let g = go h in record { bound = g.bound; among = inr g.among; slot_is = g.slot_is; low_is = g.low_is; value_is = g.value_is }
bounded_step i l y b bs false e h go =
    let g = go h in record { bound = g.bound; among = inr g.among; slot_is = g.slot_is; low_is = g.low_is; value_is = g.value_is }

pub bounded : (i : ℕ) (l : Bool) (y : ℤ) (bs : List Bound) → In y (bounds_for i l bs) → Bounded i l y bs
bounded i l y [] h = absurd h
bounded i l y (b ∷ bs) h = bounded_step i l y b bs _ refl h (bounded i l y bs)

AllKeep : List Value → List Bound → Type 0
AllKeep p bs = (b : Bound) → In b bs → Keeps p b

low_keeps : (p : List Value) (i : ℕ) (x y : ℤ) (bs : List Bound) → AllKeep p bs → slice_get p i ≡ Some (num x) → In y (bounds_for i true bs) → y ≤ℤ x
unfolding AllKeep
low_keeps p i x y bs k e h =
    let b = bounded i true y bs h in
    let g = k b.bound b.among x (ap (slice_get p) b.slot_is ∙ e) in
    let g' = subst (λ (t : Bool). cond t (b.bound.value ≤ℤ x) (x ≤ℤ b.bound.value)) b.low_is g in
    let v = b.value_is in omega (arith, ints)

high_keeps : (p : List Value) (i : ℕ) (x y : ℤ) (bs : List Bound) → AllKeep p bs → slice_get p i ≡ Some (num x) → In y (bounds_for i false bs) → x ≤ℤ y
unfolding AllKeep
high_keeps p i x y bs k e h =
    let b = bounded i false y bs h in
    let g = k b.bound b.among x (ap (slice_get p) b.slot_is ∙ e) in
    let g' = subst (λ (t : Bool). cond t (b.bound.value ≤ℤ x) (x ≤ℤ b.bound.value)) b.low_is g in
    let v = b.value_is in omega (arith, ints)

-- constructors without fields
one_plain : (c : ℕ) (o : Option (List Field)) (vs ws : List Value)
    → elim o [ None ↦ Some vs | Some fs ↦ elim fs [ [] ↦ Some (cons c no_value ∷ vs) | f ∷ gs ↦ None ] ] ≡ Some ws
    → Within' vs ws × ((fs : List Field) → o ≡ Some fs → (fs ≡ []) × In (cons c no_value) ws)
one_plain c None vs ws e =
    let q : vs ≡ ws = same_some e in ((λ x h. subst (λ (z : List Value). In x z) q h), (λ fs h. cc))
one_plain c (Some []) vs ws e =
    let q : cons c no_value ∷ vs ≡ ws = same_some e in
    ((λ x h. subst (λ (z : List Value). In x z) q (inr h)), (λ fs h. ((let a : [] ≡ fs = same_some h in sym a), subst (λ (z : List Value). In (cons c no_value) z) q (inl refl))))
one_plain c (Some (f ∷ gs)) vs ws e = cc

rest_plain : (table : Table) (k c : ℕ) (r : Option (List Value)) (ws : List Value)
    → elim r [ None ↦ None | Some vs ↦ elim (fields_of (place_of table c) k) [ None ↦ Some vs | Some fs ↦ elim fs [ [] ↦ Some (cons c no_value ∷ vs) | f ∷ gs ↦ None ] ] ] ≡ Some ws
    → (vs : List Value) × (r ≡ Some vs) × Within' vs ws × ((fs : List Field) → fields_of (place_of table c) k ≡ Some fs → (fs ≡ []) × In (cons c no_value) ws)
rest_plain table k c None ws e = cc
rest_plain table k c (Some vs) ws e =
    let o = one_plain c (fields_of (place_of table c) k) vs ws e in (vs, refl, o.0, o.1)

plain_In : (table : Table) (k : ℕ) (cs : List ℕ) (ws : List Value) (c : ℕ) (fs : List Field) → plain_made table k cs ≡ Some ws → In c cs
    → fields_of (place_of table c) k ≡ Some fs → (fs ≡ []) × In (cons c no_value) ws
plain_In table k [] ws c fs e h f = absurd h
plain_In table k (d ∷ cs) ws c fs e (inl q) f =
    let r = rest_plain table k d (plain_made table k cs) ws e in
    let g = r.3 fs (ap (λ (z : ℕ). fields_of (place_of table z) k) (sym q) ∙ f) in
    (g.0, subst (λ (z : ℕ). In (cons z no_value) ws) (sym q) g.1)
plain_In table k (d ∷ cs) ws c fs e (inr h) f =
    let r = rest_plain table k d (plain_made table k cs) ws e in
    let g = plain_In table k cs r.0 c fs r.1 h f in
    (g.0, r.2 (cons c no_value) g.1)

no_fields : (table : Table) (us : Values) → has_fields table us (Some []) ≡ true → us ≡ no_value
no_fields table no_value e = refl
no_fields table (and_value u us) e = cc

made_In : (table : Table) (k c : ℕ) (us : Values) (vs : List Value) → plain_made table k (from 0 (count_made table)) ≡ Some vs → has_fields table us (fields_in (place_of table c) k) ≡ true
    → In (cons c us) vs
made_In table k c us vs e h =
    let m = made table us (place_of table c) k h in
    let l = place_below 0 table c m.place m.found in
    let g = plain_In table k (from 0 (count_made table)) vs c m.fields e (In_up_to 0 (count_made table) c (omega arith) (omega arith)) m.of in
    let n = no_fields table us (ap (λ (z : List Field). has_fields table us (Some (field_types z))) (sym g.0) ∙ m.typed) in
    subst (λ (z : Values). In (cons c z) vs) (sym n) g.1

value_In : (table : Table) (bs : List Bound) (p : List Value) (i : ℕ) (t : Ty) (v : Value) (vs : List Value) → AllKeep p bs → slice_get p i ≡ Some v
    → has_type table v t ≡ true → every_value table bs i t ≡ Some vs → In v vs
value_In table bs p i integer (num x) vs k e h r =
    between_In (bounds_for i true bs) (bounds_for i false bs) x vs r (λ y g. low_keeps p i x y bs k e g) (λ y g. high_keeps p i x y bs k e g)
value_In table bs p i integer (bool b) vs k e h r = cc
value_In table bs p i integer (text b) vs k e h r = cc
value_In table bs p i integer (cons c us) vs k e h r = cc
value_In table bs p i truth (num x) vs k e h r = cc
value_In table bs p i truth (bool true) vs k e h r = subst (λ (z : List Value). In (bool true) z) (same_some r) (inr (inl refl))
value_In table bs p i truth (bool false) vs k e h r = subst (λ (z : List Value). In (bool false) z) (same_some r) (inl refl)
value_In table bs p i truth (text b) vs k e h r = cc
value_In table bs p i truth (cons c us) vs k e h r = cc
value_In table bs p i string v vs k e h r = cc
value_In table bs p i (named n) (num x) vs k e h r = cc
value_In table bs p i (named n) (bool b) vs k e h r = cc
value_In table bs p i (named n) (text b) vs k e h r = cc
value_In table bs p i (named n) (cons c us) vs k e h r = made_In table n c us vs r h

pub both_some : (o : Option (List Value)) (o' : Option (List (List Value))) (ws : List (List Value))
    → elim o [ None ↦ None | Some vs ↦ elim o' [ None ↦ None | Some vss ↦ Some (vs ∷ vss) ] ] ≡ Some ws
    → (vs : List Value) × (vss : List (List Value)) × (o ≡ Some vs) × (o' ≡ Some vss) × (vs ∷ vss ≡ ws)
both_some None o' ws e = cc
both_some (Some vs) None ws e = cc
both_some (Some vs) (Some vss) ws e = (vs, vss, refl, refl, same_some e)

slots_In : (table : Table) (bs : List Bound) (whole_point p : List Value) (ts : List Ty) (i : ℕ) (vss : List (List Value)) → AllKeep whole_point bs
    → ((j k : ℕ) → k ≡ i + j → slice_get whole_point k ≡ slice_get p j) → HaveTypes table p ts → every_slot table bs i ts ≡ Some vss → In p (cells vss)
slots_In table bs w [] [] i vss k s h e = subst (λ (z : List (List Value)). In [] (cells z)) (same_some e) (inl refl)
slots_In table bs w [] (t ∷ ts) i vss k s h e = absurd h
slots_In table bs w (v ∷ p) [] i vss k s h e = absurd h
slots_In table bs w (v ∷ p) (t ∷ ts) i vss k s h e =
    let b = both_some (every_value table bs i t) (every_slot table bs (suc i) ts) vss e in
    let x = value_In table bs w i t v b.0 k (s 0 i (omega arith)) h.0 b.2 in
    let y = slots_In table bs w p ts (suc i) b.1 k (λ j m q. s (suc j) m (omega arith)) h.1 b.3 in
    subst (λ (z : List (List Value)). In (v ∷ p) (cells z)) b.4 (In_with_each v p b.0 (cells b.1) x y)

-- a point that makes the query True is a cell of the second case
pub true_point_In : (q : Query) (vss : List (List Value)) (p : List Value) → bounded_case q ≡ Some vss → IsPoint q p → IsTrueAt q p → In p (cells vss)
unfolding AllKeep
true_point_In q vss p e h t =
    slots_In q.defs.table (flat (bounds_of q) q.conjuncts) p p q.slots 0 vss (λ b i. all_keep q p q.conjuncts b t i)
    (λ j k r. ap (slice_get p) (let z : k ≡ j = omega arith in z)) h e
