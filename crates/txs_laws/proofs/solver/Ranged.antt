-- The cells of the second case are points.
use Rattle.std.proofs.Common.{◌≡◌, ℕ, zero, suc, ℤ, pos, negsuc, ◌+ℤ◌, ◌-ℤ◌, ◌≤ℤ◌, ◌<ℤ◌, int_lt, Bool, true, false, cond, inl, inr, List, [], ◌∷◌, ◌++◌, map, refl, sym, ap, ◌∙◌, subst, arith}
use Rattle.std.specs.Prelude.{Option, Some, None}
use Rattle.std.proofs.lemmas.Int.{ints}
use Rattle.txs_terms.specs.Action.{from}
use Rattle.txs_values.specs.Value.{Ty, integer, truth, string, named, Value, num, bool, cons, no_value, Table, Field, place_of, has_type, has_fields, HaveTypes, fits}
use Rattle.txs_terms.specs.Expr.{Binary, plus, minus, times, divide, remainder, concat, differ, less_than, at_most, more_than, at_least, char_at, Expr, val, slot, local, constant, one, two, equal, both, either, choose, apply, build, let_in}
use Rattle.txs_terms.specs.Rules.{In}
use Rattle.txs_terms.specs.Typed.{Signatures, AreTyped, AreGuards}
use Rattle.txs_guard.specs.Query.{Query}
use Rattle.txs_guard.specs.Bounds.{Bound, low, high, operator_bounds, turned, left_bounds, bounds_of, bounds_for, greatest, up_by, from_to, between, plain_made, every_value, every_slot, bounded_case}
use Rattle.txs_guard.specs.Candidates.{cells, count_made, fields_of, least, run_up}
use Rattle.txs_guard.specs.Mentioned.{flat}
use Rattle.txs_guard.specs.Point.{IsPoint, IsTypedQuery}
use Rattle.txs_laws.proofs.typing.Facts.{Facts}
use Rattle.txs_laws.proofs.rules.Lists.{In-append, In-map}
use Rattle.txs_laws.proofs.solver.Press.{fits_between}
use Rattle.txs_laws.proofs.solver.Bounds.{left_bound, bounded, both_some}
use Rattle.txs_laws.proofs.solver.Constants.{typed_fits, fixed_typed, IsTruth, IsTyped, equal_typed, two_typed}
use Rattle.txs_laws.proofs.solver.Typed.{In-with_each, types_of}
use Rattle.txs_terms.proofs.typing.Lists.{same_some}

-- ---- bounds come of Ints in range

-- a lower bound is not below an Int in range, and an upper bound not above one
abbrev pub BoundFits : Bound → Type 0
BoundFits b = (k : ℤ) × (fits k ≡ true) × cond b.is_low (k ≤ℤ b.value) (b.value ≤ℤ k)

low_fits : (i : ℕ) (y k : ℤ) (b : Bound) → fits k ≡ true → k ≤ℤ y → In b (low i y) → BoundFits b
low_fits i y k b f l (inl e) = subst BoundFits (sym e) (k, f, l)
low_fits i y k b f l (inr h) = absurd h

high_fits : (i : ℕ) (y k : ℤ) (b : Bound) → fits k ≡ true → y ≤ℤ k → In b (high i y) → BoundFits b
high_fits i y k b f l (inl e) = subst BoundFits (sym e) (k, f, l)
high_fits i y k b f l (inr h) = absurd h

abbrev MakesFit : (ℕ → ℤ → List Bound) → Type 0
MakesFit go = (i : ℕ) (k : ℤ) (b : Bound) → fits k ≡ true → In b (go i k) → BoundFits b

same_fits : MakesFit (λ i x. low i x ++ high i x)
same_fits i k b f h =
    elim (In-append b (low i k) (high i k) h) [
      | inl x ↦ low_fits i k k b f (omega (arith, ints)) x
      | inr y ↦ high_fits i k k b f (omega (arith, ints)) y
    ]

operator_fits : (o : Binary) → MakesFit (operator_bounds o)
operator_fits less_than i k b f h = high_fits i (k -ℤ pos 1) k b f (omega (arith, ints)) h
operator_fits at_most i k b f h = high_fits i k k b f (omega (arith, ints)) h
operator_fits more_than i k b f h = low_fits i (k +ℤ pos 1) k b f (omega (arith, ints)) h
operator_fits at_least i k b f h = low_fits i k k b f (omega (arith, ints)) h
operator_fits plus i k b f h = absurd h
operator_fits minus i k b f h = absurd h
operator_fits times i k b f h = absurd h
operator_fits divide i k b f h = absurd h
operator_fits remainder i k b f h = absurd h
operator_fits concat i k b f h = absurd h
operator_fits differ i k b f h = absurd h
operator_fits char_at i k b f h = absurd h

module _ (facts : Facts) (q : Query) (signatures : Signatures) (typed : AreTyped q.defs signatures) where
  left_fits : (a c : Expr) (go : ℕ → ℤ → List Bound) → MakesFit go → IsTyped q.defs.table signatures q.slots c → (b : Bound) → In b (left_bounds q a c go) → BoundFits b
  left_fits a c go g t b h =
      let l = left_bound q a c go b h in
      let v = fixed_typed facts q signatures typed q.slots c (num l.number) t.0 t.1 l.fixed in
      g l.of_slot l.number b (typed_fits q.defs.table (num l.number) t.0 v l.number (inl refl)) l.among

  bounds_fit : (e : Expr) → IsTruth q.defs.table signatures q.slots e → (b : Bound) → In b (bounds_of q e) → BoundFits b
  bounds_fit (equal a c) t b h =
      let p = equal_typed q.defs.table signatures q.slots t in
      elim (In-append b (left_bounds q a c (λ i x. low i x ++ high i x)) (left_bounds q c a (λ i x. low i x ++ high i x)) h) [
        | inl x ↦ left_fits a c (λ i x. low i x ++ high i x) same_fits p.1 b x
        | inr y ↦ left_fits c a (λ i x. low i x ++ high i x) same_fits p.0 b y
      ]
  bounds_fit (two o a c) t b h =
      let p = two_typed q.defs.table signatures q.slots t in
      elim (In-append b (left_bounds q a c (operator_bounds o)) (left_bounds q c a (operator_bounds (turned o))) h) [
        | inl x ↦ left_fits a c (operator_bounds o) (operator_fits o) p.1 b x
        | inr y ↦ left_fits c a (operator_bounds (turned o)) (operator_fits (turned o)) p.0 b y
      ]
  bounds_fit (val v) t b h = absurd h
  bounds_fit (slot i) t b h = absurd h
  bounds_fit (local i) t b h = absurd h
  bounds_fit (constant k) t b h = absurd h
  bounds_fit (one o x) t b h = absurd h
  bounds_fit (both x y) t b h = absurd h
  bounds_fit (either x y) t b h = absurd h
  bounds_fit (choose x y z) t b h = absurd h
  bounds_fit (apply k es) t b h = absurd h
  bounds_fit (build k es) t b h = absurd h
  bounds_fit (let_in n x y) t b h = absurd h

  all_fit : (es : List Expr) → AreGuards q.defs.table signatures q.slots es → (b : Bound) → In b (flat (bounds_of q) es) → BoundFits b
  all_fit [] t b h = absurd h
  all_fit (e ∷ es) t b h =
      elim (In-append b (bounds_of q e) (flat (bounds_of q) es) h) [ inl x ↦ bounds_fit e t.0 b x | inr y ↦ all_fit es t.1 b y ]

-- ---- numbers between bounds

count_between : (x v : ℤ) (n : ℕ) → In v (run_up x n) → (x ≤ℤ v) × (v ≤ℤ (x +ℤ pos n))
count_between x v zero (inl e) = (omega (arith, ints), omega (arith, ints))
count_between x v zero (inr h) = absurd h
count_between x v (suc n) (inl e) = (omega (arith, ints), omega (arith, ints))
count_between x v (suc n) (inr h) =
    let p = count_between (x +ℤ pos 1) v n h in let a = p.0 in let b = p.1 in (omega (arith, ints), omega (arith, ints))

up_between : (x y v d : ℤ) → d ≡ y -ℤ x → In v (up_by x d) → (x ≤ℤ v) × (v ≤ℤ y)
up_between x y v (pos n) e h = let p = count_between x v n h in let a = p.0 in let b = p.1 in (a, omega (arith, ints))
up_between x y v (negsuc n) e h = absurd h

greatest_step : (x y : ℤ) (ys : List ℤ) (b : Bool) → int_lt x y ≡ b → ((w : ℤ) → w ≤ℤ greatest w ys) → x ≤ℤ cond b (greatest y ys) (greatest x ys)
greatest_step x y ys true e go = let g = go y in let l : x <ℤ y = grind (arith, ints) in omega (arith, ints)
greatest_step x y ys false e go = go x

greatest_ge : (x : ℤ) (ys : List ℤ) → x ≤ℤ greatest x ys
greatest_ge x [] = omega (arith, ints)
greatest_ge x (y ∷ ys) = greatest_step x y ys (int_lt x y) refl (λ w. greatest_ge w ys)

lowest_step : (x y : ℤ) (ys : List ℤ) (b : Bool) → int_lt y x ≡ b → ((w : ℤ) → least w ys ≤ℤ w) → cond b (least y ys) (least x ys) ≤ℤ x
lowest_step x y ys true e go = let g = go y in let l : y <ℤ x = grind (arith, ints) in omega (arith, ints)
lowest_step x y ys false e go = go x

lowest_le : (x : ℤ) (ys : List ℤ) → least x ys ≤ℤ x
lowest_le x [] = omega (arith, ints)
lowest_le x (y ∷ ys) = lowest_step x y ys (int_lt y x) refl (λ w. lowest_le w ys)

-- ---- values of a slot

module _ (table : Table) where
  abbrev AllOf : Ty → List Value → Type 0
  AllOf t vs = (w : Value) → In w vs → has_type table w t ≡ true

  between_typed : (ls hs : List ℤ) (vs : List Value) → between ls hs ≡ Some vs
      → ((y : ℤ) → In y ls → (k : ℤ) × (fits k ≡ true) × (k ≤ℤ y)) → ((y : ℤ) → In y hs → (k : ℤ) × (fits k ≡ true) × (y ≤ℤ k)) → AllOf integer vs
  between_typed [] hs vs e a b w h = cc
  between_typed (l ∷ ls) [] vs e a b w h = cc
  between_typed (l ∷ ls) (u ∷ hs) vs e a b w h =
      let q : map num (from_to (greatest l ls) (least u hs)) ≡ vs = same_some e in
      let m = In-map num w (from_to (greatest l ls) (least u hs)) (subst (λ (z : List Value). In w z) (sym q) h) in
      let r = up_between (greatest l ls) (least u hs) m.0 (least u hs -ℤ greatest l ls) refl m.1 in
      let x = a l (inl refl) in
      let y = b u (inl refl) in
      let r0 = r.0 in let r1 = r.1 in let x2 = x.2 in let y2 = y.2 in
      let g = greatest_ge l ls in
      let s = lowest_le u hs in
      ap (λ (z : Value). has_type table z integer) m.2 ∙ fits_between x.0 y.0 m.0 x.1 y.1 (omega (arith, ints)) (omega (arith, ints))

  -- constructors without fields
  one_made : (k c : ℕ) (o : Option (List Field)) (vs ws : List Value) → fields_of (place_of table c) k ≡ o
      → elim o [ None ↦ Some vs | Some fs ↦ elim fs [ [] ↦ Some (cons c no_value ∷ vs) | f ∷ gs ↦ None ] ] ≡ Some ws → AllOf (named k) vs → AllOf (named k) ws
  one_made k c None vs ws f e a w h = a w (subst (λ (z : List Value). In w z) (sym (same_some e)) h)
  one_made k c (Some []) vs ws f e a w h = pick (subst (λ (z : List Value). In w z) (sym (same_some e)) h)
    where
      pick : In w (cons c no_value ∷ vs) → has_type table w (named k) ≡ true
      pick (inl x) =
          ap (λ (z : Value). has_type table z (named k)) x
          ∙ ap (λ (z : Option (List Ty)). has_fields table no_value z) (types_of (place_of table c) k [] f)
      pick (inr x) = a w x
  one_made k c (Some (g ∷ gs)) vs ws f e a w h = cc

  rest_made : (k c : ℕ) (r : Option (List Value)) (ws : List Value)
      → elim r [ None ↦ None | Some vs ↦ elim (fields_of (place_of table c) k) [ None ↦ Some vs | Some fs ↦ elim fs [ [] ↦ Some (cons c no_value ∷ vs) | f ∷ gs ↦ None ] ] ] ≡ Some ws
      → ((vs : List Value) → r ≡ Some vs → AllOf (named k) vs) → AllOf (named k) ws
  rest_made k c None ws e a w h = cc
  rest_made k c (Some vs) ws e a w h = one_made k c (fields_of (place_of table c) k) vs ws refl e (a vs refl) w h

  plain_typed : (k : ℕ) (cs : List ℕ) (ws : List Value) → plain_made table k cs ≡ Some ws → AllOf (named k) ws
  plain_typed k [] ws e w h = absurd (subst (λ (z : List Value). In w z) (sym (same_some e)) h)
  plain_typed k (c ∷ cs) ws e w h = rest_made k c (plain_made table k cs) ws e (λ vs x. plain_typed k cs vs x) w h

  module _ (bs : List Bound) (fit : (b : Bound) → In b bs → BoundFits b) where
    low_known : (i : ℕ) (y : ℤ) → In y (bounds_for i true bs) → (k : ℤ) × (fits k ≡ true) × (k ≤ℤ y)
    low_known i y h =
        let b = bounded i true y bs h in
        let f = fit b.bound b.among in
        let g = subst (λ (t : Bool). cond t (f.0 ≤ℤ b.bound.value) (b.bound.value ≤ℤ f.0)) b.low_is f.2 in
        let v = b.value_is in (f.0, f.1, omega (arith, ints))

    high_known : (i : ℕ) (y : ℤ) → In y (bounds_for i false bs) → (k : ℤ) × (fits k ≡ true) × (y ≤ℤ k)
    high_known i y h =
        let b = bounded i false y bs h in
        let f = fit b.bound b.among in
        let g = subst (λ (t : Bool). cond t (f.0 ≤ℤ b.bound.value) (b.bound.value ≤ℤ f.0)) b.low_is f.2 in
        let v = b.value_is in (f.0, f.1, omega (arith, ints))

    value_typed : (i : ℕ) (t : Ty) (vs : List Value) → every_value table bs i t ≡ Some vs → AllOf t vs
    value_typed i integer vs e w h = between_typed (bounds_for i true bs) (bounds_for i false bs) vs e (low_known i) (high_known i) w h
    value_typed i truth vs e w h = pick (subst (λ (z : List Value). In w z) (sym (same_some e)) h)
      where
        pick : In w (bool false ∷ bool true ∷ []) → has_type table w truth ≡ true
        pick (inl x) = ap (λ (z : Value). has_type table z truth) x
        pick (inr (inl x)) = ap (λ (z : Value). has_type table z truth) x
        pick (inr (inr x)) = absurd x
    value_typed i string vs e w h = cc
    value_typed i (named k) vs e w h = plain_typed k (from 0 (count_made table)) vs e w h

    slots_typed : (i : ℕ) (ts : List Ty) (vss : List (List Value)) → every_slot table bs i ts ≡ Some vss → (c : List Value) → In c (cells vss) → HaveTypes table c ts
    slots_typed i [] vss e c h = none (subst (λ (z : List (List Value)). In c (cells z)) (sym (same_some e)) h)
      where
        none : In c ([] ∷ []) → HaveTypes table c []
        none (inl x) = subst (λ (z : List Value). HaveTypes table z []) (sym x) tt
        none (inr x) = absurd x
    slots_typed i (t ∷ ts) vss e c h =
        let b = both_some (every_value table bs i t) (every_slot table bs (suc i) ts) vss e in
        let m = In-with_each c b.0 (cells b.1) (subst (λ (z : List (List Value)). In c (cells z)) (sym b.4) h) in
        subst (λ (z : List Value). HaveTypes table z (t ∷ ts)) (sym m.2)
        (value_typed i t b.0 b.2 m.0 m.3, slots_typed (suc i) ts b.1 b.3 m.1 m.4)

pub bounded_are_points : Facts → (q : Query) → IsTypedQuery q → (vss : List (List Value)) → bounded_case q ≡ Some vss → (c : List Value) → In c (cells vss) → IsPoint q c
bounded_are_points facts q t vss e c h =
    slots_typed q.defs.table (flat (bounds_of q) q.conjuncts) (all_fit facts q t.signatures t.defs q.conjuncts t.conjuncts) 0 q.slots vss e c h
