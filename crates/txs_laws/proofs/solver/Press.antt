-- Numbers that are pressed towards the constants are candidates, and keep their order.
use Rattle.std.proofs.Common.{◌≡◌, ℕ, zero, suc, ◌-◌, ◌^◌, ◌≤◌, ℤ, pos, negsuc, ◌+ℤ◌, ◌-ℤ◌, ◌<ℤ◌, ◌≤ℤ◌, int_lt, int_le, Bool, true, false, cond, ◌⊎◌, inl, inr, List, [], ◌∷◌, length, refl, sym, ap, ◌∙◌, subst, arith}
use Rattle.std.specs.Ordering.{int_eq}
use Rattle.std.specs.Int.Signed.{mag}
use Rattle.std.proofs.lemmas.Int.{ints}
use Rattle.std.proofs.lemmas.Bool.{or_cases, or_left, or_right, false_from_ne_true}
use Rattle.std.proofs.lemmas.Bool.Decides.{Decides-int_eq, Decides-ltb}
use Rattle.txs_values.specs.Value.{fits}
use Rattle.txs_terms.specs.Rules.{In}
use Rattle.txs_guard.specs.Candidates.{insert, run_up, least, sort_in_range, runs_up, integer_candidates}
use Rattle.txs_guard.specs.Mentioned.{any_is}
use Rattle.txs_laws.proofs.rules.Lists.{In_front, In_back}
use Rattle.txs_laws.proofs.solver.Climb.{climb, climb_within, climb_strict, climb_fixed, above, marked_few, up_test, down_test, none_at, pressed, Side, up, down, side_of, pressed_up, pressed_down}

-- ---- members

pub has_In : (x : ℤ) (xs : List ℤ) → In x xs → any_is int_eq x xs ≡ true
has_In x [] h = absurd h
has_In x (y ∷ ys) (inl e) = or_left (int_eq x y) (any_is int_eq x ys) ((Decides-int_eq x y).1 e)
has_In x (y ∷ ys) (inr h) = or_right (int_eq x y) (any_is int_eq x ys) (has_In x ys h)

pub In_has : (x : ℤ) (xs : List ℤ) → any_is int_eq x xs ≡ true → In x xs
In_has x [] h = cc
In_has x (y ∷ ys) h =
    elim (or_cases (int_eq x y) (any_is int_eq x ys) h) [ inl a ↦ inl ((Decides-int_eq x y).0 a) | inr b ↦ inr (In_has x ys b) ]

moved_test : (xs : List ℤ) (x y : ℤ) → In x xs → x ≡ y → any_is int_eq y xs ≡ true
moved_test xs x y h e = subst (λ (z : ℤ). any_is int_eq z xs ≡ true) e (has_In x xs h)

-- ---- order

abbrev pub IsLeast : ℤ → List ℤ → Type 0
IsLeast l ks = (k : ℤ) → In k ks → l ≤ℤ k

-- a constant, or a number at the point
abbrev pub IsKnown : List ℤ → List ℤ → ℤ → Type 0
IsKnown ks xs x = In x ks ⊎ In x xs

up_known : (l : ℤ) (ks xs : List ℤ) (x : ℤ) (n : ℕ) → x ≡ l +ℤ pos n → IsKnown ks xs x → (up_test l ks n ≡ true) ⊎ (up_test l xs n ≡ true)
up_known l ks xs x n e (inl h) = inl (moved_test ks x (l +ℤ pos n) h e)
up_known l ks xs x n e (inr h) = inr (moved_test xs x (l +ℤ pos n) h e)

down_known : (l : ℤ) (ks xs : List ℤ) (x : ℤ) (n : ℕ) → IsLeast l ks → x ≡ l -ℤ pos (suc n) → IsKnown ks xs x
    → (none_at (suc n) ≡ true) ⊎ (down_test l xs (suc n) ≡ true)
down_known l ks xs x n m e (inl h) = let q = m x h in absurd (omega (arith, ints))
down_known l ks xs x n m e (inr h) = inr (moved_test xs x (l -ℤ pos (suc n)) h e)

strict_by : (l : ℤ) (ks xs : List ℤ) (x y : ℤ) → IsLeast l ks → IsKnown ks xs x → IsKnown ks xs y → x <ℤ y
    → Side l x → Side l y → pressed l ks xs x <ℤ pressed l ks xs y
strict_by l ks xs x y m hx hy lt (up i ex) (up j ey) =
    let px = pressed_up l ks xs x i ex in
    let py = pressed_up l ks xs y j ey in
    let s = climb_strict (up_test l ks) (up_test l xs) i j (omega (arith, ints)) (up_known l ks xs y j ey hy) in
    omega (arith, ints)
strict_by l ks xs x y m hx hy lt (up i ex) (down j ey) = absurd (omega (arith, ints))
strict_by l ks xs x y m hx hy lt (down i ex) (up j ey) =
    let px = pressed_down l ks xs x i ex in
    let py = pressed_up l ks xs y j ey in
    let s = climb_strict none_at (down_test l xs) zero (suc i) (omega arith) (down_known l ks xs x i m ex hx) in
    omega (arith, ints)
strict_by l ks xs x y m hx hy lt (down i ex) (down j ey) =
    let px = pressed_down l ks xs x i ex in
    let py = pressed_down l ks xs y j ey in
    let s = climb_strict none_at (down_test l xs) (suc j) (suc i) (omega (arith, ints)) (down_known l ks xs x i m ex hx) in
    omega (arith, ints)

pub pressed_strict : (l : ℤ) (ks xs : List ℤ) (x y : ℤ) → IsLeast l ks → IsKnown ks xs x → IsKnown ks xs y → x <ℤ y
    → pressed l ks xs x <ℤ pressed l ks xs y
pressed_strict l ks xs x y m hx hy lt = strict_by l ks xs x y m hx hy lt (side_of l x) (side_of l y)

fixed_by : (l : ℤ) (ks xs : List ℤ) (x : ℤ) → IsLeast l ks → In x ks → Side l x → pressed l ks xs x ≡ x
fixed_by l ks xs x m h (up n e) =
    let p = pressed_up l ks xs x n e in
    let c = climb_fixed (up_test l ks) (up_test l xs) n (moved_test ks x (l +ℤ pos n) h e) in omega (arith, ints)
fixed_by l ks xs x m h (down n e) = let q = m x h in absurd (omega (arith, ints))

pub pressed_fixed : (l : ℤ) (ks xs : List ℤ) (x : ℤ) → IsLeast l ks → In x ks → pressed l ks xs x ≡ x
pressed_fixed l ks xs x m h = fixed_by l ks xs x m h (side_of l x)

tri : (x y : ℤ) (a b : Bool) → int_lt x y ≡ a → int_lt y x ≡ b → (x <ℤ y) ⊎ ((x ≡ y) ⊎ (y <ℤ x))
tri x y true b ea eb = inl (grind (arith, ints))
tri x y false true ea eb = inr (inr (grind (arith, ints)))
tri x y false false ea eb =
    let p : y ≤ℤ x = grind (arith, ints) in let q : x ≤ℤ y = grind (arith, ints) in inr (inl (omega (arith, ints)))

pub order_of : (x y : ℤ) → (x <ℤ y) ⊎ ((x ≡ y) ⊎ (y <ℤ x))
order_of x y = tri x y (int_lt x y) (int_lt y x) refl refl

-- each comparison is as before
abbrev pub SameOrder : ℤ → ℤ → ℤ → ℤ → Type 0
SameOrder x y x' y' =
    (int_lt x' y' ≡ int_lt x y) × (int_lt y' x' ≡ int_lt y x) × (int_le x' y' ≡ int_le x y) × (int_le y' x' ≡ int_le y x) × (int_eq x' y' ≡ int_eq x y)

apart_eq : (x y : ℤ) → (x ≡ y → ⊥) → int_eq x y ≡ false
apart_eq x y h = false_from_ne_true (int_eq x y) (λ t. h ((Decides-int_eq x y).0 t))

lt_same : (x y x' y' : ℤ) → x <ℤ y → x' <ℤ y' → SameOrder x y x' y'
lt_same x y x' y' a b =
    let p : int_eq x y ≡ false = apart_eq x y (λ e. omega (arith, ints)) in
    let q : int_eq x' y' ≡ false = apart_eq x' y' (λ e. omega (arith, ints)) in
    (grind (arith, ints), grind (arith, ints), grind (arith, ints), grind (arith, ints), q ∙ sym p)

gt_same : (x y x' y' : ℤ) → y <ℤ x → y' <ℤ x' → SameOrder x y x' y'
gt_same x y x' y' a b =
    let p : int_eq x y ≡ false = apart_eq x y (λ e. omega (arith, ints)) in
    let q : int_eq x' y' ≡ false = apart_eq x' y' (λ e. omega (arith, ints)) in
    (grind (arith, ints), grind (arith, ints), grind (arith, ints), grind (arith, ints), q ∙ sym p)

eq_same : (x y x' y' : ℤ) → x ≡ y → x' ≡ y' → SameOrder x y x' y'
eq_same x y x' y' a b =
    let p = (Decides-int_eq x y).1 a in let q = (Decides-int_eq x' y').1 b in
    (grind (arith, ints), grind (arith, ints), grind (arith, ints), grind (arith, ints), q ∙ sym p)

same_by : (x y x' y' : ℤ) → (x <ℤ y) ⊎ ((x ≡ y) ⊎ (y <ℤ x)) → (x <ℤ y → x' <ℤ y') → (y <ℤ x → y' <ℤ x') → (x ≡ y → x' ≡ y') → SameOrder x y x' y'
same_by x y x' y' (inl a) f g h = lt_same x y x' y' a (f a)
same_by x y x' y' (inr (inl a)) f g h = eq_same x y x' y' a (h a)
same_by x y x' y' (inr (inr a)) f g h = gt_same x y x' y' a (g a)

pub pressed_order : (l : ℤ) (ks xs : List ℤ) (x y : ℤ) → IsLeast l ks → IsKnown ks xs x → IsKnown ks xs y
    → SameOrder x y (pressed l ks xs x) (pressed l ks xs y)
pressed_order l ks xs x y m hx hy =
    same_by x y (pressed l ks xs x) (pressed l ks xs y) (order_of x y)
    (λ a. pressed_strict l ks xs x y m hx hy a) (λ a. pressed_strict l ks xs y x m hy hx a) (λ e. ap (pressed l ks xs) e)

-- ---- candidates

-- a number between two is no farther from 0 than one of them
below_limit : (l x p : ℤ) → l ≤ℤ p → p ≤ℤ x → (mag p ≤ mag x) ⊎ (mag p ≤ mag l)
below_limit (pos i) (pos j) (pos n) a b = inl (omega (arith, ints))
below_limit (negsuc i) (pos j) (pos n) a b = inl (omega (arith, ints))
below_limit (pos i) (negsuc j) (pos n) a b = absurd (omega (arith, ints))
below_limit (negsuc i) (negsuc j) (pos n) a b = absurd (omega (arith, ints))
below_limit (negsuc i) (pos j) (negsuc n) a b = inr (omega (arith, ints))
below_limit (negsuc i) (negsuc j) (negsuc n) a b = inr (omega (arith, ints))
below_limit (pos i) (pos j) (negsuc n) a b = absurd (omega (arith, ints))
below_limit (pos i) (negsuc j) (negsuc n) a b = absurd (omega (arith, ints))

smaller_fits : (x p : ℤ) → fits x ≡ true → mag p ≤ mag x → fits p ≡ true
unfolding fits
smaller_fits x p h l = let q = (Decides-ltb (mag x) (2 ^ 127)).0 h in (Decides-ltb (mag p) (2 ^ 127)).1 (omega arith)

pub fits_between : (l x p : ℤ) → fits l ≡ true → fits x ≡ true → l ≤ℤ p → p ≤ℤ x → fits p ≡ true
fits_between l x p hl hx a b = elim (below_limit l x p a b) [ inl m ↦ smaller_fits x p hx m | inr m ↦ smaller_fits l p hl m ]

self_by : (x y : ℤ) (ys : List ℤ) (a b : Bool) → int_eq x y ≡ b → In x (insert x ys) → In x (cond a (x ∷ y ∷ ys) (cond b (y ∷ ys) (y ∷ insert x ys)))
self_by x y ys true b e r = inl refl
self_by x y ys false true e r = inl ((Decides-int_eq x y).0 e)
self_by x y ys false false e r = inr r

In_insert_self : (x : ℤ) (ys : List ℤ) → In x (insert x ys)
In_insert_self x [] = inl refl
In_insert_self x (y ∷ ys) = self_by x y ys (int_lt x y) (int_eq x y) refl (In_insert_self x ys)

kept_by : (x z y : ℤ) (ys : List ℤ) (a b : Bool) → In z (y ∷ ys) → (In z ys → In z (insert x ys)) → In z (cond a (x ∷ y ∷ ys) (cond b (y ∷ ys) (y ∷ insert x ys)))
kept_by x z y ys true b h r = inr h
kept_by x z y ys false true h r = h
kept_by x z y ys false false (inl e) r = inl e
kept_by x z y ys false false (inr h) r = inr (r h)

In_inserted : (x z : ℤ) (ys : List ℤ) → In z ys → In z (insert x ys)
In_inserted x z [] h = absurd h
In_inserted x z (y ∷ ys) h = kept_by x z y ys (int_lt x y) (int_eq x y) h (In_inserted x z ys)

sorted_by : (x y : ℤ) (ys : List ℤ) (b : Bool) → fits y ≡ b → fits x ≡ true → In x (y ∷ ys) → (In x ys → In x (sort_in_range ys))
    → In x (cond b (insert y (sort_in_range ys)) (sort_in_range ys))
sorted_by x y ys b ey ex (inl e) r =
    let t : b ≡ true = sym ey ∙ (ap fits (sym e) ∙ ex) in
    subst (λ (c : Bool). In x (cond c (insert y (sort_in_range ys)) (sort_in_range ys))) (sym t)
    (subst (λ (z : ℤ). In x (insert z (sort_in_range ys))) e (In_insert_self x (sort_in_range ys)))
sorted_by x y ys true ey ex (inr h) r = In_inserted y x (sort_in_range ys) (r h)
sorted_by x y ys false ey ex (inr h) r = r h

In_sorted : (x : ℤ) (ys : List ℤ) → fits x ≡ true → In x ys → In x (sort_in_range ys)
In_sorted x [] f h = absurd h
In_sorted x (y ∷ ys) f h = sorted_by x y ys (fits y) refl f h (In_sorted x ys f)

pub In_run_up : (x y : ℤ) (n j : ℕ) → j ≤ n → y ≡ x +ℤ pos j → In y (run_up x n)
In_run_up x y zero j h e = inl (omega (arith, ints))
In_run_up x y (suc n) zero h e = inl (omega (arith, ints))
In_run_up x y (suc n) (suc j) h e = inr (In_run_up (x +ℤ pos 1) y n j (omega arith) (omega (arith, ints)))

In_runs_up : (k y : ℤ) (n j : ℕ) (ks : List ℤ) → In k ks → j ≤ n → y ≡ k +ℤ pos j → In y (runs_up n ks)
In_runs_up k y n j [] h l e = absurd h
In_runs_up k y n j (x ∷ ks) (inl q) l e = In_front y (run_up x n) (runs_up n ks) (In_run_up x y n j l (e ∙ ap (λ (z : ℤ). z +ℤ pos j) q))
In_runs_up k y n j (x ∷ ks) (inr h) l e = In_back y (run_up x n) (runs_up n ks) (In_runs_up k y n j ks h l e)

-- the least of a list
least_case : (x y : ℤ) (ys : List ℤ) (b : Bool) → int_lt y x ≡ b → ((z : ℤ) → (least z ys ≤ℤ z) × In (least z ys) (z ∷ ys) × ((k : ℤ) → In k ys → least z ys ≤ℤ k))
    → (cond b (least y ys) (least x ys) ≤ℤ x) × In (cond b (least y ys) (least x ys)) (x ∷ y ∷ ys)
    × ((k : ℤ) → In k (y ∷ ys) → cond b (least y ys) (least x ys) ≤ℤ k)
least_case x y ys true e go =
    let g = go y in
    let q = g.0 in
    let l : y <ℤ x = grind (arith, ints) in
    (omega (arith, ints), inr g.1, λ k h. elim h [ inl a ↦ (let m : k ≡ y = a in omega (arith, ints)) | inr b ↦ g.2 k b ])
least_case x y ys false e go =
    let g = go x in
    let q = g.0 in
    let l : x ≤ℤ y = grind (arith, ints) in
    (q, elim g.1 [ inl a ↦ inl a | inr b ↦ inr (inr b) ], λ k h. elim h [ inl a ↦ (let m : k ≡ y = a in omega (arith, ints)) | inr b ↦ g.2 k b ])

pub least_of : (x : ℤ) (ys : List ℤ) → (least x ys ≤ℤ x) × In (least x ys) (x ∷ ys) × ((k : ℤ) → In k ys → least x ys ≤ℤ k)
least_of x [] = (omega (arith, ints), inl refl, λ k h. absurd h)
least_of x (y ∷ ys) = least_case x y ys (int_lt y x) refl (λ z. least_of z ys)

pub least_is : (x : ℤ) (ys : List ℤ) → IsLeast (least x ys) (x ∷ ys)
least_is x ys k (inl e) = let p = (least_of x ys).0 in omega (arith, ints)
least_is x ys k (inr h) = (least_of x ys).2 k h

-- ---- pressed numbers are candidates

from_base : (l : ℤ) (ks : List ℤ) (i : ℕ) → In l ks → (i ≡ zero) ⊎ (up_test l ks i ≡ true) → In (l +ℤ pos i) ks
from_base l ks i h (inl e) = subst (λ (z : ℤ). In z ks) (let q : l ≡ l +ℤ pos i = omega (arith, ints) in q) h
from_base l ks i h (inr e) = In_has (l +ℤ pos i) ks e

same_up : (l : ℤ) (i j : ℕ) → l +ℤ pos i ≡ l +ℤ pos j → i ≡ j
same_up l i j e = omega (arith, ints)

same_down : (l : ℤ) (i j : ℕ) → l -ℤ pos i ≡ l -ℤ pos j → i ≡ j
same_down l i j e = omega (arith, ints)

candidate_by : (n : ℕ) (ks xs : List ℤ) (x : ℤ) → length xs ≤ n → (fits (least (pos 0) ks) ≡ true) → fits x ≡ true
    → Side (least (pos 0) ks) x → In (pressed (least (pos 0) ks) (pos 0 ∷ ks) xs x) (integer_candidates n ks)
candidate_by n ks xs x few fl fx (up i e) =
    let l = least (pos 0) ks in
    let p = pressed_up l (pos 0 ∷ ks) xs x i e in
    let a = above (up_test l (pos 0 ∷ ks)) (up_test l xs) i in
    let m = marked_few (λ j. l +ℤ pos j) xs i (same_up l) in
    let w = climb_within (up_test l (pos 0 ∷ ks)) (up_test l xs) i in
    let ai = a.is in let af = a.few in
    let base = from_base l (pos 0 ∷ ks) a.from (least_of (pos 0) ks).1 a.base in
    let z = pressed l (pos 0 ∷ ks) xs x in
    let r = In_runs_up (l +ℤ pos a.from) z n a.over (pos 0 ∷ ks) base (omega arith) (omega (arith, ints)) in
    let b = In_back z (run_up (l -ℤ pos n) n) (runs_up n (pos 0 ∷ ks)) r in
    In_sorted z _ (fits_between l x z fl fx (omega (arith, ints)) (omega (arith, ints))) b
candidate_by n ks xs x few fl fx (down i e) =
    let l = least (pos 0) ks in
    let p = pressed_down l (pos 0 ∷ ks) xs x i e in
    let a = above none_at (down_test l xs) (suc i) in
    let m = marked_few (λ j. l -ℤ pos j) xs (suc i) (same_down l) in
    let w = climb_within none_at (down_test l xs) (suc i) in
    let ai = a.is in let af = a.few in
    let c = climb none_at (down_test l xs) (suc i) in
    let z0 : a.from ≡ zero = elim a.base [ inl q ↦ q | inr q ↦ cc ] in
    let cn : c ≤ n = omega arith in
    let z = pressed l (pos 0 ∷ ks) xs x in
    let r = In_run_up (l -ℤ pos n) z n (n - c) (omega arith) (omega (arith, ints)) in
    let b = In_front z (run_up (l -ℤ pos n) n) (runs_up n (pos 0 ∷ ks)) r in
    In_sorted z _ (fits_between x l z fx fl (omega (arith, ints)) (omega (arith, ints))) b

fits_zero : fits (pos 0) ≡ true
unfolding fits
fits_zero = refl

least_fits : (ks : List ℤ) → ((k : ℤ) → In k ks → fits k ≡ true) → fits (least (pos 0) ks) ≡ true
least_fits ks h =
    elim ((least_of (pos 0) ks).1) [ inl e ↦ ap fits e ∙ fits_zero | inr i ↦ h (least (pos 0) ks) i ]

-- a number of the range goes to a candidate
pub pressed_candidate : (n : ℕ) (ks xs : List ℤ) (x : ℤ) → length xs ≤ n → ((k : ℤ) → In k ks → fits k ≡ true) → fits x ≡ true
    → In (pressed (least (pos 0) ks) (pos 0 ∷ ks) xs x) (integer_candidates n ks)
pressed_candidate n ks xs x few hk fx = candidate_by n ks xs x few (least_fits ks hk) fx (side_of (least (pos 0) ks) x)
