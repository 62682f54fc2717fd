-- What unions of channels have.
use Rattle.std.proofs.Common.{◌≡◌, ℕ, ◌<◌, Bool, true, false, cond, eqb, ltb, inl, inr, [], ◌∷◌, refl, sym, arith}
use Rattle.std.proofs.lemmas.Bool.{eqb-true, eq-eqb, or_left, or_right, or_cases, ltb-true, ltb-false, eqb-false}
use Rattle.txs_terms.specs.Action.{Channels, has, with_channel, union, kept, AllAbove, Ascending, is_empty, in_order}
use Rattle.txs_laws.proofs.rules.Places.{Within}

pub has_self : (c : ℕ) (xs : Channels) → has (c ∷ xs) c ≡ true
has_self c xs = or_left (eqb c c) (has xs c) (eq-eqb c c refl)

new_first : (c x : ℕ) (xs : Channels) (p q : Bool) → eqb c x ≡ q → has (with_channel c xs) c ≡ true
    → has (cond p (c ∷ x ∷ xs) (cond q (x ∷ xs) (x ∷ with_channel c xs))) c ≡ true
new_first c x xs true q e h = has_self c (x ∷ xs)
new_first c x xs false true e h = or_left (eqb x c) (has xs c) (eq-eqb x c (sym (eqb-true c x e)))
new_first c x xs false false e h = or_right (eqb x c) (has (with_channel c xs) c) h

pub has_new : (c : ℕ) (xs : Channels) → has (with_channel c xs) c ≡ true
has_new c [] = has_self c []
has_new c (x ∷ xs) = new_first c x xs (ltb c x) (eqb c x) refl (has_new c xs)

old_first : (c d x : ℕ) (xs : Channels) (p q : Bool) → has (x ∷ xs) d ≡ true → (has xs d ≡ true → has (with_channel c xs) d ≡ true)
    → has (cond p (c ∷ x ∷ xs) (cond q (x ∷ xs) (x ∷ with_channel c xs))) d ≡ true
old_first c d x xs true q h go = or_right (eqb c d) (has (x ∷ xs) d) h
old_first c d x xs false true h go = h
old_first c d x xs false false h go =
    elim (or_cases (eqb x d) (has xs d) h)
    [ inl e ↦ or_left (eqb x d) (has (with_channel c xs) d) e | inr k ↦ or_right (eqb x d) (has (with_channel c xs) d) (go k) ]

pub has_old : (c d : ℕ) (xs : Channels) → has xs d ≡ true → has (with_channel c xs) d ≡ true
has_old c d [] h = cc
has_old c d (x ∷ xs) h = old_first c d x xs (ltb c x) (eqb c x) h (has_old c d xs)

pub has_right : (xs ys : Channels) (d : ℕ) → has ys d ≡ true → has (union xs ys) d ≡ true
has_right [] ys d h = h
has_right (x ∷ xs) ys d h = has_old x d (union xs ys) (has_right xs ys d h)

Within_more : (x : ℕ) (xs all : Channels) → Within xs all → Within xs (with_channel x all)
Within_more x [] all h = tt
Within_more x (c ∷ cs) all h = (has_old x c all h.0, Within_more x cs all h.1)

pub within_left : (xs ys : Channels) → Within xs (union xs ys)
within_left [] ys = tt
within_left (x ∷ xs) ys = (has_new x (union xs ys), Within_more x xs (union xs ys) (within_left xs ys))

pub within_cons : (x : ℕ) (xs all : Channels) → Within xs all → Within xs (x ∷ all)
within_cons x [] all h = tt
within_cons x (c ∷ cs) all h = (or_right (eqb x c) (has all c) h.0, within_cons x cs all h.1)

pub within_self : (xs : Channels) → Within xs xs
within_self [] = tt
within_self (x ∷ xs) = (has_self x xs, within_cons x xs xs (within_self xs))

right_each : (zs xs ys : Channels) → Within zs ys → Within zs (union xs ys)
right_each [] xs ys h = tt
right_each (z ∷ zs) xs ys h = (has_right xs ys z h.0, right_each zs xs ys h.1)

pub within_right : (xs ys : Channels) → Within ys (union xs ys)
within_right xs ys = right_each ys xs ys (within_self ys)

pub within_order : (cs : Channels) → Within cs (in_order cs)
within_order cs = within_left cs []

-- ---- order

above_less : (x y : ℕ) (zs : Channels) → x < y → AllAbove y zs → AllAbove x zs
above_less x y [] h a = tt
above_less x y (z ∷ zs) h a = (omega arith, above_less x y zs h a.1)

above_first : (x c y : ℕ) (ys : Channels) (p q : Bool) → x < c → AllAbove x (y ∷ ys) → AllAbove x (with_channel c ys)
    → AllAbove x (cond p (c ∷ y ∷ ys) (cond q (y ∷ ys) (y ∷ with_channel c ys)))
above_first x c y ys true q h a b = (h, a)
above_first x c y ys false true h a b = a
above_first x c y ys false false h a b = (a.0, b)

above_new : (x c : ℕ) (ys : Channels) → x < c → AllAbove x ys → AllAbove x (with_channel c ys)
above_new x c [] h a = (h, tt)
above_new x c (y ∷ ys) h a = above_first x c y ys (ltb c y) (eqb c y) h a (above_new x c ys h a.1)

ascending_first : (c y : ℕ) (ys : Channels) (p q : Bool) → ltb c y ≡ p → eqb c y ≡ q → Ascending (y ∷ ys) → Ascending (with_channel c ys)
    → Ascending (cond p (c ∷ y ∷ ys) (cond q (y ∷ ys) (y ∷ with_channel c ys)))
ascending_first c y ys true q e f a b = ((ltb-true c y e, above_less c y ys (ltb-true c y e) a.0), a)
ascending_first c y ys false true e f a b = a
ascending_first c y ys false false e f a b =
    let l = ltb-false c y e in
    let n = eqb-false c y f in
    let lt : y < c = omega arith in
    (above_new y c ys lt a.0, b)

pub ascending_new : (c : ℕ) (xs : Channels) → Ascending xs → Ascending (with_channel c xs)
ascending_new c [] a = (tt, tt)
ascending_new c (x ∷ xs) a = ascending_first c x xs (ltb c x) (eqb c x) refl refl a (ascending_new c xs a.1)

pub ascending_union : (xs ys : Channels) → Ascending ys → Ascending (union xs ys)
ascending_union [] ys a = a
ascending_union (x ∷ xs) ys a = ascending_new x (union xs ys) (ascending_union xs ys a)

pub ascending_order : (cs : Channels) → Ascending (in_order cs)
ascending_order cs = ascending_union cs [] tt

kept_above : (p : ℕ → Bool) (x y : ℕ) (ys : Channels) (b : Bool) → x < y → AllAbove x (kept p ys) → AllAbove x (cond b (y ∷ kept p ys) (kept p ys))
kept_above p x y ys true h a = (h, a)
kept_above p x y ys false h a = a

above_kept : (p : ℕ → Bool) (x : ℕ) (ys : Channels) → AllAbove x ys → AllAbove x (kept p ys)
above_kept p x [] a = tt
above_kept p x (y ∷ ys) a = kept_above p x y ys (p y) a.0 (above_kept p x ys a.1)

kept_ascending : (p : ℕ → Bool) (y : ℕ) (ys : Channels) (b : Bool) → AllAbove y (kept p ys) → Ascending (kept p ys) → Ascending (cond b (y ∷ kept p ys) (kept p ys))
kept_ascending p y ys true h a = (h, a)
kept_ascending p y ys false h a = a

pub ascending_kept : (p : ℕ → Bool) (xs : Channels) → Ascending xs → Ascending (kept p xs)
ascending_kept p [] a = tt
ascending_kept p (x ∷ xs) a = kept_ascending p x xs (p x) (above_kept p x xs a.0) (ascending_kept p xs a.1)

-- ---- there are some

some_first : (c x : ℕ) (xs : Channels) (p q : Bool) → is_empty (cond p (c ∷ x ∷ xs) (cond q (x ∷ xs) (x ∷ with_channel c xs))) ≡ false
some_first c x xs true q = refl
some_first c x xs false true = refl
some_first c x xs false false = refl

some_new : (c : ℕ) (xs : Channels) → is_empty (with_channel c xs) ≡ false
some_new c [] = refl
some_new c (x ∷ xs) = some_first c x xs (ltb c x) (eqb c x)

pub some_union : (xs ys : Channels) → is_empty ys ≡ false → is_empty (union xs ys) ≡ false
some_union [] ys h = h
some_union (x ∷ xs) ys h = some_new x (union xs ys)

pub some_order : (cs : Channels) → is_empty cs ≡ false → is_empty (in_order cs) ≡ false
some_order [] h = h
some_order (c ∷ cs) h = some_new c (in_order cs)
