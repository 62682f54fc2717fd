-- The place of a text in a list.
use Rattle.std.proofs.Common.{◌≡◌, ◌≢◌, ℕ, zero, suc, ◌+◌, Bool, true, false, not, ◌&&◌, cond, nat_le, List, [], ◌∷◌, length, Option, Some, None, refl, ◌∙◌, ap, subst, arith, bytes_eq}
use Rattle.std.proofs.lemmas.Iterator.Adapters.{position_from-zero}
use Rattle.std.specs.List.{position, position_from, list_all, slice_get}
use Rattle.txs_lexer.specs.Words.{words, symbols}
use Rattle.txs_lexer.specs.Scan.{place_of}
use Rattle.txs_values.proofs.Tests.{eq-bytes, bytes-eq, and-both, not-true}

pub place-from : (texts : List (List ℕ)) (x : List ℕ) → position (λ text. bytes_eq text x) texts ≡ place_of texts x
unfolding place_of
place-from texts x = position_from-zero (λ text. bytes_eq text x) texts

-- ---- where the place is

-- the place in a list, counted from i
abbrev pub IsPlace : List (List ℕ) → List ℕ → ℕ → ℕ → Type 0
IsPlace texts x i k = (j : ℕ) × (k ≡ i + j) × (slice_get texts j ≡ Some x)

found-later : (t : List ℕ) (ts : List (List ℕ)) (x : List ℕ) (i k : ℕ) → IsPlace ts x (i + 1) k → IsPlace (t ∷ ts) x i k
found-later t ts x i k r = (suc r.0, omega (arith, r.1), r.2)

found-at : (t : List ℕ) (ts : List (List ℕ)) (x : List ℕ) (i k : ℕ) (b : Bool) → bytes_eq t x ≡ b → (position_from (λ text. bytes_eq text x) (i + 1) ts ≡ Some k → IsPlace ts x (i + 1) k)
    → cond b (Some i) (position_from (λ text. bytes_eq text x) (i + 1) ts) ≡ Some k → IsPlace (t ∷ ts) x i k
found-at t ts x i k true e later h = let same : i ≡ k = cc in (0, omega arith, ap Some (eq-bytes t x e))
found-at t ts x i k false e later h = found-later t ts x i k (later h)

from-found : (texts : List (List ℕ)) (x : List ℕ) (i k : ℕ) → position_from (λ text. bytes_eq text x) i texts ≡ Some k → IsPlace texts x i k
from-found [] x i k h = absurd (cc)
from-found (t ∷ ts) x i k h = found-at t ts x i k (bytes_eq t x) refl (from-found ts x (i + 1) k) h

pub place-found : (texts : List (List ℕ)) (x : List ℕ) (k : ℕ) → place_of texts x ≡ Some k → slice_get texts k ≡ Some x
unfolding place_of
place-found texts x k h = let r = from-found texts x 0 k h in let same : r.0 ≡ k = omega (arith, r.1) in subst (λ (j : ℕ). slice_get texts j ≡ Some x) same r.2

-- ---- the texts of a list without repeats

-- none of the first equals another
abbrev pub distinct : List (List ℕ) → Bool
distinct [] = true
distinct (x ∷ xs) = list_all (λ y. not (bytes_eq x y)) xs && distinct xs

pub words-distinct : distinct words ≡ true
words-distinct = refl

pub symbols-distinct : distinct symbols ≡ true
symbols-distinct = refl

others-differ : (x : List ℕ) (xs : List (List ℕ)) (k : ℕ) (y : List ℕ) → list_all (λ y. not (bytes_eq x y)) xs ≡ true → slice_get xs k ≡ Some y → bytes_eq x y ≡ false
others-differ x [] k y d h = absurd (cc)
others-differ x (z ∷ zs) zero y d h = let same : z ≡ y = cc in subst (λ (q : List ℕ). bytes_eq x q ≡ false) same (not-true (bytes_eq x z) (and-both (not (bytes_eq x z)) (list_all (λ y. not (bytes_eq x y)) zs) d).0)
others-differ x (z ∷ zs) (suc k) y d h = others-differ x zs k y (and-both (not (bytes_eq x z)) (list_all (λ y. not (bytes_eq x y)) zs) d).1 h

from-place : (texts : List (List ℕ)) (x : List ℕ) (i k : ℕ) → distinct texts ≡ true → slice_get texts k ≡ Some x → position_from (λ text. bytes_eq text x) i texts ≡ Some (i + k)
from-place [] x i k d h = absurd (cc)
from-place (t ∷ ts) x i zero d h = let same : t ≡ x = cc in rw (bytes-eq t x same) (ap Some (omega arith))
from-place (t ∷ ts) x i (suc k) d h =
    let both = and-both (list_all (λ y. not (bytes_eq t y)) ts) (distinct ts) d in
    rw (others-differ t ts k x both.0 h) (from-place ts x (i + 1) k both.1 h ∙ ap Some (omega arith))

pub place-is : (texts : List (List ℕ)) (x : List ℕ) (k : ℕ) → distinct texts ≡ true → slice_get texts k ≡ Some x → place_of texts x ≡ Some k
unfolding place_of
place-is texts x k d h = from-place texts x 0 k d h ∙ ap Some (omega arith)

pub place-none : (texts : List (List ℕ)) (x : List ℕ) → distinct texts ≡ true → place_of texts x ≡ None → (k : ℕ) → slice_get texts k ≢ Some x
place-none texts x d h k e = let found = place-is texts x k d e in cc

pub no-place : (texts : List (List ℕ)) (x : List ℕ) (o : Option ℕ) → place_of texts x ≡ o → ((k : ℕ) → slice_get texts k ≢ Some x) → place_of texts x ≡ None
no-place texts x None e n = e
no-place texts x (Some k) e n = absurd (n k (place-found texts x k e))

-- ---- symbols have one to three bytes

abbrev pub is_short : List ℕ → Bool
is_short x = nat_le 1 (length x) && nat_le (length x) 3

symbols-short : list_all is_short symbols ≡ true
symbols-short = refl

pub all-at : (p : List ℕ → Bool) (texts : List (List ℕ)) (k : ℕ) (x : List ℕ) → list_all p texts ≡ true → slice_get texts k ≡ Some x → p x ≡ true
all-at p [] k x a h = absurd (cc)
all-at p (t ∷ ts) zero x a h = let same : t ≡ x = cc in subst (λ (q : List ℕ). p q ≡ true) same (and-both (p t) (list_all p ts) a).0
all-at p (t ∷ ts) (suc k) x a h = all-at p ts k x (and-both (p t) (list_all p ts) a).1 h

pub symbol-short : (k : ℕ) (x : List ℕ) → slice_get symbols k ≡ Some x → is_short x ≡ true
symbol-short k x h = all-at is_short symbols k x symbols-short h
