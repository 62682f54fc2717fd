-- Comparing the fields of two values.
use Rattle.std.proofs.Common.{◌≡◌, ◌≢◌, ℕ, suc, ◌+◌, ◌<◌, Bool, true, false, ◌&&◌, List, [], ◌∷◌, length, drop, get_or, refl, ap, add-one, drop-cons}
use Rattle.txs_values.specs.declared.value.Value as rust
use Rattle.txs_values.specs.Value.{packed, same_value, same_each}
use Rattle.txs_values.specs.View.{value_of, values_of}

by_first : (b c : Bool) → false ≡ c → false ≡ b && c
by_first true c h = h
by_first false c h = refl

-- lists of other lengths differ
pub other_lengths : (xs ys : List rust.Value) → length xs ≢ length ys → false ≡ same_each (packed (values_of xs)) (packed (values_of ys))
other_lengths [] [] h = absurd (h refl)
other_lengths [] (y ∷ ys) h = refl
other_lengths (x ∷ xs) [] h = refl
other_lengths (x ∷ xs) (y ∷ ys) h = by_first (same_value (value_of x) (value_of y)) (same_each (packed (values_of xs)) (packed (values_of ys))) (other_lengths xs ys (λ e. h (ap suc e)))

-- what is left to compare
abbrev pub same_from : ℕ → List rust.Value → List rust.Value → Bool
same_from i xs ys = same_each (packed (values_of (drop i xs))) (packed (values_of (drop i ys)))

pub one_differs : (xs ys : List rust.Value) (i : ℕ) (d e : rust.Value) → i < length xs → i < length ys
    → same_value (value_of (get_or xs i d)) (value_of (get_or ys i e)) ≡ false → false ≡ same_from i xs ys
one_differs xs ys i d e h k p = rw (drop-cons xs i d h, drop-cons ys i e k, p) refl

pub one_alike : (xs ys : List rust.Value) (i : ℕ) (d e : rust.Value) → i < length xs → i < length ys
    → same_value (value_of (get_or xs i d)) (value_of (get_or ys i e)) ≡ true → same_from i xs ys ≡ same_from (i + 1) xs ys
one_alike xs ys i d e h k p = rw (drop-cons xs i d h, drop-cons ys i e k, p, add-one) refl
