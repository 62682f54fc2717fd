-- What a test of two texts tells.
use Rattle.std.proofs.Common.{◌≡◌, ℕ, Bool, true, false, List, refl, sym, bytes_eq}
use Rattle.std.proofs.lemmas.Slice.Eq.{bytes_eq-Decides}

-- the texts are the same
pub same_text : (a b : List ℕ) → a ≡ b → bytes_eq a b ≡ true
same_text a b h = (bytes_eq-Decides a b).1 h

-- and are not
pub other_text : (a b : List ℕ) → (a ≡ b → false ≡ true) → bytes_eq a b ≡ false
other_text a b h = by (bytes_eq a b) refl
  where
    by : (r : Bool) → bytes_eq a b ≡ r → r ≡ false
    by true e = sym (h ((bytes_eq-Decides a b).0 e))
    by false e = refl
