-- What two equal options or lists begin with.
use Rattle.std.proofs.Common.{◌≡◌, ℕ, List, ◌∷◌, Some}

pub same_some : {A : Type 0} {x y : A} → Some x ≡ Some y → x ≡ y
same_some e = cc

pub same_list : {x y : ℕ} {xs ys : List ℕ} → x ∷ xs ≡ y ∷ ys → (x ≡ y) × (xs ≡ ys)
same_list e = (cc, cc)
