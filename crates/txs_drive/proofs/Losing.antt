-- What a source has left.
use Rattle.std.proofs.Common.{ℕ, List, [], ◌++◌, Option, None, Some, refl, sym, ◌∙◌, ap, append_assoc}
use Rattle.txs_outside.specs.Known.{Loses, Tells}

pub loses_none : (a : Option (List ℕ)) → Loses a a []
loses_none None = tt
loses_none (Some x) = refl

pub loses_then : (a b c : Option (List ℕ)) (x y : List ℕ) → Loses a b x → Loses b c y → Loses a c (x ++ y)
loses_then None b c x y h k = tt
loses_then (Some p) None c x y h k = absurd h
loses_then (Some p) (Some q) None x y h k = absurd k
loses_then (Some p) (Some q) (Some r) x y h k = h ∙ (ap (λ (z : List ℕ). x ++ z) k ∙ sym (append_assoc x y r))

-- where nothing is left after them, all that was left was given
pub loses_all : (a b : Option (List ℕ)) (x : List ℕ) → Loses a b x → Tells b [] → Tells a (x ++ [])
loses_all None b x h k = tt
loses_all (Some p) None x h k = absurd h
loses_all (Some p) (Some q) x h k = h ∙ ap (λ (z : List ℕ). x ++ z) k
