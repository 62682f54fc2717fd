-- The members of two lists put together.
use Rattle.std.proofs.Common.{◌⊎◌, inl, inr, List, [], ◌∷◌, ◌++◌}
use Rattle.txs_terms.specs.Term.{Term}
use Rattle.txs_terms.specs.Rules.{In}

pub in_front : (t : Term) (xs ys : List Term) → In t xs → In t (xs ++ ys)
in_front t [] ys h = absurd h
in_front t (x ∷ xs) ys (inl e) = inl e
in_front t (x ∷ xs) ys (inr h) = inr (in_front t xs ys h)

pub in_back : (t : Term) (xs ys : List Term) → In t ys → In t (xs ++ ys)
in_back t [] ys h = h
in_back t (x ∷ xs) ys h = inr (in_back t xs ys h)

pub in_either : (t : Term) (xs ys : List Term) → In t (xs ++ ys) → In t xs ⊎ In t ys
in_either t [] ys h = inr h
in_either t (x ∷ xs) ys (inl e) = inl (inl e)
in_either t (x ∷ xs) ys (inr h) = elim (in_either t xs ys h) [ inl l ↦ inl (inr l) | inr r ↦ inr r ]
