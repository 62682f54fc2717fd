-- Which fault decides, where offences stand at several of a list.
use Rattle.std.proofs.Common.{◌≡◌, ◌⊎◌, inl, inr, ◌<◌, ◌≤◌, ◌+◌, ℕ, zero, suc, ap, sym, subst, ◌∙◌, List, [], ◌∷◌, ◌++◌, length, take, get_or, slice_get, Option, Some, None, refl, arith}
use Rattle.std.proofs.lemmas.List.{take_all, length-take-le}
use Rattle.txs_typing.specs.declared.fault.TypeFault.{TypeFault}
use Rattle.txs_typing.specs.Offends.{Offence}
use Rattle.txs_typing.specs.inner.Told.{Least, Finds}
use Rattle.txs_types.specs.inner.Among.{Among}
use Rattle.txs_typing.proofs.trees.Unique.{some_injective}
use Rattle.txs_typing.proofs.trees.NotBoth.{none≢some}
use Rattle.txs_types.proofs.lists.Gathering.{taken_more}
use Rattle.txs_typing.proofs.judging.Told.{Either, finds_same, finds_least}

-- ---- no fault

pub least_left : (f g r : Option TypeFault) → Least f g r → r ≡ None → f ≡ None
least_left None g r l e = refl
least_left (Some f) None r l e = absurd (none≢some (sym e ∙ l))
least_left (Some f) (Some g) r l e = absurd (none≢some (sym e ∙ l.1))

pub least_right : (f g r : Option TypeFault) → Least f g r → r ≡ None → g ≡ None
least_right None g r l e = sym l ∙ e
least_right (Some f) None r l e = refl
least_right (Some f) (Some g) r l e = absurd (none≢some (sym e ∙ l.1))

pub least_none : (f r : Option TypeFault) → r ≡ f → Least f None r
least_none None r e = e
least_none (Some f) r e = e

-- ---- among several

get_left : {A : Type 0} (xs ys : List A) (j : ℕ) (a : A) → slice_get xs j ≡ Some a → slice_get (xs ++ ys) j ≡ Some a
get_left [] ys j a h = absurd (none≢some h)
get_left (x ∷ xs) ys zero a h = h
get_left (x ∷ xs) ys (suc j) a h = get_left xs ys j a h

get_last : {A : Type 0} (xs : List A) (x : A) → slice_get (xs ++ x ∷ []) (length xs) ≡ Some x
get_last [] x = refl
get_last (y ∷ xs) x = get_last xs x

get_snoc : {A : Type 0} (xs : List A) (x : A) (j : ℕ) (a : A) → slice_get (xs ++ x ∷ []) j ≡ Some a → (slice_get xs j ≡ Some a) ⊎ (j ≡ length xs) × (x ≡ a)
get_snoc [] x zero a h = inr (refl, some_injective h)
get_snoc [] x (suc j) a h = absurd (none≢some h)
get_snoc (y ∷ xs) x zero a h = inl h
get_snoc (y ∷ xs) x (suc j) a h = elim (get_snoc xs x j a h) [ inl p ↦ inl p | inr p ↦ inr (ap suc p.0, p.1) ]

among_join : {A : Type 0} (At : ℕ → A → Offence → Type 0) (xs : List A) (x : A) (o : Offence) → Among At xs o ⊎ At (length xs) x o → Among At (xs ++ x ∷ []) o
among_join At xs x o (inl p) = record { number = p.number; item = p.item; there = get_left xs (x ∷ []) p.number p.item p.there; stands = p.stands }
among_join At xs x o (inr p) = record { number = length xs; item = x; there = get_last xs x; stands = p }

among_split : {A : Type 0} (At : ℕ → A → Offence → Type 0) (xs : List A) (x : A) (o : Offence) → Among At (xs ++ x ∷ []) o → Among At xs o ⊎ At (length xs) x o
among_split At xs x o p = elim (get_snoc xs x p.number p.item p.there) [
  | inl e ↦ inl (record { number = p.number; item = p.item; there = e; stands = p.stands })
  | inr e ↦ inr (subst (λ n. At n x o) e.0 (subst (λ a. At p.number a o) (sym e.1) p.stands))
]

pub among_none : {A : Type 0} (At : ℕ → A → Offence → Type 0) (o : Offence) → Among At [] o → ⊥
among_none At o p = none≢some p.there

pub among_least : {A : Type 0} (At : ℕ → A → Offence → Type 0) (xs : List A) (x : A) (f g r : Option TypeFault) → Finds f (Among At xs) → Finds g (At (length xs) x) → Least f g r
    → Finds r (Among At (xs ++ x ∷ []))
among_least At xs x f g r p q l =
    finds_same r (Either (Among At xs) (At (length xs) x)) (Among At (xs ++ x ∷ [])) (λ o h. among_join At xs x o h) (λ o h. among_split At xs x o h)
    (finds_least f g r (Among At xs) (At (length xs) x) l p q)

-- as far as the loop has come, and one more
pub among_more : {A : Type 0} (At : ℕ → A → Offence → Type 0) (xs : List A) (i : ℕ) (x : A) (f g r : Option TypeFault) → i < length xs → x ≡ get_or xs i x
    → Finds f (Among At (take i xs)) → Finds g (At i x) → Least f g r → Finds r (Among At (take (i + 1) xs))
among_more At xs i x f g r below is p q l =
    subst (λ ys. Finds r (Among At ys)) (taken_more xs i x below is)
    (among_least At (take i xs) x f g r p (subst (λ n. Finds g (At n x)) (sym (length-take-le i xs (omega (arith, below)))) q) l)

pub among_end : {A : Type 0} (At : ℕ → A → Offence → Type 0) (xs : List A) (i : ℕ) (f : Option TypeFault) → length xs ≤ i → Finds f (Among At (take i xs)) → Finds f (Among At xs)
among_end At xs i f past h = subst (λ ys. Finds f (Among At ys)) (take_all i xs past) h
