-- What is told of offences: the same of the same ones, and of two kinds of them what goes first.
use Rattle.std.proofs.Common.{◌≡◌, ◌⊎◌, ◌<◌, ◌≤◌, ℕ, refl, sym, ap, subst, ◌∙◌, inl, inr, Option, Some, None, option_map, arith}
use Rattle.std.proofs.lemmas.Bool.{cases_order}
use Rattle.txs_typing.specs.declared.fault.TypeFault.{TypeFault}
use Rattle.txs_typing.specs.declared.fault.TypeFault.TheVariants as fault
use Rattle.txs_typing.specs.Offends.{Offence, twice, unknown, arity, mismatch, empty_type, big_type, Decides, NotAfter, offset, rank}
use Rattle.txs_typing.specs.Answer.{offence_of, Told}
use Rattle.txs_typing.specs.inner.Told.{order, IsBefore, Lesser, memory_first, left_first, right_first, Least, Finds}
use Rattle.txs_typing.proofs.trees.Unique.{some_injective}
use Rattle.txs_typing.proofs.trees.NotBoth.{none≢some}

abbrev pub Either : (Offence → Type 0) → (Offence → Type 0) → Offence → Type 0
Either P Q o = P o ⊎ Q o

decides_same : (P Q : Offence → Type 0) (o : Offence) → ((o : Offence) → P o → Q o) → ((o : Offence) → Q o → P o) → Decides P o → Decides Q o
decides_same P Q o to back d = record { stands = to o d.stands; first = λ p q. d.first p (back p q) }

-- of the same offences the same is told
pub told_same : (f : TypeFault) (P Q : Offence → Type 0) → ((o : Offence) → P o → Q o) → ((o : Offence) → Q o → P o) → Told f P → Told f Q
told_same (fault.Twice at) P Q to back h = decides_same P Q (twice at) to back h
told_same (fault.Unknown at) P Q to back h = decides_same P Q (unknown at) to back h
told_same (fault.Arity at) P Q to back h = decides_same P Q (arity at) to back h
told_same (fault.Mismatch at) P Q to back h = decides_same P Q (mismatch at) to back h
told_same (fault.EmptyType at) P Q to back h = decides_same P Q (empty_type at) to back h
told_same (fault.BigType at) P Q to back h = decides_same P Q (big_type at) to back h
told_same fault.NoMemory P Q to back h = tt

pub finds_same : (f : Option TypeFault) (P Q : Offence → Type 0) → ((o : Offence) → P o → Q o) → ((o : Offence) → Q o → P o) → Finds f P → Finds f Q
finds_same None P Q to back h = λ o q. h o (back o q)
finds_same (Some f) P Q to back h = told_same f P Q to back h

-- ---- of two kinds of offences

-- the offence of a fault with a place
abbrev IsAt : TypeFault → ℕ × ℕ → Offence → Type 0
IsAt f a o = (offence_of f ≡ Some o) × (offset o ≡ a.0) × (rank o ≡ a.1)

named_at : (n : Option Offence) (a : ℕ × ℕ) → option_map (λ o. (offset o, rank o)) n ≡ Some a → (o : Offence) × ((n ≡ Some o) × (offset o ≡ a.0) × (rank o ≡ a.1))
named_at None a h = absurd (none≢some h)
named_at (Some o) a h = (o, (refl, ap (λ p. p.0) (some_injective h), ap (λ p. p.1) (some_injective h)))

at_order : (f : TypeFault) (a : ℕ × ℕ) → order f ≡ Some a → (o : Offence) × IsAt f a o
at_order f a h = named_at (offence_of f) a h

pub told_decides : (f : TypeFault) (o : Offence) (P : Offence → Type 0) → offence_of f ≡ Some o → Told f P → Decides P o
told_decides (fault.Twice at) o P e h = subst (Decides P) (some_injective e) h
told_decides (fault.Unknown at) o P e h = subst (Decides P) (some_injective e) h
told_decides (fault.Arity at) o P e h = subst (Decides P) (some_injective e) h
told_decides (fault.Mismatch at) o P e h = subst (Decides P) (some_injective e) h
told_decides (fault.EmptyType at) o P e h = subst (Decides P) (some_injective e) h
told_decides (fault.BigType at) o P e h = subst (Decides P) (some_injective e) h
told_decides fault.NoMemory o P e h = absurd (none≢some e)

pub decides_told : (f : TypeFault) (o : Offence) (P : Offence → Type 0) → offence_of f ≡ Some o → Decides P o → Told f P
decides_told (fault.Twice at) o P e h = subst (Decides P) (sym (some_injective e)) h
decides_told (fault.Unknown at) o P e h = subst (Decides P) (sym (some_injective e)) h
decides_told (fault.Arity at) o P e h = subst (Decides P) (sym (some_injective e)) h
decides_told (fault.Mismatch at) o P e h = subst (Decides P) (sym (some_injective e)) h
decides_told (fault.EmptyType at) o P e h = subst (Decides P) (sym (some_injective e)) h
decides_told (fault.BigType at) o P e h = subst (Decides P) (sym (some_injective e)) h
decides_told fault.NoMemory o P e h = tt

pub not_after_through : (o p q : Offence) → NotAfter o p → NotAfter p q → NotAfter o q
not_after_through o p q (inl h) (inl k) = inl (omega arith)
not_after_through o p q (inl h) (inr k) = inl (omega arith)
not_after_through o p q (inr h) (inl k) = inl (omega arith)
not_after_through o p q (inr h) (inr k) = inr (omega arith, omega arith)

by_order : (x y r s : ℕ) → (IsBefore (y, s) (x, r) → ⊥) → (x < y) ⊎ (x ≡ y) × (r ≤ s)
by_order x y r s h = elim (cases_order x y) [
  | inl e ↦ inr (e, omega (arith, λ (k : s < r). h (inr (sym e, k))))
  | inr (inl k) ↦ inl k
  | inr (inr k) ↦ absurd (h (inl k))
]

apart : (p q : Offence) (a b : ℕ × ℕ) → (offset p ≡ a.0) × (rank p ≡ a.1) → (offset q ≡ b.0) × (rank q ≡ b.1) → (IsBefore b a → ⊥) → NotAfter p q
apart p q a b e f h = by_order (offset p) (offset q) (rank p) (rank q) (λ k. h (before k))
  where
    before : IsBefore (offset q, rank q) (offset p, rank p) → IsBefore b a
    before (inl k) = inl (omega (arith, e.0, f.0, k))
    before (inr k) = inr (sym f.0 ∙ (k.0 ∙ e.0), omega (arith, e.1, f.1, k.1))

apart_back : (p q : Offence) (a b : ℕ × ℕ) → (offset p ≡ a.0) × (rank p ≡ a.1) → (offset q ≡ b.0) × (rank q ≡ b.1) → IsBefore b a → NotAfter q p
apart_back p q a b e f (inl k) = inl (omega (arith, e.0, f.0, k))
apart_back p q a b e f (inr k) = inr (f.0 ∙ (k.0 ∙ sym e.0), omega (arith, e.1, f.1, k.1))

first_of_both : (P Q : Offence → Type 0) (p q : Offence) → Decides P p → Decides Q q → NotAfter p q → Decides (Either P Q) p
first_of_both P Q p q d e h = record { stands = inl d.stands; first = both }
  where
    both : (o : Offence) → Either P Q o → NotAfter p o
    both o (inl k) = d.first o k
    both o (inr k) = not_after_through p q o h (e.first o k)

second_of_both : (P Q : Offence → Type 0) (p q : Offence) → Decides P p → Decides Q q → NotAfter q p → Decides (Either P Q) q
second_of_both P Q p q d e h = record { stands = inr e.stands; first = both }
  where
    both : (o : Offence) → Either P Q o → NotAfter q o
    both o (inl k) = not_after_through q p o h (d.first o k)
    both o (inr k) = e.first o k

-- of two faults, each of which decides its kind, the one that goes first decides both
pub told_either : (f g h : TypeFault) (P Q : Offence → Type 0) → Told f P → Told g Q → Lesser f g h → Told h (Either P Q)
told_either f g _ P Q d e memory_first = tt
told_either f g _ P Q d e (left_first a b p q n) =
    let x = at_order f a p in
    let y = at_order g b q in
    decides_told f x.0 (Either P Q) x.1.0
    (first_of_both P Q x.0 y.0 (told_decides f x.0 P x.1.0 d) (told_decides g y.0 Q y.1.0 e) (apart x.0 y.0 a b (x.1.1, x.1.2) (y.1.1, y.1.2) n))
told_either f g _ P Q d e (right_first a b p q k) =
    let x = at_order f a p in
    let y = at_order g b q in
    decides_told g y.0 (Either P Q) y.1.0
    (second_of_both P Q x.0 y.0 (told_decides f x.0 P x.1.0 d) (told_decides g y.0 Q y.1.0 e) (apart_back x.0 y.0 a b (x.1.1, x.1.2) (y.1.1, y.1.2) k))

only_left : (P Q : Offence → Type 0) → ((o : Offence) → Q o → ⊥) → (o : Offence) → Either P Q o → P o
only_left P Q none o (inl p) = p
only_left P Q none o (inr q) = absurd (none o q)

only_right : (P Q : Offence → Type 0) → ((o : Offence) → P o → ⊥) → (o : Offence) → Either P Q o → Q o
only_right P Q none o (inl p) = absurd (none o p)
only_right P Q none o (inr q) = q

-- where none of the second kind stands, and where none of the first does
pub told_left : (f : TypeFault) (P Q : Offence → Type 0) → Told f P → ((o : Offence) → Q o → ⊥) → Told f (Either P Q)
told_left f P Q d none = told_same f P (Either P Q) (λ o p. inl p) (only_left P Q none) d

pub told_right : (f : TypeFault) (P Q : Offence → Type 0) → ((o : Offence) → P o → ⊥) → Told f Q → Told f (Either P Q)
told_right f P Q none d = told_same f Q (Either P Q) (λ o q. inr q) (only_right P Q none) d

pub none_of_both : (P Q : Offence → Type 0) → ((o : Offence) → P o → ⊥) → ((o : Offence) → Q o → ⊥) → (o : Offence) → Either P Q o → ⊥
none_of_both P Q p q o (inl h) = p o h
none_of_both P Q p q o (inr h) = q o h

-- of two kinds, each of which may have been told
pub finds_least : (f g r : Option TypeFault) (P Q : Offence → Type 0) → Least f g r → Finds f P → Finds g Q → Finds r (Either P Q)
finds_least None g r P Q l p q = subst (λ r. Finds r (Either P Q)) (sym l) (finds_same g Q (Either P Q) (λ o h. inr h) (only_right P Q p) q)
finds_least (Some f) None r P Q l p q = subst (λ r. Finds r (Either P Q)) (sym l) (told_left f P Q p q)
finds_least (Some f) (Some g) r P Q l p q = subst (λ r. Finds r (Either P Q)) (sym l.1) (told_either f g l.0 P Q p q l.2)

-- of one offence that one is told
pub unknown_told : (at : ℕ) → Told (fault.Unknown at) (λ o. o ≡ unknown at)
unknown_told at = record { stands = refl; first = λ p e. subst (NotAfter (unknown at)) (sym e) (inr (refl, omega arith)) }
