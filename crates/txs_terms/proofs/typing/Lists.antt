-- Members of joined lists, and values that have types one by one.
use Rattle.std.specs.Prelude.{Some, slice_get}
use Rattle.std.proofs.Common.{◌≡◌, ◌<◌, ℕ, zero, suc, ◌+◌, List, [], ◌∷◌, ◌++◌, length, refl, ap, arith}
use Rattle.txs_values.specs.Value.{Ty, Value, Table, HaveTypes}

pub same_some : {A : Type 0} {x y : A} → Some x ≡ Some y → x ≡ y
same_some e = cc

pub joined_again : {A : Type 0} (xs ys zs : List A) → (xs ++ ys) ++ zs ≡ xs ++ (ys ++ zs)
joined_again [] ys zs = refl
joined_again (x ∷ xs) ys zs = ap (λ l. x ∷ l) (joined_again xs ys zs)

pub joined_none : {A : Type 0} (xs : List A) → xs ++ [] ≡ xs
joined_none [] = refl
joined_none (x ∷ xs) = ap (λ l. x ∷ l) (joined_none xs)

pub no_member : {A : Type 0} (i : ℕ) (x : A) → slice_get [] i ≡ Some x → ⊥
no_member zero x e = cc
no_member (suc i) x e = cc

pub member_front : {A : Type 0} (xs ys : List A) (i : ℕ) (x : A) → slice_get xs i ≡ Some x → slice_get (xs ++ ys) i ≡ Some x
member_front [] ys i x e = absurd (no_member i x e)
member_front (z ∷ xs) ys zero x e = e
member_front (z ∷ xs) ys (suc i) x e = member_front xs ys i x e

pub member_past : {A : Type 0} (xs ys : List A) (i m : ℕ) → m ≡ i + length xs → slice_get (xs ++ ys) m ≡ slice_get ys i
member_past [] ys i m e = ap (slice_get ys) (let q : m ≡ i = omega arith in q)
member_past (x ∷ xs) ys i zero e = absurd (omega arith)
member_past (x ∷ xs) ys i (suc m) e = member_past xs ys i m (omega arith)

pub member_before : {A : Type 0} (xs ys : List A) (i : ℕ) (x : A) → i < length xs → slice_get (xs ++ ys) i ≡ Some x → slice_get xs i ≡ Some x
member_before [] ys i x h e = absurd (omega arith)
member_before (z ∷ xs) ys zero x h e = e
member_before (z ∷ xs) ys (suc i) x h e = member_before xs ys i x (omega arith) e

pub have_joined : (table : Table) (vs : List Value) (ts : List Ty) (ws : List Value) (us : List Ty) → HaveTypes table vs ts → HaveTypes table ws us
    → HaveTypes table (vs ++ ws) (ts ++ us)
have_joined table [] [] ws us h k = k
have_joined table [] (t ∷ ts) ws us h k = absurd h
have_joined table (v ∷ vs) [] ws us h k = absurd h
have_joined table (v ∷ vs) (t ∷ ts) ws us h k = (h.0, have_joined table vs ts ws us h.1 k)
