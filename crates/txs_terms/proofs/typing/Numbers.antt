-- The constructors of a table by their numbers: those of a type stand at the numbers from its first one on.
use Rattle.std.proofs.Common.{◌≡◌, ℕ, zero, suc, ◌+◌, Bool, true, false, cond, List, [], ◌∷◌, length, refl, ap, ◌∙◌, arith, eqb}
use Rattle.std.specs.Prelude.{Option, Some, None, slice_get}
use Rattle.std.proofs.lemmas.Bool.{eq-eqb}
use Rattle.txs_values.specs.Value.{Ty, Table, TypeDef, Constructor, Place, place_of, place_in, place_from, field_types, fields_in}

abbrev pub place_at : ℕ → Constructor → Place
place_at k x = record { ty = k; constructor = x }

pub past_these : (k : ℕ) (xs : List Constructor) (d m : ℕ) (go : ℕ → Option Place) → m ≡ length xs + d → place_in k xs m go ≡ go d
past_these k [] d m go e = ap go (let q : m ≡ d = omega arith in q)
past_these k (x ∷ xs) d zero go e = absurd (omega arith)
past_these k (x ∷ xs) d (suc m) go e = past_these k xs d m go (omega arith)

pub among_these : (k : ℕ) (xs : List Constructor) (d : ℕ) (x : Constructor) (go : ℕ → Option Place) → slice_get xs d ≡ Some x → place_in k xs d go ≡ Some (place_at k x)
among_these k [] d x go e = cc
among_these k (y ∷ xs) zero x go e = let q : y ≡ x = cc in ap (λ (z : Constructor). Some (record { ty = k; constructor = z })) q
among_these k (y ∷ xs) (suc d) x go e = among_these k xs d x go e

-- the types from number k on have their constructors from number c on
abbrev pub StandsAt : Table → ℕ → ℕ → List TypeDef → Type 0
StandsAt table k c ts = (d m : ℕ) (p : Place) → m ≡ c + d → place_from k ts d ≡ Some p → place_of table m ≡ Some p

pub stands_first : (table : Table) → StandsAt table 0 0 table
stands_first table d m p e g = ap (place_from 0 table) (let q : m ≡ d = omega arith in q) ∙ g

pub stands_next : (table : Table) (k c : ℕ) (t : TypeDef) (ts : List TypeDef) → StandsAt table k c (t ∷ ts) → StandsAt table (suc k) (c + length t.constructors) ts
stands_next table k c t ts s d m p e g =
    s (length t.constructors + d) m p (omega arith) (past_these k t.constructors d (length t.constructors + d) (place_from (suc k) ts) refl ∙ g)

-- the fields of a constructor of this type
pub fields_same : (table : Table) (c k : ℕ) (x : Constructor) → place_of table c ≡ Some (place_at k x)
    → fields_in (place_of table c) k ≡ Some (field_types x.fields)
fields_same table c k x e = ap (λ o. fields_in o k) e ∙ by (eqb k k) (eq-eqb k k refl)
  where
    by : (b : Bool) → b ≡ true → cond {A = Option (List Ty)} b (Some (field_types x.fields)) None ≡ Some (field_types x.fields)
    by true q = refl
    by false q = cc
