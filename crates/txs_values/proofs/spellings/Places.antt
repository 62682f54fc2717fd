-- A constructor by its name, and by its number over the whole table.
use Rattle.std.proofs.Common.{◌≡◌, ℕ, suc, ◌+◌, List, [], ◌∷◌, Option, Some, refl, sym, ap, ◌∙◌, arith}
use Rattle.txs_values.specs.Value.{Field, Constructor, Table, Place, place_in, place_of}
use Rattle.txs_values.specs.Spelling.{Made, count_of}
use Rattle.txs_values.specs.Spelled.{IsNamed}
use Rattle.txs_values.proofs.spellings.Fronts.{same_some}

-- ---- what is found by its name has its place

-- the numbers behind these constructors
pub behind-count : (j : ℕ) (xs : List Constructor) (go : ℕ → Option Place) (c : ℕ) → place_in j xs (count_of xs + c) go ≡ go c
behind-count j [] go c = let e : 0 + c ≡ c = omega arith in ap go e
behind-count j (x ∷ xs) go c =
    let e : suc (count_of xs) + c ≡ suc (count_of xs + c) = omega arith in
    ap (λ n. place_in j (x ∷ xs) n go) e ∙ behind-count j xs go c

pub record Found (n j : ℕ) (xs : List Constructor) (name : List ℕ) (m : Made) : Type 0 where
  pub number : ℕ
  pub counted : m.number ≡ n + number
  pub placed : (go : ℕ → Option Place) → place_in j xs number go ≡ Some (record { ty = j; constructor = record { name = name; fields = m.fields } })

-- a constructor with its fields, by its number
pub same_fields : {j k : ℕ} {a b : List ℕ} {fs gs : List Field} → ◌≡◌ {A = Option Place} (Some (record { ty = j; constructor = record { name = a; fields = fs } })) (Some (record { ty = k; constructor = record { name = b; fields = gs } })) → fs ≡ gs
same_fields e = ap (λ (p : Place). p.constructor.fields) (same_some e)

-- what is found by the name has the number and the fields, as no two are called the same
pub found-same : (table : Table) → IsNamed table → (c k : ℕ) (name : List ℕ) (fs : List Field) (m : Made)
    → place_of table c ≡ Some (record { ty = k; constructor = record { name = name; fields = fs } })
    → place_of table m.number ≡ Some (record { ty = k; constructor = record { name = name; fields = m.fields } })
    → (m.number ≡ c) × (m.fields ≡ fs)
found-same table named c k name fs m h q =
    let s : m.number ≡ c = named.distinct m.number c (record { ty = k; constructor = record { name = name; fields = m.fields } }) (record { ty = k; constructor = record { name = name; fields = fs } }) q h refl in
    (s, same_fields (sym q ∙ ap (place_of table) s ∙ h))

pub same_made : (m : Made) (c : ℕ) (fs : List Field) → m.number ≡ c → m.fields ≡ fs → m ≡ record { number = c; fields = fs }
same_made m c fs e h = ap (λ i. record { number = i; fields = m.fields }) e ∙ ap (λ (l : List Field). record { number = c; fields = l }) h
