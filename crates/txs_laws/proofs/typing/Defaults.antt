-- The default of a type of the table is of the type.
use Rattle.std.proofs.Common.{◌≡◌, ℕ, zero, suc, ◌+◌, pos, true, false, List, [], ◌∷◌, length, map, refl, sym, ap, ◌∙◌, arith}
use Rattle.std.specs.Prelude.{Option, Some, None, slice_get}
use Rattle.std.proofs.lemmas.Bool.{and_from}
use Rattle.txs_values.specs.Value.{Ty, integer, truth, string, named, Value, num, bool, text, cons, packed, Table, TypeDef, Constructor, Field, place_of, place_from, fits, has_type, has_fields, field_types, HasType}
use Rattle.txs_values.specs.Default.{all_defaults, first_made, ranked, next_round, rounds, default_if, or_zero, default_of}
use Rattle.txs_terms.specs.Typed.{IsType, IsTable}
use Rattle.txs_terms.proofs.typing.Numbers.{place_at, among_these, StandsAt, stands_first, stands_next, fields_same}

zero_fits : fits (pos 0) ≡ true
unfolding fits
zero_fits = refl

module _ (table : Table) where
  AreRanked : List (Option Value) → ℕ → Type 0
  AreRanked os k = (j m : ℕ) (v : Value) → m ≡ k + j → slice_get os j ≡ Some (Some v) → has_type table v (named m) ≡ true

  Gives : (Ty → Option Value) → Type 0
  Gives go = (t : Ty) (v : Value) → go t ≡ Some v → has_type table v t ≡ true

  abbrev TypedFields : List Field → Option (List Value) → Type 0
  TypedFields fs o = (ws : List Value) → o ≡ Some ws → has_fields table (packed ws) (Some (field_types fs)) ≡ true

  by_rest : (f : Field) (fs : List Field) (v : Value) (o : Option (List Value)) → has_type table v f.ty ≡ true → TypedFields fs o
      → TypedFields (f ∷ fs) (elim o [ None ↦ None | Some ws ↦ Some (v ∷ ws) ])
  by_rest f fs v None h r vs x = cc
  by_rest f fs v (Some ws) h r vs x =
      let q : v ∷ ws ≡ vs = cc in
      ap (λ (z : List Value). has_fields table (packed z) (Some (field_types (f ∷ fs)))) (sym q)
      ∙ and_from (has_type table v f.ty) (has_fields table (packed ws) (Some (field_types fs))) h (r ws refl)

  by_first : (go : Ty → Option Value) (f : Field) (fs : List Field) (o : Option Value) → ((v : Value) → o ≡ Some v → has_type table v f.ty ≡ true) → TypedFields fs (all_defaults go fs)
      → TypedFields (f ∷ fs) (elim o [ None ↦ None | Some v ↦ elim (all_defaults go fs) [ None ↦ None | Some ws ↦ Some (v ∷ ws) ] ])
  by_first go f fs None h r vs x = cc
  by_first go f fs (Some v) h r vs x = by_rest f fs v (all_defaults go fs) (h v refl) r vs x

  defaults_typed : (go : Ty → Option Value) → Gives go → (fs : List Field) → TypedFields fs (all_defaults go fs)
  unfolding Gives
  defaults_typed go g [] vs e = let q : [] ≡ vs = cc in ap (λ (z : List Value). has_fields table (packed z) (Some [])) (sym q)
  defaults_typed go g (f ∷ fs) vs e = by_first go f fs (go f.ty) (g f.ty) (defaults_typed go g fs) vs e

  -- a constructor of type k
  built : (k m : ℕ) (x : Constructor) (vs : List Value) → place_of table m ≡ Some (place_at k x) → has_fields table (packed vs) (Some (field_types x.fields)) ≡ true
      → has_type table (cons m (packed vs)) (named k) ≡ true
  built k m x vs e h = ap (has_fields table (packed vs)) (fields_same table m k x e) ∙ h

  first_by : (k c : ℕ) (x : Constructor) (o : Option (List Value)) (r : Option Value) → place_of table c ≡ Some (place_at k x) → TypedFields x.fields o
      → ((v : Value) → r ≡ Some v → has_type table v (named k) ≡ true) → (v : Value)
      → elim o [ None ↦ r | Some vs ↦ Some (cons c (packed vs)) ] ≡ Some v → has_type table v (named k) ≡ true
  first_by k c x None r e t h v q = h v q
  first_by k c x (Some vs) r e t h v q =
      let y : cons c (packed vs) ≡ v = cc in ap (λ (z : Value). has_type table z (named k)) (sym y) ∙ built k c x vs e (t vs refl)

  first_typed : (go : Ty → Option Value) → Gives go → (k c : ℕ) (xs : List Constructor)
      → ((d m : ℕ) (x : Constructor) → m ≡ c + d → slice_get xs d ≡ Some x → place_of table m ≡ Some (place_at k x))
      → (v : Value) → first_made go c xs ≡ Some v → has_type table v (named k) ≡ true
  first_typed go g k c [] h v e = cc
  first_typed go g k c (x ∷ xs) h v e =
      first_by k c x (all_defaults go x.fields) (first_made go (suc c) xs) (h zero c x (omega arith) refl) (defaults_typed go g x.fields)
      (first_typed go g k (suc c) xs (λ d m y q r. h (suc d) m y (omega arith) r)) v e

  ranked_gives : (os : List (Option Value)) → AreRanked os 0 → Gives (ranked os)
  unfolding AreRanked Gives
  ranked_gives os h integer v e = let q : num (pos 0) ≡ v = cc in ap (λ (z : Value). has_type table z integer) (sym q) ∙ zero_fits
  ranked_gives os h truth v e = let q : bool false ≡ v = cc in ap (λ (z : Value). has_type table z truth) (sym q)
  ranked_gives os h string v e = let q : text [] ≡ v = cc in ap (λ (z : Value). has_type table z string) (sym q)
  ranked_gives os h (named k) v e = go (slice_get os k) refl e
    where
      go : (o : Option (Option Value)) → slice_get os k ≡ o → elim o [ None ↦ None | Some r ↦ r ] ≡ Some v → has_type table v (named k) ≡ true
      go None x y = cc
      go (Some r) x y = h k k v (omega arith) (x ∙ ap (λ (z : Option Value). Some z) y)

  round_typed : (all : List (Option Value)) → AreRanked all 0 → (k c : ℕ) (ts : List TypeDef) (os : List (Option Value)) → StandsAt table k c ts → AreRanked os k
      → AreRanked (next_round all c ts os) k
  unfolding AreRanked
  round_typed all a k c [] os s h j m v e x = cc
  round_typed all a k c (t ∷ ts) [] s h j m v e x = cc
  round_typed all a k c (t ∷ ts) (Some w ∷ os) s h zero m v e x = h zero m v e x
  round_typed all a k c (t ∷ ts) (None ∷ os) s h zero m v e x =
      let q : m ≡ k = omega arith in
      let y : first_made (ranked all) c t.constructors ≡ Some v = cc in
      ap (λ (z : ℕ). has_type table v (named z)) q
      ∙ first_typed (ranked all) (ranked_gives all a) k c t.constructors
      (λ d i z r g. s d i (place_at k z) r (among_these k t.constructors d z (place_from (suc k) ts) g)) v y
  round_typed all a k c (t ∷ ts) (Some w ∷ os) s h (suc j) m v e x =
      round_typed all a (suc k) (c + length t.constructors) ts os (stands_next table k c t ts s) (λ i n u r g. h (suc i) n u (omega arith) g) j m v (omega arith) x
  round_typed all a k c (t ∷ ts) (None ∷ os) s h (suc j) m v e x =
      round_typed all a (suc k) (c + length t.constructors) ts os (stands_next table k c t ts s) (λ i n u r g. h (suc i) n u (omega arith) g) j m v (omega arith) x

  none_ranked : (ts : List TypeDef) (k : ℕ) → AreRanked (map (λ t. None) ts) k
  unfolding AreRanked
  none_ranked [] k j m v e x = cc
  none_ranked (t ∷ ts) k zero m v e x = cc
  none_ranked (t ∷ ts) k (suc j) m v e x = none_ranked ts (suc k) j m v (omega arith) x

  rounds_typed : (n : ℕ) → AreRanked (rounds n table) 0
  rounds_typed zero = none_ranked table 0
  rounds_typed (suc n) = round_typed (rounds n table) (rounds_typed n) 0 0 table (rounds n table) (stands_first table) (rounds_typed n)

  found_typed : (t : Ty) (v : Value) → default_if table t ≡ Some v → has_type table (default_of table t) t ≡ true
  unfolding Gives
  found_typed t v e = ap (λ (o : Option Value). has_type table (or_zero o) t) e ∙ ranked_gives (rounds (length table) table) (rounds_typed (length table)) t v e

pub default_typed : (table : Table) → IsTable table → (t : Ty) → IsType table t → HasType table (default_of table t) t
default_typed table h integer k = found_typed table integer (num (pos 0)) refl
default_typed table h truth k = found_typed table truth (bool false) refl
default_typed table h string k = found_typed table string (text []) refl
default_typed table h (named i) k = let p = h.defaults i k in found_typed table (named i) p.0 p.1
