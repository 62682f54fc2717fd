-- The cells of the first case are points.
use Rattle.std.proofs.Common.{◌≡◌, ℕ, zero, suc, ℤ, pos, ◌-ℤ◌, Bool, true, false, cond, eqb, int_lt, ◌⊎◌, inl, inr, List, [], ◌∷◌, ◌++◌, length, map, refl, sym, ap, ◌∙◌, subst}
use Rattle.std.specs.Prelude.{Option, Some, None}
use Rattle.std.specs.Ordering.{int_eq}
use Rattle.std.proofs.lemmas.Bool.{and_from}
use Rattle.txs_terms.specs.Action.{from}
use Rattle.txs_values.specs.Default.{default_of}
use Rattle.txs_values.specs.Value.{fields_in, field_types, Ty, integer, truth, string, named, Value, num, text, cons, packed, Table, Field, Place, place_of, fits, has_type, has_fields, HaveTypes}
use Rattle.txs_terms.specs.Rules.{In}
use Rattle.txs_terms.specs.Typed.{IsType, AreTypes, IsTable}
use Rattle.txs_guard.specs.Candidates.{order_candidates, with_each, cells, insert, sort_in_range, run_up, runs_up, least, Pools, pools_of, count_made, fields_of, field_choices, each_field, made_choices, choices, longest, slot_choices}
use Rattle.txs_guard.specs.Mentioned.{Path, below, paths_at, mentioned, numbers, places_with}
use Rattle.txs_guard.specs.Place.{Spot}
use Rattle.txs_guard.specs.Point.{IsPoint}
use Rattle.txs_guard.specs.Query.{Query}
use Rattle.txs_laws.proofs.typing.Facts.{Facts}
use Rattle.txs_laws.proofs.rules.Lists.{In-append, In-map}
use Rattle.txs_laws.proofs.solver.Members.{In-flat}

-- ---- candidates of Ints are in range

insert_case : (x y z : ℤ) (ys : List ℤ) (a b : Bool) → In z (cond a (x ∷ y ∷ ys) (cond b (y ∷ ys) (y ∷ insert x ys)))
    → (In z (insert x ys) → (z ≡ x) ⊎ In z ys) → (z ≡ x) ⊎ In z (y ∷ ys)
insert_case x y z ys true b (inl e) go = inl e
insert_case x y z ys true b (inr h) go = inr h
insert_case x y z ys false true h go = inr h
insert_case x y z ys false false (inl e) go = inr (inl e)
insert_case x y z ys false false (inr h) go = elim (go h) [ inl e ↦ inl e | inr k ↦ inr (inr k) ]

In-insert : (x z : ℤ) (ys : List ℤ) → In z (insert x ys) → (z ≡ x) ⊎ In z ys
In-insert x z [] (inl e) = inl e
In-insert x z [] (inr h) = absurd h
In-insert x z (y ∷ ys) h = insert_case x y z ys (int_lt x y) (int_eq x y) h (In-insert x z ys)

sorted_case : (x z : ℤ) (ys : List ℤ) (b : Bool) → fits x ≡ b → In z (cond b (insert x (sort_in_range ys)) (sort_in_range ys))
    → (In z (sort_in_range ys) → fits z ≡ true) → fits z ≡ true
sorted_case x z ys true e h go = elim (In-insert x z (sort_in_range ys) h) [ inl q ↦ ap fits q ∙ e | inr k ↦ go k ]
sorted_case x z ys false e h go = go h

sorted_fits : (z : ℤ) (ys : List ℤ) → In z (sort_in_range ys) → fits z ≡ true
sorted_fits z [] h = absurd h
sorted_fits z (y ∷ ys) h = sorted_case y z ys (fits y) refl h (sorted_fits z ys)

-- ---- cells

abbrev pub Split : List Value → List Value → List (List Value) → Type 0
Split us vs ps = (u : Value) × (rest : List Value) × (us ≡ u ∷ rest) × In u vs × In rest ps

pub In-with_each : (us vs : List Value) (ps : List (List Value)) → In us (with_each vs ps) → Split us vs ps
In-with_each us [] ps h = absurd h
In-with_each us (v ∷ vs) ps h =
    elim (In-append us (map (λ p. v ∷ p) ps) (with_each vs ps) h) [
      | inl a ↦ (let m = In-map (λ p. v ∷ p) us ps a in (v, m.0, m.2, inl refl, m.1))
      | inr b ↦ (let m = In-with_each us vs ps b in (m.0, m.1, m.2, inr m.3, m.4))
    ]

-- ---- candidates are of the type

pub types_of : (o : Option Place) (k : ℕ) (fs : List Field) → fields_of o k ≡ Some fs → fields_in o k ≡ Some (field_types fs)
types_of None k fs e = cc
types_of (Some p) k fs e = go (eqb p.ty k) e
  where
    go : (b : Bool) → cond b (Some p.constructor.fields) None ≡ Some fs → cond b (Some (field_types p.constructor.fields)) None ≡ Some (field_types fs)
    go true e = let q : p.constructor.fields ≡ fs = cc in ap (λ (z : List Field). Some (field_types z)) q
    go false e = cc

module _ (table : Table) (default : Ty → Value) (pools : Pools) (inside : (x : ℤ) → In x pools.integer_pool → fits x ≡ true)
    (defaults : (c : ℕ) (p : Place) (f : Field) → place_of table c ≡ Some p → In f p.constructor.fields → has_type table (default f.ty) f.ty ≡ true) where
  abbrev Makes : (Ty → List Path → List Value) → Type 0
  Makes go = (t : Ty) (ps : List Path) (v : Value) → In v (go t ps) → has_type table v t ≡ true

  field_typed : (go : Ty → List Path → List Value) → Makes go → (t : Ty) (ps : List Path) (v : Value) → has_type table (default t) t ≡ true
      → In v (field_choices default go t ps) → has_type table v t ≡ true
  field_typed go g t [] v d (inl e) = ap (λ (z : Value). has_type table z t) e ∙ d
  field_typed go g t [] v d (inr h) = absurd h
  field_typed go g t (p ∷ ps) v d h = g t (p ∷ ps) v h

  fields_typed : (go : Ty → List Path → List Value) → Makes go → (c j : ℕ) (fs : List Field) (ps : List Path) (us : List Value)
      → ((f : Field) → In f fs → has_type table (default f.ty) f.ty ≡ true) → In us (cells (each_field default go c j fs ps)) → has_fields table (packed us) (Some (field_types fs)) ≡ true
  fields_typed go g c j [] ps us d (inl e) = ap (λ (z : List Value). has_fields table (packed z) (Some [])) e
  fields_typed go g c j [] ps us d (inr h) = absurd h
  fields_typed go g c j (f ∷ fs) ps us d h =
      let m = In-with_each us (field_choices default go f.ty (below c j ps)) (cells (each_field default go c (suc j) fs ps)) h in
      let a = field_typed go g f.ty (below c j ps) m.0 (d f (inl refl)) m.3 in
      let b = fields_typed go g c (suc j) fs ps m.1 (λ x i. d x (inr i)) m.4 in
      ap (λ (z : List Value). has_fields table (packed z) (Some (field_types (f ∷ fs)))) m.2 ∙ and_from (has_type table m.0 f.ty) (has_fields table (packed m.1) (Some (field_types fs))) a b

  of_place : (o : Option Place) (k : ℕ) (fs : List Field) → fields_of o k ≡ Some fs → (p : Place) × (o ≡ Some p) × (p.constructor.fields ≡ fs)
  of_place None k fs e = cc
  of_place (Some p) k fs e = go (eqb p.ty k) e
    where
      go : (b : Bool) → cond b (Some p.constructor.fields) None ≡ Some fs → (p' : Place) × (Some p ≡ Some p') × (p'.constructor.fields ≡ fs)
      go true e = (p, refl, (let x = e in cc))
      go false e = cc

  made_typed : (go : Ty → List Path → List Value) → Makes go → (c k : ℕ) (o : Option (List Field)) → fields_of (place_of table c) k ≡ o → (ps : List Path) (v : Value)
      → In v (made_choices default go c o ps) → has_type table v (named k) ≡ true
  made_typed go g c k None e ps v h = absurd h
  made_typed go g c k (Some fs) e ps v h =
      let m = In-map (λ us. cons c (packed us)) v (cells (each_field default go c 0 fs ps)) h in
      let p = of_place (place_of table c) k fs e in
      let a = fields_typed go g c 0 fs ps m.0 (λ f i. defaults c p.0 f p.1 (subst (λ (z : List Field). In f z) (sym p.2) i)) m.1 in
      ap (λ (z : Value). has_type table z (named k)) m.2 ∙ (ap (λ (z : Option (List Ty)). has_fields table (packed m.0) z) (types_of (place_of table c) k fs e) ∙ a)

  choices_typed : (left : ℕ) → Makes (choices table default pools left)
  choices_typed left integer ps v h =
      let m = In-map num v pools.integer_pool h in ap (λ (z : Value). has_type table z integer) m.2 ∙ inside m.0 m.1
  choices_typed left truth ps v (inl e) = ap (λ (z : Value). has_type table z truth) e
  choices_typed left truth ps v (inr (inl e)) = ap (λ (z : Value). has_type table z truth) e
  choices_typed left truth ps v (inr (inr h)) = absurd h
  choices_typed left string ps v h = let m = In-map text v pools.text_pool h in ap (λ (z : Value). has_type table z string) m.2
  choices_typed zero (named k) ps v h = absurd h
  choices_typed (suc left) (named k) ps v h =
      let m = In-flat (λ (c : ℕ). made_choices default (choices table default pools left) c (fields_of (place_of table c) k) ps) v (from 0 (count_made table)) h in
      made_typed (choices table default pools left) (choices_typed left) m.0 k (fields_of (place_of table m.0) k) refl ps v m.2

  slots_typed : (left : ℕ) (ss : List Spot) (i : ℕ) (ts : List Ty) (c : List Value) → In c (cells (slot_choices (choices table default pools left) ss i ts)) → HaveTypes table c ts
  slots_typed left ss i [] c (inl e) = subst (λ (z : List Value). HaveTypes table z []) (sym e) tt
  slots_typed left ss i [] c (inr h) = absurd h
  slots_typed left ss i (t ∷ ts) c h =
      let m = In-with_each c (choices table default pools left t (paths_at i ss)) (cells (slot_choices (choices table default pools left) ss (suc i) ts)) h in
      subst (λ (z : List Value). HaveTypes table z (t ∷ ts)) (sym m.2)
      (choices_typed left t (paths_at i ss) m.0 m.3, slots_typed left ss (suc i) ts m.1 m.4)

-- the default of each field's type is of the type
abbrev pub DefaultsAreTyped : Table → Type 0
DefaultsAreTyped table = (c : ℕ) (p : Place) (f : Field) → place_of table c ≡ Some p → In f p.constructor.fields → has_type table (default_of table f.ty) f.ty ≡ true

pub cells_are_points : (q : Query) → DefaultsAreTyped q.defs.table → (c : List Value) → In c (cells (order_candidates q)) → IsPoint q c
cells_are_points q d c h =
    slots_typed q.defs.table (default_of q.defs.table) (pools_of q)
    (λ x i. sorted_fits x (run_up (least (pos 0) (numbers q) -ℤ pos (length (places_with q integer))) (length (places_with q integer)) ++ runs_up (length (places_with q integer)) (pos 0 ∷ numbers q)) i)
    d (suc (longest (mentioned q))) (mentioned q) 0 q.slots c h

-- ---- defaults of fields

field_known : (table : Table) (f : Field) (fs : List Field) → AreTypes table (field_types fs) → In f fs → IsType table f.ty
field_known table f [] h i = absurd i
field_known table f (g ∷ fs) h (inl e) = subst (λ (z : Field). IsType table z.ty) (sym e) h.0
field_known table f (g ∷ fs) h (inr i) = field_known table f fs h.1 i

pub defaults_typed : Facts → (table : Table) → IsTable table → DefaultsAreTyped table
defaults_typed facts table t c p f e i = facts.default_typed table t f.ty (field_known table f p.constructor.fields (t.known c p e) i)
