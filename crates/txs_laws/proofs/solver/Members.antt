-- A squashed value is a candidate, and a squashed point is a cell.
use Rattle.std.proofs.Common.{◌≡◌, ℕ, zero, suc, ◌+◌, ◌<◌, ◌≤◌, ℤ, Bool, true, false, cond, eqb, ◌⊎◌, inl, inr, List, [], ◌∷◌, ◌++◌, length, map, refl, sym, ap, subst, arith}
use Rattle.std.specs.Prelude.{Option, Some, None, slice_get}
use Rattle.std.proofs.lemmas.Bool.{and_parts}
use Rattle.txs_terms.specs.Action.{from}
use Rattle.txs_values.specs.Value.{fields_in, field_types, Ty, integer, truth, string, named, Value, num, bool, text, cons, Values, no_value, and_value, listed, packed, Table, Field, Constructor, Place, place_of, place_in, place_from, fits, has_type, has_fields, HaveTypes}
use Rattle.txs_terms.specs.Rules.{In}
use Rattle.txs_guard.specs.Candidates.{with_each, cells, Pools, count_made, fields_of, field_choices, each_field, made_choices, choices, slot_choices}
use Rattle.txs_guard.specs.Mentioned.{Path, below, flat, paths_at}
use Rattle.txs_guard.specs.Place.{Spot}
use Rattle.txs_laws.proofs.rules.Lists.{In_front, In_back, In-append, In_mapped}
use Rattle.txs_laws.proofs.solver.Texts.{Text}
use Rattle.txs_laws.proofs.solver.Squash.{Shape, unless_none, fields_at, squash, squash_each, In_below, below_In, Known, KnownEach, known_fields, known_head, known_tail}

-- ---- lists

pub In_flat : {A B : Type 0} (f : A → List B) (x : A) (y : B) (xs : List A) → In x xs → In y (f x) → In y (flat f xs)
In_flat f x y [] h g = absurd h
In_flat f x y (z ∷ xs) (inl e) g = In_front y (f z) (flat f xs) (subst (λ w. In y (f w)) e g)
In_flat f x y (z ∷ xs) (inr h) g = In_back y (f z) (flat f xs) (In_flat f x y xs h g)

pub In-flat : {A B : Type 0} (f : A → List B) (y : B) (xs : List A) → In y (flat f xs) → (x : A) × In x xs × In y (f x)
In-flat f y [] h = absurd h
In-flat f y (x ∷ xs) h =
    elim (In-append y (f x) (flat f xs) h)
    [ inl a ↦ (x, inl refl, a) | inr b ↦ (let p = In-flat f y xs b in (p.0, inr p.1, p.2)) ]

pub In_with_each : (v : Value) (p : List Value) (vs : List Value) (ps : List (List Value)) → In v vs → In p ps → In (v ∷ p) (with_each vs ps)
In_with_each v p [] ps h g = absurd h
In_with_each v p (w ∷ vs) ps (inl e) g =
    In_front (v ∷ p) (map (λ q. w ∷ q) ps) (with_each vs ps)
    (subst (λ (z : Value). In (v ∷ p) (map (λ q. z ∷ q) ps)) e (In_mapped (λ q. v ∷ q) p ps g))
In_with_each v p (w ∷ vs) ps (inr h) g = In_back (v ∷ p) (map (λ q. w ∷ q) ps) (with_each vs ps) (In_with_each v p vs ps h g)

pub In_up_to : (k n c : ℕ) → k ≤ c → c < k + n → In c (from k n)
In_up_to k zero c h l = absurd (omega arith)
In_up_to k (suc n) c h l = elim (split k c h) [ inl e ↦ inl (sym e) | inr g ↦ inr (In_up_to (suc k) n c g (omega arith)) ]
  where
    split : (k c : ℕ) → k ≤ c → (k ≡ c) ⊎ (suc k ≤ c)
    split zero zero h = inl refl
    split zero (suc c) h = inr (omega arith)
    split (suc k) zero h = absurd (omega arith)
    split (suc k) (suc c) h = elim (split k c (omega arith)) [ inl e ↦ inl (ap suc e) | inr g ↦ inr (omega arith) ]

packed_listed : (vs : Values) → packed (listed vs) ≡ vs
packed_listed no_value = refl
packed_listed (and_value v vs) = ap (and_value v) (packed_listed vs)

-- ---- constructors

place_in_cases : (k : ℕ) (xs : List Constructor) (c : ℕ) (go : ℕ → Option Place) (p : Place) → place_in k xs c go ≡ Some p
    → (c < length xs) ⊎ ((d : ℕ) × (go d ≡ Some p) × (c ≡ length xs + d))
place_in_cases k [] c go p e = inr (c, e, omega arith)
place_in_cases k (x ∷ xs) zero go p e = inl (omega arith)
place_in_cases k (x ∷ xs) (suc c) go p e =
    elim (place_in_cases k xs c go p e) [ inl h ↦ inl (omega arith) | inr h ↦ (let q = h.2 in inr (h.0, h.1, omega arith)) ]

pub place_below : (k : ℕ) (table : Table) (c : ℕ) (p : Place) → place_from k table c ≡ Some p → c < count_made table
place_below k [] c p e = cc
place_below k (t ∷ ts) c p e =
    elim (place_in_cases k t.constructors c (place_from (suc k) ts) p e)
    [ inl h ↦ omega arith | inr h ↦ (let q = place_below (suc k) ts h.0 p h.1 in let r = h.2 in omega arith) ]

pub record Made (table : Table) (vs : Values) (o : Option Place) (k : ℕ) : Type 0 where
  pub fields : List Field
  pub place : Place
  pub found : o ≡ Some place
  pub of : fields_of o k ≡ Some fields
  pub at : fields_at o ≡ fields
  pub typed : has_fields table vs (Some (field_types fields)) ≡ true

none_of : (table : Table) (vs : Values) → has_fields table vs None ≡ true → ⊥
none_of table no_value e = cc
none_of table (and_value v vs) e = cc

made_by : (table : Table) (vs : Values) (p : Place) (k : ℕ) (b : Bool) → eqb p.ty k ≡ b
    → has_fields table vs (cond b (Some (field_types p.constructor.fields)) None) ≡ true → Made table vs (Some p) k
made_by table vs p k true e h = record { fields = p.constructor.fields; place = p; found = refl; of = rw e refl; at = refl; typed = h }
made_by table vs p k false e h = absurd (none_of table vs h)

pub made : (table : Table) (vs : Values) (o : Option Place) (k : ℕ) → has_fields table vs (fields_in o k) ≡ true → Made table vs o k
made table vs None k h = absurd (none_of table vs h)
made table vs (Some p) k h = made_by table vs p k (eqb p.ty k) refl h

-- ---- mentioned paths

-- with each path also what it begins with
abbrev pub Rooted : List Path → Type 0
Rooted ps = (p r : Path) → In (p ++ r) ps → In p ps

abbrev pub Deep : List Path → ℕ → Type 0
Deep ps left = (p : Path) → In p ps → length p < left

rooted_below : (ps : List Path) (c j : ℕ) → Rooted ps → Rooted (below c j ps)
rooted_below ps c j h p r i = In_below c j p ps (h ((c, j) ∷ p) r (below_In c j (p ++ r) ps i))

deep_below : (ps : List Path) (c j left : ℕ) → Deep ps (suc left) → Deep (below c j ps) left
deep_below ps c j left h p i = let q = h ((c, j) ∷ p) (below_In c j p ps i) in omega arith

-- ---- candidates

-- numbers in range and known texts go to candidates
pub record Lands (s : Shape) (T : Text → Type 0) (pools : Pools) : Type 0 where
  pub numbers : (x : ℤ) → fits x ≡ true → In (s.number x) pools.integer_pool
  pub texts : (t : Text) → T t → In (s.words t) pools.text_pool

pick_In : (d : Value) (go : Ty → List Path → List Value) (t : Ty) (qs : List Path) (v : Value) (default : Ty → Value) → d ≡ default t
    → Rooted qs → (In [] qs → In v (go t qs)) → In (unless_none qs d v) (field_choices default go t qs)
pick_In d go t [] v default e r h = inl e
pick_In d go t (p ∷ qs) v default e r h = h (r [] p (inl refl))

module _ (s : Shape) (N : ℤ → Type 0) (T : Text → Type 0) (pools : Pools) (lands : Lands s T pools) where
  mutual
    pub choice_In : (v : Value) (t : Ty) (ps : List Path) (left : ℕ) → has_type s.table v t ≡ true → In [] ps → Rooted ps → Deep ps left
        → Known N T ps (Some v) → In (squash s ps v) (choices s.table s.default pools left t ps)
    choice_In (num x) integer ps left e i r d k = In_mapped num (s.number x) pools.integer_pool (lands.numbers x e)
    choice_In (num x) truth ps left e i r d k = cc
    choice_In (num x) string ps left e i r d k = cc
    choice_In (num x) (named n) ps left e i r d k = cc
    choice_In (bool b) integer ps left e i r d k = cc
    choice_In (bool true) truth ps left e i r d k = inr (inl refl)
    choice_In (bool false) truth ps left e i r d k = inl refl
    choice_In (bool b) string ps left e i r d k = cc
    choice_In (bool b) (named n) ps left e i r d k = cc
    choice_In (text t) integer ps left e i r d k = cc
    choice_In (text t) truth ps left e i r d k = cc
    choice_In (text t) string ps left e i r d k = In_mapped text (s.words t) pools.text_pool (lands.texts t (k.1 [] t i refl))
    choice_In (text t) (named n) ps left e i r d k = cc
    choice_In (cons c vs) integer ps left e i r d k = cc
    choice_In (cons c vs) truth ps left e i r d k = cc
    choice_In (cons c vs) string ps left e i r d k = cc
    choice_In (cons c vs) (named n) ps zero e i r d k = let q = d [] i in absurd (omega arith)
    choice_In (cons c vs) (named n) ps (suc left) e i r d k =
        let m = made s.table vs (place_of s.table c) n e in
        let w = squash_each s ps c 0 m.fields vs in
        let go = choices s.table s.default pools left in
        let a = fields_In vs m.fields ps c 0 left m.typed r d (known_fields N T ps c vs k) in
        let b = In_mapped (λ (us : List Value). cons c (packed us)) (listed w) (cells (each_field s.default go c 0 m.fields ps)) a in
        let b' = subst (λ (z : Value). In z (map (λ (us : List Value). cons c (packed us)) (cells (each_field s.default go c 0 m.fields ps)))) (ap (cons c) (packed_listed w)) b in
        let b'' = subst (λ (o : Option (List Field)). In (cons c w) (made_choices s.default go c o ps)) (sym m.of) b' in
        let l = place_below 0 s.table c m.place m.found in
        let f = In_flat (λ (x : ℕ). made_choices s.default go x (fields_of (place_of s.table x) n) ps) c (cons c w) (from 0 (count_made s.table))
        (In_up_to 0 (count_made s.table) c (omega arith) (omega arith)) b'' in
        subst (λ (fs : List Field). In (cons c (squash_each s ps c 0 fs vs)) (choices s.table s.default pools (suc left) (named n) ps)) (sym m.at) f

    fields_In : (vs : Values) (fs : List Field) (ps : List Path) (c j left : ℕ) → has_fields s.table vs (Some (field_types fs)) ≡ true → Rooted ps → Deep ps (suc left)
        → KnownEach N T ps c j vs → In (listed (squash_each s ps c j fs vs)) (cells (each_field s.default (choices s.table s.default pools left) c j fs ps))
    fields_In no_value [] ps c j left e r d k = inl refl
    fields_In no_value (f ∷ fs) ps c j left e r d k = cc
    fields_In (and_value v vs) [] ps c j left e r d k = cc
    fields_In (and_value v vs) (f ∷ fs) ps c j left e r d k =
        let p = and_parts (has_type s.table v f.ty) (has_fields s.table vs (Some (field_types fs))) e in
        let go = choices s.table s.default pools left in
        let a = pick_In (s.default f.ty) go f.ty (below c j ps) (squash s (below c j ps) v) s.default refl (rooted_below ps c j r)
        (λ i. choice_In v f.ty (below c j ps) left p.0 i (rooted_below ps c j r) (deep_below ps c j left d) (known_head N T ps c j v vs k)) in
        let b = fields_In vs fs ps c (suc j) left p.1 r d (known_tail N T ps c j v vs k) in
        In_with_each _ _ _ _ a b

-- ---- cells

abbrev pub squash_all : Shape → List Spot → ℕ → List Value → List Value
squash_all s ss i [] = []
squash_all s ss i (v ∷ vs) = squash s (paths_at i ss) v ∷ squash_all s ss (suc i) vs

module _ (s : Shape) (N : ℤ → Type 0) (T : Text → Type 0) (pools : Pools) (lands : Lands s T pools) (ss : List Spot) (left : ℕ)
    (rooted : (i : ℕ) → Rooted (paths_at i ss)) (deep : (i : ℕ) → Deep (paths_at i ss) left) where
  pub cell_In : (p : List Value) (ts : List Ty) (i : ℕ) → HaveTypes s.table p ts
      → ((j k : ℕ) → k ≡ i + j → j < length ts → In [] (paths_at k ss))
      → ((j k : ℕ) (v : Value) → k ≡ i + j → slice_get p j ≡ Some v → Known N T (paths_at k ss) (Some v))
      → In (squash_all s ss i p) (cells (slot_choices (choices s.table s.default pools left) ss i ts))
  cell_In [] [] i h r k = inl refl
  cell_In [] (t ∷ ts) i h r k = absurd h
  cell_In (v ∷ vs) [] i h r k = absurd h
  cell_In (v ∷ vs) (t ∷ ts) i h r k =
      In_with_each _ _ _ _
      (choice_In s N T pools lands v t (paths_at i ss) left h.0 (r 0 i (omega arith) (omega arith)) (rooted i) (deep i) (k 0 i v (omega arith) refl))
      (cell_In vs ts (suc i) h.1 (λ j m e l. r (suc j) m (omega arith) (omega arith)) (λ j m w e g. k (suc j) m w (omega arith) g))
