-- A default that is built of the choices is the default by rounds.
use Rattle.std.proofs.Common.{◌≡◌, ℕ, zero, suc, ◌+◌, List, [], ◌∷◌, length, Option, Some, None, refl, sym, ap, ◌∙◌, arith, option_map}
use Rattle.std.specs.Prelude.{slice_get}
use Rattle.txs_values.specs.Choices.{choice_of, choices_of, made_by, built_by, built}
use Rattle.txs_values.specs.Default.{all_defaults, first_made, ranked, next_round, rounds}
use Rattle.txs_values.specs.Value.{Ty, integer, truth, string, named, Value, cons, packed, Field, Constructor, TypeDef, Table, Place, place_of, place_in, place_from}
use Rattle.txs_values.proofs.Choosing.{chosen-named}

-- ---- the constructors of a table by their numbers

abbrev place_at : ℕ → Constructor → Place
place_at k x = record { ty = k; constructor = x }

past_these : (k : ℕ) (xs : List Constructor) (d m : ℕ) (go : ℕ → Option Place) → m ≡ length xs + d → place_in k xs m go ≡ go d
past_these k [] d m go e = ap go (let q : m ≡ d = omega arith in q)
past_these k (x ∷ xs) d zero go e = absurd (omega arith)
past_these k (x ∷ xs) d (suc m) go e = past_these k xs d m go (omega arith)

among_these : (k : ℕ) (xs : List Constructor) (d : ℕ) (x : Constructor) (go : ℕ → Option Place) → slice_get xs d ≡ Some x → place_in k xs d go ≡ Some (place_at k x)
among_these k [] d x go e = cc
among_these k (y ∷ xs) zero x go e = let q : y ≡ x = cc in ap (λ (z : Constructor). Some (record { ty = k; constructor = z })) q
among_these k (y ∷ xs) (suc d) x go e = among_these k xs d x go e

-- the types from number k on have their constructors from number c on
abbrev StandsAt : Table → ℕ → ℕ → List TypeDef → Type 0
StandsAt table k c ts = (d m : ℕ) (p : Place) → m ≡ c + d → place_from k ts d ≡ Some p → place_of table m ≡ Some p

stands_first : (table : Table) → StandsAt table 0 0 table
stands_first table d m p e g = ap (place_from 0 table) (let q : m ≡ d = omega arith in q) ∙ g

stands_next : (table : Table) (k c : ℕ) (t : TypeDef) (ts : List TypeDef) → StandsAt table k c (t ∷ ts) → StandsAt table (suc k) (c + length t.constructors) ts
stands_next table k c t ts s d m p e g =
    s (length t.constructors + d) m p (omega arith) (past_these k t.constructors d (length t.constructors + d) (place_from (suc k) ts) refl ∙ g)

-- ---- defaults that are made

-- a constructor of the table with its fields' defaults
pub record IsMade (table : Table) (os : List (Option Value)) (v : Value) : Type 0 where
  pub number : ℕ
  pub place : Place
  pub fields : List Value
  pub placed : place_of table number ≡ Some place
  pub defaults : all_defaults (ranked os) place.constructor.fields ≡ Some fields
  pub value : v ≡ cons number (packed fields)

abbrev pub AreMade : Table → List (Option Value) → List (Option Value) → Type 0
AreMade table all os = (k : ℕ) (v : Value) → slice_get os k ≡ Some (Some v) → IsMade table all v

abbrev Refines : (Ty → Option Value) → (Ty → Option Value) → Type 0
Refines go more = (t : Ty) (v : Value) → go t ≡ Some v → more t ≡ Some v

more-by-rest : (v : Value) (o p : Option (List Value)) → ((ws : List Value) → o ≡ Some ws → p ≡ Some ws) → (vs : List Value)
    → elim o [ None ↦ None | Some ws ↦ Some (v ∷ ws) ] ≡ Some vs → elim p [ None ↦ None | Some ws ↦ Some (v ∷ ws) ] ≡ Some vs
more-by-rest v None p h vs e = absurd (cc)
more-by-rest v (Some ws) p h vs e = ap (λ (q : Option (List Value)). elim q [ None ↦ None | Some us ↦ Some (v ∷ us) ]) (h ws refl) ∙ e

more-by : (a b : Option Value) (o p : Option (List Value)) → ((v : Value) → a ≡ Some v → b ≡ Some v) → ((ws : List Value) → o ≡ Some ws → p ≡ Some ws) → (vs : List Value)
    → elim a [ None ↦ None | Some v ↦ elim o [ None ↦ None | Some ws ↦ Some (v ∷ ws) ] ] ≡ Some vs
    → elim b [ None ↦ None | Some v ↦ elim p [ None ↦ None | Some ws ↦ Some (v ∷ ws) ] ] ≡ Some vs
more-by None b o p g h vs e = absurd (cc)
more-by (Some v) b o p g h vs e =
    ap (λ (q : Option Value). elim q [ None ↦ None | Some w ↦ elim p [ None ↦ None | Some ws ↦ Some (w ∷ ws) ] ]) (g v refl) ∙ more-by-rest v o p h vs e

defaults-more : (go more : Ty → Option Value) → Refines go more → (fs : List Field) (vs : List Value) → all_defaults go fs ≡ Some vs → all_defaults more fs ≡ Some vs
defaults-more go more h [] vs e = e
defaults-more go more h (f ∷ fs) vs e = more-by (go f.ty) (more f.ty) (all_defaults go fs) (all_defaults more fs) (h f.ty) (defaults-more go more h fs) vs e

-- ---- each round

abbrev Keeps : List (Option Value) → List (Option Value) → Type 0
Keeps os more = (k : ℕ) (v : Value) → slice_get os k ≡ Some (Some v) → slice_get more k ≡ Some (Some v)

ranked-by : (o p : Option (Option Value)) → ((v : Value) → o ≡ Some (Some v) → p ≡ Some (Some v)) → (v : Value)
    → elim o [ None ↦ None | Some r ↦ r ] ≡ Some v → elim p [ None ↦ None | Some r ↦ r ] ≡ Some v
ranked-by None p h v e = absurd (cc)
ranked-by (Some r) p h v e = ap (λ (q : Option (Option Value)). elim q [ None ↦ None | Some s ↦ s ]) (h v (ap Some e))

ranked-more : (os more : List (Option Value)) → Keeps os more → Refines (ranked os) (ranked more)
ranked-more os more h integer v e = e
ranked-more os more h truth v e = e
ranked-more os more h string v e = e
ranked-more os more h (named k) v e = ranked-by (slice_get os k) (slice_get more k) (h k) v e

round-keeps : (all : List (Option Value)) (c : ℕ) (ts : Table) (os : List (Option Value)) → length os ≡ length ts → Keeps os (next_round all c ts os)
round-keeps all c ts [] h k v e = absurd (cc)
round-keeps all c [] (o ∷ os) h k v e = absurd (omega (arith, h))
round-keeps all c (t ∷ ts) (Some w ∷ os) h zero v e = e
round-keeps all c (t ∷ ts) (None ∷ os) h zero v e = absurd (cc)
round-keeps all c (t ∷ ts) (Some w ∷ os) h (suc k) v e = round-keeps all (c + length t.constructors) ts os (omega (arith, h)) k v e
round-keeps all c (t ∷ ts) (None ∷ os) h (suc k) v e = round-keeps all (c + length t.constructors) ts os (omega (arith, h)) k v e

first-made-by : (table : Table) (all : List (Option Value)) (k c : ℕ) (x : Constructor) (o : Option (List Value)) (r : Option Value) → place_of table c ≡ Some (place_at k x)
    → all_defaults (ranked all) x.fields ≡ o → ((v : Value) → r ≡ Some v → IsMade table all v) → (v : Value)
    → elim o [ None ↦ r | Some vs ↦ Some (cons c (packed vs)) ] ≡ Some v → IsMade table all v
first-made-by table all k c x None r p d h v e = h v e
first-made-by table all k c x (Some vs) r p d h v e = record { number = c; place = place_at k x; fields = vs; placed = p; defaults = d; value = let q : cons c (packed vs) ≡ v = cc in sym q }

first-is-made : (table : Table) (all : List (Option Value)) (k c : ℕ) (xs : List Constructor)
    → ((d m : ℕ) (x : Constructor) → m ≡ c + d → slice_get xs d ≡ Some x → place_of table m ≡ Some (place_at k x))
    → (v : Value) → first_made (ranked all) c xs ≡ Some v → IsMade table all v
first-is-made table all k c [] h v e = absurd (cc)
first-is-made table all k c (x ∷ xs) h v e =
    first-made-by table all k c x (all_defaults (ranked all) x.fields) (first_made (ranked all) (suc c) xs) (h zero c x (omega arith) refl) refl
    (first-is-made table all k (suc c) xs (λ d m y q r. h (suc d) m y (omega arith) r)) v e

round-is-made : (table : Table) (all : List (Option Value)) (k c : ℕ) (ts : List TypeDef) (os : List (Option Value)) → StandsAt table k c ts → AreMade table all os → AreMade table all (next_round all c ts os)
round-is-made table all k c [] os s h j v x = absurd (cc)
round-is-made table all k c (t ∷ ts) [] s h j v x = absurd (cc)
round-is-made table all k c (t ∷ ts) (Some w ∷ os) s h zero v x = h zero v x
round-is-made table all k c (t ∷ ts) (None ∷ os) s h zero v x =
    first-is-made table all k c t.constructors (λ d i z r g. s d i (place_at k z) r (among_these k t.constructors d z (place_from (suc k) ts) g)) v (let y : first_made (ranked all) c t.constructors ≡ Some v = cc in y)
round-is-made table all k c (t ∷ ts) (Some w ∷ os) s h (suc j) v x =
    round-is-made table all (suc k) (c + length t.constructors) ts os (stands_next table k c t ts s) (λ i u g. h (suc i) u g) j v x
round-is-made table all k c (t ∷ ts) (None ∷ os) s h (suc j) v x =
    round-is-made table all (suc k) (c + length t.constructors) ts os (stands_next table k c t ts s) (λ i u g. h (suc i) u g) j v x

made-more : (table : Table) (os more : List (Option Value)) → Keeps os more → (v : Value) → IsMade table os v → IsMade table more v
made-more table os more h v m = record {
  number = m.number;
  place = m.place;
  fields = m.fields;
  placed = m.placed;
  defaults = defaults-more (ranked os) (ranked more) (ranked-more os more h) m.place.constructor.fields m.fields m.defaults;
  value = m.value;
}

round-length : (all : List (Option Value)) (c : ℕ) (ts : Table) (os : List (Option Value)) → length os ≡ length ts → length (next_round all c ts os) ≡ length ts
round-length all c [] os h = refl
round-length all c (t ∷ ts) [] h = absurd (omega (arith, h))
round-length all c (t ∷ ts) (Some v ∷ os) h = let r = round-length all (c + length t.constructors) ts os (omega (arith, h)) in omega (arith, r)
round-length all c (t ∷ ts) (None ∷ os) h = let r = round-length all (c + length t.constructors) ts os (omega (arith, h)) in omega (arith, r)

none-length : (ts : Table) → length (rounds 0 ts) ≡ length ts
none-length [] = refl
none-length (t ∷ ts) = let r = none-length ts in omega (arith, r)

rounds-length : (n : ℕ) (table : Table) → length (rounds n table) ≡ length table
rounds-length zero table = none-length table
rounds-length (suc n) table = round-length (rounds n table) 0 table (rounds n table) (rounds-length n table)

none-made : (table : Table) (all : List (Option Value)) (ts : Table) → AreMade table all (rounds 0 ts)
none-made table all [] k v e = absurd (cc)
none-made table all (t ∷ ts) zero v e = absurd (cc)
none-made table all (t ∷ ts) (suc k) v e = none-made table all ts k v e

pub rounds-made : (n : ℕ) (table : Table) → AreMade table (rounds n table) (rounds n table)
rounds-made zero table = none-made table (rounds 0 table) table
rounds-made (suc n) table =
    let os = rounds n table in
    λ k v e. made-more table os (next_round os 0 table os) (round-keeps os 0 table os (rounds-length n table)) v
    (round-is-made table os 0 0 table os (stands_first table) (rounds-made n table) k v e)

-- ---- what is built

built-cons : (c : ℕ) (vs : List Value) (o : Option (List Value)) (v : Value) → ((us : List Value) → o ≡ Some us → us ≡ vs) → option_map (λ us. cons c (packed us)) o ≡ Some v → cons c (packed vs) ≡ v
built-cons c vs None v h e = absurd (cc)
built-cons c vs (Some us) v h e = let q : cons c (packed us) ≡ v = cc in ap (λ (ws : List Value). cons c (packed ws)) (sym (h us refl)) ∙ q

built-made : (go : Ty → Option Value) (table : Table) (os : List (Option Value)) → Refines go (ranked os) → (w v : Value) → IsMade table os w
    → built_by go table (Some (choice_of w)) ≡ Some v → w ≡ v
built-made go table os h w v m e =
    let f : built_by go table (Some (choice_of (cons m.number (packed m.fields)))) ≡ Some v = ap (λ (q : Value). built_by go table (Some (choice_of q))) (sym m.value) ∙ e in
    let g : made_by go m.number (Some m.place) ≡ Some v = ap (made_by go m.number) (sym m.placed) ∙ f in
    m.value ∙ built-cons m.number m.fields (all_defaults go m.place.constructor.fields) v
    (λ us q. let r = defaults-more go (ranked os) h m.place.constructor.fields us q in let d = m.defaults in let z : us ≡ m.fields = cc in z) g

built-by-named : (go : Ty → Option Value) (table : Table) (os : List (Option Value)) → Refines go (ranked os) → AreMade table os os → (k : ℕ) (o : Option (Option Value)) → slice_get os k ≡ o
    → (v : Value) → built_by go table (option_map choice_of (elim o [ None ↦ None | Some r ↦ r ])) ≡ Some v → elim o [ None ↦ None | Some r ↦ r ] ≡ Some v
built-by-named go table os h s k None x v e = absurd (cc)
built-by-named go table os h s k (Some None) x v e = absurd (cc)
built-by-named go table os h s k (Some (Some w)) x v e = ap Some (built-made go table os h w v (s k w x) e)

pub built-ranked : (n : ℕ) (table : Table) (os : List (Option Value)) → AreMade table os os → Refines (built n table (choices_of os)) (ranked os)
built-ranked zero table os s t v e = absurd (cc)
built-ranked (suc n) table os s integer v e = e
built-ranked (suc n) table os s truth v e = e
built-ranked (suc n) table os s string v e = e
built-ranked (suc n) table os s (named k) v e =
    built-by-named (built n table (choices_of os)) table os (built-ranked n table os s) s k (slice_get os k) refl v
    (ap (built_by (built n table (choices_of os)) table) (sym (chosen-named os k)) ∙ e)
