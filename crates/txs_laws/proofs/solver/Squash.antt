-- Values squashed to candidates: numbers pressed, texts renamed, unmentioned fields at their defaults.
use Rattle.std.proofs.Common.{◌≡◌, ℕ, zero, suc, ◌+◌, ℤ, Bool, true, false, ◌&&◌, cond, eqb, inl, inr, List, [], ◌∷◌, ◌++◌, map, refl, sym, ap, ◌∙◌, subst, arith}
use Rattle.std.specs.Prelude.{Option, Some, None, slice_get}
use Rattle.std.specs.Ordering.{int_eq}
use Rattle.std.specs.Str.{bytes_eq}
use Rattle.std.proofs.lemmas.Bool.{and_parts, and_from, both_ways, eqb-true, eq-eqb}
use Rattle.txs_values.specs.Value.{Ty, Value, num, bool, text, cons, Values, no_value, and_value, listed, Table, Field, Place, place_of, same_value, same_each}
use Rattle.txs_terms.specs.Rules.{In}
use Rattle.txs_guard.specs.Mentioned.{Path, below, places_of, places_of_each, numbers_in, numbers_in_each, texts_in, texts_in_each}
use Rattle.txs_laws.proofs.rules.Lists.{In_front, In_back, In_mapped}
use Rattle.txs_laws.proofs.solver.Texts.{Text}

pub record Shape : Type 0 where
  pub number : ℤ → ℤ
  pub words : Text → Text
  pub default : Ty → Value
  pub table : Table

abbrev pub unless_none : List Path → Value → Value → Value
unless_none [] d v = d
unless_none (p ∷ ps) d v = v

abbrev pub fields_at : Option Place → List Field
fields_at None = []
fields_at (Some p) = p.constructor.fields

abbrev mutual
  pub squash : Shape → List Path → Value → Value
  squash s ps (num x) = num (s.number x)
  squash s ps (bool b) = bool b
  squash s ps (text t) = text (s.words t)
  squash s ps (cons c vs) = cons c (squash_each s ps c 0 (fields_at (place_of s.table c)) vs)

  pub squash_each : Shape → List Path → ℕ → ℕ → List Field → Values → Values
  squash_each s ps c j fs no_value = no_value
  squash_each s ps c j [] (and_value v vs) = and_value (squash s (below c j ps) v) (squash_each s ps c (suc j) [] vs)
  squash_each s ps c j (f ∷ fs) (and_value v vs) =
      and_value (unless_none (below c j ps) (s.default f.ty) (squash s (below c j ps) v)) (squash_each s ps c (suc j) fs vs)

-- ---- paths

below_test : (a b c j : ℕ) → (eqb a c && eqb b j) ≡ true → (a ≡ c) × (b ≡ j)
below_test a b c j e = let p = and_parts (eqb a c) (eqb b j) e in (eqb-true a c p.0, eqb-true b j p.1)

In_below_step : (c j : ℕ) (p : Path) (s : ℕ × ℕ) (r : Path) (qs : List Path) (b : Bool) → (eqb s.0 c && eqb s.1 j) ≡ b
    → In ((c, j) ∷ p) ((s ∷ r) ∷ qs) → (In ((c, j) ∷ p) qs → In p (below c j qs)) → In p (cond b (r ∷ below c j qs) (below c j qs))
In_below_step c j p s r qs true e (inl q) go = inl (let x = q in cc)
In_below_step c j p s r qs false e (inl q) go =
    let x : (c, j) ≡ s = cc in
    let x0 : s.0 ≡ c = ap (λ (z : ℕ × ℕ). z.0) (sym x) in
    let x1 : s.1 ≡ j = ap (λ (z : ℕ × ℕ). z.1) (sym x) in
    absurd (both_ways (eqb s.0 c && eqb s.1 j) e (and_from (eqb s.0 c) (eqb s.1 j) (eq-eqb s.0 c x0) (eq-eqb s.1 j x1)))
In_below_step c j p s r qs true e (inr h) go = inr (go h)
In_below_step c j p s r qs false e (inr h) go = go h

pub In_below : (c j : ℕ) (p : Path) (qs : List Path) → In ((c, j) ∷ p) qs → In p (below c j qs)
In_below c j p [] h = absurd h
In_below c j p ([] ∷ qs) (inl e) = cc
In_below c j p ([] ∷ qs) (inr h) = In_below c j p qs h
In_below c j p ((s ∷ r) ∷ qs) h = In_below_step c j p s r qs (eqb s.0 c && eqb s.1 j) refl h (In_below c j p qs)

below_In_step : (c j : ℕ) (p : Path) (s : ℕ × ℕ) (r : Path) (qs : List Path) (b : Bool) → (eqb s.0 c && eqb s.1 j) ≡ b
    → In p (cond b (r ∷ below c j qs) (below c j qs)) → (In p (below c j qs) → In ((c, j) ∷ p) qs) → In ((c, j) ∷ p) ((s ∷ r) ∷ qs)
below_In_step c j p (a, b') r qs true e (inl q) go =
    let t = below_test a b' c j e in inl (let u = t.0 in let v = t.1 in let w = q in cc)
below_In_step c j p s r qs true e (inr h) go = inr (go h)
below_In_step c j p s r qs false e h go = inr (go h)

pub below_In : (c j : ℕ) (p : Path) (qs : List Path) → In p (below c j qs) → In ((c, j) ∷ p) qs
below_In c j p [] h = absurd h
below_In c j p ([] ∷ qs) h = inr (below_In c j p qs h)
below_In c j p ((s ∷ r) ∷ qs) h = below_In_step c j p s r qs (eqb s.0 c && eqb s.1 j) refl h (below_In c j p qs)

abbrev pub along : Path → List Path → List Path
along [] ps = ps
along (s ∷ p) ps = along p (below s.0 s.1 ps)

pub along_push : (p : Path) (s : ℕ × ℕ) (ps : List Path) → along (p ++ s ∷ []) ps ≡ below s.0 s.1 (along p ps)
along_push [] s ps = refl
along_push (t ∷ p) s ps = along_push p s (below t.0 t.1 ps)

pub In_along : (p r : Path) (ps : List Path) → In (p ++ r) ps → In r (along p ps)
In_along [] r ps h = h
In_along ((a, b) ∷ p) r ps h = In_along p r (below a b ps) (In_below a b (p ++ r) ps h)

pub along_In : (p r : Path) (ps : List Path) → In r (along p ps) → In (p ++ r) ps
along_In [] r ps h = h
along_In ((a, b) ∷ p) r ps h = below_In a b (p ++ r) ps (along_In p r (below a b ps) h)

-- ---- the value under a path

abbrev pub step : ℕ × ℕ → Option Value → Option Value
step s None = None
step s (Some (num x)) = None
step s (Some (bool b)) = None
step s (Some (text t)) = None
step s (Some (cons d vs)) = cond (eqb s.0 d) (slice_get (listed vs) s.1) None

abbrev pub follow : Option Value → Path → Option Value
follow o [] = o
follow o (s ∷ p) = follow (step s o) p

pub follow_push : (o : Option Value) (p : Path) (s : ℕ × ℕ) → follow o (p ++ s ∷ []) ≡ step s (follow o p)
follow_push o [] s = refl
follow_push o (t ∷ p) s = follow_push (step t o) p s

pub follow-append : (o : Option Value) (p r : Path) → follow o (p ++ r) ≡ follow (follow o p) r
follow-append o [] r = refl
follow-append o (t ∷ p) r = follow-append (step t o) p r

pub follow_none : (p : Path) → follow None p ≡ None
follow_none [] = refl
follow_none (s ∷ p) = follow_none p

-- ---- fields of a squashed value

abbrev pub map_some : (Value → Value) → Option Value → Option Value
map_some f None = None
map_some f (Some v) = Some (f v)

chosen : (ps : List Path) (p : Path) (d v : Value) → In p ps → unless_none ps d v ≡ v
chosen [] p d v h = absurd h
chosen (q ∷ ps) p d v h = refl

pub field_of_squashed : (s : Shape) (ps : List Path) (c k m i : ℕ) (fs : List Field) (vs : Values) → m ≡ k + i → (p : Path) → In p (below c m ps)
    → slice_get (listed (squash_each s ps c k fs vs)) i ≡ map_some (squash s (below c m ps)) (slice_get (listed vs) i)
field_of_squashed s ps c k m i fs no_value e p h = refl
field_of_squashed s ps c k m zero [] (and_value v vs) e p h =
    let q : k ≡ m = omega arith in ap (λ (z : ℕ). Some (squash s (below c z ps) v)) q
field_of_squashed s ps c k m zero (f ∷ fs) (and_value v vs) e p h =
    let q : m ≡ k = omega arith in
    let g = subst (λ (z : ℕ). In p (below c z ps)) q h in
    let a = chosen (below c k ps) p (s.default f.ty) (squash s (below c k ps) v) g in
    ap Some a ∙ ap (λ (z : ℕ). Some (squash s (below c z ps) v)) (sym q)
field_of_squashed s ps c k m (suc i) [] (and_value v vs) e p h = field_of_squashed s ps c (suc k) m i [] vs (omega arith) p h
field_of_squashed s ps c k m (suc i) (f ∷ fs) (and_value v vs) e p h = field_of_squashed s ps c (suc k) m i fs vs (omega arith) p h

-- ---- what is known of the numbers and texts at mentioned places

abbrev pub Known : (ℤ → Type 0) → (Text → Type 0) → List Path → Option Value → Type 0
Known N T ps o =
    ((p : Path) (x : ℤ) → In p ps → follow o p ≡ Some (num x) → N x) × ((p : Path) (t : Text) → In p ps → follow o p ≡ Some (text t) → T t)

-- of the fields from number j on
abbrev pub KnownEach : (ℤ → Type 0) → (Text → Type 0) → List Path → ℕ → ℕ → Values → Type 0
KnownEach N T ps c j vs =
    ((i m : ℕ) (p : Path) (x : ℤ) → m ≡ j + i → In ((c, m) ∷ p) ps → follow (slice_get (listed vs) i) p ≡ Some (num x) → N x)
    × ((i m : ℕ) (p : Path) (t : Text) → m ≡ j + i → In ((c, m) ∷ p) ps → follow (slice_get (listed vs) i) p ≡ Some (text t) → T t)

step_made : (c m : ℕ) (vs : Values) → step (c, m) (Some (cons c vs)) ≡ slice_get (listed vs) m
step_made c m vs = rw (eq-eqb c c refl) refl

module _ (N : ℤ → Type 0) (T : Text → Type 0) where
  pub known_fields : (ps : List Path) (c : ℕ) (vs : Values) → Known N T ps (Some (cons c vs)) → KnownEach N T ps c 0 vs
  known_fields ps c vs k = (
    (λ i m p x e h f. k.0 ((c, m) ∷ p) x h
        (ap (λ (o : Option Value). follow o p) (step_made c m vs ∙ ap (slice_get (listed vs)) (let q : m ≡ i = omega arith in q)) ∙ f)),
    (λ i m p x e h f. k.1 ((c, m) ∷ p) x h
        (ap (λ (o : Option Value). follow o p) (step_made c m vs ∙ ap (slice_get (listed vs)) (let q : m ≡ i = omega arith in q)) ∙ f)),
  )

  pub known_head : (ps : List Path) (c j : ℕ) (v : Value) (vs : Values) → KnownEach N T ps c j (and_value v vs) → Known N T (below c j ps) (Some v)
  known_head ps c j v vs k =
      ((λ p x h f. k.0 zero j p x (omega arith) (below_In c j p ps h) f), (λ p x h f. k.1 zero j p x (omega arith) (below_In c j p ps h) f))

  pub known_tail : (ps : List Path) (c j : ℕ) (v : Value) (vs : Values) → KnownEach N T ps c j (and_value v vs) → KnownEach N T ps c (suc j) vs
  known_tail ps c j v vs k =
      ((λ i m p x e h f. k.0 (suc i) m p x (omega arith) h f), (λ i m p x e h f. k.1 (suc i) m p x (omega arith) h f))

-- ---- a squashed value is a constant exactly where the value is

-- numbers keep their place among the constants, and texts stay apart
pub record Keeps (s : Shape) (N : ℤ → Type 0) (T : Text → Type 0) (ks : List ℤ) (ts : List Text) : Type 0 where
  pub numbers : (x k : ℤ) → N x → In k ks → int_eq (s.number x) k ≡ int_eq x k
  pub texts : (x t : Text) → T x → In t ts → bytes_eq (s.words x) t ≡ bytes_eq x t

abbrev pub Within : {A : Type 0} → List A → List A → Type 0
Within {A = A} xs ys = (x : A) → In x xs → In x ys

and_right : (a b b' : Bool) → (a ≡ true → b ≡ b') → (a && b) ≡ (a && b')
and_right true b b' h = h refl
and_right false b b' h = refl

and_both : (a a' b b' : Bool) → a ≡ a' → b ≡ b' → (a && b) ≡ (a' && b')
and_both a a' b b' p q = cc

root_of : (v : Value) → In [] (places_of v)
root_of (num x) = inl refl
root_of (bool b) = inl refl
root_of (text t) = inl refl
root_of (cons c vs) = inl refl

inner : (v : Value) (vs : Values) (ps : List Path) (c d j : ℕ) → d ≡ c → Within (places_of_each d j (and_value v vs)) ps → Within (places_of v) (below c j ps)
inner v vs ps c d j e pl p i =
    In_below c j p ps (subst (λ (z : ℕ). In ((z, j) ∷ p) ps) e
    (pl ((d, j) ∷ p) (In_front ((d, j) ∷ p) (map (λ r. (d, j) ∷ r) (places_of v)) (places_of_each d (suc j) vs) (In_mapped (λ r. (d, j) ∷ r) p (places_of v) i))))

module _ (s : Shape) (N : ℤ → Type 0) (T : Text → Type 0) (ks : List ℤ) (ts : List Text) (keeps : Keeps s N T ks ts) where
  mutual
    pub squashed_same : (v w : Value) (ps : List Path) → Known N T ps (Some w) → Within (places_of v) ps → Within (numbers_in v) ks → Within (texts_in v) ts
        → same_value (squash s ps w) v ≡ same_value w v
    squashed_same (num k) (num x) ps h pl nk tk = keeps.numbers x k (h.0 [] x (pl [] (inl refl)) refl) (nk k (inl refl))
    squashed_same (num k) (bool b) ps h pl nk tk = refl
    squashed_same (num k) (text t) ps h pl nk tk = refl
    squashed_same (num k) (cons c ws) ps h pl nk tk = refl
    squashed_same (bool k) (num x) ps h pl nk tk = refl
    squashed_same (bool k) (bool b) ps h pl nk tk = refl
    squashed_same (bool k) (text t) ps h pl nk tk = refl
    squashed_same (bool k) (cons c ws) ps h pl nk tk = refl
    squashed_same (text k) (num x) ps h pl nk tk = refl
    squashed_same (text k) (bool b) ps h pl nk tk = refl
    squashed_same (text k) (text t) ps h pl nk tk = keeps.texts t k (h.1 [] t (pl [] (inl refl)) refl) (tk k (inl refl))
    squashed_same (text k) (cons c ws) ps h pl nk tk = refl
    squashed_same (cons d vs) (num x) ps h pl nk tk = refl
    squashed_same (cons d vs) (bool b) ps h pl nk tk = refl
    squashed_same (cons d vs) (text t) ps h pl nk tk = refl
    squashed_same (cons d vs) (cons c ws) ps h pl nk tk =
        and_right (eqb c d) _ _ (λ t. let e = eqb-true c d t in
        each_same vs ws ps c d 0 (fields_at (place_of s.table c)) (sym e) (known_fields N T ps c ws h) (λ p i. pl p (inr i)) nk tk)

    each_same : (vs ws : Values) (ps : List Path) (c d j : ℕ) (fs : List Field) → d ≡ c → KnownEach N T ps c j ws
        → Within (places_of_each d j vs) ps → Within (numbers_in_each vs) ks → Within (texts_in_each vs) ts
        → same_each (squash_each s ps c j fs ws) vs ≡ same_each ws vs
    each_same no_value no_value ps c d j fs e h pl nk tk = refl
    each_same no_value (and_value w ws) ps c d j [] e h pl nk tk = refl
    each_same no_value (and_value w ws) ps c d j (f ∷ fs) e h pl nk tk = refl
    each_same (and_value v vs) no_value ps c d j fs e h pl nk tk = refl
    each_same (and_value v vs) (and_value w ws) ps c d j [] e h pl nk tk =
        and_both _ _ _ _
        (squashed_same v w (below c j ps) (known_head N T ps c j w ws h) (inner v vs ps c d j e pl)
        (λ x i. nk x (In_front x (numbers_in v) (numbers_in_each vs) i)) (λ x i. tk x (In_front x (texts_in v) (texts_in_each vs) i)))
        (each_same vs ws ps c d (suc j) [] e (known_tail N T ps c j w ws h)
        (λ p i. pl p (In_back p (map (λ r. (d, j) ∷ r) (places_of v)) (places_of_each d (suc j) vs) i))
        (λ x i. nk x (In_back x (numbers_in v) (numbers_in_each vs) i)) (λ x i. tk x (In_back x (texts_in v) (texts_in_each vs) i)))
    each_same (and_value v vs) (and_value w ws) ps c d j (f ∷ fs) e h pl nk tk =
        and_both _ _ _ _
        (ap (λ (z : Value). same_value z v) (chosen (below c j ps) [] (s.default f.ty) (squash s (below c j ps) w) (inner v vs ps c d j e pl [] (root_of v)))
        ∙ squashed_same v w (below c j ps) (known_head N T ps c j w ws h) (inner v vs ps c d j e pl)
        (λ x i. nk x (In_front x (numbers_in v) (numbers_in_each vs) i)) (λ x i. tk x (In_front x (texts_in v) (texts_in_each vs) i)))
        (each_same vs ws ps c d (suc j) fs e (known_tail N T ps c j w ws h)
        (λ p i. pl p (In_back p (map (λ r. (d, j) ∷ r) (places_of v)) (places_of_each d (suc j) vs) i))
        (λ x i. nk x (In_back x (numbers_in v) (numbers_in_each vs) i)) (λ x i. tk x (In_back x (texts_in v) (texts_in_each vs) i)))
