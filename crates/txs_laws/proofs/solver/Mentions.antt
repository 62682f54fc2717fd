-- The mentioned places of a query, and what a point has there.
use Rattle.std.proofs.Common.{◌≡◌, ℕ, zero, suc, ◌+◌, ◌<◌, ◌≤◌, max, Bool, true, false, ◌&&◌, cond, eqb, ◌⊎◌, inl, inr, List, [], ◌∷◌, ◌++◌, length, map, refl, sym, ap, ◌∙◌, subst, arith}
use Rattle.std.specs.Prelude.{Option, Some, None, slice_get}
use Rattle.std.proofs.lemmas.Bool.{and_parts, or_cases, eqb-true, eq-eqb, both_ways}
use Rattle.txs_values.specs.Value.{field_types, Ty, integer, truth, string, named, Value, num, bool, text, cons, Values, no_value, and_value, listed, Table, Field, Place, place_of, has_type, has_fields, HaveTypes}
use Rattle.txs_terms.specs.Expr.{Expr}
use Rattle.txs_terms.specs.Rules.{In}
use Rattle.txs_guard.specs.Atom.{atoms_of_all}
use Rattle.txs_guard.specs.Candidates.{longest}
use Rattle.txs_guard.specs.Mentioned.{Path, flat, some_list, sides_of, constants_of, prefixes, spot, spots_below, spots_of, slot_spots, mentioned, paths_at, places_of, any_is, same_spot, same_path, once, of_type, places_with}
use Rattle.txs_guard.specs.Place.{Spot, spot_of, spot_type, is_type, type_under, field_type}
use Rattle.txs_guard.specs.Query.{Query}
use Rattle.txs_laws.proofs.rules.Lists.{In_front, In_back, In-append, In_mapped, In-map}
use Rattle.txs_laws.proofs.solver.Squash.{step, follow, fields_at}
use Rattle.txs_laws.proofs.solver.Members.{Rooted, Deep, In_flat, In-flat, made}

-- ---- paths of a slot

paths_step : (i : ℕ) (p : Path) (s : Spot) (ss : List Spot) (b : Bool) → eqb s.base i ≡ b → In (spot i p) (s ∷ ss) → (In (spot i p) ss → In p (paths_at i ss))
    → In p (cond b (s.path ∷ paths_at i ss) (paths_at i ss))
paths_step i p s ss true e (inl q) go = inl (ap (λ (z : Spot). z.path) q)
paths_step i p s ss false e (inl q) go = absurd (both_ways _ e (eq-eqb s.base i (ap (λ (z : Spot). z.base) (sym q))))
paths_step i p s ss true e (inr h) go = inr (go h)
paths_step i p s ss false e (inr h) go = go h

pub In_paths : (i : ℕ) (p : Path) (ss : List Spot) → In (spot i p) ss → In p (paths_at i ss)
In_paths i p [] h = absurd h
In_paths i p (s ∷ ss) h = paths_step i p s ss (eqb s.base i) refl h (In_paths i p ss)

spot_same : (i : ℕ) (p : Path) (s : Spot) → i ≡ s.base → p ≡ s.path → spot i p ≡ s
spot_same i p s e f = ap (λ (z : ℕ). spot z p) e ∙ ap (spot s.base) f

back_step : (i : ℕ) (p : Path) (s : Spot) (ss : List Spot) (b : Bool) → eqb s.base i ≡ b → In p (cond b (s.path ∷ paths_at i ss) (paths_at i ss))
    → (In p (paths_at i ss) → In (spot i p) ss) → In (spot i p) (s ∷ ss)
back_step i p s ss true e (inl q) go = inl (spot_same i p s (sym (eqb-true s.base i e)) q)
back_step i p s ss true e (inr h) go = inr (go h)
back_step i p s ss false e h go = inr (go h)

pub paths_In : (i : ℕ) (p : Path) (ss : List Spot) → In p (paths_at i ss) → In (spot i p) ss
paths_In i p [] h = absurd h
paths_In i p (s ∷ ss) h = back_step i p s ss (eqb s.base i) refl h (paths_In i p ss)

-- ---- with each place those that its path begins with

abbrev RootedSpots : List Spot → Type 0
RootedSpots ss = (i : ℕ) (p r : Path) → In (spot i (p ++ r)) ss → In (spot i p) ss

front_empty : (p r : Path) → p ++ r ≡ [] → p ≡ []
front_empty [] r e = refl
front_empty (s ∷ p) r e = cc

prefix_In : (p r x : Path) → In (p ++ r) (prefixes x) → In p (prefixes x)
prefix_In p r [] (inl e) = inl (front_empty p r e)
prefix_In p r [] (inr h) = absurd h
prefix_In p r (s ∷ x) (inl e) = inl (front_empty p r e)
prefix_In [] r (s ∷ x) (inr h) = inl refl
prefix_In (t ∷ p) r (s ∷ x) (inr h) =
    let m = In-map (λ (z : Path). s ∷ z) (t ∷ (p ++ r)) (prefixes x) h in
    let e : t ∷ (p ++ r) ≡ s ∷ m.0 = m.2 in
    let a : p ++ r ≡ m.0 = cc in
    let b : s ≡ t = cc in
    let g = prefix_In p r x (subst (λ (z : Path). In z (prefixes x)) (sym a) m.1) in
    inr (subst (λ (z : ℕ × ℕ). In (z ∷ p) (map (λ (y : Path). s ∷ y) (prefixes x))) b (In_mapped (λ (y : Path). s ∷ y) p (prefixes x) g))

prefix_self : (x : Path) → In x (prefixes x)
prefix_self [] = inl refl
prefix_self (s ∷ x) = inr (In_mapped (λ (y : Path). s ∷ y) x (prefixes x) (prefix_self x))

rooted_slots : (k : ℕ) (ts : List Ty) → RootedSpots (slot_spots k ts)
rooted_slots k [] i p r h = absurd h
rooted_slots k (t ∷ ts) i p r (inl e) =
    let a : i ≡ k = ap (λ (z : Spot). z.base) e in
    let b = front_empty p r (ap (λ (z : Spot). z.path) e) in
    inl (ap (λ (z : ℕ). spot z p) a ∙ ap (spot k) b)
rooted_slots k (t ∷ ts) i p r (inr h) = inr (rooted_slots (suc k) ts i p r h)

rooted_flat : {A : Type 0} (f : A → List Spot) (xs : List A) → ((x : A) → RootedSpots (f x)) → RootedSpots (flat f xs)
rooted_flat f xs g i p r h =
    let m = In-flat f (spot i (p ++ r)) xs h in In_flat f m.0 (spot i p) xs m.1 (g m.0 i p r m.2)

rooted_map : (b : ℕ) (xs : List Path) → RootedSpots (map (spot b) (flat prefixes xs))
rooted_map b xs i p r h =
    let m = In-map (spot b) (spot i (p ++ r)) (flat prefixes xs) h in
    let e : i ≡ b = ap (λ (z : Spot). z.base) m.2 in
    let f : p ++ r ≡ m.0 = ap (λ (z : Spot). z.path) m.2 in
    let g = In-flat prefixes m.0 xs m.1 in
    let k = prefix_In p r g.0 (subst (λ (z : Path). In z (prefixes g.0)) (sym f) g.2) in
    let l = In_flat prefixes g.0 p xs g.1 k in
    subst (λ (z : ℕ). In (spot z p) (map (spot b) (flat prefixes xs))) (sym e) (In_mapped (spot b) p (flat prefixes xs) l)

rooted_append : (xs ys : List Spot) → RootedSpots xs → RootedSpots ys → RootedSpots (xs ++ ys)
rooted_append xs ys f g i p r h =
    elim (In-append (spot i (p ++ r)) xs ys h) [ inl a ↦ In_front (spot i p) xs ys (f i p r a) | inr b ↦ In_back (spot i p) xs ys (g i p r b) ]

rooted_mentioned : (q : Query) → RootedSpots (mentioned q)
rooted_mentioned q =
    rooted_append (slot_spots 0 q.slots) (flat (spots_of q) (atoms_of_all q.conjuncts)) (rooted_slots 0 q.slots)
    (rooted_flat (spots_of q) (atoms_of_all q.conjuncts)
    (λ e. rooted_flat (λ a. flat (spots_below (constants_of q e)) (some_list (spot_of a))) (sides_of e)
    (λ a. rooted_flat (spots_below (constants_of q e)) (some_list (spot_of a)) (λ s. rooted_map s.base (s.path ∷ flat (λ v. map (λ p. s.path ++ p) (places_of v)) (constants_of q e))))))

pub rooted : (q : Query) (i : ℕ) → Rooted (paths_at i (mentioned q))
rooted q i p r h = In_paths i p (mentioned q) (rooted_mentioned q i p r (paths_In i (p ++ r) (mentioned q) h))

max_left : (a b : ℕ) → a ≤ max a b
max_left a b = omega arith

long_enough : (s : Spot) (ss : List Spot) → In s ss → length s.path ≤ longest ss
long_enough s [] h = absurd h
long_enough s (t ∷ ss) (inl e) = let q : length s.path ≡ length t.path = ap (λ (z : Spot). length z.path) e in omega arith
long_enough s (t ∷ ss) (inr h) = let q = long_enough s ss h in omega arith

pub deep : (ss : List Spot) (i : ℕ) → Deep (paths_at i ss) (suc (longest ss))
deep ss i p h = let q = long_enough (spot i p) ss (paths_In i p ss h) in omega arith

slot_spot : (k : ℕ) (ts : List Ty) (i m : ℕ) → m ≡ k + i → i < length ts → In (spot m []) (slot_spots k ts)
slot_spot k [] i m e h = absurd (omega arith)
slot_spot k (t ∷ ts) zero m e h = inl (ap (λ (z : ℕ). spot z []) (let q : m ≡ k = omega arith in q))
slot_spot k (t ∷ ts) (suc i) m e h = inr (slot_spot (suc k) ts i m (omega arith) (omega arith))

pub slot_mentioned : (q : Query) (i : ℕ) → i < length q.slots → In [] (paths_at i (mentioned q))
slot_mentioned q i h = In_paths i [] (mentioned q) (In_front (spot i []) (slot_spots 0 q.slots) _ (slot_spot 0 q.slots i i (omega arith) h))

-- a side of an atom, and the places below it that a constant of the atom has
pub side_mentioned : (q : Query) (e a : Expr) (s : Spot) → In e (atoms_of_all q.conjuncts) → In a (sides_of e) → spot_of a ≡ Some s
    → In s.path (paths_at s.base (mentioned q))
side_mentioned q e a s he ha hs =
    let l = s.path ∷ flat (λ v. map (λ p. s.path ++ p) (places_of v)) (constants_of q e) in
    let x = In_mapped (spot s.base) s.path (flat prefixes l) (In_flat prefixes s.path s.path l (inl refl) (prefix_self s.path)) in
    let y = In_flat (spots_below (constants_of q e)) s (spot s.base s.path) (some_list (spot_of a))
    (subst (λ (o : Option Spot). In s (some_list o)) (sym hs) (inl refl)) x in
    let z = In_flat (λ b. flat (spots_below (constants_of q e)) (some_list (spot_of b))) a (spot s.base s.path) (sides_of e) ha y in
    In_paths s.base s.path (mentioned q)
    (In_back _ (slot_spots 0 q.slots) (flat (spots_of q) (atoms_of_all q.conjuncts)) (In_flat (spots_of q) e (spot s.base s.path) (atoms_of_all q.conjuncts) he z))

pub constant_mentioned : (q : Query) (e a : Expr) (s : Spot) (v : Value) (p : Path) → In e (atoms_of_all q.conjuncts) → In a (sides_of e) → spot_of a ≡ Some s
    → In v (constants_of q e) → In p (places_of v) → In (s.path ++ p) (paths_at s.base (mentioned q))
constant_mentioned q e a s v p he ha hs hv hp =
    let l = s.path ∷ flat (λ w. map (λ r. s.path ++ r) (places_of w)) (constants_of q e) in
    let w = In_flat (λ u. map (λ r. s.path ++ r) (places_of u)) v (s.path ++ p) (constants_of q e) hv (In_mapped (λ r. s.path ++ r) p (places_of v) hp) in
    let x = In_mapped (spot s.base) (s.path ++ p) (flat prefixes l) (In_flat prefixes (s.path ++ p) (s.path ++ p) l (inr w) (prefix_self (s.path ++ p))) in
    let y = In_flat (spots_below (constants_of q e)) s (spot s.base (s.path ++ p)) (some_list (spot_of a))
    (subst (λ (o : Option Spot). In s (some_list o)) (sym hs) (inl refl)) x in
    let z = In_flat (λ b. flat (spots_below (constants_of q e)) (some_list (spot_of b))) a (spot s.base (s.path ++ p)) (sides_of e) ha y in
    In_paths s.base (s.path ++ p) (mentioned q)
    (In_back _ (slot_spots 0 q.slots) (flat (spots_of q) (atoms_of_all q.conjuncts)) (In_flat (spots_of q) e (spot s.base (s.path ++ p)) (atoms_of_all q.conjuncts) he z))

-- ---- each once

abbrev pub Tells : {A : Type 0} → (A → A → Bool) → Type 0
Tells {A = A} same = (x y : A) → same x y ≡ true → x ≡ y

any_In : {A : Type 0} (same : A → A → Bool) → Tells same → (x : A) (xs : List A) → any_is same x xs ≡ true → In x xs
any_In same t x [] e = cc
any_In same t x (y ∷ ys) e =
    elim (or_cases (same x y) (any_is same x ys) e) [ inl a ↦ inl (t x y a) | inr b ↦ inr (any_In same t x ys b) ]

once_step : {A : Type 0} (same : A → A → Bool) → Tells same → (x z : A) (seen xs : List A) (b : Bool) → any_is same z seen ≡ b → In x (z ∷ xs)
    → ((seen' : List A) → In x xs → In x (once same seen' xs) ⊎ In x seen')
    → In x (cond b (once same seen xs) (z ∷ once same (z ∷ seen) xs)) ⊎ In x seen
once_step same t x z seen xs true e (inl q) go = inr (subst (λ w. In w seen) (sym q) (any_In same t z seen e))
once_step same t x z seen xs true e (inr h) go = go seen h
once_step same t x z seen xs false e (inl q) go = inl (inl q)
once_step same t x z seen xs false e (inr h) go =
    elim (go (z ∷ seen) h) [ inl a ↦ inl (inr a) | inr b ↦ elim b [ inl q ↦ inl (inl q) | inr c ↦ inr c ] ]

once_all : {A : Type 0} (same : A → A → Bool) → Tells same → (x : A) (seen xs : List A) → In x xs → In x (once same seen xs) ⊎ In x seen
once_all same t x seen [] h = absurd h
once_all same t x seen (z ∷ xs) h = once_step same t x z seen xs (any_is same z seen) refl h (λ seen' g. once_all same t x seen' xs g)

pub In_once : {A : Type 0} (same : A → A → Bool) → Tells same → (x : A) (xs : List A) → In x xs → In x (once same [] xs)
In_once same t x xs h = elim (once_all same t x [] xs h) [ inl a ↦ a | inr b ↦ absurd b ]

same_path-true : (p r : Path) → same_path p r ≡ true → p ≡ r
same_path-true [] [] e = refl
same_path-true [] (t ∷ r) e = cc
same_path-true (s ∷ p) [] e = cc
same_path-true ((a, b) ∷ p) ((c, d) ∷ r) e =
    let x = and_parts (eqb a c && eqb b d) (same_path p r) e in
    let y = and_parts (eqb a c) (eqb b d) x.0 in
    let u = eqb-true a c y.0 in let v = eqb-true b d y.1 in let w = same_path-true p r x.1 in cc

tells_spots : Tells same_spot
tells_spots s t e =
    let x = and_parts (eqb s.base t.base) (same_path s.path t.path) e in
    spot_same s.base s.path t (eqb-true s.base t.base x.0) (same_path-true s.path t.path x.1)

typed_step : (q : Query) (t : Ty) (s x : Spot) (ss : List Spot) (b : Bool) → is_type t (spot_type q (Some x)) ≡ b → is_type t (spot_type q (Some s)) ≡ true
    → In s (x ∷ ss) → (In s ss → In s (of_type q t ss)) → In s (cond b (x ∷ of_type q t ss) (of_type q t ss))
typed_step q t s x ss true e h (inl r) go = inl r
typed_step q t s x ss false e h (inl r) go = absurd (both_ways _ e (ap (λ (z : Spot). is_type t (spot_type q (Some z))) (sym r) ∙ h))
typed_step q t s x ss true e h (inr g) go = inr (go g)
typed_step q t s x ss false e h (inr g) go = go g

In_of_type : (q : Query) (t : Ty) (s : Spot) (ss : List Spot) → is_type t (spot_type q (Some s)) ≡ true → In s ss → In s (of_type q t ss)
In_of_type q t s [] e h = absurd h
In_of_type q t s (x ∷ ss) e h = typed_step q t s x ss (is_type t (spot_type q (Some x))) refl e h (In_of_type q t s ss e)

pub In_places : (q : Query) (t : Ty) (s : Spot) → is_type t (spot_type q (Some s)) ≡ true → In s (mentioned q) → In s (places_with q t)
In_places q t s e h = In_once same_spot tells_spots s (of_type q t (mentioned q)) (In_of_type q t s (mentioned q) e h)

-- ---- what stands there has the type of the place

abbrev TypedAt : Table → Option Value → Option Ty → Type 0
TypedAt table o t = (w : Value) → o ≡ Some w → (u : Ty) × (t ≡ Some u) × (has_type table w u ≡ true)

field_typed : (table : Table) (vs : Values) (fs : List Field) (j : ℕ) (w : Value) → has_fields table vs (Some (field_types fs)) ≡ true → slice_get (listed vs) j ≡ Some w
    → (f : Field) × (slice_get fs j ≡ Some f) × (has_type table w f.ty ≡ true)
field_typed table no_value fs j w e h = cc
field_typed table (and_value v vs) [] j w e h = cc
field_typed table (and_value v vs) (f ∷ fs) zero w e h =
    let p = and_parts (has_type table v f.ty) (has_fields table vs (Some (field_types fs))) e in
    let q : v ≡ w = cc in (f, refl, ap (λ (z : Value). has_type table z f.ty) (sym q) ∙ p.0)
field_typed table (and_value v vs) (f ∷ fs) (suc j) w e h =
    field_typed table vs fs j w ((and_parts (has_type table v f.ty) (has_fields table vs (Some (field_types fs))) e).1) h

field_type_is : (o : Option Place) (p : Place) (j : ℕ) (f : Field) → o ≡ Some p → slice_get (fields_at o) j ≡ Some f → field_type o j ≡ Some f.ty
field_type_is o p j f e h =
    let a : slice_get p.constructor.fields j ≡ Some f = subst (λ (z : Option Place). slice_get (fields_at z) j ≡ Some f) e h in
    ap (λ (z : Option Place). field_type z j) e ∙ ap (λ (z : Option Field). elim z [ None ↦ None | Some g ↦ Some g.ty ]) a

under_typed : (table : Table) (d j : ℕ) (vs : Values) (u : Ty) (w : Value) → has_type table (cons d vs) u ≡ true → slice_get (listed vs) j ≡ Some w
    → (t : Ty) × (field_type (place_of table d) j ≡ Some t) × (has_type table w t ≡ true)
under_typed table d j vs integer w e h = cc
under_typed table d j vs truth w e h = cc
under_typed table d j vs string w e h = cc
under_typed table d j vs (named k) w e h =
    let m = made table vs (place_of table d) k e in
    let f = field_typed table vs m.fields j w m.typed h in
    (f.0.ty, field_type_is (place_of table d) m.place j f.0 m.found (ap (λ (z : List Field). slice_get z j) m.at ∙ f.1), f.2)

chosen_some : (b : Bool) (o : Option Value) (w : Value) → cond b o None ≡ Some w → (b ≡ true) × (o ≡ Some w)
chosen_some true o w e = (refl, e)
chosen_some false o w e = cc

step_typed : (table : Table) (s : ℕ × ℕ) (o : Option Value) (t : Option Ty) → TypedAt table o t → TypedAt table (step s o) (field_type (place_of table s.0) s.1)
step_typed table s None t h w e = cc
step_typed table s (Some (num x)) t h w e = cc
step_typed table s (Some (bool x)) t h w e = cc
step_typed table s (Some (text x)) t h w e = cc
step_typed table s (Some (cons d vs)) t h w e =
    let p = chosen_some (eqb s.0 d) (slice_get (listed vs) s.1) w e in
    let q = eqb-true s.0 d p.0 in
    let u = h (cons d vs) refl in
    let r = under_typed table d s.1 vs u.0 w u.2 p.1 in
    (r.0, ap (λ (z : ℕ). field_type (place_of table z) s.1) q ∙ r.1, r.2)

follow_typed : (table : Table) (p : Path) (o : Option Value) (t : Option Ty) → TypedAt table o t → TypedAt table (follow o p) (type_under table t p)
follow_typed table [] o t h = h
follow_typed table (s ∷ p) o t h = follow_typed table p (step s o) (field_type (place_of table s.0) s.1) (step_typed table s o t h)

point_typed : (table : Table) (p : List Value) (ts : List Ty) (i : ℕ) → HaveTypes table p ts → TypedAt table (slice_get p i) (slice_get ts i)
point_typed table [] ts i h w e = cc
point_typed table (v ∷ vs) [] i h w e = absurd h
point_typed table (v ∷ vs) (t ∷ ts) zero h w e = let q : v ≡ w = cc in (t, refl, ap (λ (z : Value). has_type table z t) (sym q) ∙ h.0)
point_typed table (v ∷ vs) (t ∷ ts) (suc i) h w e = point_typed table vs ts i h.1 w e

pub place_typed : (q : Query) (p : List Value) → HaveTypes q.defs.table p q.slots → (s : Spot) (w : Value) → follow (slice_get p s.base) s.path ≡ Some w
    → (u : Ty) × (spot_type q (Some s) ≡ Some u) × (has_type q.defs.table w u ≡ true)
place_typed q p h s w e = follow_typed q.defs.table s.path (slice_get p s.base) (slice_get q.slots s.base) (point_typed q.defs.table p q.slots s.base h) w e
