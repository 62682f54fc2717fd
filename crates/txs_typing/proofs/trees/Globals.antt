-- What the names of the file mean is in the definitions.
use Rattle.std.proofs.Common.{◌≡◌, ◌⊎◌, ◌<◌, ◌+◌, ℕ, Bool, true, false, cond, bytes_eq, ap, sym, subst, ◌∙◌, List, [], ◌∷◌, ◌++◌, append_assoc, length, slice_get, Option, Some, None, refl, inl, inr, zero, suc, arith}
use Rattle.std.proofs.lemmas.Option.{slice_get-map}
use Rattle.std.specs.Prelude.{option_map}
use Rattle.txs_values.specs.Value.{Ty, Field, Constructor, Table, Place, place_of, place_in, place_from, field_types}
use Rattle.txs_terms.specs.Typed.{Signature, IsType, AreTypes}
use Rattle.txs_terms.specs.Defs.{Function, Constant, Definitions, HaveHeaders, HaveConstantTypes, signatures_of}
use Rattle.txs_typing.specs.Names.{Variable, Global, scope_over, Meaning, named_value, named_constant, named_function, named_constructor, named_test, named_selector, named_not, named_to_string, named_from_string, named_len, named_at, last_of, global_of, built_ins, selectors, constructor_globals, table_globals, function_globals, constant_globals}
use Rattle.txs_typing.proofs.Laws.{HasTypes}
use Rattle.txs_typing.proofs.trees.Unique.{some_injective}
use Rattle.txs_typing.proofs.trees.NotBoth.{none≢some}

-- the constructor of this number is this one, of this type
abbrev pub Stands : Definitions → ℕ → ℕ → Constructor → Type 0
Stands d c k x = place_of d.table c ≡ Some (record { ty = k; constructor = x })

abbrev pub Good : Definitions → Meaning → Type 0
Good d (named_value b) = Unit {0}
Good d (named_constant k t) = (slice_get (signatures_of d).constants k ≡ Some t) × IsType d.table t
Good d (named_function f ts t) = (slice_get (signatures_of d).functions f ≡ Some (record { takes = ts; gives = t })) × AreTypes d.table ts × IsType d.table t
Good d (named_constructor c k ts) = (x : Constructor) × Stands d c k x × (field_types x.fields ≡ ts) × AreTypes d.table ts × (k < length d.table)
Good d (named_test c k) = (x : Constructor) × Stands d c k x × (k < length d.table)
Good d (named_selector c j k t) = (x : Constructor) × Stands d c k x × (slice_get (field_types x.fields) j ≡ Some t) × IsType d.table t × (k < length d.table)
Good d named_not = Unit {0}
Good d named_to_string = Unit {0}
Good d named_from_string = Unit {0}
Good d named_len = Unit {0}
Good d named_at = Unit {0}

abbrev pub AreGood : Definitions → List Global → Type 0
AreGood d [] = Unit {0}
AreGood d (g ∷ gs) = Good d g.means × AreGood d gs

pub good_append : (d : Definitions) (xs ys : List Global) → AreGood d xs → AreGood d ys → AreGood d (xs ++ ys)
good_append d [] ys p q = q
good_append d (x ∷ xs) ys p q = (p.0, good_append d xs ys p.1 q)

pub by_test : {A : Type 0} (b : Bool) {a c : A} {r : Option A} → cond b (Some a) r ≡ Some c → (a ≡ c) ⊎ (r ≡ Some c)
by_test true h = inl (some_injective h)
by_test false h = inr h

pub good_found : (d : Definitions) (x : List ℕ) (gs : List Global) (m : Meaning) → AreGood d gs → global_of x gs ≡ Some m → Good d m
good_found d x [] m p h = absurd (none≢some h)
good_found d x (g ∷ gs) m p h = elim (by_test (bytes_eq g.name x) h) [ inl e ↦ subst (Good d) e p.0 | inr h' ↦ good_found d x gs m p.1 h' ]

-- ---- types

pub type_at : (table : Table) (ts : List Ty) (j : ℕ) (t : Ty) → AreTypes table ts → slice_get ts j ≡ Some t → IsType table t
type_at table [] j t p h = absurd (none≢some h)
type_at table (s ∷ ts) zero t p h = subst (IsType table) (some_injective h) p.0
type_at table (s ∷ ts) (suc j) t p h = type_at table ts j t p.1 h

good_selectors : (d : Definitions) (c k : ℕ) (x : Constructor) → Stands d c k x → AreTypes d.table (field_types x.fields) → k < length d.table → (j : ℕ) (fs : List Field)
    → ((i : ℕ) → slice_get (field_types x.fields) (j + i) ≡ slice_get (field_types fs) i) → AreGood d (selectors c k j fs)
good_selectors d c k x p types below j [] h = tt
good_selectors d c k x p types below j (f ∷ fs) h =
    let at_j : slice_get (field_types x.fields) j ≡ Some f.ty = subst (λ n. slice_get (field_types x.fields) n ≡ Some f.ty) (omega arith) (h 0) in (
      (x, p, at_j, type_at d.table (field_types x.fields) j f.ty types at_j, below),
      good_selectors d c k x p types below (suc j) fs (λ i. subst (λ n. slice_get (field_types x.fields) n ≡ slice_get (field_types fs) i) (omega arith) (h (suc i))),
    )

pub good_constructors : (d : Definitions) → HasTypes d → (k : ℕ) → k < length d.table → (c : ℕ) (xs : List Constructor) (go : ℕ → Option Place)
    → ((i : ℕ) → place_of d.table (c + i) ≡ place_in k xs i go) → AreGood d (constructor_globals k c xs)
good_constructors d ok k below c [] go h = tt
good_constructors d ok k below c (x ∷ xs) go h =
    let p : Stands d c k x = subst (λ n. Stands d n k x) (omega arith) (h 0) in
    let types = ok.fields c (record { ty = k; constructor = x }) p in (
      (x, p, refl, types, below),
      (
        (x, p, below),
        good_append d (selectors c k 0 x.fields) (constructor_globals k (suc c) xs)
            (good_selectors d c k x p types below 0 x.fields (λ i. ap (slice_get (field_types x.fields)) (omega arith)))
            (good_constructors d ok k below (suc c) xs go (λ i. subst (λ n. place_of d.table n ≡ place_in k xs i go) (omega arith) (h (suc i)))),
      ),
    )

pub place_after : (k : ℕ) (xs : List Constructor) (go : ℕ → Option Place) (i : ℕ) → place_in k xs (length xs + i) go ≡ go i
place_after k [] go i = ap go (omega arith)
place_after k (x ∷ xs) go i =
    let e : suc (length xs + i) ≡ suc (length xs) + i = omega arith in
    subst (λ n. place_in k (x ∷ xs) n go ≡ go i) e (place_after k xs go i)

good_table : (d : Definitions) → HasTypes d → (k c : ℕ) (ts : Table) → k + length ts ≡ length d.table → ((i : ℕ) → place_of d.table (c + i) ≡ place_from k ts i)
    → AreGood d (table_globals k c ts)
good_table d ok k c [] n h = tt
good_table d ok k c (t ∷ ts) n h =
    good_append d (constructor_globals k c t.constructors) (table_globals (suc k) (c + length t.constructors) ts)
    (good_constructors d ok k (omega (arith, n)) c t.constructors (place_from (suc k) ts) h)
    (good_table d ok (suc k) (c + length t.constructors) ts (omega (arith, n)) (λ i.
    subst (λ n. place_of d.table n ≡ place_from (suc k) ts i) (omega arith) (h (length t.constructors + i) ∙ place_after k t.constructors (place_from (suc k) ts) i)))

-- ---- functions and constants

pub get_after : {A : Type 0} (before : List A) (a : A) (after : List A) → slice_get (before ++ a ∷ after) (length before) ≡ Some a
get_after [] a after = refl
get_after (b ∷ before) a after = get_after before a after

length_after : {A : Type 0} (before : List A) (a : A) → length (before ++ a ∷ []) ≡ suc (length before)
length_after [] a = refl
length_after (b ∷ before) a = ap suc (length_after before a)

good_functions : (d : Definitions) (i : ℕ) (before fs : List Function) → HaveHeaders d.table fs → d.functions ≡ before ++ fs → i ≡ length before → AreGood d (function_globals i fs)
good_functions d i before [] ok e n = tt
good_functions d i before (f ∷ fs) ok e n =
    let found : slice_get d.functions i ≡ Some f = ap (λ l. slice_get l i) e ∙ (ap (slice_get (before ++ f ∷ fs)) n ∙ get_after before f fs) in
    let make : (Function → Signature) = λ f. record { takes = f.takes; gives = f.gives } in (
      (slice_get-map make d.functions i ∙ ap (option_map make) found, ok.0.0, ok.0.1),
      good_functions d (suc i) (before ++ f ∷ []) fs ok.1 (e ∙ sym (append_assoc before (f ∷ []) fs)) (ap suc n ∙ sym (length_after before f)),
    )

good_constants : (d : Definitions) (i : ℕ) (before ks : List Constant) → HaveConstantTypes d.table ks → d.constants ≡ before ++ ks → i ≡ length before → AreGood d (constant_globals i ks)
good_constants d i before [] ok e n = tt
good_constants d i before (k ∷ ks) ok e n =
    let found : slice_get d.constants i ≡ Some k = ap (λ l. slice_get l i) e ∙ (ap (slice_get (before ++ k ∷ ks)) n ∙ get_after before k ks) in
    let make : (Constant → Ty) = λ k. k.ty in (
      (slice_get-map make d.constants i ∙ ap (option_map make) found, ok.0),
      good_constants d (suc i) (before ++ k ∷ []) ks ok.1 (e ∙ sym (append_assoc before (k ∷ []) ks)) (ap suc n ∙ sym (length_after before k)),
    )

pub good_globals : (d : Definitions) (variables : List Variable) → HasTypes d → AreGood d (scope_over d variables).globals
good_globals d variables ok =
    good_append d built_ins _ (tt, (tt, (tt, (tt, (tt, (tt, (tt, tt)))))))
    (good_append d (table_globals 0 0 d.table) _ (good_table d ok 0 0 d.table (omega arith) (λ i. ap (place_of d.table) (omega arith)))
    (good_append d (function_globals 0 d.functions) (constant_globals 0 d.constants) (good_functions d 0 [] d.functions ok.functions refl refl) (good_constants d 0 [] d.constants ok.constants refl refl)))

-- ---- variables

abbrev There : ℕ → List Variable → ℕ × Ty → Type 0
There i vs p = (k : ℕ) × (p.0 ≡ i + k) × (slice_get (field_types vs) k ≡ Some p.1)

there_by : (x : List ℕ) (i : ℕ) (v : Variable) (vs : List Variable) (p : ℕ × Ty) (r : Option (ℕ × Ty)) → (r ≡ Some p → There (suc i) vs p)
    → elim r [ None ↦ cond (bytes_eq v.name x) (Some (i, v.ty)) None | Some p ↦ Some p ] ≡ Some p → There i (v ∷ vs) p
there_by x i v vs p (Some q) rest h = let there = rest h in (suc there.0, omega (arith, there.1), there.2)
there_by x i v vs p None rest h = elim (by_test (bytes_eq v.name x) h) [
  | inl same ↦ (0, omega (arith, ap (λ q. q.0) same), ap (λ q. Some q.1) same)
  | inr n ↦ absurd (none≢some n)
]

last_there : (x : List ℕ) (i : ℕ) (vs : List Variable) (p : ℕ × Ty) → last_of x i vs ≡ Some p → There i vs p
last_there x i [] p h = absurd (none≢some h)
last_there x i (v ∷ vs) p h = there_by x i v vs p (last_of x (suc i) vs) (λ e. last_there x (suc i) vs p e) h

-- the variable stands at its number
pub variable_at : (x : List ℕ) (vs : List Variable) (p : ℕ × Ty) → last_of x 0 vs ≡ Some p → slice_get (field_types vs) p.0 ≡ Some p.1
variable_at x vs p h =
    let there = last_there x 0 vs p h in ap (slice_get (field_types vs)) (omega (arith, there.1)) ∙ there.2
