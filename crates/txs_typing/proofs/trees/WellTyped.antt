-- What a tree means over definitions is well typed.
use Rattle.std.proofs.Common.{◌≡◌, ℕ, Bool, true, ◌&&◌, cond, ap, sym, subst, ◌∙◌, List, [], ◌∷◌, ◌++◌, length, map, Option, Some, None, refl, inl, inr, arith, eq-eqb}
use Rattle.std.proofs.lemmas.Bool.{and_parts}
use Rattle.txs_values.specs.Value.{Ty, integer, truth, string, named, num, text, cons, no_value, Constructor, Table, place_of, field_types, fields_in, has_type, has_fields}
use Rattle.txs_terms.specs.Expr.{Expr, val, slot, local, one, negate}
use Rattle.txs_terms.specs.View.{gathered}
use Rattle.txs_terms.specs.Typed.{IsType, AreTypes, negate_of, negation_of, to_text_of, from_text_of, len_of, made_by_of, select_of, plus_of, minus_of, times_of, divide_of, remainder_of, concat_of, differ_of, less_of, at_most_of, more_of, at_least_of, char_of, Of, val_of, slot_of, local_of, constant_of, one_of, two_of, equal_of, both_of, either_of, choose_of, apply_of, build_of, let_of, Ofs, none_of, more_of'}
use Rattle.txs_terms.specs.Defs.{Definitions, signatures_of}
use Rattle.txs_syntax.specs.declared.ast.Op.{Op}
use Rattle.txs_syntax.specs.declared.ast.Ast.{Ast}
use Rattle.txs_syntax.specs.declared.ast.Binding.{Binding}
use Rattle.txs_syntax.specs.declared.ast.Ast.TheVariants as tree
use Rattle.txs_typing.specs.Names.{Variable, Scope, Meaning, named_value, named_constant, named_function, named_constructor, named_test, named_selector, named_not, named_to_string, named_from_string, named_len, named_at, IsUnknown, scope_over, inside, last_of, global_of, alone, global_alone, slot_or_global, needed, takes, called, meaning}
use Rattle.txs_typing.proofs.Laws.{ElaboratedIsTyped, HasTypes}
use Rattle.txs_typing.specs.Answer.{IsNeed}
use Rattle.txs_typing.specs.Elaborates.{folded, Suits, Operator, or_operator, and_operator, less_operator, at_most_operator, more_operator, at_least_operator, join_operator, plus_operator, minus_operator, times_operator, divide_operator, remainder_operator, Comparison, equal_comparison, different_comparison, Makes, function_made, value_made, constructor_made, test_made, selector_made, not_made, to_string_made, from_string_made, len_made, at_made, Elaborates, number, quoted, name, call, negated, operated, compared, compared_back, grouped, chosen, chosen_freely, bound, unbound, ElaboratesEach, nothing, one_more, all_true, ints_step, HasInts}
use Rattle.txs_typing.proofs.trees.Folds.{fold_number, fold_call, fold_negate, fold_binary, fold_group, fold_if, fold_let}
use Rattle.txs_typing.proofs.trees.Globals.{Good, AreGood, good_found, good_globals, type_at, variable_at}

-- the scope is one over these definitions, in which each type has its definition
pub record Sound (d : Definitions) (scope : Scope) : Type 0 where
  pub types : scope.types ≡ length d.table
  pub globals : AreGood d scope.globals
  pub slots : AreTypes d.table (field_types scope.slots)
  pub locals : AreTypes d.table (field_types scope.locals)

abbrev pub IsOf : Definitions → Scope → Expr → Ty → Type 0
IsOf d scope e t = Of d.table (signatures_of d) (field_types scope.slots) (field_types scope.locals) e t

abbrev pub Typed : Definitions → Scope → Expr → Ty → Type 0
Typed d scope e t = IsOf d scope e t × IsType d.table t

-- the needed type, where one is
abbrev pub Exact : Option Ty → Ty → Type 0
Exact None t = Unit {0}
Exact (Some s) t = s ≡ t

abbrev pub TypedAs : Definitions → Scope → Option Ty → Expr → Ty → Type 0
TypedAs d scope want e t = Typed d scope e t × Exact want t

is_known : (d : Definitions) (scope : Scope) (t : Ty) → scope.types ≡ length d.table → IsType d.table t → IsUnknown scope t → ⊥
is_known d scope integer n p u = u
is_known d scope truth n p u = u
is_known d scope string n p u = u
is_known d scope (named k) n p u = omega (arith, n, p, u)

exact : (d : Definitions) (scope : Scope) (want : Option Ty) (t : Ty) → Sound d scope → IsNeed d.table want → IsType d.table t → Suits scope want t → Exact want t
exact d scope None t ok need p h = tt
exact d scope (Some s) t ok need p (inl h) = h
exact d scope (Some s) t ok need p (inr (inl u)) = absurd (is_known d scope s ok.types need u)
exact d scope (Some s) t ok need p (inr (inr u)) = absurd (is_known d scope t ok.types p u)

-- of a type that is the needed one
pub at_need : (d : Definitions) (scope : Scope) (e : Expr) (s t : Ty) → TypedAs d scope (Some s) e t → IsOf d scope e s
at_need d scope e s t p = subst (IsOf d scope e) (sym p.1) p.0.0

-- ---- scopes

types_after : (vs : List Variable) (v : Variable) → field_types (vs ++ v ∷ []) ≡ field_types vs ++ v.ty ∷ []
types_after [] v = refl
types_after (w ∷ vs) v = ap (λ ts. w.ty ∷ ts) (types_after vs v)

types_with : (table : Table) (vs : List Variable) (v : Variable) → AreTypes table (field_types vs) → IsType table v.ty → AreTypes table (field_types (vs ++ v ∷ []))
types_with table [] v p h = (h, tt)
types_with table (w ∷ vs) v p h = (p.0, types_with table vs v p.1 h)

sound_inside : (d : Definitions) (scope : Scope) (x : List ℕ) (t : Ty) → Sound d scope → IsType d.table t → Sound d (inside scope x t)
sound_inside d scope x t ok h = record {
  types = ok.types;
  globals = ok.globals;
  slots = ok.slots;
  locals = types_with d.table scope.locals (record { name = x; ty = t }) ok.locals h;
}

-- ---- names

empty_value : (table : Table) (c k : ℕ) (x : Constructor) → place_of table c ≡ Some (record { ty = k; constructor = x }) → field_types x.fields ≡ []
    → has_type table (cons c no_value) (named k) ≡ true
empty_value table c k x p h =
    ap (λ r. has_fields table no_value (fields_in r k)) p
    ∙ (ap (λ b. has_fields table no_value (cond b (Some (field_types x.fields)) None)) (eq-eqb k k refl)
    ∙ ap (λ ts. has_fields table no_value (Some ts)) h)

abbrev Means : Definitions → Scope → Option (Expr × Ty) → Type 0
Means d scope None = Unit {0}
Means d scope (Some p) = Typed d scope p.0 p.1

alone_typed : (d : Definitions) (scope : Scope) (m : Meaning) → Good d m → Means d scope (alone m)
alone_typed d scope (named_value b) g = (val_of refl, tt)
alone_typed d scope (named_constant k t) g = (constant_of g.0, g.1)
alone_typed d scope (named_function f ts t) g = tt
alone_typed d scope (named_constructor c k []) g = (val_of (empty_value d.table c k g.0 g.1 g.2), g.4)
alone_typed d scope (named_constructor c k (t ∷ ts)) g = tt
alone_typed d scope (named_test c k) g = tt
alone_typed d scope (named_selector c j k t) g = tt
alone_typed d scope named_not g = tt
alone_typed d scope named_to_string g = tt
alone_typed d scope named_from_string g = tt
alone_typed d scope named_len g = tt
alone_typed d scope named_at g = tt

global_typed : (d : Definitions) (scope : Scope) (x : List ℕ) (r : Option Meaning) → Sound d scope → global_of x scope.globals ≡ r
    → Means d scope (elim r [ None ↦ None | Some m ↦ alone m ])
global_typed d scope x None ok h = tt
global_typed d scope x (Some m) ok h = alone_typed d scope m (good_found d x scope.globals m ok.globals h)

slot_typed : (d : Definitions) (scope : Scope) (x : List ℕ) (r : Option (ℕ × Ty)) → Sound d scope → last_of x 0 scope.slots ≡ r
    → Means d scope (elim r [ None ↦ global_alone scope x | Some p ↦ Some (slot p.0, p.1) ])
slot_typed d scope x None ok h = global_typed d scope x (global_of x scope.globals) ok refl
slot_typed d scope x (Some p) ok h =
    let there = variable_at x scope.slots p h in (slot_of there, type_at d.table (field_types scope.slots) p.0 p.1 ok.slots there)

local_typed : (d : Definitions) (scope : Scope) (x : List ℕ) (r : Option (ℕ × Ty)) → Sound d scope → last_of x 0 scope.locals ≡ r
    → Means d scope (elim r [ None ↦ slot_or_global scope x | Some p ↦ Some (local p.0, p.1) ])
local_typed d scope x None ok h = slot_typed d scope x (last_of x 0 scope.slots) ok refl
local_typed d scope x (Some p) ok h =
    let there = variable_at x scope.locals p h in (local_of there, type_at d.table (field_types scope.locals) p.0 p.1 ok.locals there)

name_typed : (d : Definitions) (scope : Scope) (x : List ℕ) (e : Expr) (t : Ty) → Sound d scope → meaning scope x ≡ Some (e, t) → Typed d scope e t
name_typed d scope x e t ok h = subst (Means d scope) h (local_typed d scope x (last_of x 0 scope.locals) ok refl)

-- ---- calls

abbrev pub EachTyped : Definitions → Scope → List (Option Ty) → List Expr → Type 0
EachTyped d scope [] [] = Unit {0}
EachTyped d scope [] (e ∷ es) = ⊥
EachTyped d scope (n ∷ ns) [] = ⊥
EachTyped d scope (n ∷ ns) (e ∷ es) = ((t : Ty) × TypedAs d scope n e t) × EachTyped d scope ns es

abbrev pub AreNeeds : Table → List (Option Ty) → Type 0
AreNeeds table [] = Unit {0}
AreNeeds table (n ∷ ns) = IsNeed table n × AreNeeds table ns

needs_of_types : (table : Table) (ts : List Ty) → AreTypes table ts → AreNeeds table (needed ts)
needs_of_types table [] p = tt
needs_of_types table (t ∷ ts) p = (p.0, needs_of_types table ts p.1)

-- what is called needs types of the table
abbrev Takes : Definitions → Option (List (Option Ty)) → Type 0
Takes d None = Unit {0}
Takes d (Some needs) = AreNeeds d.table needs

takes_types : (d : Definitions) (m : Meaning) → Good d m → Takes d (takes m)
takes_types d (named_value b) g = tt
takes_types d (named_constant k t) g = tt
takes_types d (named_function f ts t) g = needs_of_types d.table ts g.1
takes_types d (named_constructor c k ts) g = needs_of_types d.table ts g.3
takes_types d (named_test c k) g = (g.2, tt)
takes_types d (named_selector c j k t) g = (g.4, tt)
takes_types d named_not g = (tt, tt)
takes_types d named_to_string g = (tt, tt)
takes_types d named_from_string g = (tt, tt)
takes_types d named_len g = (tt, tt)
takes_types d named_at g = (tt, (tt, tt))

each_of_types : (d : Definitions) (scope : Scope) (ts : List Ty) (es : List Expr) → EachTyped d scope (needed ts) es
    → Ofs d.table (signatures_of d) (field_types scope.slots) (field_types scope.locals) (gathered es) ts
each_of_types d scope [] [] p = none_of
each_of_types d scope [] (e ∷ es) p = absurd p
each_of_types d scope (t ∷ ts) [] p = absurd p
each_of_types d scope (t ∷ ts) (e ∷ es) p = more_of' (at_need d scope e t p.0.0 p.0.1) (each_of_types d scope ts es p.1)

-- what is called is given arguments of its types
abbrev IsGiven : Definitions → Scope → Option (List (Option Ty)) → List Expr → Type 0
IsGiven d scope None es = ⊥
IsGiven d scope (Some needs) es = EachTyped d scope needs es

made_typed : (d : Definitions) (scope : Scope) {want : Option Ty} {m : Meaning} {es : List Expr} {e : Expr} {t : Ty} → Makes want m es e t → Good d m
    → IsNeed d.table want → IsGiven d scope (takes m) es → Typed d scope e t
made_typed d scope (function_made want f ts t es) g need p = (apply_of g.0 (each_of_types d scope ts es p), g.2)
made_typed d scope (value_made want c k) g need p = (val_of (empty_value d.table c k g.0 g.1 g.2), g.4)
made_typed d scope (constructor_made want c k t ts es) g need p =
    (build_of g.1 (subst (Ofs d.table (signatures_of d) (field_types scope.slots) (field_types scope.locals) (gathered es)) (sym g.2) (each_of_types d scope (t ∷ ts) es p)), g.4)
made_typed d scope (test_made want c k e) g need p = (one_of (made_by_of c k g.0 g.1) (at_need d scope e (named k) p.0.0 p.0.1), tt)
made_typed d scope (selector_made want c j k t e) g need p = (one_of (select_of c j k t g.0 g.1 g.2) (at_need d scope e (named k) p.0.0 p.0.1), g.3)
made_typed d scope (not_made want e) g need p = (one_of negation_of (at_need d scope e truth p.0.0 p.0.1), tt)
made_typed d scope (to_string_made want e) g need p = (one_of (to_text_of p.0.0) p.0.1.0.0, tt)
made_typed d scope (from_string_made t e) g need p = (one_of (from_text_of t) (at_need d scope e string p.0.0 p.0.1), need)
made_typed d scope (len_made want e) g need p = (one_of len_of (at_need d scope e string p.0.0 p.0.1), tt)
made_typed d scope (at_made want e f) g need p = (two_of char_of (at_need d scope e string p.0.0 p.0.1) (at_need d scope f integer p.1.0.0 p.1.0.1), tt)

-- what is called by a name is what the name means in the file
abbrev IsCalled : Definitions → Meaning × List (Option Ty) → Type 0
IsCalled d r = Good d r.0 × (takes r.0 ≡ Some r.1)

abbrev MaybeCalled : Definitions → Option (Meaning × List (Option Ty)) → Type 0
MaybeCalled d None = Unit {0}
MaybeCalled d (Some r) = IsCalled d r

taken : (d : Definitions) (m : Meaning) (q : Option (List (Option Ty))) → Good d m → takes m ≡ q → MaybeCalled d (elim q [ None ↦ None | Some ts ↦ Some (m, ts) ])
taken d m None g h = tt
taken d m (Some ts) g h = (g, h)

found : (d : Definitions) (scope : Scope) (x : List ℕ) (r : Option Meaning) → Sound d scope → global_of x scope.globals ≡ r
    → MaybeCalled d (elim r [ None ↦ None | Some m ↦ elim (takes m) [ None ↦ None | Some ts ↦ Some (m, ts) ] ])
found d scope x None ok h = tt
found d scope x (Some m) ok h = taken d m (takes m) (good_found d x scope.globals m ok.globals h) refl

is_called : (d : Definitions) (scope : Scope) (x : List ℕ) (m : Meaning) (needs : List (Option Ty)) → Sound d scope → called scope x ≡ Some (m, needs) → IsCalled d (m, needs)
is_called d scope x m needs ok h = subst (MaybeCalled d) h (found d scope x (global_of x scope.globals) ok refl)

-- ---- operators

operator_types : (table : Table) {o : Op} {need t : Ty} {make : Expr → Expr → Expr} → Operator o need t make → IsType table need × IsType table t
operator_types table or_operator = (tt, tt)
operator_types table and_operator = (tt, tt)
operator_types table less_operator = (tt, tt)
operator_types table at_most_operator = (tt, tt)
operator_types table more_operator = (tt, tt)
operator_types table at_least_operator = (tt, tt)
operator_types table join_operator = (tt, tt)
operator_types table plus_operator = (tt, tt)
operator_types table minus_operator = (tt, tt)
operator_types table times_operator = (tt, tt)
operator_types table divide_operator = (tt, tt)
operator_types table remainder_operator = (tt, tt)

operator_typed : (d : Definitions) (scope : Scope) {o : Op} {need t : Ty} {make : Expr → Expr → Expr} (e f : Expr) → Operator o need t make
    → IsOf d scope e need → IsOf d scope f need → IsOf d scope (make e f) t
operator_typed d scope e f or_operator p q = either_of p q
operator_typed d scope e f and_operator p q = both_of p q
operator_typed d scope e f less_operator p q = two_of less_of p q
operator_typed d scope e f at_most_operator p q = two_of at_most_of p q
operator_typed d scope e f more_operator p q = two_of more_of p q
operator_typed d scope e f at_least_operator p q = two_of at_least_of p q
operator_typed d scope e f join_operator p q = two_of concat_of p q
operator_typed d scope e f plus_operator p q = two_of plus_of p q
operator_typed d scope e f minus_operator p q = two_of minus_of p q
operator_typed d scope e f times_operator p q = two_of times_of p q
operator_typed d scope e f divide_operator p q = two_of divide_of p q
operator_typed d scope e f remainder_operator p q = two_of remainder_of p q

comparison_typed : (d : Definitions) (scope : Scope) {o : Op} {make : Expr → Expr → Expr} (e f : Expr) (s : Ty) → Comparison o make
    → IsOf d scope e s → IsOf d scope f s → IsOf d scope (make e f) truth
comparison_typed d scope e f s equal_comparison p q = equal_of p q
comparison_typed d scope e f s different_comparison p q = two_of (differ_of s) p q

-- ---- numbers in range

abbrev pub ints : Ast → Bool
ints = folded Bool ints_step

ints_negate : (at : ℕ) (a : Ast) → HasInts (tree.Negate at a) → HasInts a
ints_negate at a h = sym (fold_negate Bool ints_step at a) ∙ h

ints_binary : (o : Op) (a b : Ast) → HasInts (tree.Binary o a b) → HasInts a × HasInts b
ints_binary o a b h = and_parts (ints a) (ints b) (sym (fold_binary Bool ints_step o a b) ∙ h)

ints_group : (at : ℕ) (a : Ast) → HasInts (tree.Group at a) → HasInts a
ints_group at a h = sym (fold_group Bool ints_step at a) ∙ h

ints_if : (at : ℕ) (p a b : Ast) → HasInts (tree.If at p a b) → HasInts p × HasInts a × HasInts b
ints_if at p a b h =
    let first = and_parts (ints p) (ints a && ints b) (sym (fold_if Bool ints_step at p a b) ∙ h) in
    let rest = and_parts (ints a) (ints b) first.1 in (first.0, rest.0, rest.1)

abbrev values_have : List Binding → Bool
values_have bs = all_true (map (λ (b : Binding). ints b.value) bs)

ints_let : (at : ℕ) (b : Binding) (bs : List Binding) (c : Ast) → HasInts (tree.Let at (b ∷ bs) c) → HasInts b.value × HasInts (tree.Let at bs c)
ints_let at b bs c h =
    let parts = and_parts (values_have (b ∷ bs)) (ints c) (sym (fold_let Bool ints_step at (b ∷ bs) c) ∙ h) in
    let values = and_parts (ints b.value) (values_have bs) parts.0 in (
      values.0,
      fold_let Bool ints_step at bs c ∙ (ap (λ x. x && ints c) values.1 ∙ parts.1),
    )

ints_body : (at : ℕ) (c : Ast) → HasInts (tree.Let at [] c) → HasInts c
ints_body at c h = sym (fold_let Bool ints_step at [] c) ∙ h

-- ---- trees

at_every_need : (d : Definitions) (scope : Scope) (want : Option Ty) (e : Expr) (t : Ty) → Sound d scope → IsNeed d.table want → Suits scope want t → Typed d scope e t → TypedAs d scope want e t
at_every_need d scope want e t ok need p h = (h, exact d scope want t ok need h.1 p)

mutual
  pub typed : (d : Definitions) {scope : Scope} {want : Option Ty} {a : Ast} {e : Expr} {t : Ty} → Elaborates scope want a e t
      → Sound d scope → IsNeed d.table want → HasInts a → TypedAs d scope want e t
  typed d {scope = scope} {want = want} (number {at = at} {n = n} p) ok need h =
      at_every_need d scope want (val (num n)) integer ok need p (val_of (sym (fold_number Bool ints_step at n) ∙ h), tt)
  typed d {scope = scope} {want = want} (quoted {s = s} p) ok need h = at_every_need d scope want (val (text s)) string ok need p (val_of refl, tt)
  typed d {scope = scope} {want = want} (name {x = x} {e = e} {t = t} m p) ok need h = at_every_need d scope want e t ok need p (name_typed d scope x.text e t ok m)
  typed d {scope = scope} {want = want} (call {x = x} args {m = m} {needs = needs} {es = es} {e = e} {t = t} k ds n p) ok need h =
      let c = is_called d scope x.text m needs ok k in
      let each = typed_each d ds ok (subst (Takes d) c.1 (takes_types d m c.0)) (sym (fold_call Bool ints_step x args) ∙ h) in
      at_every_need d scope want e t ok need p (made_typed d scope n c.0 need (subst (λ r. IsGiven d scope r es) (sym c.1) each))
  typed d {scope = scope} {want = want} (negated {at = at} a {e = e} {s = s} d1 p) ok need h =
      at_every_need d scope want (one negate e) integer ok need p (one_of negate_of (at_need d scope e integer s (typed d d1 ok tt (ints_negate at a h))), tt)
  typed d {scope = scope} {want = want} (operated {o = o} a b {e = e} {f = f} {need = n} {q = q} {r = r} {t = t} {make = make} k d1 d2 p) ok need h =
      let i = ints_binary o a b h in
      let types = operator_types d.table k in
      at_every_need d scope want (make e f) t ok need p
      (operator_typed d scope e f k (at_need d scope e n q (typed d d1 ok types.0 i.0)) (at_need d scope f n r (typed d d2 ok types.0 i.1)), types.1)
  typed d {scope = scope} {want = want} (compared {o = o} a b {e = e} {f = f} {s = s} {r = r} {make = make} c k d1 d2 p) ok need h =
      let i = ints_binary o a b h in
      let one = typed d d1 ok tt i.0 in
      at_every_need d scope want (make e f) truth ok need p (comparison_typed d scope e f s c one.0.0 (at_need d scope f s r (typed d d2 ok one.0.1 i.1)), tt)
  typed d {scope = scope} {want = want} (compared_back {o = o} a b {e = e} {f = f} {s = s} {r = r} {make = make} c k d1 d2 p) ok need h =
      let i = ints_binary o a b h in
      let one = typed d d1 ok tt i.1 in
      at_every_need d scope want (make e f) truth ok need p (comparison_typed d scope e f s c (at_need d scope e s r (typed d d2 ok one.0.1 i.0)) one.0.0, tt)
  typed d (grouped {at = at} a d1) ok need h = typed d d1 ok need (ints_group at a h)
  typed d {scope = scope} (chosen {at = at} p a b {c = c} {e = e} {f = f} {q = q} {r = r} {s = s} {t = t} d1 d2 d3) ok need h =
      let i = ints_if at p a b h in
      ((choose_of (at_need d scope c truth q (typed d d1 ok tt i.0)) (at_need d scope e t r (typed d d2 ok need i.1)) (at_need d scope f t s (typed d d3 ok need i.2)), need), refl)
  typed d {scope = scope} (chosen_freely {at = at} p a b {c = c} {e = e} {f = f} {q = q} {s = s} {t = t} d1 d2 d3) ok need h =
      let i = ints_if at p a b h in
      let yes = typed d d2 ok tt i.1 in
      ((choose_of (at_need d scope c truth q (typed d d1 ok tt i.0)) yes.0.0 (at_need d scope f t s (typed d d3 ok yes.0.1 i.2)), yes.0.1), tt)
  typed d (unbound {at = at} c d1) ok need h = typed d d1 ok need (ints_body at c h)
  typed d {scope = scope} (bound {at = at} b bs c {e = e} {f = f} {s = s} {t = t} d1 d2) ok need h =
      let i = ints_let at b bs c h in
      let value = typed d d1 ok tt i.0 in
      let rest = typed d d2 (sound_inside d scope b.name.text s ok value.0.1) need i.1 in (
        (
          let_of value.0.0 (subst (λ ts. Of d.table (signatures_of d) (field_types scope.slots) ts f t) (types_after scope.locals (record { name = b.name.text; ty = s })) rest.0.0),
          rest.0.1,
        ),
        rest.1,
      )

  pub typed_each : (d : Definitions) {scope : Scope} {needs : List (Option Ty)} {args : List Ast} {es : List Expr} → ElaboratesEach scope needs args es
      → Sound d scope → AreNeeds d.table needs → all_true (map ints args) ≡ true → EachTyped d scope needs es
  typed_each d nothing ok need h = tt
  typed_each d (one_more {a = a} {args = args} {t = t} d1 ds) ok need h =
      let i = and_parts (ints a) (all_true (map ints args)) h in
      ((t, typed d d1 ok need.0 i.0), typed_each d ds ok need.1 i.1)

pub elaborated_is_typed : ElaboratedIsTyped
elaborated_is_typed d variables want a e t ok types need h derived =
    (typed d derived (record { types = refl; globals = good_globals d variables ok; slots = types; locals = tt }) need h).0.0

-- and of the needed type, if there is one
pub elaborated_is_wanted : (d : Definitions) (variables : List Variable) (want : Option Ty) (tree : Ast) (e : Expr) (t : Ty)
    → HasTypes d → AreTypes d.table (field_types variables) → IsNeed d.table want → HasInts tree
    → Elaborates (scope_over d variables) want tree e t → (s : Ty) → want ≡ Some s → t ≡ s
elaborated_is_wanted d variables want a e t ok types need h derived s wanted =
    sym (subst (λ w. Exact w t) wanted (typed d derived (record { types = refl; globals = good_globals d variables ok; slots = types; locals = tt }) need h).1)
