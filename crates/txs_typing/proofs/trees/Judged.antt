-- A tree means an expression, or something offends in it.
use Rattle.std.proofs.Common.{◌≡◌, ◌≢◌, ◌⊎◌, ℕ, Bool, true, false, cond, ap, sym, subst, ◌∙◌, List, [], ◌∷◌, length, map, slice_get, Option, Some, None, refl, inl, inr, suc, arith}
use Rattle.std.proofs.lemmas.Bool.Decides.{eqb_tells}
use Rattle.std.proofs.lemmas.Bool.{cases_lt}
use Rattle.txs_values.specs.Value.{Ty, integer, truth, string, named, num, text, cons, no_value}
use Rattle.txs_terms.specs.Expr.{Expr, val, one, two, negate, choose, let_in, apply, build, equal, both, either, is_made_by, select, negation, to_text, from_text, len, char_at, plus, minus, times, divide, remainder, concat, differ, less_than, at_most, more_than, at_least}
use Rattle.txs_terms.specs.View.{gathered}
use Rattle.txs_syntax.specs.declared.ast.Op.{Op}
use Rattle.txs_syntax.specs.declared.ast.Op.TheVariants as op
use Rattle.txs_syntax.specs.declared.ast.Name.{Name}
use Rattle.txs_syntax.specs.declared.ast.Ast.{Ast, roll-Ast, map-Ast}
use Rattle.txs_syntax.specs.declared.ast.Binding.{Binding, roll-Binding}
use Rattle.txs_syntax.specs.declared.ast.Ast.TheVariants as tree
use Rattle.txs_syntax.specs.declared.ast.Ast.TheOpen.{Ast-F}
use Rattle.txs_syntax.specs.declared.ast.Ast.TheFolds.{ind-Ast}
use Rattle.txs_typing.specs.Names.{Scope, Meaning, named_value, named_constant, named_function, named_constructor, named_test, named_selector, named_not, named_to_string, named_from_string, named_len, named_at, Fits, IsUnknown, inside, takes, called, global_of, meaning}
use Rattle.txs_typing.proofs.Laws.{ElaboratesOrOffends}
use Rattle.txs_typing.specs.Elaborates.{Suits, right_first, Operator, or_operator, and_operator, less_operator, at_most_operator, more_operator, at_least_operator, join_operator, plus_operator, minus_operator, times_operator, divide_operator, remainder_operator, Comparison, equal_comparison, different_comparison, Makes, function_made, value_made, constructor_made, test_made, selector_made, not_made, to_string_made, from_string_made, len_made, at_made, Elaborates, number, quoted, name, call, negated, operated, compared, compared_back, grouped, chosen, chosen_freely, bound, unbound, ElaboratesEach, nothing, one_more}
use Rattle.txs_typing.specs.Offends.{Offence, unknown, arity, mismatch, KeepsNeed, keeps_need_step, start, OffendsAt, Offends, Shows, stands, as_typed, unknown_name, unknown_call, wrong_number, other_type, from_nowhere, argument, negated as side_negated, left, right, earlier_side, later_side, grouped as inside_grouped, condition, then_branch, else_branch, else_like_then, bound_value, after_value, body}
use Rattle.txs_typing.proofs.trees.Folds.{fold_number, fold_text, fold_name, fold_call, fold_negate, fold_binary}
use Rattle.txs_typing.proofs.trees.Unique.{some_injective}
use Rattle.txs_typing.proofs.trees.NotBoth.{none≢some}

-- ---- types

abbrev tag : Ty → ℕ
tag integer = 0
tag truth = 1
tag string = 2
tag (named k) = 3

abbrev number_in : Ty → ℕ
number_in integer = 0
number_in truth = 0
number_in string = 0
number_in (named k) = k

same_tag : (s t : Ty) → tag s ≡ tag t → number_in s ≡ number_in t → s ≡ t
same_tag integer integer p q = refl
same_tag integer truth p q = absurd (omega (arith, p))
same_tag integer string p q = absurd (omega (arith, p))
same_tag integer (named k) p q = absurd (omega (arith, p))
same_tag truth integer p q = absurd (omega (arith, p))
same_tag truth truth p q = refl
same_tag truth string p q = absurd (omega (arith, p))
same_tag truth (named k) p q = absurd (omega (arith, p))
same_tag string integer p q = absurd (omega (arith, p))
same_tag string truth p q = absurd (omega (arith, p))
same_tag string string p q = refl
same_tag string (named k) p q = absurd (omega (arith, p))
same_tag (named j) integer p q = absurd (omega (arith, p))
same_tag (named j) truth p q = absurd (omega (arith, p))
same_tag (named j) string p q = absurd (omega (arith, p))
same_tag (named j) (named k) p q = ap named q

decide_same : (s t : Ty) → (s ≡ t) ⊎ (s ≢ t)
decide_same s t = elim (eqb_tells (tag s) (tag t)) [
  | inr n ↦ inr (λ e. n.1 (ap tag e))
  | inl p ↦ elim (eqb_tells (number_in s) (number_in t)) [ inl q ↦ inl (same_tag s t p.1 q.1) | inr n ↦ inr (λ e. n.1 (ap number_in e)) ]
]

decide_unknown : (scope : Scope) (t : Ty) → IsUnknown scope t ⊎ (IsUnknown scope t → ⊥)
decide_unknown scope integer = inr (λ p. p)
decide_unknown scope truth = inr (λ p. p)
decide_unknown scope string = inr (λ p. p)
decide_unknown scope (named k) = elim (cases_lt k scope.types) [ inl p ↦ inr (λ q. omega (arith, p, q)) | inr p ↦ inl p ]

decide_fits : (scope : Scope) (s t : Ty) → Fits scope s t ⊎ (Fits scope s t → ⊥)
decide_fits scope s t = elim (decide_same s t) [
  | inl p ↦ inl (inl p)
  | inr n ↦ elim (decide_unknown scope s) [
    | inl p ↦ inl (inr (inl p))
    | inr m ↦ elim (decide_unknown scope t) [
      | inl p ↦ inl (inr (inr p))
      | inr l ↦ inr (λ f. elim f [ inl p ↦ n p | inr (inl p) ↦ m p | inr (inr p) ↦ l p ])
    ]
  ]
]

-- ---- verdicts

abbrev Meant : Scope → Option Ty → Ast → Type 0
Meant scope want a = (e : Expr) × (t : Ty) × Elaborates scope want a e t

-- in a tree whose offset is given
abbrev Result : ℕ → Scope → Option Ty → Ast → Type 0
Result at scope want a = Meant scope want a ⊎ ((o : Offence) × OffendsAt at scope want a o)

abbrev Verdict : Scope → Option Ty → Ast → Type 0
Verdict scope want a = Meant scope want a ⊎ ((o : Offence) × Offends scope want a o)

abbrev Judged : Ast → Type 0
Judged a = (at : ℕ) (scope : Scope) (want : Option Ty) → Result at scope want a

verdict : (a : Ast) → Judged a → (scope : Scope) (want : Option Ty) → Verdict scope want a
verdict a j scope want = elim (j (start a) scope want) [ inl d ↦ inl d | inr w ↦ inr (w.0, stands refl w.1) ]

-- a tree that keeps the need, of this type
finish : (at : ℕ) (scope : Scope) (want : Option Ty) (a : Ast) (e : Expr) (t : Ty) → KeepsNeed a
    → ((w : Option Ty) → Suits scope w t → Elaborates scope w a e t) → Result at scope want a
finish at scope None a e t w mk = inl (e, t, mk None tt)
finish at scope (Some s) a e t w mk = elim (decide_fits scope s t) [
  | inl p ↦ inl (e, t, mk (Some s) p)
  | inr n ↦ inr (mismatch at, other_type a w (mk None tt) n)
]

judge_name : (x : Name) (at : ℕ) (scope : Scope) (want : Option Ty) (r : Option (Expr × Ty)) → meaning scope x.text ≡ r → Result at scope want (tree.Name x)
judge_name x at scope want None h = inr (unknown x.at, unknown_name h)
judge_name x at scope want (Some p) h = finish at scope want (tree.Name x) p.0 p.1 (fold_name Bool keeps_need_step x) (λ w q. name h q)

-- ---- calls

one_expr : (es : List Expr) → length es ≡ 1 → (e : Expr) × (es ≡ e ∷ [])
one_expr [] h = absurd (omega (arith, h))
one_expr (e ∷ []) h = (e, refl)
one_expr (e ∷ f ∷ es) h = absurd (omega (arith, h))

two_exprs : (es : List Expr) → length es ≡ 2 → (e : Expr) × (f : Expr) × (es ≡ e ∷ f ∷ [])
two_exprs [] h = absurd (omega (arith, h))
two_exprs (e ∷ []) h = absurd (omega (arith, h))
two_exprs (e ∷ f ∷ []) h = (e, f, refl)
two_exprs (e ∷ f ∷ g ∷ es) h = absurd (omega (arith, h))

no_expr : (es : List Expr) → length es ≡ 0 → [] ≡ es
no_expr [] h = refl
no_expr (e ∷ es) h = absurd (omega (arith, h))

-- it is called with these arguments wherever it stands
abbrev MadeAnywhere : Meaning → List Expr → Type 0
MadeAnywhere m es = (e : Expr) × (t : Ty) × ((want : Option Ty) → Makes want m es e t)

with_one : (m : Meaning) (es : List Expr) (make : Expr → Expr) (t : Ty) → ((want : Option Ty) (e : Expr) → Makes want m (e ∷ []) (make e) t) → length es ≡ 1 → MadeAnywhere m es
with_one m es make t made h =
    let o = one_expr es h in (make o.0, t, λ want. subst (λ l. Makes want m l (make o.0) t) (sym o.1) (made want o.0))

makes : (m : Meaning) (needs : List (Option Ty)) (es : List Expr) → takes m ≡ Some needs → length es ≡ length needs → (m ≡ named_from_string) ⊎ MadeAnywhere m es
makes (named_value b) needs es p h = absurd (none≢some p)
makes (named_constant k t) needs es p h = absurd (none≢some p)
makes (named_function f ts t) needs es p h = inr (apply f (gathered es), t, λ want. function_made want f ts t es)
makes (named_constructor c k []) needs es p h =
    inr (
      val (cons c no_value),
      named k,
      λ want. subst (λ l. Makes want (named_constructor c k []) l (val (cons c no_value)) (named k))
          (no_expr es (h ∙ ap length (sym (some_injective p)))) (value_made want c k),
    )
makes (named_constructor c k (t ∷ ts)) needs es p h = inr (build c (gathered es), named k, λ want. constructor_made want c k t ts es)
makes (named_test c k) needs es p h = inr (with_one (named_test c k) es (one (is_made_by c)) truth (λ want e. test_made want c k e) (h ∙ ap length (sym (some_injective p))))
makes (named_selector c j k t) needs es p h =
    inr (with_one (named_selector c j k t) es (one (select c j)) t (λ want e. selector_made want c j k t e) (h ∙ ap length (sym (some_injective p))))
makes named_not needs es p h = inr (with_one named_not es (one negation) truth (λ want e. not_made want e) (h ∙ ap length (sym (some_injective p))))
makes named_to_string needs es p h = inr (with_one named_to_string es (one to_text) string (λ want e. to_string_made want e) (h ∙ ap length (sym (some_injective p))))
makes named_from_string needs es p h = inl refl
makes named_len needs es p h = inr (with_one named_len es (one len) integer (λ want e. len_made want e) (h ∙ ap length (sym (some_injective p))))
makes named_at needs es p h =
    let o = two_exprs es (h ∙ ap length (sym (some_injective p))) in
    inr (two char_at o.0 o.1, string, λ want. subst (λ l. Makes want named_at l (two char_at o.0 o.1) string) (sym o.2) (at_made want o.0 o.1))

pub taken : (m : Option Meaning) (r : Meaning × List (Option Ty))
    → elim m [ None ↦ None | Some m ↦ elim (takes m) [ None ↦ None | Some ts ↦ Some (m, ts) ] ] ≡ Some r → takes r.0 ≡ Some r.1
taken None r h = absurd (none≢some h)
taken (Some m) r h = by_takes (takes m) refl h
  where
    by_takes : (q : Option (List (Option Ty))) → takes m ≡ q → elim q [ None ↦ None | Some ts ↦ Some (m, ts) ] ≡ Some r → takes r.0 ≡ Some r.1
    by_takes None p k = absurd (none≢some k)
    by_takes (Some ts) p k = subst (λ (r : Meaning × List (Option Ty)). takes r.0 ≡ Some r.1) (some_injective k) p

pub as_many_exprs : {scope : Scope} {needs : List (Option Ty)} {args : List Ast} {es : List Expr} → ElaboratesEach scope needs args es → length es ≡ length needs
as_many_exprs nothing = refl
as_many_exprs (one_more d ds) = ap suc (as_many_exprs ds)

-- fromString
judge_from : (x : Name) (args : List Ast) (at : ℕ) (scope : Scope) (want : Option Ty) (needs : List (Option Ty)) (es : List Expr)
    → called scope x.text ≡ Some (named_from_string, needs) → length es ≡ 1 → ElaboratesEach scope needs args es → Result at scope want (tree.Call x args)
judge_from x args at scope None needs es h n ds = inr (mismatch at, from_nowhere args h ds)
judge_from x args at scope (Some t) needs es h n ds =
    let o = one_expr es n in
    inl (one (from_text t) o.0, t, call args h (subst (ElaboratesEach scope needs args) o.1 ds) (from_string_made t o.0) (inl refl))

judge_made : (x : Name) (args : List Ast) (at : ℕ) (scope : Scope) (want : Option Ty) (m : Meaning) (needs : List (Option Ty)) (es : List Expr)
    → called scope x.text ≡ Some (m, needs) → ElaboratesEach scope needs args es → Result at scope want (tree.Call x args)
judge_made x args at scope want m needs es h ds =
    let p = taken (global_of x.text scope.globals) (m, needs) h in
    elim (makes m needs es p (as_many_exprs ds)) [
      | inr made ↦ finish at scope want (tree.Call x args) made.0 made.1 (fold_call Bool keeps_need_step x args) (λ w q. call args h ds (made.2 w) q)
      | inl same ↦ judge_from x args at scope want needs es (h ∙ ap (λ m. Some (m, needs)) same)
          (as_many_exprs ds ∙ ap length (some_injective (sym p ∙ ap takes same))) ds
    ]

-- a tree with its judgement
abbrev Child : Type 0
Child = (a : Ast) × Judged a

abbrev bare : List Child → List Ast
bare cs = map (λ (c : Child). c.0) cs

-- an argument with an offence
abbrev Faulty : Scope → List (Option Ty) → List Ast → Type 0
Faulty scope needs args = (i : ℕ) × (a : Ast) × (need : Option Ty) × (o : Offence) × (slice_get args i ≡ Some a) × (slice_get needs i ≡ Some need) × Offends scope need a o

judge_each : (scope : Scope) (cs : List Child) (needs : List (Option Ty)) → length (bare cs) ≡ length needs
    → ((es : List Expr) × ElaboratesEach scope needs (bare cs) es) ⊎ Faulty scope needs (bare cs)
judge_each scope [] [] h = inl ([], nothing)
judge_each scope [] (n ∷ ns) h = absurd (omega (arith, h))
judge_each scope (c ∷ cs) [] h = absurd (omega (arith, h))
judge_each scope (c ∷ cs) (n ∷ ns) h = elim (verdict c.0 c.1 scope n) [
  | inr w ↦ inr (0, c.0, n, w.0, refl, refl, w.1)
  | inl d ↦ elim (judge_each scope cs ns (omega (arith, h))) [
    | inl ds ↦ inl (d.0 ∷ ds.0, one_more d.2 ds.1)
    | inr f ↦ inr (suc f.0, f.1, f.2, f.3, f.4, f.5, f.6)
  ]
]

judge_called : (x : Name) (cs : List Child) (at : ℕ) (scope : Scope) (want : Option Ty) (r : Option (Meaning × List (Option Ty))) → called scope x.text ≡ r
    → Result at scope want (tree.Call x (bare cs))
judge_called x cs at scope want None h = inr (unknown x.at, unknown_call (bare cs) h)
judge_called x cs at scope want (Some p) h = elim (eqb_tells (length (bare cs)) (length p.1)) [
  | inr n ↦ inr (arity x.at, wrong_number (bare cs) h n.1)
  | inl n ↦ elim (judge_each scope cs p.1 n.1) [
    | inl ds ↦ judge_made x (bare cs) at scope want p.0 p.1 ds.0 h ds.1
    | inr f ↦ inr (f.3, argument (bare cs) f.0 f.1 h n.1 f.4 f.5 f.6)
  ]
]

-- ---- operators

sort : (o : Op) → ((need : Ty) × (t : Ty) × (make : (Expr → Expr → Expr)) × Operator o need t make) ⊎ ((make : (Expr → Expr → Expr)) × Comparison o make)
sort op.Or = inl (truth, truth, either, or_operator)
sort op.And = inl (truth, truth, both, and_operator)
sort op.Equal = inr (equal, equal_comparison)
sort op.Different = inr (two differ, different_comparison)
sort op.Less = inl (integer, truth, two less_than, less_operator)
sort op.AtMost = inl (integer, truth, two at_most, at_most_operator)
sort op.More = inl (integer, truth, two more_than, more_operator)
sort op.AtLeast = inl (integer, truth, two at_least, at_least_operator)
sort op.Join = inl (string, string, two concat, join_operator)
sort op.Plus = inl (integer, integer, two plus, plus_operator)
sort op.Minus = inl (integer, integer, two minus, minus_operator)
sort op.Times = inl (integer, integer, two times, times_operator)
sort op.Divide = inl (integer, integer, two divide, divide_operator)
sort op.Remainder = inl (integer, integer, two remainder, remainder_operator)

judge_operated : (o : Op) (a b : Child) (at : ℕ) (scope : Scope) (want : Option Ty) (need t : Ty) (make : Expr → Expr → Expr) → Operator o need t make
    → Result at scope want (tree.Binary o a.0 b.0)
judge_operated o a b at scope want need t make k = elim (verdict a.0 a.1 scope (Some need)) [
  | inr w ↦ inr (w.0, left a.0 b.0 k w.1)
  | inl d ↦ elim (verdict b.0 b.1 scope (Some need)) [
    | inr w ↦ inr (w.0, right a.0 b.0 k w.1)
    | inl d' ↦ finish at scope want (tree.Binary o a.0 b.0) (make d.0 d'.0) t (fold_binary Bool keeps_need_step o a.0 b.0) (λ w q. operated a.0 b.0 k d.2 d'.2 q)
  ]
]

judge_compared : (o : Op) (a b : Child) (at : ℕ) (scope : Scope) (want : Option Ty) (make : Expr → Expr → Expr) (r : Bool) → Comparison o make → right_first a.0 b.0 ≡ r
    → Result at scope want (tree.Binary o a.0 b.0)
judge_compared o a b at scope want make false c h = elim (verdict a.0 a.1 scope None) [
  | inr w ↦ inr (w.0, earlier_side a.0 b.0 c (subst (λ r. Offends scope None (cond r b.0 a.0) w.0) (sym h) w.1))
  | inl d ↦ elim (verdict b.0 b.1 scope (Some d.1)) [
    | inr w ↦ inr (
      w.0,
      later_side a.0 b.0 c (subst (λ r. Shows scope (cond r b.0 a.0) d.1) (sym h) (as_typed d.2))
          (subst (λ r. Offends scope (Some d.1) (cond r a.0 b.0) w.0) (sym h) w.1),
    )
    | inl d' ↦ finish at scope want (tree.Binary o a.0 b.0) (make d.0 d'.0) truth (fold_binary Bool keeps_need_step o a.0 b.0) (λ w q. compared a.0 b.0 c h d.2 d'.2 q)
  ]
]
judge_compared o a b at scope want make true c h = elim (verdict b.0 b.1 scope None) [
  | inr w ↦ inr (w.0, earlier_side a.0 b.0 c (subst (λ r. Offends scope None (cond r b.0 a.0) w.0) (sym h) w.1))
  | inl d ↦ elim (verdict a.0 a.1 scope (Some d.1)) [
    | inr w ↦ inr (
      w.0,
      later_side a.0 b.0 c (subst (λ r. Shows scope (cond r b.0 a.0) d.1) (sym h) (as_typed d.2))
          (subst (λ r. Offends scope (Some d.1) (cond r a.0 b.0) w.0) (sym h) w.1),
    )
    | inl d' ↦ finish at scope want (tree.Binary o a.0 b.0) (make d'.0 d.0) truth (fold_binary Bool keeps_need_step o a.0 b.0) (λ w q. compared_back a.0 b.0 c h d.2 d'.2 q)
  ]
]

judge_binary : (o : Op) (a b : Child) → Judged (tree.Binary o a.0 b.0)
judge_binary o a b at scope want = elim (sort o) [
  | inl k ↦ judge_operated o a b at scope want k.0 k.1 k.2 k.3
  | inr c ↦ judge_compared o a b at scope want c.0 (right_first a.0 b.0) c.1 refl
]

judge_negate : (sign : ℕ) (a : Child) → Judged (tree.Negate sign a.0)
judge_negate sign a at scope want = elim (verdict a.0 a.1 scope (Some integer)) [
  | inr w ↦ inr (w.0, side_negated a.0 w.1)
  | inl d ↦ finish at scope want (tree.Negate sign a.0) (one negate d.0) integer (fold_negate Bool keeps_need_step sign a.0) (λ w q. negated a.0 d.2 q)
]

judge_group : (bracket : ℕ) (a : Child) → Judged (tree.Group bracket a.0)
judge_group bracket a at scope want = elim (a.1 at scope want) [ inl d ↦ inl (d.0, d.1, grouped a.0 d.2) | inr w ↦ inr (w.0, inside_grouped a.0 w.1) ]

judge_if : (i : ℕ) (p a b : Child) → Judged (tree.If i p.0 a.0 b.0)
judge_if i p a b at scope None = elim (verdict p.0 p.1 scope (Some truth)) [
  | inr w ↦ inr (w.0, condition p.0 a.0 b.0 w.1)
  | inl d1 ↦ elim (verdict a.0 a.1 scope None) [
    | inr w ↦ inr (w.0, then_branch p.0 a.0 b.0 w.1)
    | inl d2 ↦ elim (verdict b.0 b.1 scope (Some d2.1)) [
      | inr w ↦ inr (w.0, else_like_then p.0 a.0 b.0 (as_typed d2.2) w.1)
      | inl d3 ↦ inl (choose d1.0 d2.0 d3.0, d2.1, chosen_freely p.0 a.0 b.0 d1.2 d2.2 d3.2)
    ]
  ]
]
judge_if i p a b at scope (Some t) = elim (verdict p.0 p.1 scope (Some truth)) [
  | inr w ↦ inr (w.0, condition p.0 a.0 b.0 w.1)
  | inl d1 ↦ elim (verdict a.0 a.1 scope (Some t)) [
    | inr w ↦ inr (w.0, then_branch p.0 a.0 b.0 w.1)
    | inl d2 ↦ elim (verdict b.0 b.1 scope (Some t)) [
      | inr w ↦ inr (w.0, else_branch p.0 a.0 b.0 w.1)
      | inl d3 ↦ inl (choose d1.0 d2.0 d3.0, t, chosen p.0 a.0 b.0 d1.2 d2.2 d3.2)
    ]
  ]
]

-- a binding with the judgement of its value
abbrev ChildBinding : Type 0
ChildBinding = (b : Binding) × Judged b.value

abbrev bare_bindings : List ChildBinding → List Binding
bare_bindings bs = map (λ (b : ChildBinding). b.0) bs

judge_let : (l : ℕ) (bs : List ChildBinding) (c : Child) → Judged (tree.Let l (bare_bindings bs) c.0)
judge_let l [] c at scope want = elim (verdict c.0 c.1 scope want) [ inr w ↦ inr (w.0, body c.0 w.1) | inl d ↦ inl (d.0, d.1, unbound c.0 d.2) ]
judge_let l (b ∷ bs) c at scope want = elim (verdict b.0.value b.1 scope None) [
  | inr w ↦ inr (w.0, bound_value b.0 (bare_bindings bs) c.0 w.1)
  | inl d ↦ elim (verdict (tree.Let l (bare_bindings bs) c.0) (judge_let l bs c) (inside scope b.0.name.text d.1) want) [
    | inr w ↦ inr (w.0, after_value b.0 (bare_bindings bs) c.0 (as_typed d.2) w.1)
    | inl d' ↦ inl (let_in b.0.name.text d.0 d'.0, d'.1, bound b.0 (bare_bindings bs) c.0 d.2 d'.2)
  ]
]

-- ---- trees

judge_form : (l : Ast-F Child ChildBinding) → Judged (roll-Ast (map-Ast Child ChildBinding Ast Binding (λ c. c.0) (λ b. b.0) l))
judge_form (Ast-F.Number at n) =
    subst Judged (sym (tree.rolls-Number at n)) (λ offset scope want. finish offset scope want (tree.Number at n) (val (num n)) integer (fold_number Bool keeps_need_step at n) (λ w q. number q))
judge_form (Ast-F.Text at s) =
    subst Judged (sym (tree.rolls-Text at s)) (λ offset scope want. finish offset scope want (tree.Text at s) (val (text s)) string (fold_text Bool keeps_need_step at s) (λ w q. quoted q))
judge_form (Ast-F.Name x) = subst Judged (sym (tree.rolls-Name x)) (λ offset scope want. judge_name x offset scope want (meaning scope x.text) refl)
judge_form (Ast-F.Call x cs) = subst Judged (sym (tree.rolls-Call x (bare cs))) (λ offset scope want. judge_called x cs offset scope want (called scope x.text) refl)
judge_form (Ast-F.Negate at a) = subst Judged (sym (tree.rolls-Negate at a.0)) (judge_negate at a)
judge_form (Ast-F.Binary o a b) = subst Judged (sym (tree.rolls-Binary o a.0 b.0)) (judge_binary o a b)
judge_form (Ast-F.Group at a) = subst Judged (sym (tree.rolls-Group at a.0)) (judge_group at a)
judge_form (Ast-F.If at p a b) = subst Judged (sym (tree.rolls-If at p.0 a.0 b.0)) (judge_if at p a b)
judge_form (Ast-F.Let at bs c) = subst Judged (sym (tree.rolls-Let at (bare_bindings bs) c.0)) (judge_let at bs c)

judged : (a : Ast) → Judged a
judged =
    ind-Ast Judged (λ (b : Binding). Judged b.value) (λ x y is. subst (λ l. Judged (roll-Ast l)) is (judge_form y))
    (λ x y is. subst (λ l. Judged (roll-Binding l).value) is y.value.1)

pub elaborates_or_offends : ElaboratesOrOffends
elaborates_or_offends scope want a = verdict a (judged a) scope want
