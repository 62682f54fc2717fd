-- What is judged of a LET.
use Rattle.std.proofs.Common.{◌≡◌, ◌⊎◌, ◌+◌, ◌<◌, ℕ, Bool, true, ◌&&◌, ap, sym, subst, ◌∙◌, List, [], ◌∷◌, ◌++◌, length, map, take, get_or, Option, Some, None, Result, Ok, Err, refl, inl, inr, true≢false}
use Rattle.std.proofs.lemmas.List.{append_assoc, take_more}
use Rattle.std.proofs.Math.Seq.{take-append_seam}
use Rattle.txs_values.specs.Value.{Ty}
use Rattle.txs_values.specs.View.{ty_of}
use Rattle.txs_values.specs.declared.table.FieldDef as rust_field
use Rattle.txs_terms.specs.declared.expr.Binding as rust_binding
use Rattle.txs_typing.specs.declared.scope.Scope as rust_scope
use Rattle.txs_terms.specs.Expr.{Expr, let_in}
use Rattle.txs_terms.specs.View.{Bound, bound_of, bounds_of, expr_of, let_all}
use Rattle.txs_syntax.specs.declared.ast.Ast.{Ast}
use Rattle.txs_syntax.specs.declared.ast.Binding.{Binding}
use Rattle.txs_syntax.specs.declared.ast.Ast.TheVariants as tree
use Rattle.txs_syntax.specs.declared.ast.Ast.TheOpen.{Ast-F}
use Rattle.txs_typing.specs.declared.fault.TypeFault.{TypeFault}
use Rattle.txs_typing.specs.declared.fault.TypeFault.TheVariants as fault
use Rattle.txs_typing.specs.Names.{Scope, anything, inside}
use Rattle.txs_typing.specs.Elaborates.{folded, Elaborates, bound, unbound, HasInts, ints_step, all_true}
use Rattle.txs_typing.specs.Offends.{Offence, KeepsNeed, keeps_need_step, start, OffendsAt, Offends, Shows, stands, as_typed, as_anything, bound_value, after_value, body}
use Rattle.txs_typing.specs.Answer.{Told}
use Rattle.txs_typing.specs.inner.Told.{Lesser, memory_first, left_first, right_first, Joined}
use Rattle.txs_typing.specs.inner.View.{Judges, JudgesAt}
use Rattle.txs_typing.specs.inner.Parts.{Typed, shown, MadeTyped}
use Rattle.txs_typing.specs.inner.Bindings.{typed_let, Values, Enters, InValues, ValuesHaveInts, JudgesValues, GathersValue, IsWithin}
use Rattle.txs_typing.proofs.trees.Unique.{unique}
use Rattle.txs_typing.proofs.trees.NotBoth.{none≢some, not_both}
use Rattle.txs_typing.proofs.trees.Folds.{fold_let}
use Rattle.txs_typing.proofs.judging.Inside.{Inside, i_value, i_after, i_body, Other, split}
use Rattle.txs_typing.proofs.judging.Told.{Either, told_same, told_either, told_left, told_right}
use Rattle.txs_typing.proofs.judging.Finish.{offends_at, no_offence}
use Rattle.txs_typing.proofs.judging.Sides.{memory_lesser, some_offence}

-- ---- the values

-- a tree shows one type
shows_one : (scope : Scope) (a : Ast) (s t : Ty) → Shows scope a s → Shows scope a t → s ≡ t
shows_one scope a s t (as_typed d) (as_typed d') = (unique d d').1
shows_one scope a _ _ (as_typed {e = e} {t = s} d) (as_anything {o = o} w) = absurd (not_both scope None a e s o d w)
shows_one scope a _ _ (as_anything {o = o} w) (as_typed {e = e} {t = t} d) = absurd (not_both scope None a e t o d w)
shows_one scope a _ _ (as_anything w) (as_anything v) = refl

values_enter : (scope : Scope) (bs : List Binding) (vs : List Bound) (inner : Scope) → Values scope bs vs inner → Enters scope bs inner
values_enter scope [] [] inner h = h
values_enter scope [] (v ∷ vs) inner h = absurd h
values_enter scope (b ∷ bs) [] inner h = absurd h
values_enter scope (b ∷ bs) (v ∷ vs) inner h = (h.0, as_typed h.2, values_enter (inside scope b.name.text h.0) bs vs inner h.3)

-- nothing offends in values that mean something
values_clean : (scope : Scope) (bs : List Binding) (vs : List Bound) (inner : Scope) → Values scope bs vs inner → (o : Offence) → InValues scope bs o → ⊥
values_clean scope [] vs inner h o w = w
values_clean scope (b ∷ bs) [] inner h o w = h
values_clean scope (b ∷ bs) (v ∷ vs) inner h o (inl w) = not_both scope None b.value v.1 h.0 o h.2 w
values_clean scope (b ∷ bs) (v ∷ vs) inner h o (inr w) =
    values_clean (inside scope b.name.text h.0) bs vs inner h.3 o
    (subst (λ t. InValues (inside scope b.name.text t) bs o) (shows_one scope b.value w.0 h.0 w.1 (as_typed h.2)) w.2)

-- ---- one more value

values_snoc : (scope : Scope) (bs : List Binding) (vs : List Bound) (mid : Scope) (b : Binding) (e : Expr) (t : Ty) → Values scope bs vs mid
    → Elaborates mid None b.value e t → Values scope (bs ++ b ∷ []) (vs ++ (b.name.text, e) ∷ []) (inside mid b.name.text t)
values_snoc scope [] [] mid b e t h d = (t, refl, subst (λ s. Elaborates s None b.value e t) (sym h) d, ap (λ s. inside s b.name.text t) h)
values_snoc scope [] (v ∷ vs) mid b e t h d = absurd h
values_snoc scope (a ∷ bs) [] mid b e t h d = absurd h
values_snoc scope (a ∷ bs) (v ∷ vs) mid b e t h d = (h.0, h.1, h.2, values_snoc (inside scope a.name.text h.0) bs vs mid b e t h.3 d)

enters_snoc : (scope : Scope) (bs : List Binding) (mid : Scope) (b : Binding) (t : Ty) → Enters scope bs mid → Shows mid b.value t
    → Enters scope (bs ++ b ∷ []) (inside mid b.name.text t)
enters_snoc scope [] mid b t h d = (t, subst (λ s. Shows s b.value t) (sym h) d, ap (λ s. inside s b.name.text t) h)
enters_snoc scope (a ∷ bs) mid b t h d = (h.0, h.1, enters_snoc (inside scope a.name.text h.0) bs mid b t h.2 d)

in_values_snoc : (scope : Scope) (bs : List Binding) (mid : Scope) (b : Binding) → Enters scope bs mid → (o : Offence)
    → InValues scope (bs ++ b ∷ []) o → Either (InValues scope bs) (Offends mid None b.value) o
in_values_snoc scope [] mid b h o (inl w) = inr (subst (λ s. Offends s None b.value o) h w)
in_values_snoc scope [] mid b h o (inr w) = absurd w.2
in_values_snoc scope (a ∷ bs) mid b h o (inl w) = inl (inl w)
in_values_snoc scope (a ∷ bs) mid b h o (inr w) =
    elim (in_values_snoc (inside scope a.name.text h.0) bs mid b h.2 o
    (subst (λ t. InValues (inside scope a.name.text t) (bs ++ b ∷ []) o) (shows_one scope a.value w.0 h.0 w.1 h.1) w.2)) [
      | inl v ↦ inl (inr (h.0, h.1, v))
      | inr v ↦ inr v
    ]

snoc_in_values : (scope : Scope) (bs : List Binding) (mid : Scope) (b : Binding) → Enters scope bs mid → (o : Offence)
    → Either (InValues scope bs) (Offends mid None b.value) o → InValues scope (bs ++ b ∷ []) o
snoc_in_values scope [] mid b h o (inl w) = absurd w
snoc_in_values scope [] mid b h o (inr w) = inl (subst (λ s. Offends s None b.value o) (sym h) w)
snoc_in_values scope (a ∷ bs) mid b h o (inl (inl w)) = inl w
snoc_in_values scope (a ∷ bs) mid b h o (inl (inr w)) =
    inr (
      h.0,
      h.1,
      snoc_in_values (inside scope a.name.text h.0) bs mid b h.2 o
          (inl (subst (λ t. InValues (inside scope a.name.text t) bs o) (shows_one scope a.value w.0 h.0 w.1 h.1) w.2)),
    )
snoc_in_values scope (a ∷ bs) mid b h o (inr w) = inr (h.0, h.1, snoc_in_values (inside scope a.name.text h.0) bs mid b h.2 o (inr w))

values_ints_snoc : (bs : List Binding) (b : Binding) → ValuesHaveInts bs → HasInts b.value → ValuesHaveInts (bs ++ b ∷ [])
values_ints_snoc [] b h k = (k, tt)
values_ints_snoc (a ∷ bs) b h k = (h.0, values_ints_snoc bs b h.1 k)

bounds_of_more : (vs : List rust_binding.Binding) (v : rust_binding.Binding) → bounds_of (vs ++ v ∷ []) ≡ bounds_of vs ++ bound_of v ∷ []
bounds_of_more [] v = refl
bounds_of_more (u ∷ vs) v = ap (λ l. bound_of u ∷ l) (bounds_of_more vs v)

memory_either : {f h : TypeFault} → Lesser f fault.NoMemory h → h ≡ fault.NoMemory
memory_either memory_first = refl
memory_either (left_first a b p q n) = absurd (none≢some q)
memory_either (right_first a b p q n) = refl

told_more : (scope : Scope) (bs : List Binding) (mid : Scope) (b : Binding) (f : TypeFault) → Enters scope bs mid
    → Told f (Either (InValues scope bs) (Offends mid None b.value)) → Told f (InValues scope (bs ++ b ∷ []))
told_more scope bs mid b f h d =
    told_same f (Either (InValues scope bs) (Offends mid None b.value)) (InValues scope (bs ++ b ∷ []))
    (λ o w. snoc_in_values scope bs mid b h o w) (λ o w. in_values_snoc scope bs mid b h o w) d

pub values_more : (scope : Scope) (bs : List Binding) (mid : Scope) (b : Binding) (so_far : Result (List rust_binding.Binding) TypeFault) (found : Result Typed TypeFault)
    (r : Result (List rust_binding.Binding) TypeFault) → JudgesValues scope bs mid so_far → Judges mid None b.value found → GathersValue b.name.text so_far found r
    → JudgesValues scope (bs ++ b ∷ []) (inside mid b.name.text (shown mid found)) r
values_more scope bs mid b (Ok vs) (Ok t) (Ok us) h j g = (
  subst (λ l. Values scope (bs ++ b ∷ []) l (inside mid b.name.text (ty_of t.ty))) (sym (ap bounds_of g ∙ bounds_of_more vs (record { name = b.name.text; value = t.expr })))
      (values_snoc scope bs (bounds_of vs) mid b (expr_of t.expr) (ty_of t.ty) h.0 j.0),
  values_ints_snoc bs b h.1 j.1,
)
values_more scope bs mid b (Ok vs) (Ok t) (Err f) h j g = inl g
values_more scope bs mid b (Ok vs) (Err f) r h j g =
    let enters = values_enter scope bs (bounds_of vs) mid h.0 in
    subst (JudgesValues scope (bs ++ b ∷ []) (inside mid b.name.text (anything mid))) (sym g)
    (elim (some_offence f (Offends mid None b.value) j) [
      | inl e ↦ inl e
      | inr w ↦ inr (
        told_more scope bs mid b f enters (told_right f (InValues scope bs) (Offends mid None b.value) (values_clean scope bs (bounds_of vs) mid h.0) j),
        enters_snoc scope bs mid b (anything mid) enters (as_anything w.1),
      )
    ])
values_more scope bs mid b (Err f) (Ok t) r h j g =
    subst (JudgesValues scope (bs ++ b ∷ []) (inside mid b.name.text (ty_of t.ty))) (sym g)
    (elim h [
      | inl e ↦ inl e
      | inr d ↦ inr (
        told_more scope bs mid b f d.1 (told_left f (InValues scope bs) (Offends mid None b.value) d.0 (no_offence mid None b.value t j)),
        enters_snoc scope bs mid b (ty_of t.ty) d.1 (as_typed j.0),
      )
    ])
values_more scope bs mid b (Err f) (Err k) (Ok us) h j g = absurd g
values_more scope bs mid b (Err f) (Err k) (Err m) h j g = elim h [
  | inl e ↦ inl (memory_lesser (subst (λ f. Lesser f k m) e g))
  | inr d ↦ elim (some_offence k (Offends mid None b.value) j) [
    | inl e ↦ inl (memory_either (subst (λ k. Lesser f k m) e g))
    | inr w ↦ inr (
      told_more scope bs mid b m d.1 (told_either f k m (InValues scope bs) (Offends mid None b.value) d.0 j g),
      enters_snoc scope bs mid b (anything mid) d.1 (as_anything w.1),
    )
  ]
]

pub values_step : (scope : Scope) (bs : List Binding) (i : ℕ) (b : Binding) (mid inner : Scope) (so_far : Result (List rust_binding.Binding) TypeFault) (found : Result Typed TypeFault)
    (r : Result (List rust_binding.Binding) TypeFault) → i < length bs → b ≡ get_or bs i b → JudgesValues scope (take i bs) mid so_far → Judges mid None b.value found
    → GathersValue b.name.text so_far found r → inner ≡ inside mid b.name.text (shown mid found) → JudgesValues scope (take (i + 1) bs) inner r
values_step scope bs i b mid inner so_far found r h is j w g e =
    subst (λ s. JudgesValues scope (take (i + 1) bs) s r) (sym e)
    (subst (λ l. JudgesValues scope l (inside mid b.name.text (shown mid found)) r) (ap (λ y. take i bs ++ y ∷ []) is ∙ sym (take_more bs i b h))
    (values_more scope (take i bs) mid b so_far found r j w g))

-- ---- the scope

pub within_more : (outer mid inner : rust_scope.Scope) (f : rust_field.FieldDef) → IsWithin outer mid → inner ≡ record mid { locals = mid.locals ++ f ∷ [] } → IsWithin outer inner
within_more outer mid inner f w e = (
  w.0 ++ f ∷ [],
  e ∙ (ap (λ (s : rust_scope.Scope). record s { locals = s.locals ++ f ∷ [] }) w.1
      ∙ ap (λ (l : List rust_field.FieldDef). record outer { locals = l }) (append_assoc outer.locals w.0 (f ∷ []))),
)

-- where the inner locals go, the outer scope is left
pub left_again : (outer inner left : rust_scope.Scope) (n : ℕ) → IsWithin outer inner → n ≡ length outer.locals → left.locals ≡ take n inner.locals
    → left ≡ record inner { locals = left.locals } → left ≡ outer
left_again outer inner left n w p l e =
    e ∙ (ap (λ (ls : List rust_field.FieldDef). record inner { locals = ls })
    (l ∙ (ap (λ k. take k inner.locals) p ∙ (ap (λ (s : rust_scope.Scope). take (length outer.locals) s.locals) w.1 ∙ take-append_seam outer.locals w.0)))
    ∙ ap (λ (s : rust_scope.Scope). record s { locals = outer.locals }) w.1)

-- ---- the node

let_means : (scope : Scope) (want : Option Ty) (l : ℕ) (bs : List Binding) (c : Ast) (vs : List Bound) (inner : Scope) (e : Expr) (t : Ty) → Values scope bs vs inner
    → Elaborates inner want c e t → Elaborates scope want (tree.Let l bs c) (let_all vs e) t
let_means scope want l [] c [] inner e t h d = unbound c (subst (λ s. Elaborates s want c e t) (sym h) d)
let_means scope want l [] c (v ∷ vs) inner e t h d = absurd h
let_means scope want l (b ∷ bs) c [] inner e t h d = absurd h
let_means scope want l (b ∷ bs) c (v ∷ vs) inner e t h d =
    subst (λ x. Elaborates scope want (tree.Let l (b ∷ bs) c) (let_in x v.1 (let_all vs e)) t) (sym h.1)
    (bound b bs c h.2 (let_means (inside scope b.name.text h.0) want l bs c vs inner e t h.3 d))

let_offends : (at : ℕ) (scope : Scope) (want : Option Ty) (l : ℕ) (bs : List Binding) (c : Ast) (inner : Scope) → Enters scope bs inner → (o : Offence)
    → Either (InValues scope bs) (Offends inner want c) o → OffendsAt at scope want (tree.Let l bs c) o
let_offends at scope want l [] c inner h o (inl w) = absurd w
let_offends at scope want l [] c inner h o (inr w) = body c (subst (λ s. Offends s want c o) (sym h) w)
let_offends at scope want l (b ∷ bs) c inner h o (inl (inl w)) = bound_value b bs c w
let_offends at scope want l (b ∷ bs) c inner h o (inl (inr w)) =
    after_value b bs c h.1
    (stands refl (let_offends (start (tree.Let l bs c)) (inside scope b.name.text h.0) want l bs c inner h.2 o
    (inl (subst (λ t. InValues (inside scope b.name.text t) bs o) (shows_one scope b.value w.0 h.0 w.1 h.1) w.2))))
let_offends at scope want l (b ∷ bs) c inner h o (inr w) =
    after_value b bs c h.1 (stands refl (let_offends (start (tree.Let l bs c)) (inside scope b.name.text h.0) want l bs c inner h.2 o (inr w)))

not_let : (l : ℕ) (bs : List Binding) (c : Ast) → KeepsNeed (tree.Let l bs c) → ⊥
not_let l bs c w = true≢false (sym w ∙ fold_let Bool keeps_need_step l bs c)

no_other : (at : ℕ) (scope : Scope) (want : Option Ty) (l : ℕ) (bs : List Binding) (c : Ast) (o : Offence) → Other at scope want (tree.Let l bs c) o → ⊥
no_other at scope None l bs c o k = k
no_other at scope (Some t) l bs c o k = not_let l bs c k.2

in_let : {at : ℕ} {scope : Scope} {want : Option Ty} {l : ℕ} {bs : List Binding} {c : Ast} {o : Offence} → OffendsAt at scope want (tree.Let l bs c) o
    → Inside at scope want (Ast-F.Let l bs c) o
in_let {at = at} {scope = scope} {want = want} {l = l} {bs = bs} {c = c} {o = o} w = elim (split w) [
  | inl i ↦ subst (λ n. Inside at scope want n o) (tree.outs-Let l bs c) i
  | inr k ↦ absurd (no_other at scope want l bs c o k)
]

in_body : {at : ℕ} {scope : Scope} {want : Option Ty} {l : ℕ} {c : Ast} {o : Offence} → Inside at scope want (Ast-F.Let l [] c) o → Offends scope want c o
in_body (i_body l c o w) = w

in_first : {at : ℕ} {scope : Scope} {want : Option Ty} {l : ℕ} {b : Binding} {bs : List Binding} {c : Ast} {o : Offence} → Inside at scope want (Ast-F.Let l (b ∷ bs) c) o
    → Offends scope None b.value o ⊎ ((s : Ty) × Shows scope b.value s × Offends (inside scope b.name.text s) want (tree.Let l bs c) o)
in_first (i_value l b bs c o w) = inl w
in_first (i_after l b bs c o s h w) = inr (s, h, w)

offends_let : (at : ℕ) (scope : Scope) (want : Option Ty) (l : ℕ) (bs : List Binding) (c : Ast) (inner : Scope) → Enters scope bs inner → (o : Offence)
    → OffendsAt at scope want (tree.Let l bs c) o → Either (InValues scope bs) (Offends inner want c) o
offends_let at scope want l [] c inner h o w = inr (subst (λ s. Offends s want c o) h (in_body (in_let w)))
offends_let at scope want l (b ∷ bs) c inner h o w = elim (in_first (in_let w)) [
  | inl v ↦ inl (inl v)
  | inr r ↦ elim (offends_let (start (tree.Let l bs c)) (inside scope b.name.text h.0) want l bs c inner h.2 o
      (offends_at (subst (λ t. Offends (inside scope b.name.text t) want (tree.Let l bs c) o) (shows_one scope b.value r.0 h.0 r.1 h.1) r.2))) [
        | inl v ↦ inl (inr (h.0, h.1, v))
        | inr v ↦ inr v
      ]
]

values_ints : (bs : List Binding) → ValuesHaveInts bs → all_true (map (λ (b : Binding). folded Bool ints_step b.value) bs) ≡ true
values_ints [] h = refl
values_ints (b ∷ bs) h = ap (λ x. x && all_true (map (λ (b : Binding). folded Bool ints_step b.value) bs)) h.0 ∙ values_ints bs h.1

let_ints : (l : ℕ) (bs : List Binding) (c : Ast) → ValuesHaveInts bs → HasInts c → HasInts (tree.Let l bs c)
let_ints l bs c h k = fold_let Bool ints_step l bs c ∙ (ap (λ y. y && folded Bool ints_step c) (values_ints bs h) ∙ k)

module _ (at l : ℕ) (scope : Scope) (want : Option Ty) (bs : List Binding) (c : Ast) (inner : Scope) where
  abbrev here : Ast
  here = tree.Let l bs c

  told_let : (f : TypeFault) → Enters scope bs inner → Told f (Either (InValues scope bs) (Offends inner want c)) → Told f (OffendsAt at scope want here)
  told_let f h d =
      told_same f (Either (InValues scope bs) (Offends inner want c)) (OffendsAt at scope want here)
      (λ o w. let_offends at scope want l bs c inner h o w) (λ o w. offends_let at scope want l bs c inner h o w) d

  made_let : (vs : List rust_binding.Binding) (t : Typed) (r : Result Typed TypeFault) → JudgesValues scope bs inner (Ok vs) → Judges inner want c (Ok t)
      → MadeTyped typed_let (Ok (vs, t)) r → JudgesAt at scope want here r
  made_let vs t (Ok u) h k m = (
    subst (λ (p : Expr × Ty). Elaborates scope want here p.0 p.1) (sym m) (let_means scope want l bs c (bounds_of vs) inner (expr_of t.expr) (ty_of t.ty) h.0 k.0),
    let_ints l bs c h.1 k.1,
  )
  made_let vs t (Err f) h k m = subst (λ f. Told f (OffendsAt at scope want here)) (sym m) tt

  faulty_let : (f : TypeFault) (found : Result (List rust_binding.Binding × Typed) TypeFault) (r : Result Typed TypeFault) → found ≡ Err f → MadeTyped typed_let found r
      → Told f (OffendsAt at scope want here) → JudgesAt at scope want here r
  faulty_let f found r j m d =
      subst (JudgesAt at scope want here)
      (sym (subst (λ (n : Result (List rust_binding.Binding × Typed) TypeFault). MadeTyped typed_let n r) j m)) d

  pub let_node : (v : Result (List rust_binding.Binding) TypeFault) (w : Result Typed TypeFault) (found : Result (List rust_binding.Binding × Typed) TypeFault) (r : Result Typed TypeFault)
      → JudgesValues scope bs inner v → Judges inner want c w → Joined v w found → MadeTyped typed_let found r → JudgesAt at scope want here r
  let_node (Ok vs) (Ok t) found r h k j m =
      made_let vs t r h k (subst (λ (n : Result (List rust_binding.Binding × Typed) TypeFault). MadeTyped typed_let n r) j m)
  let_node (Ok vs) (Err g) found r h k j m =
      faulty_let g found r j m
      (told_let g (values_enter scope bs (bounds_of vs) inner h.0)
      (told_right g (InValues scope bs) (Offends inner want c) (values_clean scope bs (bounds_of vs) inner h.0) k))
  let_node (Err f) (Ok t) found r h k j m =
      faulty_let f found r j m
      (elim h [
        | inl e ↦ subst (λ f. Told f (OffendsAt at scope want here)) (sym e) tt
        | inr d ↦ told_let f d.1 (told_left f (InValues scope bs) (Offends inner want c) d.0 (no_offence inner want c t k))
      ])
  let_node (Err f) (Err g) found r h k j m =
      faulty_let j.0 found r j.1 m
      (elim h [
        | inl e ↦ subst (λ f. Told f (OffendsAt at scope want here)) (sym (memory_lesser (subst (λ f. Lesser f g j.0) e j.2))) tt
        | inr d ↦ told_let j.0 d.1 (told_either f g j.0 (InValues scope bs) (Offends inner want c) d.0 k j.2)
      ])
