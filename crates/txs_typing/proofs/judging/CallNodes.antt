-- What is judged of a call.
use Rattle.std.proofs.lemmas.List.{take_more, length-map, length-take-le}
use Rattle.std.proofs.Common.{◌+◌, take, get_or, IfOk, true, ◌&&◌, ◌≡◌, ◌≢◌, ◌⊎◌, ◌<◌, ℕ, zero, suc, Bool, ap, sym, subst, ◌∙◌, List, [], ◌∷◌, ◌++◌, length, map, slice_get, Option, Some, None, Result, Ok, Err, MatchResult, refl, inl, inr, arith}
use Rattle.txs_values.specs.declared.ty.Ty as rust_ty
use Rattle.txs_values.specs.declared.ty.Ty.TheVariants as ty
use Rattle.txs_values.specs.Value.{Ty}
use Rattle.txs_values.specs.View.{ty_of}
use Rattle.txs_terms.specs.declared.expr.Expr as rust_expr
use Rattle.txs_terms.specs.Expr.{Expr}
use Rattle.txs_terms.specs.View.{expr_of, exprs_of}
use Rattle.txs_syntax.specs.declared.ast.Name.{Name}
use Rattle.txs_syntax.specs.declared.ast.Ast.{Ast, out-Ast}
use Rattle.txs_syntax.specs.declared.ast.Ast.TheVariants as tree
use Rattle.txs_syntax.specs.declared.ast.Ast.TheOpen.{Ast-F}
use Rattle.txs_typing.specs.declared.fault.TypeFault.{TypeFault}
use Rattle.txs_typing.specs.declared.fault.TypeFault.TheVariants as fault
use Rattle.txs_typing.specs.Names.{Scope, Meaning, named_value, named_constant, named_function, named_constructor, named_test, named_selector, named_not, named_to_string, named_from_string, named_len, named_at, Fits, anything, takes, called}
use Rattle.txs_typing.specs.Elaborates.{folded, Suits, Makes, Elaborates, call, ElaboratesEach, nothing, one_more, HasInts, ints_step, all_true}
use Rattle.txs_typing.specs.Offends.{Offence, twice, unknown, arity, mismatch, empty_type, big_type, keeps_need_step, IsMiscalled, OffendsAt, Offends, unknown_call, wrong_number, from_nowhere, argument, stray_argument, other_type, NotAfter}
use Rattle.txs_typing.specs.Answer.{offence_of, Told, want_of}
use Rattle.txs_typing.specs.inner.View.{wants_of, Judges, JudgesAt}
use Rattle.txs_typing.specs.inner.Parts.{Typed, Fitted, Gathers, Argues, HaveInts, JudgesEach, call_type, Applies, CallsWith, stray_needs, Strays, StraysWith}
use Rattle.txs_typing.proofs.trees.Unique.{some_injective}
use Rattle.txs_typing.proofs.trees.NotBoth.{none≢some, not_both, as_many}
use Rattle.txs_typing.proofs.trees.Judged.{as_many_exprs}
use Rattle.txs_typing.proofs.trees.Folds.{fold_call}
use Rattle.txs_typing.proofs.judging.Inside.{Inside, i_call, i_number, i_nowhere, i_argument, i_stray, split, at_none}
use Rattle.txs_typing.proofs.judging.Told.{told_same, told_either, told_left, told_right}
use Rattle.txs_typing.proofs.judging.Finish.{told_mismatch, fault_of_parts, clean_at, no_offence}

-- ---- a call with its arguments

pub calls_fitted : (scope : Scope) (want : Option Ty) (at : ℕ) (m : Meaning) (es : List rust_expr.Expr) (t : Ty) (made : Result rust_expr.Expr TypeFault) (r : Result Typed TypeFault)
    → call_type m want ≡ Some t → MatchResult made (λ e. Applies m t (exprs_of es) (expr_of e)) (λ f. f ≡ fault.NoMemory) → Fitted scope want at t made r → CallsWith scope want at m (Ok es) r
calls_fitted scope want at m es t (Ok e) (Ok x) c a h = (
  subst (λ s. Makes want m (exprs_of es) (expr_of x.expr) s) (sym h.1) (subst (λ y. Makes want m (exprs_of es) (expr_of y) t) (sym h.0) (a want c)),
  subst (Suits scope want) (sym h.1) h.2,
)
calls_fitted scope want at m es t (Ok e) (Err f) c a h = inr (h.0, inr (h.1.0, t, expr_of e, h.1.1, c, h.1.2, a))
calls_fitted scope want at m es t (Err f) r c a h = subst (CallsWith scope want at m (Ok es)) (sym h) (inl a)

-- ---- the arguments

all_have : (args : List Ast) → HaveInts args → all_true (map (folded Bool ints_step) args) ≡ true
all_have [] h = refl
all_have (a ∷ args) h = ap (λ b. b && all_true (map (folded Bool ints_step) args)) h.0 ∙ all_have args h.1

call_ints : (x : Name) (args : List Ast) → HaveInts args → HasInts (tree.Call x args)
call_ints x args h = fold_call Bool ints_step x args ∙ all_have args h

argues_at : (scope : Scope) (needs : List (Option Ty)) (args : List Ast) (o : Offence) → Argues scope needs args o
    → (i : ℕ) × (a : Ast) × (need : Option Ty) × (slice_get args i ≡ Some a) × (slice_get needs i ≡ Some need) × Offends scope need a o
argues_at scope [] [] o h = absurd h
argues_at scope [] (a ∷ args) o h = absurd h
argues_at scope (n ∷ needs) [] o h = absurd h
argues_at scope (n ∷ needs) (a ∷ args) o (inl h) = (0, a, n, refl, refl, h)
argues_at scope (n ∷ needs) (a ∷ args) o (inr h) = let k = argues_at scope needs args o h in (suc k.0, k.1, k.2, k.3, k.4, k.5)

at_argues : (scope : Scope) (needs : List (Option Ty)) (args : List Ast) (o : Offence) (i : ℕ) (a : Ast) (need : Option Ty)
    → slice_get args i ≡ Some a → slice_get needs i ≡ Some need → Offends scope need a o → Argues scope needs args o
at_argues scope [] [] o i a need p q w = absurd (none≢some p)
at_argues scope [] (b ∷ args) o i a need p q w = absurd (none≢some q)
at_argues scope (n ∷ needs) [] o i a need p q w = absurd (none≢some p)
at_argues scope (n ∷ needs) (b ∷ args) o zero a need p q w =
    inl (subst (λ n. Offends scope n b o) (sym (some_injective q)) (subst (λ b. Offends scope need b o) (sym (some_injective p)) w))
at_argues scope (n ∷ needs) (b ∷ args) o (suc i) a need p q w = inr (at_argues scope needs args o i a need p q w)

-- none argues where each means something
none_argues : (scope : Scope) (needs : List (Option Ty)) (args : List Ast) (es : List Expr) → ElaboratesEach scope needs args es → (o : Offence) → Argues scope needs args o → ⊥
none_argues scope _ _ _ nothing o h = h
none_argues scope _ _ _ (one_more {want = n} {wants = needs} {a = a} {args = args} {e = e} {es = es} {t = t} d ds) o (inl w) = not_both scope n a e t o d w
none_argues scope _ _ _ (one_more {wants = needs} {args = args} {es = es} d ds) o (inr w) = none_argues scope needs args es ds o w

-- one more argument
each_snoc : (scope : Scope) (needs : List (Option Ty)) (args : List Ast) (es : List Expr) (n : Option Ty) (a : Ast) (e : Expr) (t : Ty)
    → ElaboratesEach scope needs args es → Elaborates scope n a e t → ElaboratesEach scope (needs ++ n ∷ []) (args ++ a ∷ []) (es ++ e ∷ [])
each_snoc scope _ _ _ n a e t nothing d = one_more d nothing
each_snoc scope _ _ _ n a e t (one_more {wants = needs} {args = args} {es = es} c ds) d = one_more c (each_snoc scope needs args es n a e t ds d)

ints_snoc : (args : List Ast) (a : Ast) → HaveInts args → HasInts a → HaveInts (args ++ a ∷ [])
ints_snoc [] a h k = (k, tt)
ints_snoc (b ∷ args) a h k = (h.0, ints_snoc args a h.1 k)

argues_snoc : (scope : Scope) (needs : List (Option Ty)) (args : List Ast) (n : Option Ty) (a : Ast) (o : Offence) → length needs ≡ length args
    → Argues scope (needs ++ n ∷ []) (args ++ a ∷ []) o → Argues scope needs args o ⊎ Offends scope n a o
argues_snoc scope [] [] n a o l (inl w) = inr w
argues_snoc scope [] [] n a o l (inr w) = absurd w
argues_snoc scope [] (b ∷ args) n a o l w = absurd (omega (arith, l))
argues_snoc scope (m ∷ needs) [] n a o l w = absurd (omega (arith, l))
argues_snoc scope (m ∷ needs) (b ∷ args) n a o l (inl w) = inl (inl w)
argues_snoc scope (m ∷ needs) (b ∷ args) n a o l (inr w) = elim (argues_snoc scope needs args n a o (omega (arith, l)) w) [ inl p ↦ inl (inr p) | inr p ↦ inr p ]

snoc_argues : (scope : Scope) (needs : List (Option Ty)) (args : List Ast) (n : Option Ty) (a : Ast) (o : Offence) → length needs ≡ length args
    → Argues scope needs args o ⊎ Offends scope n a o → Argues scope (needs ++ n ∷ []) (args ++ a ∷ []) o
snoc_argues scope [] [] n a o l (inl w) = absurd w
snoc_argues scope [] [] n a o l (inr w) = inl w
snoc_argues scope [] (b ∷ args) n a o l w = absurd (omega (arith, l))
snoc_argues scope (m ∷ needs) [] n a o l w = absurd (omega (arith, l))
snoc_argues scope (m ∷ needs) (b ∷ args) n a o l (inl (inl w)) = inl w
snoc_argues scope (m ∷ needs) (b ∷ args) n a o l (inl (inr w)) = inr (snoc_argues scope needs args n a o (omega (arith, l)) (inl w))
snoc_argues scope (m ∷ needs) (b ∷ args) n a o l (inr w) = inr (snoc_argues scope needs args n a o (omega (arith, l)) (inr w))

append_map : (es : List rust_expr.Expr) (e : rust_expr.Expr) → exprs_of (es ++ e ∷ []) ≡ exprs_of es ++ expr_of e ∷ []
append_map [] e = refl
append_map (f ∷ es) e = ap (λ l. expr_of f ∷ l) (append_map es e)

pub each_more : (scope : Scope) (needs : List (Option Ty)) (args : List Ast) (n : Option Ty) (a : Ast) (so_far : Result (List rust_expr.Expr) TypeFault)
    (found : Result Typed TypeFault) (r : Result (List rust_expr.Expr) TypeFault) → length needs ≡ length args → JudgesEach scope needs args so_far → Judges scope n a found
    → Gathers so_far found r → JudgesEach scope (needs ++ n ∷ []) (args ++ a ∷ []) r
each_more scope needs args n a (Ok es) (Ok t) (Ok fs) l h j g = (
  subst (λ l. ElaboratesEach scope (needs ++ n ∷ []) (args ++ a ∷ []) l) (sym (ap exprs_of g ∙ append_map es t.expr))
      (each_snoc scope needs args (exprs_of es) n a (expr_of t.expr) (ty_of t.ty) h.0 j.0),
  ints_snoc args a h.1 j.1,
)
each_more scope needs args n a (Ok es) (Ok t) (Err f) l h j g = subst (λ f. Told f (Argues scope (needs ++ n ∷ []) (args ++ a ∷ []))) (sym g) tt
each_more scope needs args n a (Ok es) (Err f) r l h j g =
    subst (JudgesEach scope (needs ++ n ∷ []) (args ++ a ∷ [])) (sym g)
    (told_same f (λ o. Argues scope needs args o ⊎ Offends scope n a o) (Argues scope (needs ++ n ∷ []) (args ++ a ∷ []))
    (λ o w. snoc_argues scope needs args n a o l w) (λ o w. argues_snoc scope needs args n a o l w)
    (told_right f (Argues scope needs args) (Offends scope n a) (none_argues scope needs args (exprs_of es) h.0) j))
each_more scope needs args n a (Err f) (Ok t) r l h j g =
    subst (JudgesEach scope (needs ++ n ∷ []) (args ++ a ∷ [])) (sym g)
    (told_same f (λ o. Argues scope needs args o ⊎ Offends scope n a o) (Argues scope (needs ++ n ∷ []) (args ++ a ∷ []))
    (λ o w. snoc_argues scope needs args n a o l w) (λ o w. argues_snoc scope needs args n a o l w)
    (told_left f (Argues scope needs args) (Offends scope n a) h (no_offence scope n a t j)))
each_more scope needs args n a (Err f) (Err k) (Ok fs) l h j g = absurd g
each_more scope needs args n a (Err f) (Err k) (Err m) l h j g =
    told_same m (λ o. Argues scope needs args o ⊎ Offends scope n a o) (Argues scope (needs ++ n ∷ []) (args ++ a ∷ []))
    (λ o w. snoc_argues scope needs args n a o l w) (λ o w. argues_snoc scope needs args n a o l w)
    (told_either f k m (Argues scope needs args) (Offends scope n a) h j g)

-- ---- the node

call_inside : {at : ℕ} {scope : Scope} {want : Option Ty} {x : Name} {args : List Ast} {o : Offence} (m : Meaning) (needs : List (Option Ty)) → called scope x.text ≡ Some (m, needs)
    → length args ≡ length needs → Inside at scope want (Ast-F.Call x args) o
    → Argues scope needs args o ⊎ (o ≡ mismatch at) × ((es : List Expr) × ElaboratesEach scope needs args es)
call_inside m needs c l (i_call x args h) = absurd (none≢some (sym h ∙ c))
call_inside m needs c l (i_number x args m' needs' h n) = absurd (n (l ∙ ap (λ r. length r.1) (some_injective (sym c ∙ h))))
call_inside {scope = scope} m needs c l (i_nowhere x args needs' es h ds) =
    inr (refl, (es, subst (λ (r : Meaning × List (Option Ty)). ElaboratesEach scope r.1 args es) (some_injective (sym h ∙ c)) ds))
call_inside {scope = scope} m needs c l (i_argument need x args m' needs' i a o h n g k w) =
    inl (at_argues scope needs args o i a need g (ap (λ r. slice_get r.1 i) (some_injective (sym c ∙ sym (sym h))) ∙ k) w)
call_inside m needs c l (i_stray x args i a o h g w) = absurd (h m needs c l)

-- what takes arguments has a type, but for fromString where none is needed
nothing_taken : (m : Meaning) (needs : List (Option Ty)) (want : Option Ty) → takes m ≡ Some needs → call_type m want ≡ None → (m ≡ named_from_string) × (want ≡ None)
nothing_taken (named_value b) needs want h c = absurd (none≢some h)
nothing_taken (named_constant k t) needs want h c = absurd (none≢some h)
nothing_taken (named_function f ts t) needs want h c = absurd (none≢some (sym c))
nothing_taken (named_constructor k n ts) needs want h c = absurd (none≢some (sym c))
nothing_taken (named_test k n) needs want h c = absurd (none≢some (sym c))
nothing_taken (named_selector k j n t) needs want h c = absurd (none≢some (sym c))
nothing_taken named_not needs want h c = absurd (none≢some (sym c))
nothing_taken named_to_string needs want h c = absurd (none≢some (sym c))
nothing_taken named_from_string needs want h c = (refl, c)
nothing_taken named_len needs want h c = absurd (none≢some (sym c))
nothing_taken named_at needs want h c = absurd (none≢some (sym c))

-- where a type is known whether one is needed or not, it is of no call of fromString
type_anywhere : (m : Meaning) (s t : Ty) (scope : Scope) → call_type m (Some s) ≡ Some t → (Fits scope s t → ⊥) → call_type m None ≡ Some t
type_anywhere (named_value b) s t scope c n = c
type_anywhere (named_constant k u) s t scope c n = c
type_anywhere (named_function f ts u) s t scope c n = c
type_anywhere (named_constructor k j ts) s t scope c n = c
type_anywhere (named_test k j) s t scope c n = c
type_anywhere (named_selector k j i u) s t scope c n = c
type_anywhere named_not s t scope c n = c
type_anywhere named_to_string s t scope c n = c
type_anywhere named_from_string s t scope c n = absurd (n (inl (some_injective c)))
type_anywhere named_len s t scope c n = c
type_anywhere named_at s t scope c n = c

call_form : {at : ℕ} {scope : Scope} {want : Option Ty} {x : Name} {args : List Ast} {o : Offence} → Inside at scope want (out-Ast (tree.Call x args)) o → Inside at scope want (Ast-F.Call x args) o
call_form {at = at} {scope = scope} {want = want} {x = x} {args = args} {o = o} i = subst (λ l. Inside at scope want l o) (tree.outs-Call x args) i

module _ (at : ℕ) (scope : Scope) (want : Option Ty) (x : Name) (args : List Ast) (m : Meaning) (needs : List (Option Ty)) (c : called scope x.text ≡ Some (m, needs))
    (k : takes m ≡ Some needs) (l : length args ≡ length needs) where
  abbrev here : Ast
  here = tree.Call x args

  argued : (o : Offence) → Argues scope needs args o → (w : Option Ty) → OffendsAt at scope w here o
  argued o h w = let p = argues_at scope needs args o h in argument args p.0 p.1 c l p.3 p.4 p.5

  only_argued : (p : Offence) → Argues scope needs args p → (o : Offence) → Inside at scope want (out-Ast here) o → Argues scope needs args o
  only_argued p h o i = elim (call_inside m needs c l (call_form i)) [ inl q ↦ q | inr q ↦ absurd (none_argues scope needs args q.1.0 q.1.1 p h) ]

  told_each : (f : TypeFault) → Told f (Argues scope needs args) → Told f (OffendsAt at scope want here)
  told_each f h = fault_of_parts at scope want here (Argues scope needs args) f h (λ w o p. argued o p w) only_argued

  module _ (es : List Expr) (ds : ElaboratesEach scope needs args es) where
    -- fromString where no type is needed
    nowhere : (n : Option Ty) → n ≡ None → m ≡ named_from_string → want ≡ n → Told (fault.Mismatch at) (OffendsAt at scope want here)
    nowhere n e same w =
        told_mismatch at (OffendsAt at scope want here)
        (subst (λ n. OffendsAt at scope n here (mismatch at)) (sym (w ∙ e)) (from_nowhere args (c ∙ ap (λ m. Some (m, needs)) same) ds))
        (λ o q. elim (split (subst (λ n. OffendsAt at scope n here o) (w ∙ e) q)) [
          | inl i ↦ (elim (call_inside {at = at} m needs c l (call_form i)) [ inl p ↦ absurd (none_argues scope needs args es ds o p) | inr p ↦ p.0 ])
          | inr p ↦ absurd p
        ])

    other : (s t : Ty) (e : Expr) → want ≡ Some s → call_type m want ≡ Some t → (Fits scope s t → ⊥) → Applies m t es e → Told (fault.Mismatch at) (OffendsAt at scope want here)
    other s t e w h n a =
        let none = type_anywhere m s t scope (ap (call_type m) (sym w) ∙ h) n in
        let d : Elaborates scope None here e t = call args c ds (a None none) tt in
        told_mismatch at (OffendsAt at scope want here)
        (subst (λ n. OffendsAt at scope n here (mismatch at)) (sym w) (other_type here (fold_call Bool keeps_need_step x args) d n))
        (λ o q. elim (at_none q (fold_call Bool keeps_need_step x args)) [ inl p ↦ absurd (clean_at at scope None here e t o d p) | inr p ↦ p ])

  pub calls_node : (found : Result (List rust_expr.Expr) TypeFault) (r : Result Typed TypeFault) → JudgesEach scope needs args found → CallsWith scope want at m found r
      → JudgesAt at scope want here r
  calls_node (Err f) r h w = subst (JudgesAt at scope want here) (sym w) (told_each f h)
  calls_node (Ok es) (Ok t) h w = (call args c h.0 w.0 w.1, call_ints x args h.1)
  calls_node (Ok es) (Err f) h (inl w) = subst (λ f. Told f (OffendsAt at scope want here)) (sym w) tt
  calls_node (Ok es) (Err f) h (inr w) = subst (λ f. Told f (OffendsAt at scope want here)) (sym w.0) (elim (w.1) [
    | inl p ↦ (let q = nothing_taken m needs want k p in nowhere (exprs_of es) h.0 None refl q.0 q.1)
    | inr p ↦ other (exprs_of es) h.0 p.0 p.1 p.2 p.3 p.4 p.5 p.6
  ])

-- ---- a call that is an offence itself

stray_at : (scope : Scope) (args : List Ast) (i : ℕ) (a : Ast) → slice_get args i ≡ Some a → slice_get (stray_needs scope args) i ≡ Some (Some (anything scope))
stray_at scope [] i a h = absurd (none≢some h)
stray_at scope (b ∷ args) zero a h = refl
stray_at scope (b ∷ args) (suc i) a h = stray_at scope args i a h

module _ (at : ℕ) (scope : Scope) (want : Option Ty) (x : Name) (args : List Ast) (bad : IsMiscalled scope x args) (g : TypeFault)
    (own : (o : Offence) → offence_of g ≡ Some o → (w : Option Ty) → OffendsAt at scope w (tree.Call x args) o)
    (owned : (o : Offence) → Inside at scope want (Ast-F.Call x args) o → (offence_of g ≡ Some o) ⊎ Argues scope (stray_needs scope args) args o) where
  strayed : (o : Offence) → Argues scope (stray_needs scope args) args o → (w : Option Ty) → OffendsAt at scope w (tree.Call x args) o
  strayed o h w =
      let p = argues_at scope (stray_needs scope args) args o h in
      let same = some_injective (sym p.4 ∙ stray_at scope args p.0 p.1 p.3) in
      stray_argument args p.0 p.1 bad p.3 (subst (λ n. Offends scope n p.1 o) same p.5)

  pub strays_node : (f : TypeFault) → Told f (Strays scope g args) → Told f (OffendsAt at scope want (tree.Call x args))
  strays_node f h =
      fault_of_parts at scope want (tree.Call x args) (Strays scope g args) f h
      (λ w o p. elim p [ inl q ↦ own o q w | inr q ↦ strayed o q w ]) (λ p q o i. owned o (call_form i))

unknown_owned : {at : ℕ} {scope : Scope} {want : Option Ty} {x : Name} {args : List Ast} → called scope x.text ≡ None → (o : Offence) → Inside at scope want (Ast-F.Call x args) o
    → (Some (unknown x.at) ≡ Some o) ⊎ Argues scope (stray_needs scope args) args o
unknown_owned c q (i_call x args h) = inl refl
unknown_owned c q (i_number x args m needs h n) = absurd (none≢some (sym c ∙ h))
unknown_owned c q (i_nowhere x args needs es h ds) = absurd (none≢some (sym c ∙ h))
unknown_owned c q (i_argument need x args m needs i a o h n g k w) = absurd (none≢some (sym c ∙ h))
unknown_owned {scope = scope} c q (i_stray x args i a o h g w) = inr (at_argues scope (stray_needs scope args) args o i a (Some (anything scope)) g (stray_at scope args i a g) w)

pub unknown_node : (at : ℕ) (scope : Scope) (want : Option Ty) (x : Name) (args : List Ast) (f : TypeFault) → None ≡ called scope x.text → Told f (Strays scope (fault.Unknown x.at) args)
    → Told f (OffendsAt at scope want (tree.Call x args))
unknown_node at scope want x args f c h =
    strays_node at scope want x args (λ m needs k. absurd (none≢some (c ∙ k))) (fault.Unknown x.at)
    (λ o p w. subst (OffendsAt at scope w (tree.Call x args)) (some_injective p) (unknown_call args (sym c)))
    (λ o i. unknown_owned (sym c) o i) f h

arity_owned : {at : ℕ} {scope : Scope} {want : Option Ty} {x : Name} {args : List Ast} {m : Meaning} {needs : List (Option Ty)} → called scope x.text ≡ Some (m, needs)
    → length args ≢ length needs → (o : Offence) → Inside at scope want (Ast-F.Call x args) o → (Some (arity x.at) ≡ Some o) ⊎ Argues scope (stray_needs scope args) args o
arity_owned c l q (i_call x args h) = absurd (none≢some (sym h ∙ c))
arity_owned c l q (i_number x args m needs h n) = inl refl
arity_owned {m = m} c l q (i_nowhere x args needs es h ds) = absurd (l (as_many ds ∙ ap (λ r. length r.1) (some_injective (sym h ∙ c))))
arity_owned c l q (i_argument need x args m needs i a o h n g k w) = absurd (l (n ∙ ap (λ r. length r.1) (some_injective (sym h ∙ c))))
arity_owned {scope = scope} c l q (i_stray x args i a o h g w) = inr (at_argues scope (stray_needs scope args) args o i a (Some (anything scope)) g (stray_at scope args i a g) w)

pub arity_node : (at : ℕ) (scope : Scope) (want : Option Ty) (x : Name) (args : List Ast) (m : Meaning) (needs : List (Option Ty)) (f : TypeFault) → called scope x.text ≡ Some (m, needs)
    → length args ≢ length needs → Told f (Strays scope (fault.Arity x.at) args) → Told f (OffendsAt at scope want (tree.Call x args))
arity_node at scope want x args m needs f c l h =
    strays_node at scope want x args (λ m' needs' k e. l (e ∙ ap (λ r. length r.1) (some_injective (sym k ∙ c)))) (fault.Arity x.at)
    (λ o p w. subst (OffendsAt at scope w (tree.Call x args)) (some_injective p) (wrong_number args c l))
    (λ o i. arity_owned c l o i) f h

-- one more argument
strays_snoc : (scope : Scope) (args : List Ast) (a : Ast) → stray_needs scope (args ++ a ∷ []) ≡ stray_needs scope args ++ Some (anything scope) ∷ []
strays_snoc scope [] a = refl
strays_snoc scope (b ∷ args) a = ap (λ l. Some (anything scope) ∷ l) (strays_snoc scope args a)

wants_snoc : (needs : List (Option rust_ty.Ty)) (n : Option rust_ty.Ty) → wants_of (needs ++ n ∷ []) ≡ wants_of needs ++ want_of n ∷ []
wants_snoc [] n = refl
wants_snoc (m ∷ needs) n = ap (λ l. want_of m ∷ l) (wants_snoc needs n)

pub strays_more : (scope : Scope) (args : List Ast) (i : ℕ) (needs : List (Option rust_ty.Ty)) (d : Ast) → i < length args → wants_of needs ≡ stray_needs scope (take i args)
    → wants_of (needs ++ Some (ty.Named scope.types) ∷ []) ≡ stray_needs scope (take (i + 1) args)
strays_more scope args i needs d h e =
    wants_snoc needs (Some (ty.Named scope.types)) ∙ (ap (λ l. l ++ Some (anything scope) ∷ []) e
    ∙ (sym (strays_snoc scope (take i args) (get_or args i d)) ∙ ap (stray_needs scope) (sym (take_more args i d h))))

pub each_step : (scope : Scope) (needs : List (Option rust_ty.Ty)) (args : List Ast) (i : ℕ) (n : Option rust_ty.Ty) (a : Ast) (so_far : Result (List rust_expr.Expr) TypeFault)
    (found : Result Typed TypeFault) (r : Result (List rust_expr.Expr) TypeFault) → length needs ≡ length args → i < length args
    → JudgesEach scope (wants_of (take i needs)) (take i args) so_far → Judges scope (want_of (get_or needs i n)) (get_or args i a) found
    → Gathers so_far found r → JudgesEach scope (wants_of (take (i + 1) needs)) (take (i + 1) args) r
each_step scope needs args i n a so_far found r l h j k g =
    let there : i < length needs = omega (arith, l, h) in
    let many : length (wants_of (take i needs)) ≡ length (take i args) = length-map (take i needs) want_of ∙ (length-take-le i needs (omega (arith, there)) ∙ sym (length-take-le i args (omega (arith, h)))) in
    subst (λ ns. JudgesEach scope ns (take (i + 1) args) r) (sym (ap wants_of (take_more needs i n there) ∙ wants_snoc (take i needs) (get_or needs i n)))
    (subst (λ l. JudgesEach scope (wants_of (take i needs) ++ want_of (get_or needs i n) ∷ []) l r) (sym (take_more args i a h))
    (each_more scope (wants_of (take i needs)) (take i args) (want_of (get_or needs i n)) (get_or args i a) so_far found r many j k g))

-- all arguments mean as many expressions
pub as_many_found : (scope : Scope) (needs : List (Option Ty)) (args : List Ast) (found : Result (List rust_expr.Expr) TypeFault) → JudgesEach scope needs args found
    → IfOk found (λ es. length es ≡ length needs)
as_many_found scope needs args (Ok es) h = sym (length-map es expr_of) ∙ as_many_exprs h.0
as_many_found scope needs args (Err f) h = tt

own_told : (g : TypeFault) → Told g (λ o. offence_of g ≡ Some o)
own_told (fault.Twice at) = record { stands = refl; first = λ p e. subst (NotAfter (twice at)) (some_injective e) (inr (refl, omega arith)) }
own_told (fault.Unknown at) = record { stands = refl; first = λ p e. subst (NotAfter (unknown at)) (some_injective e) (inr (refl, omega arith)) }
own_told (fault.Arity at) = record { stands = refl; first = λ p e. subst (NotAfter (arity at)) (some_injective e) (inr (refl, omega arith)) }
own_told (fault.Mismatch at) = record { stands = refl; first = λ p e. subst (NotAfter (mismatch at)) (some_injective e) (inr (refl, omega arith)) }
own_told (fault.EmptyType at) = record { stands = refl; first = λ p e. subst (NotAfter (empty_type at)) (some_injective e) (inr (refl, omega arith)) }
own_told (fault.BigType at) = record { stands = refl; first = λ p e. subst (NotAfter (big_type at)) (some_injective e) (inr (refl, omega arith)) }
own_told fault.NoMemory = tt

pub strays_told : (scope : Scope) (g : TypeFault) (args : List Ast) (found : Result (List rust_expr.Expr) TypeFault) (r : Result Typed TypeFault)
    → JudgesEach scope (stray_needs scope args) args found → StraysWith g found r → MatchResult r (λ t. ⊥) (λ f. Told f (Strays scope g args))
strays_told scope g args (Ok es) r h w =
    subst (λ r. MatchResult r (λ t. ⊥) (λ f. Told f (Strays scope g args))) (sym w)
    (told_left g (λ o. offence_of g ≡ Some o) (Argues scope (stray_needs scope args) args) (own_told g) (none_argues scope (stray_needs scope args) args (exprs_of es) h.0))
strays_told scope g args (Err f) r h w =
    subst (λ r. MatchResult r (λ t. ⊥) (λ f. Told f (Strays scope g args))) (sym w.1)
    (told_either g f w.0 (λ o. offence_of g ≡ Some o) (Argues scope (stray_needs scope args) args) (own_told g) h w.2)

pub strays_judged : (at : ℕ) (scope : Scope) (want : Option Ty) (a : Ast) (g : TypeFault) (args : List Ast) (r : Result Typed TypeFault)
    → MatchResult r (λ t. ⊥) (λ f. Told f (Strays scope g args)) → ((f : TypeFault) → Told f (Strays scope g args) → Told f (OffendsAt at scope want a)) → JudgesAt at scope want a r
strays_judged at scope want a g args (Ok t) h k = absurd h
strays_judged at scope want a g args (Err f) h k = k f h

pub length_strays : (scope : Scope) (args : List Ast) → length (stray_needs scope args) ≡ length args
length_strays scope [] = refl
length_strays scope (a ∷ args) = ap suc (length_strays scope args)
