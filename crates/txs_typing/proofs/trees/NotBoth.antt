-- A tree that means an expression has no offence.
use Rattle.std.proofs.Common.{◌≡◌, ◌≢◌, ◌⊎◌, ℕ, ℤ, Bool, true, false, cond, ap, sym, subst, ◌∙◌, List, [], ◌∷◌, length, slice_get, Option, Some, None, refl, inl, inr, zero, suc, true≢false}
use Rattle.txs_values.specs.Value.{Ty, integer, truth}
use Rattle.txs_terms.specs.Expr.{Expr}
use Rattle.txs_syntax.specs.declared.ast.Op.{Op}
use Rattle.txs_syntax.specs.declared.ast.Name.{Name}
use Rattle.txs_syntax.specs.declared.ast.Ast.{Ast, out-Ast}
use Rattle.txs_syntax.specs.declared.ast.Binding.{Binding}
use Rattle.txs_syntax.specs.declared.ast.Ast.TheVariants as tree
use Rattle.txs_syntax.specs.declared.ast.Ast.TheOpen.{Ast-F}
use Rattle.txs_typing.specs.Names.{Scope, Meaning, Fits, inside, called, meaning, named_from_string}
use Rattle.txs_typing.proofs.Laws.{NotBoth}
use Rattle.txs_typing.specs.Elaborates.{right_first, Operator, Comparison, Makes, function_made, value_made, constructor_made, test_made, selector_made, not_made, to_string_made, len_made, at_made, Elaborates, number, quoted, name, call, negated, operated, compared, compared_back, grouped, chosen, chosen_freely, bound, unbound, ElaboratesEach, nothing, one_more}
use Rattle.txs_typing.specs.Offends.{Offence, KeepsNeed, keeps_need_step, earlier, later, IsMiscalled, OffendsAt, Offends, Shows, stands, as_typed, as_anything, unknown_name, unknown_call, wrong_number, other_type, from_nowhere, argument, stray_argument, negated as side_negated, left, right, earlier_side, later_side, grouped as inside_grouped, condition, then_branch, else_branch, else_like_then, bound_value, after_value, body}
use Rattle.txs_typing.proofs.trees.Folds.{fold_group, fold_if, fold_let}
use Rattle.txs_typing.proofs.trees.Unique.{some_injective, same_operator, no_operator, layer, at_form, Layer, l_call, of_number, of_quoted, of_name, of_negated, of_operated, of_compared, of_back, unique, unique_each}

abbrev is_there : {A : Type 0} → Option A → Bool
is_there None = false
is_there (Some a) = true

pub none≢some : {A : Type 0} {a : A} → None ≡ Some a → ⊥
none≢some p = true≢false (sym (ap is_there p))

-- what offends in a tree, by its outermost form, besides its type
data Offending (scope : Scope) : Option Ty → Ast-F Ast Binding → Type 0 where
  f_name : {want : Option Ty} (x : Name) → meaning scope x.text ≡ None → Offending scope want (Ast-F.Name x)
  f_call : {want : Option Ty} (x : Name) (args : List Ast) → called scope x.text ≡ None → Offending scope want (Ast-F.Call x args)
  f_number : {want : Option Ty} (x : Name) (args : List Ast) (m : Meaning) (needs : List (Option Ty)) → called scope x.text ≡ Some (m, needs)
      → length args ≢ length needs → Offending scope want (Ast-F.Call x args)
  f_nowhere : (x : Name) (args : List Ast) (needs : List (Option Ty)) → called scope x.text ≡ Some (named_from_string, needs) → Offending scope None (Ast-F.Call x args)
  f_argument : {want : Option Ty} (need : Option Ty) (x : Name) (args : List Ast) (m : Meaning) (needs : List (Option Ty)) (i : ℕ) (a : Ast) (o : Offence)
      → called scope x.text ≡ Some (m, needs) → slice_get args i ≡ Some a → slice_get needs i ≡ Some need → Offends scope need a o → Offending scope want (Ast-F.Call x args)
  f_stray : {want : Option Ty} (x : Name) (args : List Ast) → IsMiscalled scope x args → Offending scope want (Ast-F.Call x args)
  f_negated : {want : Option Ty} (at : ℕ) (a : Ast) (o : Offence) → Offends scope (Some integer) a o → Offending scope want (Ast-F.Negate at a)
  f_left : {want : Option Ty} (p : Op) (a b : Ast) (o : Offence) (need t : Ty) (make : Expr → Expr → Expr) → Operator p need t make → Offends scope (Some need) a o
      → Offending scope want (Ast-F.Binary p a b)
  f_right : {want : Option Ty} (p : Op) (a b : Ast) (o : Offence) (need t : Ty) (make : Expr → Expr → Expr) → Operator p need t make → Offends scope (Some need) b o
      → Offending scope want (Ast-F.Binary p a b)
  f_earlier : {want : Option Ty} (p : Op) (a b : Ast) (o : Offence) (make : Expr → Expr → Expr) → Comparison p make → Offends scope None (earlier a b) o
      → Offending scope want (Ast-F.Binary p a b)
  f_later : {want : Option Ty} (p : Op) (a b : Ast) (o : Offence) (s : Ty) (make : Expr → Expr → Expr) → Comparison p make → Shows scope (earlier a b) s
      → Offends scope (Some s) (later a b) o → Offending scope want (Ast-F.Binary p a b)
  f_grouped : {want : Option Ty} (at bracket : ℕ) (a : Ast) (o : Offence) → OffendsAt at scope want a o → Offending scope want (Ast-F.Group bracket a)
  f_condition : {want : Option Ty} (at : ℕ) (p a b : Ast) (o : Offence) → Offends scope (Some truth) p o → Offending scope want (Ast-F.If at p a b)
  f_then : {want : Option Ty} (at : ℕ) (p a b : Ast) (o : Offence) → Offends scope want a o → Offending scope want (Ast-F.If at p a b)
  f_else : (t : Ty) (at : ℕ) (p a b : Ast) (o : Offence) → Offends scope (Some t) b o → Offending scope (Some t) (Ast-F.If at p a b)
  f_like_then : (s : Ty) (at : ℕ) (p a b : Ast) (o : Offence) → Shows scope a s → Offends scope (Some s) b o → Offending scope None (Ast-F.If at p a b)
  f_value : {want : Option Ty} (at : ℕ) (b : Binding) (bs : List Binding) (c : Ast) (o : Offence) → Offends scope None b.value o
      → Offending scope want (Ast-F.Let at (b ∷ bs) c)
  f_after : {want : Option Ty} (at : ℕ) (b : Binding) (bs : List Binding) (c : Ast) (o : Offence) (s : Ty) → Shows scope b.value s
      → Offends (inside scope b.name.text s) want (tree.Let at bs c) o → Offending scope want (Ast-F.Let at (b ∷ bs) c)
  f_body : {want : Option Ty} (at : ℕ) (c : Ast) (o : Offence) → Offends scope want c o → Offending scope want (Ast-F.Let at [] c)

off_form : {scope : Scope} {want : Option Ty} {l m : Ast-F Ast Binding} → m ≡ l → Offending scope want l → Offending scope want m
off_form {scope = scope} {want = want} p d = subst (Offending scope want) (sym p) d

-- the tree is of another type than the needed one
abbrev Other : Scope → Option Ty → Ast → Type 0
Other scope None a = ⊥
Other scope (Some t) a = (e : Expr) × (s : Ty) × KeepsNeed a × Elaborates scope None a e s × (Fits scope t s → ⊥)

split : {at : ℕ} {scope : Scope} {want : Option Ty} {a : Ast} {o : Offence} → OffendsAt at scope want a o → Offending scope want (out-Ast a) ⊎ Other scope want a
split (unknown_name {x = x} h) = inl (off_form (tree.outs-Name x) (f_name x h))
split (unknown_call {x = x} args h) = inl (off_form (tree.outs-Call x args) (f_call x args h))
split (wrong_number {x = x} args {m = m} {needs = needs} h n) = inl (off_form (tree.outs-Call x args) (f_number x args m needs h n))
split (other_type a {e = e} {s = s} w d n) = inr (e, s, w, d, n)
split (from_nowhere {x = x} args {needs = needs} h ds) = inl (off_form (tree.outs-Call x args) (f_nowhere x args needs h))
split (argument {need = need} {x = x} args {m = m} {needs = needs} i a {o = o} h n g k w) =
    inl (off_form (tree.outs-Call x args) (f_argument need x args m needs i a o h g k w))
split (stray_argument {x = x} args i a h g w) = inl (off_form (tree.outs-Call x args) (f_stray x args h))
split (side_negated {minus = at} a {o = o} w) = inl (off_form (tree.outs-Negate at a) (f_negated at a o w))
split (left {p = p} a b {o = o} {need = need} {t = t} {make = make} k w) = inl (off_form (tree.outs-Binary p a b) (f_left p a b o need t make k w))
split (right {p = p} a b {o = o} {need = need} {t = t} {make = make} k w) = inl (off_form (tree.outs-Binary p a b) (f_right p a b o need t make k w))
split (earlier_side {p = p} a b {o = o} {make = make} c w) = inl (off_form (tree.outs-Binary p a b) (f_earlier p a b o make c w))
split (later_side {p = p} a b {o = o} {s = s} {make = make} c h w) = inl (off_form (tree.outs-Binary p a b) (f_later p a b o s make c h w))
split (inside_grouped {at = at} {bracket = bracket} a {o = o} w) = inl (off_form (tree.outs-Group bracket a) (f_grouped at bracket a o w))
split (condition {i = at} p a b {o = o} w) = inl (off_form (tree.outs-If at p a b) (f_condition at p a b o w))
split (then_branch {i = at} p a b {o = o} w) = inl (off_form (tree.outs-If at p a b) (f_then at p a b o w))
split (else_branch {t = t} {i = at} p a b {o = o} w) = inl (off_form (tree.outs-If at p a b) (f_else t at p a b o w))
split (else_like_then {s = s} {i = at} p a b {o = o} h w) = inl (off_form (tree.outs-If at p a b) (f_like_then s at p a b o h w))
split (bound_value {l = at} b bs c {o = o} w) = inl (off_form (tree.outs-Let at (b ∷ bs) c) (f_value at b bs c o w))
split (after_value {l = at} b bs c {o = o} {s = s} h w) = inl (off_form (tree.outs-Let at (b ∷ bs) c) (f_after at b bs c o s h w))
split (body {l = at} c {o = o} w) = inl (off_form (tree.outs-Let at [] c) (f_body at c o w))

-- ---- the type of a tree that keeps the need

made_type : {want : Option Ty} {m : Meaning} {es : List Expr} {e f : Expr} {s t : Ty} → Makes None m es e s → Makes want m es f t → s ≡ t
made_type (function_made w g ts t es) (function_made w' g' ts' t' es') = refl
made_type (value_made w c k) (value_made w' c' k') = refl
made_type (constructor_made w c k t ts es) (constructor_made w' c' k' t' ts' es') = refl
made_type (test_made w c k e) (test_made w' c' k' e') = refl
made_type (selector_made w c j k t e) (selector_made w' c' j' k' t' e') = refl
made_type (not_made w e) (not_made w' e') = refl
made_type (to_string_made w e) (to_string_made w' e') = refl
made_type (len_made w e) (len_made w' e') = refl
made_type (at_made w e f) (at_made w' e' f') = refl

call_type : {scope : Scope} {want : Option Ty} {x : Name} {args : List Ast} {m : Meaning} {needs : List (Option Ty)} {es : List Expr} {e f : Expr} {s t : Ty}
    → called scope x.text ≡ Some (m, needs) → ElaboratesEach scope needs args es → Makes None m es e s → Layer scope want (Ast-F.Call x args) f t → s ≡ t
call_type {scope = scope} {want = want} {m = m} h ds made (l_call x args m' needs' fs f t k ds' n) =
    let same = some_injective (sym k ∙ h) in
    let alike = unique_each ds (subst (λ r. ElaboratesEach scope r.1 args fs) same ds') in
    let n' = subst (λ r. Makes want r.0 fs f t) same n in
    made_type made (subst (λ es. Makes want m es f t) (sym alike) n')

group_is_part : (at : ℕ) (a : Ast) → KeepsNeed (tree.Group at a) → ⊥
group_is_part at a w = true≢false (sym w ∙ fold_group Bool keeps_need_step at a)

if_is_part : (at : ℕ) (p a b : Ast) → KeepsNeed (tree.If at p a b) → ⊥
if_is_part at p a b w = true≢false (sym w ∙ fold_if Bool keeps_need_step at p a b)

let_is_part : (at : ℕ) (bs : List Binding) (c : Ast) → KeepsNeed (tree.Let at bs c) → ⊥
let_is_part at bs c w = true≢false (sym w ∙ fold_let Bool keeps_need_step at bs c)

-- it is the same, whether one is needed or not
same_type : {scope : Scope} {want : Option Ty} {a : Ast} {e f : Expr} {s t : Ty} → Elaborates scope None a e s → KeepsNeed a → Elaborates scope want a f t → s ≡ t
same_type (number {at = at} {n = n} p) w z = (of_number (at_form (sym (tree.outs-Number at n)) (layer z))).1
same_type (quoted {at = at} {s = s} p) w z = (of_quoted (at_form (sym (tree.outs-Text at s)) (layer z))).1
same_type (name {x = x} h p) w z = (of_name h (at_form (sym (tree.outs-Name x)) (layer z))).1
same_type (call {x = x} args h ds m p) w z = call_type h ds m (at_form (sym (tree.outs-Call x args)) (layer z))
same_type (negated {at = at} a d p) w z = (of_negated (λ f t y. unique d y) (at_form (sym (tree.outs-Negate at a)) (layer z))).1
same_type (operated {o = o} a b k d1 d2 p) w z =
    (of_operated k (λ f t y. unique d1 y) (λ f t y. unique d2 y) (at_form (sym (tree.outs-Binary o a b)) (layer z))).1
same_type (compared {o = o} a b c h d1 d2 p) w z =
    (of_compared c h (λ f t y. unique d1 y) (λ f t y. unique d2 y) (at_form (sym (tree.outs-Binary o a b)) (layer z))).1
same_type (compared_back {o = o} a b c h d1 d2 p) w z =
    (of_back c h (λ f t y. unique d1 y) (λ f t y. unique d2 y) (at_form (sym (tree.outs-Binary o a b)) (layer z))).1
same_type (grouped {at = at} a d) w z = absurd (group_is_part at a w)
same_type (chosen_freely {at = at} p a b d1 d2 d3) w z = absurd (if_is_part at p a b w)
same_type (bound {at = at} b bs c d1 d2) w z = absurd (let_is_part at (b ∷ bs) c w)
same_type (unbound {at = at} c d) w z = absurd (let_is_part at [] c w)

-- and it stands where it is needed
suits : {scope : Scope} {t : Ty} {a : Ast} {e : Expr} {s : Ty} → Elaborates scope (Some t) a e s → KeepsNeed a → Fits scope t s
suits (number p) w = p
suits (quoted p) w = p
suits (name h p) w = p
suits (call args h ds m p) w = p
suits (negated a d p) w = p
suits (operated a b k d1 d2 p) w = p
suits (compared a b c h d1 d2 p) w = p
suits (compared_back a b c h d1 d2 p) w = p
suits (grouped {at = at} a d) w = absurd (group_is_part at a w)
suits (chosen {at = at} p a b d1 d2 d3) w = absurd (if_is_part at p a b w)
suits (bound {at = at} b bs c d1 d2) w = absurd (let_is_part at (b ∷ bs) c w)
suits (unbound {at = at} c d) w = absurd (let_is_part at [] c w)

no_other : {scope : Scope} (want : Option Ty) {a : Ast} {e : Expr} {s : Ty} → Elaborates scope want a e s → Other scope want a → ⊥
no_other None d q = q
no_other {scope = scope} (Some t) d q = q.4 (subst (Fits scope t) (sym (same_type q.3 q.2 d)) (suits d q.2))

-- ---- a tree without an offence

abbrev pub Clean : Scope → Option Ty → Ast → Type 0
Clean scope want a = (at : ℕ) (o : Offence) → OffendsAt at scope want a o → ⊥

abbrev CleanEach : Scope → List (Option Ty) → List Ast → Type 0
CleanEach scope needs args = (i : ℕ) (a : Ast) (need : Option Ty) → slice_get args i ≡ Some a → slice_get needs i ≡ Some need → Clean scope need a

-- the tree shows no other type
abbrev ShowsOnly : Scope → Ast → Ty → Type 0
ShowsOnly scope a s = (t : Ty) → Shows scope a t → s ≡ t

pub clean : {scope : Scope} {want : Option Ty} {a : Ast} {o : Offence} → Clean scope want a → Offends scope want a o → ⊥
clean none (stands {at = at} {o = o} p w) = none at o w

shown : {scope : Scope} {a : Ast} {e : Expr} {s : Ty} → Elaborates scope None a e s → Clean scope None a → ShowsOnly scope a s
shown d none t (as_typed d') = (unique d d').1
shown d none t (as_anything w) = absurd (clean none w)

apart : {scope : Scope} {want : Option Ty} {a : Ast} {e : Expr} {t : Ty} → Elaborates scope want a e t → (Offending scope want (out-Ast a) → ⊥) → Clean scope want a
apart {want = want} d none at o w = elim (split w) [ inl f ↦ none f | inr q ↦ no_other want d q ]

no_number : {scope : Scope} {want : Option Ty} {at : ℕ} {n : ℤ} → Offending scope want (Ast-F.Number at n) → ⊥
no_number f = elim f [ ]

no_quoted : {scope : Scope} {want : Option Ty} {at : ℕ} {s : List ℕ} → Offending scope want (Ast-F.Text at s) → ⊥
no_quoted f = elim f [ ]

no_name : {scope : Scope} {want : Option Ty} {x : Name} {e : Expr} {t : Ty} → meaning scope x.text ≡ Some (e, t) → Offending scope want (Ast-F.Name x) → ⊥
no_name h (f_name x k) = none≢some (sym k ∙ h)

not_made_alone : {es : List Expr} {e : Expr} {t : Ty} → Makes None named_from_string es e t → ⊥
not_made_alone m = elim m [ ]

pub as_many : {scope : Scope} {needs : List (Option Ty)} {args : List Ast} {es : List Expr} → ElaboratesEach scope needs args es → length args ≡ length needs
as_many nothing = refl
as_many (one_more d ds) = ap suc (as_many ds)

no_call : {scope : Scope} {want : Option Ty} {x : Name} {args : List Ast} {m : Meaning} {needs : List (Option Ty)} {es : List Expr} {e : Expr} {t : Ty}
    → called scope x.text ≡ Some (m, needs) → ElaboratesEach scope needs args es → CleanEach scope needs args → Makes want m es e t
    → Offending scope want (Ast-F.Call x args) → ⊥
no_call h ds each made (f_call x args k) = none≢some (sym k ∙ h)
no_call {args = args} h ds each made (f_number x args' m' needs' k n) =
    n (as_many ds ∙ ap (λ r. length r.1) (some_injective (sym h ∙ k)))
no_call {es = es} {e = e} {t = t} h ds each made (f_nowhere x args' needs' k) =
    not_made_alone (subst (λ r. Makes None r.0 es e t) (some_injective (sym h ∙ k)) made)
no_call h ds each made (f_argument need x args' m' needs' i a o k g g' w) =
    clean (each i a need g (ap (λ r. slice_get r.1 i) (some_injective (sym h ∙ k)) ∙ g')) w
no_call {m = m} {needs = needs} h ds each made (f_stray x args' miscalled) = miscalled m needs h (as_many ds)

no_negated : {scope : Scope} {want : Option Ty} {at : ℕ} {a : Ast} → Clean scope (Some integer) a → Offending scope want (Ast-F.Negate at a) → ⊥
no_negated none (f_negated at a o w) = clean none w

no_operated : {scope : Scope} {want : Option Ty} {p : Op} {a b : Ast} {need t : Ty} {make : Expr → Expr → Expr} → Operator p need t make
    → Clean scope (Some need) a → Clean scope (Some need) b → Offending scope want (Ast-F.Binary p a b) → ⊥
no_operated {scope = scope} k none_a none_b (f_left p a b o need' t' make' k' w) =
    clean none_a (subst (λ n. Offends scope (Some n) a o) (sym (same_operator k k').0) w)
no_operated {scope = scope} k none_a none_b (f_right p a b o need' t' make' k' w) =
    clean none_b (subst (λ n. Offends scope (Some n) b o) (sym (same_operator k k').0) w)
no_operated k none_a none_b (f_earlier p a b o make' c w) = no_operator c k
no_operated k none_a none_b (f_later p a b o s make' c h w) = no_operator c k

no_compared : {scope : Scope} {want : Option Ty} {p : Op} {a b : Ast} {s : Ty} {make : Expr → Expr → Expr} → Comparison p make → Clean scope None (earlier a b)
    → ShowsOnly scope (earlier a b) s → Clean scope (Some s) (later a b) → Offending scope want (Ast-F.Binary p a b) → ⊥
no_compared c none_a only none_b (f_left p a b o need' t' make' k' w) = no_operator c k'
no_compared c none_a only none_b (f_right p a b o need' t' make' k' w) = no_operator c k'
no_compared c none_a only none_b (f_earlier p a b o make' c' w) = clean none_a w
no_compared {scope = scope} c none_a only none_b (f_later p a b o s' make' c' h w) =
    clean none_b (subst (λ n. Offends scope (Some n) (later a b) o) (sym (only s' h)) w)

no_grouped : {scope : Scope} {want : Option Ty} {at : ℕ} {a : Ast} → Clean scope want a → Offending scope want (Ast-F.Group at a) → ⊥
no_grouped none (f_grouped at bracket a o w) = none at o w

no_chosen : {scope : Scope} {t : Ty} {at : ℕ} {p a b : Ast} → Clean scope (Some truth) p → Clean scope (Some t) a → Clean scope (Some t) b
    → Offending scope (Some t) (Ast-F.If at p a b) → ⊥
no_chosen none_p none_a none_b (f_condition at p a b o w) = clean none_p w
no_chosen none_p none_a none_b (f_then at p a b o w) = clean none_a w
no_chosen none_p none_a none_b (f_else t at p a b o w) = clean none_b w

no_freely : {scope : Scope} {t : Ty} {at : ℕ} {p a b : Ast} → Clean scope (Some truth) p → Clean scope None a → ShowsOnly scope a t → Clean scope (Some t) b
    → Offending scope None (Ast-F.If at p a b) → ⊥
no_freely none_p none_a only none_b (f_condition at p a b o w) = clean none_p w
no_freely none_p none_a only none_b (f_then at p a b o w) = clean none_a w
no_freely {scope = scope} none_p none_a only none_b (f_like_then s at p a b o h w) =
    clean none_b (subst (λ n. Offends scope (Some n) b o) (sym (only s h)) w)

no_bound : {scope : Scope} {want : Option Ty} {at : ℕ} {b : Binding} {bs : List Binding} {c : Ast} {s : Ty} → Clean scope None b.value → ShowsOnly scope b.value s
    → Clean (inside scope b.name.text s) want (tree.Let at bs c) → Offending scope want (Ast-F.Let at (b ∷ bs) c) → ⊥
no_bound none_a only none_b (f_value at b bs c o w) = clean none_a w
no_bound {scope = scope} {want = want} none_a only none_b (f_after at b bs c o s' h w) =
    clean none_b (subst (λ n. Offends (inside scope b.name.text n) want (tree.Let at bs c) o) (sym (only s' h)) w)

no_unbound : {scope : Scope} {want : Option Ty} {at : ℕ} {c : Ast} → Clean scope want c → Offending scope want (Ast-F.Let at [] c) → ⊥
no_unbound none (f_body at c o w) = clean none w

-- the sides of a comparison in the order in which they are typed
cleaned : {scope : Scope} {want : Option Ty} (a b : Ast) {r : Bool} → r ≡ right_first a b → Clean scope want (cond r b a) → Clean scope want (earlier a b)
cleaned {scope = scope} {want = want} a b h none = subst (λ r. Clean scope want (cond r b a)) h none

cleaned_later : {scope : Scope} {want : Option Ty} (a b : Ast) {r : Bool} → r ≡ right_first a b → Clean scope want (cond r a b) → Clean scope want (later a b)
cleaned_later {scope = scope} {want = want} a b h none = subst (λ r. Clean scope want (cond r a b)) h none

only_shown : {scope : Scope} (a b : Ast) {s : Ty} {r : Bool} → r ≡ right_first a b → ShowsOnly scope (cond r b a) s → ShowsOnly scope (earlier a b) s
only_shown {scope = scope} a b {s = s} h only = subst (λ r. ShowsOnly scope (cond r b a) s) h only

more_clean : {scope : Scope} {want : Option Ty} (wants : List (Option Ty)) {a : Ast} (args : List Ast) → Clean scope want a → CleanEach scope wants args
    → CleanEach scope (want ∷ wants) (a ∷ args)
more_clean {scope = scope} {want = want} wants {a = b} args none each zero a need g g' =
    subst (λ n. Clean scope n a) (some_injective g') (subst (Clean scope want) (some_injective g) none)
more_clean wants args none each (suc i) a need g g' = each i a need g g'

mutual
  pub never : {scope : Scope} {want : Option Ty} {a : Ast} {e : Expr} {t : Ty} → Elaborates scope want a e t → Clean scope want a
  never (number {at = at} {n = n} p) = apart (number p) (λ f. no_number (off_form (sym (tree.outs-Number at n)) f))
  never (quoted {at = at} {s = s} p) = apart (quoted p) (λ f. no_quoted (off_form (sym (tree.outs-Text at s)) f))
  never (name {x = x} h p) = apart (name h p) (λ f. no_name h (off_form (sym (tree.outs-Name x)) f))
  never (call {x = x} args h ds m p) = apart (call args h ds m p) (λ f. no_call h ds (never_each ds) m (off_form (sym (tree.outs-Call x args)) f))
  never (negated {at = at} a d p) = apart (negated a d p) (λ f. no_negated (never d) (off_form (sym (tree.outs-Negate at a)) f))
  never (operated {o = o} a b k d1 d2 p) =
      apart (operated a b k d1 d2 p) (λ f. no_operated k (never d1) (never d2) (off_form (sym (tree.outs-Binary o a b)) f))
  never (compared {o = o} a b c h d1 d2 p) =
      apart (compared a b c h d1 d2 p) (λ f. no_compared c (cleaned a b (sym h) (never d1)) (only_shown a b (sym h) (shown d1 (never d1))) (cleaned_later a b (sym h) (never d2))
      (off_form (sym (tree.outs-Binary o a b)) f))
  never (compared_back {o = o} a b c h d1 d2 p) =
      apart (compared_back a b c h d1 d2 p) (λ f. no_compared c (cleaned a b (sym h) (never d1)) (only_shown a b (sym h) (shown d1 (never d1))) (cleaned_later a b (sym h) (never d2))
      (off_form (sym (tree.outs-Binary o a b)) f))
  never (grouped {at = at} a d) = apart (grouped a d) (λ f. no_grouped (never d) (off_form (sym (tree.outs-Group at a)) f))
  never (chosen {at = at} p a b d1 d2 d3) =
      apart (chosen p a b d1 d2 d3) (λ f. no_chosen (never d1) (never d2) (never d3) (off_form (sym (tree.outs-If at p a b)) f))
  never (chosen_freely {at = at} p a b d1 d2 d3) =
      apart (chosen_freely p a b d1 d2 d3) (λ f. no_freely (never d1) (never d2) (shown d2 (never d2)) (never d3) (off_form (sym (tree.outs-If at p a b)) f))
  never (bound {at = at} b bs c d1 d2) =
      apart (bound b bs c d1 d2) (λ f. no_bound (never d1) (shown d1 (never d1)) (never d2) (off_form (sym (tree.outs-Let at (b ∷ bs) c)) f))
  never (unbound {at = at} c d) = apart (unbound c d) (λ f. no_unbound (never d) (off_form (sym (tree.outs-Let at [] c)) f))

  pub never_each : {scope : Scope} {needs : List (Option Ty)} {args : List Ast} {es : List Expr} → ElaboratesEach scope needs args es → CleanEach scope needs args
  never_each nothing = λ i a need g g'. absurd (none≢some g)
  never_each (one_more {wants = wants} {args = args} d ds) = more_clean wants args (never d) (never_each ds)

pub not_both : NotBoth
not_both scope want a e t o d w = clean (never d) w
