-- What offends in a tree, by its outermost form.
use Rattle.std.proofs.Common.{◌≡◌, ◌≢◌, ◌⊎◌, ℕ, Bool, sym, subst, ◌∙◌, List, [], ◌∷◌, length, slice_get, Option, Some, None, refl, inl, inr, true≢false}
use Rattle.txs_values.specs.Value.{Ty, integer, truth}
use Rattle.txs_terms.specs.Expr.{Expr}
use Rattle.txs_syntax.specs.declared.ast.Op.{Op}
use Rattle.txs_syntax.specs.declared.ast.Name.{Name}
use Rattle.txs_syntax.specs.declared.ast.Ast.{Ast, out-Ast}
use Rattle.txs_syntax.specs.declared.ast.Binding.{Binding}
use Rattle.txs_syntax.specs.declared.ast.Ast.TheVariants as tree
use Rattle.txs_syntax.specs.declared.ast.Ast.TheOpen.{Ast-F}
use Rattle.txs_typing.specs.Names.{Scope, Meaning, Fits, anything, inside, called, meaning, named_from_string}
use Rattle.txs_typing.specs.Elaborates.{Operator, Comparison, Elaborates, ElaboratesEach}
use Rattle.txs_typing.specs.Offends.{Offence, unknown, arity, mismatch, KeepsNeed, keeps_need_step, earlier, later, IsMiscalled, OffendsAt, Offends, Shows, unknown_name, unknown_call, wrong_number, other_type, from_nowhere, argument, stray_argument, negated, left, right, earlier_side, later_side, grouped, condition, then_branch, else_branch, else_like_then, bound_value, after_value, body}
use Rattle.txs_typing.proofs.trees.Folds.{fold_group, fold_if, fold_let}

pub data Inside (at : ℕ) (scope : Scope) : Option Ty → Ast-F Ast Binding → Offence → Type 0 where
  i_name : {want : Option Ty} (x : Name) → meaning scope x.text ≡ None → Inside at scope want (Ast-F.Name x) (unknown x.at)
  i_call : {want : Option Ty} (x : Name) (args : List Ast) → called scope x.text ≡ None → Inside at scope want (Ast-F.Call x args) (unknown x.at)
  i_number : {want : Option Ty} (x : Name) (args : List Ast) (m : Meaning) (needs : List (Option Ty)) → called scope x.text ≡ Some (m, needs)
      → length args ≢ length needs → Inside at scope want (Ast-F.Call x args) (arity x.at)
  i_nowhere : (x : Name) (args : List Ast) (needs : List (Option Ty)) (es : List Expr) → called scope x.text ≡ Some (named_from_string, needs)
      → ElaboratesEach scope needs args es → Inside at scope None (Ast-F.Call x args) (mismatch at)
  i_argument : {want : Option Ty} (need : Option Ty) (x : Name) (args : List Ast) (m : Meaning) (needs : List (Option Ty)) (i : ℕ) (a : Ast) (o : Offence)
      → called scope x.text ≡ Some (m, needs) → length args ≡ length needs → slice_get args i ≡ Some a → slice_get needs i ≡ Some need → Offends scope need a o
      → Inside at scope want (Ast-F.Call x args) o
  i_stray : {want : Option Ty} (x : Name) (args : List Ast) (i : ℕ) (a : Ast) (o : Offence) → IsMiscalled scope x args → slice_get args i ≡ Some a
      → Offends scope (Some (anything scope)) a o → Inside at scope want (Ast-F.Call x args) o
  i_negated : {want : Option Ty} (sign : ℕ) (a : Ast) (o : Offence) → Offends scope (Some integer) a o → Inside at scope want (Ast-F.Negate sign a) o
  i_left : {want : Option Ty} (p : Op) (a b : Ast) (o : Offence) (need t : Ty) (make : Expr → Expr → Expr) → Operator p need t make → Offends scope (Some need) a o
      → Inside at scope want (Ast-F.Binary p a b) o
  i_right : {want : Option Ty} (p : Op) (a b : Ast) (o : Offence) (need t : Ty) (make : Expr → Expr → Expr) → Operator p need t make → Offends scope (Some need) b o
      → Inside at scope want (Ast-F.Binary p a b) o
  i_earlier : {want : Option Ty} (p : Op) (a b : Ast) (o : Offence) (make : Expr → Expr → Expr) → Comparison p make → Offends scope None (earlier a b) o
      → Inside at scope want (Ast-F.Binary p a b) o
  i_later : {want : Option Ty} (p : Op) (a b : Ast) (o : Offence) (s : Ty) (make : Expr → Expr → Expr) → Comparison p make → Shows scope (earlier a b) s
      → Offends scope (Some s) (later a b) o → Inside at scope want (Ast-F.Binary p a b) o
  i_grouped : {want : Option Ty} (bracket : ℕ) (a : Ast) (o : Offence) → OffendsAt at scope want a o → Inside at scope want (Ast-F.Group bracket a) o
  i_condition : {want : Option Ty} (i : ℕ) (p a b : Ast) (o : Offence) → Offends scope (Some truth) p o → Inside at scope want (Ast-F.If i p a b) o
  i_then : {want : Option Ty} (i : ℕ) (p a b : Ast) (o : Offence) → Offends scope want a o → Inside at scope want (Ast-F.If i p a b) o
  i_else : (t : Ty) (i : ℕ) (p a b : Ast) (o : Offence) → Offends scope (Some t) b o → Inside at scope (Some t) (Ast-F.If i p a b) o
  i_like_then : (s : Ty) (i : ℕ) (p a b : Ast) (o : Offence) → Shows scope a s → Offends scope (Some s) b o → Inside at scope None (Ast-F.If i p a b) o
  i_value : {want : Option Ty} (l : ℕ) (b : Binding) (bs : List Binding) (c : Ast) (o : Offence) → Offends scope None b.value o
      → Inside at scope want (Ast-F.Let l (b ∷ bs) c) o
  i_after : {want : Option Ty} (l : ℕ) (b : Binding) (bs : List Binding) (c : Ast) (o : Offence) (s : Ty) → Shows scope b.value s
      → Offends (inside scope b.name.text s) want (tree.Let l bs c) o → Inside at scope want (Ast-F.Let l (b ∷ bs) c) o
  i_body : {want : Option Ty} (l : ℕ) (c : Ast) (o : Offence) → Offends scope want c o → Inside at scope want (Ast-F.Let l [] c) o

-- the tree is of another type than the needed one
abbrev pub Other : ℕ → Scope → Option Ty → Ast → Offence → Type 0
Other at scope None a o = ⊥
Other at scope (Some t) a o = (e : Expr) × (s : Ty) × KeepsNeed a × Elaborates scope None a e s × (Fits scope t s → ⊥) × (o ≡ mismatch at)

in_form : {at : ℕ} {scope : Scope} {want : Option Ty} {l m : Ast-F Ast Binding} {o : Offence} → m ≡ l → Inside at scope want l o → Inside at scope want m o
in_form {at = at} {scope = scope} {want = want} {o = o} p d = subst (λ l. Inside at scope want l o) (sym p) d

pub split : {at : ℕ} {scope : Scope} {want : Option Ty} {a : Ast} {o : Offence} → OffendsAt at scope want a o → Inside at scope want (out-Ast a) o ⊎ Other at scope want a o
split (unknown_name {x = x} h) = inl (in_form (tree.outs-Name x) (i_name x h))
split (unknown_call {x = x} args h) = inl (in_form (tree.outs-Call x args) (i_call x args h))
split (wrong_number {x = x} args {m = m} {needs = needs} h n) = inl (in_form (tree.outs-Call x args) (i_number x args m needs h n))
split (other_type a {e = e} {s = s} w d n) = inr (e, s, w, d, n, refl)
split (from_nowhere {x = x} args {needs = needs} {es = es} h ds) = inl (in_form (tree.outs-Call x args) (i_nowhere x args needs es h ds))
split (argument {need = need} {x = x} args {m = m} {needs = needs} i a {o = o} h n g k w) =
    inl (in_form (tree.outs-Call x args) (i_argument need x args m needs i a o h n g k w))
split (stray_argument {x = x} args i a {o = o} h g w) = inl (in_form (tree.outs-Call x args) (i_stray x args i a o h g w))
split (negated {minus = sign} a {o = o} w) = inl (in_form (tree.outs-Negate sign a) (i_negated sign a o w))
split (left {p = p} a b {o = o} {need = need} {t = t} {make = make} k w) = inl (in_form (tree.outs-Binary p a b) (i_left p a b o need t make k w))
split (right {p = p} a b {o = o} {need = need} {t = t} {make = make} k w) = inl (in_form (tree.outs-Binary p a b) (i_right p a b o need t make k w))
split (earlier_side {p = p} a b {o = o} {make = make} c w) = inl (in_form (tree.outs-Binary p a b) (i_earlier p a b o make c w))
split (later_side {p = p} a b {o = o} {s = s} {make = make} c h w) = inl (in_form (tree.outs-Binary p a b) (i_later p a b o s make c h w))
split (grouped {bracket = bracket} a {o = o} w) = inl (in_form (tree.outs-Group bracket a) (i_grouped bracket a o w))
split (condition {i = i} p a b {o = o} w) = inl (in_form (tree.outs-If i p a b) (i_condition i p a b o w))
split (then_branch {i = i} p a b {o = o} w) = inl (in_form (tree.outs-If i p a b) (i_then i p a b o w))
split (else_branch {t = t} {i = i} p a b {o = o} w) = inl (in_form (tree.outs-If i p a b) (i_else t i p a b o w))
split (else_like_then {s = s} {i = i} p a b {o = o} h w) = inl (in_form (tree.outs-If i p a b) (i_like_then s i p a b o h w))
split (bound_value {l = l} b bs c {o = o} w) = inl (in_form (tree.outs-Let l (b ∷ bs) c) (i_value l b bs c o w))
split (after_value {l = l} b bs c {o = o} {s = s} h w) = inl (in_form (tree.outs-Let l (b ∷ bs) c) (i_after l b bs c o s h w))
split (body {l = l} c {o = o} w) = inl (in_form (tree.outs-Let l [] c) (i_body l c o w))

-- what offends in a tree that keeps the need, needed at a type, offends if none is needed, or the tree is of another type
pub at_none : {at : ℕ} {scope : Scope} {want : Option Ty} {a : Ast} {o : Offence} → OffendsAt at scope want a o → KeepsNeed a → OffendsAt at scope None a o ⊎ (o ≡ mismatch at)
at_none (unknown_name h) w = inl (unknown_name h)
at_none (unknown_call args h) w = inl (unknown_call args h)
at_none (wrong_number args h n) w = inl (wrong_number args h n)
at_none (other_type a k d n) w = inr refl
at_none (from_nowhere args h ds) w = inr refl
at_none (argument args i a h n g k p) w = inl (argument args i a h n g k p)
at_none (stray_argument args i a h g p) w = inl (stray_argument args i a h g p)
at_none (negated a p) w = inl (negated a p)
at_none (left a b k p) w = inl (left a b k p)
at_none (right a b k p) w = inl (right a b k p)
at_none (earlier_side a b c p) w = inl (earlier_side a b c p)
at_none (later_side a b c h p) w = inl (later_side a b c h p)
at_none (grouped {bracket = bracket} a p) w = absurd (true≢false (sym w ∙ fold_group Bool keeps_need_step bracket a))
at_none (condition {i = i} p a b q) w = absurd (true≢false (sym w ∙ fold_if Bool keeps_need_step i p a b))
at_none (then_branch {i = i} p a b q) w = absurd (true≢false (sym w ∙ fold_if Bool keeps_need_step i p a b))
at_none (else_branch {i = i} p a b q) w = absurd (true≢false (sym w ∙ fold_if Bool keeps_need_step i p a b))
at_none (else_like_then {i = i} p a b h q) w = absurd (true≢false (sym w ∙ fold_if Bool keeps_need_step i p a b))
at_none (bound_value {l = l} b bs c q) w = absurd (true≢false (sym w ∙ fold_let Bool keeps_need_step l (b ∷ bs) c))
at_none (after_value {l = l} b bs c h q) w = absurd (true≢false (sym w ∙ fold_let Bool keeps_need_step l (b ∷ bs) c))
at_none (body {l = l} c q) w = absurd (true≢false (sym w ∙ fold_let Bool keeps_need_step l [] c))

-- what offends at one place offends, perhaps elsewhere, at another
pub moved : {at : ℕ} {scope : Scope} {want : Option Ty} {a : Ast} {o : Offence} (to : ℕ) → OffendsAt at scope want a o → (p : Offence) × OffendsAt to scope want a p
moved to (unknown_name {x = x} h) = (unknown x.at, unknown_name h)
moved to (unknown_call {x = x} args h) = (unknown x.at, unknown_call args h)
moved to (wrong_number {x = x} args h n) = (arity x.at, wrong_number args h n)
moved to (other_type a k d n) = (mismatch to, other_type a k d n)
moved to (from_nowhere args h ds) = (mismatch to, from_nowhere args h ds)
moved to (argument args i a {o = o} h n g k p) = (o, argument args i a h n g k p)
moved to (stray_argument args i a {o = o} h g p) = (o, stray_argument args i a h g p)
moved to (negated a {o = o} p) = (o, negated a p)
moved to (left a b {o = o} k p) = (o, left a b k p)
moved to (right a b {o = o} k p) = (o, right a b k p)
moved to (earlier_side a b {o = o} c p) = (o, earlier_side a b c p)
moved to (later_side a b {o = o} c h p) = (o, later_side a b c h p)
moved to (grouped {bracket = bracket} a p) = let q = moved to p in (q.0, grouped a q.1)
moved to (condition p a b {o = o} q) = (o, condition p a b q)
moved to (then_branch p a b {o = o} q) = (o, then_branch p a b q)
moved to (else_branch p a b {o = o} q) = (o, else_branch p a b q)
moved to (else_like_then p a b {o = o} h q) = (o, else_like_then p a b h q)
moved to (bound_value b bs c {o = o} q) = (o, bound_value b bs c q)
moved to (after_value b bs c {o = o} h q) = (o, after_value b bs c h q)
moved to (body c {o = o} q) = (o, body c q)
