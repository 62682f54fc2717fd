-- What is judged of operators and choices.
use Rattle.std.proofs.Common.{◌≡◌, ◌⊎◌, ℕ, Bool, true, false, cond, ◌&&◌, ap, sym, subst, ◌∙◌, Option, Some, None, Result, Ok, Err, refl, inl, inr, true≢false}
use Rattle.txs_values.specs.Value.{Ty, integer, truth}
use Rattle.txs_values.specs.View.{ty_of}
use Rattle.txs_terms.specs.declared.expr.Expr as rust_expr
use Rattle.txs_terms.specs.Expr.{Expr, one, negate, choose}
use Rattle.txs_terms.specs.View.{expr_of}
use Rattle.txs_syntax.specs.declared.ast.Op.{Op}
use Rattle.txs_syntax.specs.declared.ast.Op.TheVariants as op
use Rattle.txs_syntax.specs.declared.ast.Ast.{Ast, out-Ast}
use Rattle.txs_syntax.specs.declared.ast.Ast.TheVariants as tree
use Rattle.txs_syntax.specs.declared.ast.Ast.TheOpen.{Ast-F}
use Rattle.txs_typing.specs.declared.fault.TypeFault.{TypeFault}
use Rattle.txs_typing.specs.declared.fault.TypeFault.TheVariants as fault
use Rattle.txs_typing.specs.Names.{Scope, anything}
use Rattle.txs_typing.specs.Elaborates.{folded, Suits, right_first, Operator, or_operator, and_operator, less_operator, at_most_operator, more_operator, at_least_operator, join_operator, plus_operator, minus_operator, times_operator, divide_operator, remainder_operator, Comparison, equal_comparison, different_comparison, Elaborates, negated, operated, compared, compared_back, grouped, chosen, chosen_freely, HasInts, ints_step}
use Rattle.txs_typing.specs.Offends.{Offence, KeepsNeed, keeps_need_step, earlier, later, OffendsAt, Offends, Shows, as_typed, as_anything, negated as side_negated, left, right, earlier_side, later_side, grouped as in_brackets, condition, then_branch, else_branch, else_like_then}
use Rattle.txs_typing.specs.Answer.{Told}
use Rattle.txs_typing.specs.inner.Told.{Lesser, memory_first, left_first, right_first as second_first, Joined}
use Rattle.txs_typing.specs.inner.View.{Judges, JudgesAt}
use Rattle.txs_typing.specs.inner.Parts.{Typed, operand, outcome, make, shown, Fitted, Made, MadeTyped, choice_type, Tells, Means, InOrder, OffendInOrder, Sides, Turned}
use Rattle.txs_typing.proofs.trees.Unique.{some_injective, unique, same_operator, no_operator}
use Rattle.txs_typing.proofs.trees.NotBoth.{none≢some, not_both}
use Rattle.txs_typing.proofs.trees.Folds.{fold_negate, fold_binary, fold_group, fold_if}
use Rattle.txs_typing.proofs.judging.Inside.{Inside, i_negated, i_left, i_right, i_earlier, i_later, i_grouped, i_condition, i_then, i_else, i_like_then, Other, split}
use Rattle.txs_typing.proofs.judging.Told.{Either, told_same, told_either, told_left, told_right, none_of_both}
use Rattle.txs_typing.proofs.judging.Finish.{ok_injective, ok≢err, tells_of, no_offence, finish_fitted, fault_of_parts}

-- ---- two results

-- want of memory goes first
pub memory_lesser : {g h : TypeFault} → Lesser fault.NoMemory g h → h ≡ fault.NoMemory
memory_lesser memory_first = refl
memory_lesser (left_first a b p q n) = refl
memory_lesser (second_first a b p q n) = absurd (none≢some p)

pub tells_both : {A B : Type 0} (G : A → Type 0) (H : B → Type 0) (P Q : Offence → Type 0) (x : Result A TypeFault) (y : Result B TypeFault) (r : Result (A × B) TypeFault)
    → Tells G P x → Tells H Q y → Joined x y r → Tells (λ (p : A × B). G p.0 × H p.1) (Either P Q) r
tells_both G H P Q (Ok x) (Ok y) r h k j = subst (Tells (λ p. G p.0 × H p.1) (Either P Q)) (sym j) ((h.0, k.0), none_of_both P Q h.1 k.1)
tells_both G H P Q (Ok x) (Err g) r h k j = subst (Tells (λ p. G p.0 × H p.1) (Either P Q)) (sym j) (told_right g P Q h.1 k)
tells_both G H P Q (Err f) (Ok y) r h k j = subst (Tells (λ p. G p.0 × H p.1) (Either P Q)) (sym j) (told_left f P Q h k.1)
tells_both G H P Q (Err f) (Err g) r h k j = subst (Tells (λ p. G p.0 × H p.1) (Either P Q)) (sym j.1) (told_either f g j.0 P Q h k j.2)

-- the same of the same
pub tells_same : {A : Type 0} (G H : A → Type 0) (P Q : Offence → Type 0) (r : Result A TypeFault) → ((x : A) → G x → H x) → ((o : Offence) → P o → Q o) → ((o : Offence) → Q o → P o)
    → Tells G P r → Tells H Q r
tells_same G H P Q (Ok x) g to back h = (g x h.0, λ o q. h.1 o (back o q))
tells_same G H P Q (Err f) g to back h = told_same f P Q to back h

-- ---- one tree, and another at its type

-- the type that the first one shows is needed of the other
pub shows_it : (scope : Scope) (a : Ast) (t : Typed) (s : Ty) → Means scope None a t → Shows scope a s → s ≡ ty_of t.ty
shows_it scope a t s m (as_typed d) = (unique d m.0).1
shows_it scope a t _ m (as_anything {o = o} w) = absurd (no_offence scope None a t m o w)

pub shows_any : (scope : Scope) (a : Ast) (o : Offence) (s : Ty) → Offends scope None a o → Shows scope a s → s ≡ anything scope
shows_any scope a o s w (as_typed {e = e} {t = t} d) = absurd (not_both scope None a e t o d w)
shows_any scope a o _ w (as_anything v) = refl

-- some offence stands, or memory was wanting
pub some_offence : (f : TypeFault) (P : Offence → Type 0) → Told f P → (f ≡ fault.NoMemory) ⊎ ((o : Offence) × P o)
some_offence (fault.Twice at) P d = inr (_, d.stands)
some_offence (fault.Unknown at) P d = inr (_, d.stands)
some_offence (fault.Arity at) P d = inr (_, d.stands)
some_offence (fault.Mismatch at) P d = inr (_, d.stands)
some_offence (fault.EmptyType at) P d = inr (_, d.stands)
some_offence (fault.BigType at) P d = inr (_, d.stands)
some_offence fault.NoMemory P d = inl refl

-- what offends in the other, which stands in this scope
abbrev pub After : Scope → Ast → (Ty → Offence → Type 0) → Offence → Type 0
After scope a Q o = (s : Ty) × Shows scope a s × Q s o

after_it : (scope : Scope) (a : Ast) (Q : Ty → Offence → Type 0) (t : Ty) → Shows scope a t → ((s : Ty) → Shows scope a s → s ≡ t)
    → ((o : Offence) → Q t o → After scope a Q o) × ((o : Offence) → After scope a Q o → Q t o)
after_it scope a Q t h only = (λ o q. (t, h, q), λ o b. subst (λ s. Q s o) (only b.0 b.1) b.2)

-- a tree by itself, and another, of which something is known at the type that the first shows
pub tells_after : (scope : Scope) (a : Ast) (G : Ty → Typed → Type 0) (Q : Ty → Offence → Type 0) (x y : Result Typed TypeFault) (r : Result (Typed × Typed) TypeFault)
    → Judges scope None a x → Tells (G (shown scope x)) (Q (shown scope x)) y → Joined x y r
    → Tells (λ (p : Typed × Typed). Means scope None a p.0 × G (ty_of p.0.ty) p.1) (Either (Offends scope None a) (After scope a Q)) r
tells_after scope a G Q (Ok t) (Ok u) r h k j =
    let b = after_it scope a Q (ty_of t.ty) (as_typed h.0) (λ s p. shows_it scope a t s h p) in
    subst (Tells (λ (p : Typed × Typed). Means scope None a p.0 × G (ty_of p.0.ty) p.1) (Either (Offends scope None a) (After scope a Q))) (sym j)
    ((h, k.0), none_of_both (Offends scope None a) (After scope a Q) (no_offence scope None a t h) (λ o q. k.1 o (b.1 o q)))
tells_after scope a G Q (Ok t) (Err g) r h k j =
    let b = after_it scope a Q (ty_of t.ty) (as_typed h.0) (λ s p. shows_it scope a t s h p) in
    subst (Tells (λ (p : Typed × Typed). Means scope None a p.0 × G (ty_of p.0.ty) p.1) (Either (Offends scope None a) (After scope a Q))) (sym j)
    (told_right g (Offends scope None a) (After scope a Q) (no_offence scope None a t h) (told_same g (Q (ty_of t.ty)) (After scope a Q) b.0 b.1 k))
tells_after scope a G Q (Err f) (Ok u) r h k j =
    subst (Tells (λ (p : Typed × Typed). Means scope None a p.0 × G (ty_of p.0.ty) p.1) (Either (Offends scope None a) (After scope a Q))) (sym j)
    (elim (some_offence f (Offends scope None a) h) [
      | inl e ↦ subst (λ f. Told f (Either (Offends scope None a) (After scope a Q))) (sym e) tt
      | inr w ↦ (let b = after_it scope a Q (anything scope) (as_anything w.1) (λ s p. shows_any scope a w.0 s w.1 p) in
          told_left f (Offends scope None a) (After scope a Q) h (λ o q. k.1 o (b.1 o q)))
    ])
tells_after scope a G Q (Err f) (Err g) r h k j =
    subst (Tells (λ (p : Typed × Typed). Means scope None a p.0 × G (ty_of p.0.ty) p.1) (Either (Offends scope None a) (After scope a Q))) (sym j.1)
    (elim (some_offence f (Offends scope None a) h) [
      | inl e ↦ subst (λ f. Told f (Either (Offends scope None a) (After scope a Q))) (sym (memory_lesser (subst (λ f. Lesser f g j.0) e j.2))) tt
      | inr w ↦ (let b = after_it scope a Q (anything scope) (as_anything w.1) (λ s p. shows_any scope a w.0 s w.1 p) in
          told_either f g j.0 (Offends scope None a) (After scope a Q) h (told_same g (Q (anything scope)) (After scope a Q) b.0 b.1 k) j.2)
    ])

pub tells_in_order : (scope : Scope) (a b : Ast) (x y : Result Typed TypeFault) (r : Result (Typed × Typed) TypeFault)
    → Judges scope None a x → Judges scope (Some (shown scope x)) b y → Joined x y r → Tells (InOrder scope a b) (OffendInOrder scope a b) r
tells_in_order scope a b x y r h k j =
    tells_after scope a (λ s. Means scope (Some s) b) (λ s. Offends scope (Some s) b) x y r h (tells_of scope (Some (shown scope x)) b y k) j

-- ---- nodes

pub fitted_node : {A : Type 0} (at : ℕ) (scope : Scope) (want : Option Ty) (here : Ast) (t : Ty) (G : A → Type 0) (P : Offence → Type 0) (form : A → Expr)
    (found : Result A TypeFault) (made : Result rust_expr.Expr TypeFault) (r : Result Typed TypeFault) → KeepsNeed here
    → Tells G P found → Made form found made → Fitted scope want at t made r
    → ((x : A) → G x → ((w : Option Ty) → Suits scope w t → Elaborates scope w here (form x) t) × HasInts here)
    → ((w : Option Ty) (o : Offence) → P o → OffendsAt at scope w here o) → ((p : Offence) → P p → (o : Offence) → Inside at scope want (out-Ast here) o → P o)
    → JudgesAt at scope want here r
fitted_node at scope want here t G P form (Ok x) (Ok e) r is h m w good into out =
    let g = good x h.0 in
    finish_fitted at scope want here t (Ok e) r is w
    (λ y p. (λ n q. subst (λ z. Elaborates scope n here z t) (sym (ap expr_of (sym (ok_injective p)) ∙ m)) (g.0 n q), g.1))
    (λ f p. absurd (ok≢err p))
fitted_node at scope want here t G P form (Ok x) (Err f) r is h m w good into out =
    subst (JudgesAt at scope want here) (sym w) (subst (λ f. Told f (OffendsAt at scope want here)) (sym m) tt)
fitted_node at scope want here t G P form (Err f) made r is h m w good into out =
    subst (JudgesAt at scope want here) (sym (subst (λ (n : Result rust_expr.Expr TypeFault). Fitted scope want at t n r) m w))
    (fault_of_parts at scope want here P f h into out)

pub part_node : {A : Type 0} (at : ℕ) (scope : Scope) (want : Option Ty) (here : Ast) (G : A → Type 0) (P : Offence → Type 0) (form : A → Expr × Ty)
    (found : Result A TypeFault) (r : Result Typed TypeFault) → (KeepsNeed here → ⊥) → Tells G P found → MadeTyped form found r
    → ((x : A) → G x → Elaborates scope want here ((form x).0) ((form x).1) × HasInts here)
    → ((o : Offence) → P o → OffendsAt at scope want here o) → ((o : Offence) → Inside at scope want (out-Ast here) o → P o) → JudgesAt at scope want here r
part_node at scope want here G P form (Ok x) (Ok t) not h m good into out =
    let g = good x h.0 in (
      subst (λ e. Elaborates scope want here e (ty_of t.ty)) (sym (ap (λ (p : Expr × Ty). p.0) m))
          (subst (Elaborates scope want here ((form x).0)) (sym (ap (λ (p : Expr × Ty). p.1) m)) g.0),
      g.1,
    )
part_node at scope want here G P form (Ok x) (Err f) not h m good into out = subst (λ f. Told f (OffendsAt at scope want here)) (sym m) tt
part_node at scope want here G P form (Err f) r not h m good into out =
    subst (JudgesAt at scope want here) (sym m)
    (told_same f P (OffendsAt at scope want here) into (λ o w. elim (split w) [ inl i ↦ out o i | inr k ↦ absurd (never want o k) ]) h)
  where
    never : (n : Option Ty) (o : Offence) → Other at scope n here o → ⊥
    never None o k = k
    never (Some t) o k = not k.2

negate_inside : {at : ℕ} {scope : Scope} {want : Option Ty} {sign : ℕ} {a : Ast} {o : Offence} → Inside at scope want (Ast-F.Negate sign a) o → Offends scope (Some integer) a o
negate_inside (i_negated sign a o w) = w

pub negate_node : (at sign : ℕ) (scope : Scope) (want : Option Ty) (a : Ast) (x : Result Typed TypeFault) (made : Result rust_expr.Expr TypeFault) (r : Result Typed TypeFault)
    → Judges scope (Some integer) a x → Made (λ (t : Typed). one negate (expr_of t.expr)) x made → Fitted scope want at integer made r → JudgesAt at scope want (tree.Negate sign a) r
negate_node at sign scope want a x made r h m w =
    fitted_node at scope want (tree.Negate sign a) integer (Means scope (Some integer) a) (Offends scope (Some integer) a) (λ (t : Typed). one negate (expr_of t.expr)) x made r
    (fold_negate Bool keeps_need_step sign a) (tells_of scope (Some integer) a x h) m w
    (λ t g. (λ n q. negated a g.0 q, fold_negate Bool ints_step sign a ∙ g.1))
    (λ n o p. side_negated a p)
    (λ p k o i. negate_inside (subst (λ l. Inside at scope want l o) (tree.outs-Negate sign a) i))

-- ---- operators

is_operator : (o : Op) (need : Ty) → operand o ≡ Some need → Operator o need (outcome o) (make o)
is_operator op.Or need h = subst (λ n. Operator op.Or n truth (make op.Or)) (some_injective h) or_operator
is_operator op.And need h = subst (λ n. Operator op.And n truth (make op.And)) (some_injective h) and_operator
is_operator op.Equal need h = absurd (none≢some h)
is_operator op.Different need h = absurd (none≢some h)
is_operator op.Less need h = subst (λ n. Operator op.Less n truth (make op.Less)) (some_injective h) less_operator
is_operator op.AtMost need h = subst (λ n. Operator op.AtMost n truth (make op.AtMost)) (some_injective h) at_most_operator
is_operator op.More need h = subst (λ n. Operator op.More n truth (make op.More)) (some_injective h) more_operator
is_operator op.AtLeast need h = subst (λ n. Operator op.AtLeast n truth (make op.AtLeast)) (some_injective h) at_least_operator
is_operator op.Join need h = subst (λ n. Operator op.Join n (outcome op.Join) (make op.Join)) (some_injective h) join_operator
is_operator op.Plus need h = subst (λ n. Operator op.Plus n integer (make op.Plus)) (some_injective h) plus_operator
is_operator op.Minus need h = subst (λ n. Operator op.Minus n integer (make op.Minus)) (some_injective h) minus_operator
is_operator op.Times need h = subst (λ n. Operator op.Times n integer (make op.Times)) (some_injective h) times_operator
is_operator op.Divide need h = subst (λ n. Operator op.Divide n integer (make op.Divide)) (some_injective h) divide_operator
is_operator op.Remainder need h = subst (λ n. Operator op.Remainder n integer (make op.Remainder)) (some_injective h) remainder_operator

is_comparison : (o : Op) → operand o ≡ None → Comparison o (make o) × (truth ≡ outcome o)
is_comparison op.Or h = absurd (none≢some (sym h))
is_comparison op.And h = absurd (none≢some (sym h))
is_comparison op.Equal h = (equal_comparison, refl)
is_comparison op.Different h = (different_comparison, refl)
is_comparison op.Less h = absurd (none≢some (sym h))
is_comparison op.AtMost h = absurd (none≢some (sym h))
is_comparison op.More h = absurd (none≢some (sym h))
is_comparison op.AtLeast h = absurd (none≢some (sym h))
is_comparison op.Join h = absurd (none≢some (sym h))
is_comparison op.Plus h = absurd (none≢some (sym h))
is_comparison op.Minus h = absurd (none≢some (sym h))
is_comparison op.Times h = absurd (none≢some (sym h))
is_comparison op.Divide h = absurd (none≢some (sym h))
is_comparison op.Remainder h = absurd (none≢some (sym h))

operator_inside : {at : ℕ} {scope : Scope} {want : Option Ty} {p : Op} {a b : Ast} {o : Offence} (need t : Ty) (form : Expr → Expr → Expr) → Operator p need t form
    → Inside at scope want (Ast-F.Binary p a b) o → Either (Offends scope (Some need) a) (Offends scope (Some need) b) o
operator_inside {scope = scope} need t form k (i_left p a b o need' t' form' k' w) = inl (subst (λ n. Offends scope (Some n) a o) (same_operator k' k).0 w)
operator_inside {scope = scope} need t form k (i_right p a b o need' t' form' k' w) = inr (subst (λ n. Offends scope (Some n) b o) (same_operator k' k).0 w)
operator_inside need t form k (i_earlier p a b o form' c w) = absurd (no_operator c k)
operator_inside need t form k (i_later p a b o s form' c h w) = absurd (no_operator c k)

comparison_inside : {at : ℕ} {scope : Scope} {want : Option Ty} {p : Op} {a b : Ast} {o : Offence} (form : Expr → Expr → Expr) → Comparison p form
    → Inside at scope want (Ast-F.Binary p a b) o → OffendInOrder scope (earlier a b) (later a b) o
comparison_inside form c (i_left p a b o need t form' k w) = absurd (no_operator c k)
comparison_inside form c (i_right p a b o need t form' k w) = absurd (no_operator c k)
comparison_inside form c (i_earlier p a b o form' c' w) = inl w
comparison_inside form c (i_later p a b o s form' c' h w) = inr (s, h, w)

both_ints : (p : Op) (a b : Ast) → HasInts a → HasInts b → HasInts (tree.Binary p a b)
both_ints p a b h k = fold_binary Bool ints_step p a b ∙ (ap (λ x. x && folded Bool ints_step b) h ∙ k)

-- the expression of both sides
abbrev pub sided : Op → Typed × Typed → Expr
sided p x = make p (expr_of x.0.expr) (expr_of x.1.expr)

abbrev pub BothMean : Scope → Option Ty → Ast → Ast → Typed × Typed → Type 0
BothMean scope n a b x = Means scope n a x.0 × Means scope n b x.1

pub operator_node : (at : ℕ) (scope : Scope) (want : Option Ty) (p : Op) (a b : Ast) (need : Ty) (found : Result (Typed × Typed) TypeFault) (made : Result rust_expr.Expr TypeFault)
    (r : Result Typed TypeFault) → operand p ≡ Some need → Tells (BothMean scope (Some need) a b) (Either (Offends scope (Some need) a) (Offends scope (Some need) b)) found
    → Made (sided p) found made → Fitted scope want at (outcome p) made r → JudgesAt at scope want (tree.Binary p a b) r
operator_node at scope want p a b need found made r is h m w =
    let k = is_operator p need is in
    fitted_node at scope want (tree.Binary p a b) (outcome p) (BothMean scope (Some need) a b) (Either (Offends scope (Some need) a) (Offends scope (Some need) b)) (sided p) found made r
    (fold_binary Bool keeps_need_step p a b) h m w
    (λ x g. (λ n q. operated a b k g.0.0 g.1.0 q, both_ints p a b g.0.1 g.1.1))
    (λ n o q. elim q [ inl v ↦ left a b k v | inr v ↦ right a b k v ])
    (λ q v o i. operator_inside need (outcome p) (make p) k (subst (λ l. Inside at scope want l o) (tree.outs-Binary p a b) i))

pub comparison_node : (at : ℕ) (scope : Scope) (want : Option Ty) (p : Op) (a b : Ast) (found : Result (Typed × Typed) TypeFault) (made : Result rust_expr.Expr TypeFault)
    (r : Result Typed TypeFault) → operand p ≡ None → Tells (Sides scope a b) (OffendInOrder scope (earlier a b) (later a b)) found
    → Made (sided p) found made → Fitted scope want at (outcome p) made r → JudgesAt at scope want (tree.Binary p a b) r
comparison_node at scope want p a b found made r is h m w =
    let c = is_comparison p is in
    fitted_node at scope want (tree.Binary p a b) (outcome p) (Sides scope a b) (OffendInOrder scope (earlier a b) (later a b)) (sided p) found made r
    (fold_binary Bool keeps_need_step p a b) h m w
    (λ x g. elim g [
      | inl v ↦ (λ n q. subst (Elaborates scope n (tree.Binary p a b) (sided p x)) c.1 (compared a b c.0 v.0 v.1.0.0 v.1.1.0 (subst (Suits scope n) (sym c.1) q)), both_ints p a b v.1.0.1 v.1.1.1)
      | inr v ↦ (λ n q. subst (Elaborates scope n (tree.Binary p a b) (sided p x)) c.1 (compared_back a b c.0 v.0 v.1.0.0 v.1.1.0 (subst (Suits scope n) (sym c.1) q)), both_ints p a b v.1.1.1 v.1.0.1)
    ])
    (λ n o q. elim q [ inl v ↦ earlier_side a b c.0 v | inr v ↦ later_side a b c.0 v.1 v.2 ])
    (λ q v o i. comparison_inside (make p) c.0 (subst (λ l. Inside at scope want l o) (tree.outs-Binary p a b) i))

-- of the sides of a comparison, each in its order
pub tells_sides : (scope : Scope) (a b : Ast) (r : Result (Typed × Typed) TypeFault) → right_first a b ≡ false → Tells (InOrder scope a b) (OffendInOrder scope a b) r
    → Tells (Sides scope a b) (OffendInOrder scope (earlier a b) (later a b)) r
tells_sides scope a b r e h =
    subst (λ x. Tells (Sides scope a b) (OffendInOrder scope (cond x b a) (cond x a b)) r) (sym e)
    (tells_same (InOrder scope a b) (Sides scope a b) (OffendInOrder scope a b) (OffendInOrder scope a b) r (λ x g. inl (e, g)) (λ o p. p) (λ o p. p) h)

pub tells_back : (scope : Scope) (a b : Ast) (x r : Result (Typed × Typed) TypeFault) → right_first a b ≡ true → Tells (InOrder scope b a) (OffendInOrder scope b a) x → Turned x r
    → Tells (Sides scope a b) (OffendInOrder scope (earlier a b) (later a b)) r
tells_back scope a b (Ok p) r e h w =
    subst (Tells (Sides scope a b) (OffendInOrder scope (earlier a b) (later a b))) (sym w)
    (subst (λ z. Tells (Sides scope a b) (OffendInOrder scope (cond z b a) (cond z a b)) (Ok (p.1, p.0))) (sym e) (inr (e, h.0), h.1))
tells_back scope a b (Err f) r e h w =
    subst (Tells (Sides scope a b) (OffendInOrder scope (earlier a b) (later a b))) (sym w)
    (subst (λ z. Told f (OffendInOrder scope (cond z b a) (cond z a b))) (sym e) h)

-- ---- brackets, choices

not_group : (bracket : ℕ) (a : Ast) → KeepsNeed (tree.Group bracket a) → ⊥
not_group bracket a w = true≢false (sym w ∙ fold_group Bool keeps_need_step bracket a)

not_if : (i : ℕ) (c a b : Ast) → KeepsNeed (tree.If i c a b) → ⊥
not_if i c a b w = true≢false (sym w ∙ fold_if Bool keeps_need_step i c a b)

group_inside : {at : ℕ} {scope : Scope} {want : Option Ty} {bracket : ℕ} {a : Ast} {o : Offence} → Inside at scope want (Ast-F.Group bracket a) o → OffendsAt at scope want a o
group_inside (i_grouped bracket a o w) = w

pub group_node : (at bracket : ℕ) (scope : Scope) (want : Option Ty) (a : Ast) (r : Result Typed TypeFault) → JudgesAt at scope want a r → JudgesAt at scope want (tree.Group bracket a) r
group_node at bracket scope want a (Ok t) h = (grouped a h.0, fold_group Bool ints_step bracket a ∙ h.1)
group_node at bracket scope want a (Err f) h =
    told_same f (OffendsAt at scope want a) (OffendsAt at scope want (tree.Group bracket a)) (λ o w. in_brackets a w)
    (λ o w. elim (split w) [ inl i ↦ group_inside (subst (λ l. Inside at scope want l o) (tree.outs-Group bracket a) i) | inr k ↦ absurd (never want o k) ]) h
  where
    never : (n : Option Ty) (o : Offence) → Other at scope n (tree.Group bracket a) o → ⊥
    never None o k = k
    never (Some t) o k = not_group bracket a k.2

if_inside : {at : ℕ} {scope : Scope} {t : Ty} {i : ℕ} {c a b : Ast} {o : Offence} → Inside at scope (Some t) (Ast-F.If i c a b) o
    → Either (Offends scope (Some truth) c) (Either (Offends scope (Some t) a) (Offends scope (Some t) b)) o
if_inside (i_condition i c a b o w) = inl w
if_inside (i_then i c a b o w) = inr (inl w)
if_inside (i_else t i c a b o w) = inr (inr w)

if_free_inside : {at : ℕ} {scope : Scope} {i : ℕ} {c a b : Ast} {o : Offence} → Inside at scope None (Ast-F.If i c a b) o
    → Either (Offends scope (Some truth) c) (OffendInOrder scope a b) o
if_free_inside (i_condition i c a b o w) = inl w
if_free_inside (i_then i c a b o w) = inr (inl w)
if_free_inside (i_like_then s i c a b o h w) = inr (inr (s, h, w))

if_ints : (i : ℕ) (c a b : Ast) → HasInts c → HasInts a → HasInts b → HasInts (tree.If i c a b)
if_ints i c a b h k l =
    fold_if Bool ints_step i c a b
    ∙ (ap (λ x. x && (folded Bool ints_step a && folded Bool ints_step b)) h ∙ (ap (λ x. x && folded Bool ints_step b) k ∙ l))

-- the expression of a choice, and its type
abbrev pub choice_of : Option Ty → Typed × (Typed × Typed) → Expr × Ty
choice_of want p = (choose (expr_of p.0.expr) (expr_of p.1.0.expr) (expr_of p.1.1.expr), choice_type want (ty_of p.1.0.ty))

pub if_node : (at i : ℕ) (scope : Scope) (t : Ty) (c a b : Ast) (x : Result Typed TypeFault) (y : Result (Typed × Typed) TypeFault) (found : Result (Typed × (Typed × Typed)) TypeFault)
    (r : Result Typed TypeFault) → Judges scope (Some truth) c x → Tells (BothMean scope (Some t) a b) (Either (Offends scope (Some t) a) (Offends scope (Some t) b)) y → Joined x y found
    → MadeTyped (choice_of (Some t)) found r → JudgesAt at scope (Some t) (tree.If i c a b) r
if_node at i scope t c a b x y found r h k j m =
    part_node at scope (Some t) (tree.If i c a b) (λ p. Means scope (Some truth) c p.0 × BothMean scope (Some t) a b p.1)
    (Either (Offends scope (Some truth) c) (Either (Offends scope (Some t) a) (Offends scope (Some t) b))) (choice_of (Some t)) found r (not_if i c a b)
    (tells_both (Means scope (Some truth) c) (BothMean scope (Some t) a b) (Offends scope (Some truth) c) (Either (Offends scope (Some t) a) (Offends scope (Some t) b)) x y found
    (tells_of scope (Some truth) c x h) k j) m
    (λ p g. (chosen c a b g.0.0 g.1.0.0 g.1.1.0, if_ints i c a b g.0.1 g.1.0.1 g.1.1.1))
    (λ o q. elim q [ inl v ↦ condition c a b v | inr (inl v) ↦ then_branch c a b v | inr (inr v) ↦ else_branch c a b v ])
    (λ o q. if_inside (subst (λ l. Inside at scope (Some t) l o) (tree.outs-If i c a b) q))

pub if_free_node : (at i : ℕ) (scope : Scope) (c a b : Ast) (x : Result Typed TypeFault) (y : Result (Typed × Typed) TypeFault) (found : Result (Typed × (Typed × Typed)) TypeFault)
    (r : Result Typed TypeFault) → Judges scope (Some truth) c x → Tells (InOrder scope a b) (OffendInOrder scope a b) y → Joined x y found
    → MadeTyped (choice_of None) found r → JudgesAt at scope None (tree.If i c a b) r
if_free_node at i scope c a b x y found r h k j m =
    part_node at scope None (tree.If i c a b) (λ p. Means scope (Some truth) c p.0 × InOrder scope a b p.1)
    (Either (Offends scope (Some truth) c) (OffendInOrder scope a b)) (choice_of None) found r (not_if i c a b)
    (tells_both (Means scope (Some truth) c) (InOrder scope a b) (Offends scope (Some truth) c) (OffendInOrder scope a b) x y found (tells_of scope (Some truth) c x h) k j) m
    (λ p g. (chosen_freely c a b g.0.0 g.1.0.0 g.1.1.0, if_ints i c a b g.0.1 g.1.0.1 g.1.1.1))
    (λ o q. elim q [ inl v ↦ condition c a b v | inr (inl v) ↦ then_branch c a b v | inr (inr v) ↦ else_like_then c a b v.1 v.2 ])
    (λ o q. if_free_inside (subst (λ l. Inside at scope None l o) (tree.outs-If i c a b) q))
