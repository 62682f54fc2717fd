-- What is judged of a tree, from what is judged of its parts.
use Rattle.std.proofs.Common.{◌≡◌, ℕ, ℤ, Bool, true, ap, sym, subst, ◌∙◌, List, Option, Some, None, Result, Ok, Err, refl, inl, inr, arith}
use Rattle.txs_values.specs.Value.{Ty, integer, string, num, text, fits}
use Rattle.txs_values.specs.View.{ty_of}
use Rattle.txs_terms.specs.declared.expr.Expr as rust_expr
use Rattle.txs_terms.specs.Expr.{Expr, val}
use Rattle.txs_terms.specs.View.{expr_of}
use Rattle.txs_syntax.specs.declared.ast.Name.{Name}
use Rattle.txs_syntax.specs.declared.ast.Ast.{Ast, out-Ast}
use Rattle.txs_syntax.specs.declared.ast.Ast.TheVariants as tree
use Rattle.txs_syntax.specs.declared.ast.Ast.TheOpen.{Ast-F}
use Rattle.txs_typing.specs.declared.fault.TypeFault.{TypeFault}
use Rattle.txs_typing.specs.declared.fault.TypeFault.TheVariants as fault
use Rattle.txs_typing.specs.Names.{Scope, meaning}
use Rattle.txs_typing.specs.Elaborates.{Suits, Elaborates, number, quoted, name, HasInts, ints_step}
use Rattle.txs_typing.specs.Offends.{Offence, unknown, mismatch, KeepsNeed, keeps_need_step, start, OffendsAt, Offends, stands, other_type, unknown_name, NotAfter}
use Rattle.txs_typing.specs.Answer.{Told}
use Rattle.txs_typing.specs.inner.View.{Judges, JudgesAt}
use Rattle.txs_typing.specs.inner.Parts.{Typed, Fitted, Means, Tells}
use Rattle.txs_typing.proofs.trees.Folds.{fold_number, fold_text, fold_name}
use Rattle.txs_typing.proofs.trees.NotBoth.{not_both}
use Rattle.txs_typing.proofs.judging.Inside.{Inside, i_name, Other, split, at_none, moved}
use Rattle.txs_typing.proofs.judging.Told.{told_same, unknown_told}

pub ok_injective : {x y : rust_expr.Expr} → ◌≡◌ {A = Result rust_expr.Expr TypeFault} (Ok x) (Ok y) → x ≡ y
ok_injective p = cc

pub ok≢err : {x : rust_expr.Expr} {f : TypeFault} → ◌≡◌ {A = Result rust_expr.Expr TypeFault} (Ok x) (Err f) → ⊥
ok≢err p = cc

-- ---- a tree at its own place

offends_of : {scope : Scope} {want : Option Ty} {a : Ast} {o : Offence} → OffendsAt (start a) scope want a o → Offends scope want a o
offends_of w = stands refl w

pub offends_at : {scope : Scope} {want : Option Ty} {a : Ast} {o : Offence} → Offends scope want a o → OffendsAt (start a) scope want a o
offends_at {scope = scope} {want = want} {a = a} {o = o} (stands e w) = subst (λ at. OffendsAt at scope want a o) (sym e) w

pub judges_of : (scope : Scope) (want : Option Ty) (a : Ast) (r : Result Typed TypeFault) → JudgesAt (start a) scope want a r → Judges scope want a r
judges_of scope want a (Ok t) h = h
judges_of scope want a (Err f) h = told_same f (OffendsAt (start a) scope want a) (Offends scope want a) (λ o w. offends_of w) (λ o w. offends_at w) h

pub no_offence : (scope : Scope) (want : Option Ty) (a : Ast) (t : Typed) → Means scope want a t → (o : Offence) → Offends scope want a o → ⊥
no_offence scope want a t h o w = not_both scope want a (expr_of t.expr) (ty_of t.ty) o h.0 w

pub tells_of : (scope : Scope) (want : Option Ty) (a : Ast) (r : Result Typed TypeFault) → Judges scope want a r → Tells (Means scope want a) (Offends scope want a) r
tells_of scope want a (Ok t) h = (h, no_offence scope want a t h)
tells_of scope want a (Err f) h = h

-- a tree that means something offends at no place
pub clean_at : (at : ℕ) (scope : Scope) (want : Option Ty) (a : Ast) (e : Expr) (t : Ty) (o : Offence) → Elaborates scope want a e t → OffendsAt at scope want a o → ⊥
clean_at at scope want a e t o d w = let m = moved (start a) w in not_both scope want a e t m.0 d (offends_of m.1)

-- ---- a tree that keeps the need

pub told_mismatch : (at : ℕ) (P : Offence → Type 0) → P (mismatch at) → ((o : Offence) → P o → o ≡ mismatch at) → Told (fault.Mismatch at) P
told_mismatch at P h only = record { stands = h; first = λ o p. subst (NotAfter (mismatch at)) (sym (only o p)) (inr (refl, omega arith)) }

pub finish_fitted : (at : ℕ) (scope : Scope) (want : Option Ty) (a : Ast) (t : Ty) (made : Result rust_expr.Expr TypeFault) (r : Result Typed TypeFault) → KeepsNeed a
    → Fitted scope want at t made r
    → ((e : rust_expr.Expr) → made ≡ Ok e → ((w : Option Ty) → Suits scope w t → Elaborates scope w a (expr_of e) t) × HasInts a)
    → ((f : TypeFault) → made ≡ Err f → Told f (OffendsAt at scope want a)) → JudgesAt at scope want a r
finish_fitted at scope want a t (Err f) r w h mk told = subst (JudgesAt at scope want a) (sym h) (told f refl)
finish_fitted at scope want a t (Ok e) (Ok x) w h mk told =
    let m = mk e refl in (
      subst (λ s. Elaborates scope want a (expr_of x.expr) s) (sym h.1) (subst (λ y. Elaborates scope want a (expr_of y) t) (sym h.0) (m.0 want h.2)),
      m.1,
    )
finish_fitted at scope want a t (Ok e) (Err f) w h mk told =
    let m = mk e refl in
    let d = m.0 None tt in
    subst (λ f. Told f (OffendsAt at scope want a)) (sym h.0)
    (told_mismatch at (OffendsAt at scope want a)
    (subst (λ n. OffendsAt at scope n a (mismatch at)) (sym h.1.1) (other_type a w d h.1.2))
    (λ o q. elim (at_none q w) [ inl p ↦ absurd (clean_at at scope None a (expr_of e) t o d p) | inr p ↦ p ]))

not_other : (at : ℕ) (scope : Scope) (want : Option Ty) (a : Ast) (q o : Offence) → Other at scope want a q → OffendsAt at scope None a o → ⊥
not_other at scope None a q o k w = k
not_other at scope (Some t) a q o k w = clean_at at scope None a k.0 k.1 o k.3 w

-- the fault of the parts is that of the tree
pub fault_of_parts : (at : ℕ) (scope : Scope) (want : Option Ty) (a : Ast) (P : Offence → Type 0) (f : TypeFault) → Told f P
    → ((w : Option Ty) (o : Offence) → P o → OffendsAt at scope w a o) → ((p : Offence) → P p → (o : Offence) → Inside at scope want (out-Ast a) o → P o) → Told f (OffendsAt at scope want a)
fault_of_parts at scope want a P f h into out = by f h
  where
    back : (o : Offence) → P o → (q : Offence) → OffendsAt at scope want a q → P q
    back o p q w = elim (split w) [
      | inl i ↦ out o p q i
      | inr k ↦ absurd (not_other at scope want a q o k (into None o p))
    ]

    by : (f : TypeFault) → Told f P → Told f (OffendsAt at scope want a)
    by (fault.Twice at) d = told_same (fault.Twice at) P (OffendsAt _ scope want a) (into want) (back _ d.stands) d
    by (fault.Unknown at) d = told_same (fault.Unknown at) P (OffendsAt _ scope want a) (into want) (back _ d.stands) d
    by (fault.Arity at) d = told_same (fault.Arity at) P (OffendsAt _ scope want a) (into want) (back _ d.stands) d
    by (fault.Mismatch at) d = told_same (fault.Mismatch at) P (OffendsAt _ scope want a) (into want) (back _ d.stands) d
    by (fault.EmptyType at) d = told_same (fault.EmptyType at) P (OffendsAt _ scope want a) (into want) (back _ d.stands) d
    by (fault.BigType at) d = told_same (fault.BigType at) P (OffendsAt _ scope want a) (into want) (back _ d.stands) d
    by fault.NoMemory d = tt

-- ---- leaves

pub judges_number : (at offset : ℕ) (scope : Scope) (want : Option Ty) (n : ℤ) (e : rust_expr.Expr) (r : Result Typed TypeFault) → expr_of e ≡ val (num n) → fits n ≡ true
    → Fitted scope want at integer (Ok e) r → JudgesAt at scope want (tree.Number offset n) r
judges_number at offset scope want n e r seen ok h =
    finish_fitted at scope want (tree.Number offset n) integer (Ok e) r (fold_number Bool keeps_need_step offset n) h
    (λ x p. (
      λ w q. subst (λ y. Elaborates scope w (tree.Number offset n) y integer) (sym (ap expr_of (sym (ok_injective p)) ∙ seen)) (number q),
      fold_number Bool ints_step offset n ∙ ok,
    ))
    (λ f p. absurd (ok≢err p))

pub judges_text : (at offset : ℕ) (scope : Scope) (want : Option Ty) (s : List ℕ) (e : rust_expr.Expr) (r : Result Typed TypeFault) → expr_of e ≡ val (text s)
    → Fitted scope want at string (Ok e) r → JudgesAt at scope want (tree.Text offset s) r
judges_text at offset scope want s e r seen h =
    finish_fitted at scope want (tree.Text offset s) string (Ok e) r (fold_text Bool keeps_need_step offset s) h
    (λ x p. (
      λ w q. subst (λ y. Elaborates scope w (tree.Text offset s) y string) (sym (ap expr_of (sym (ok_injective p)) ∙ seen)) (quoted q),
      fold_text Bool ints_step offset s,
    ))
    (λ f p. absurd (ok≢err p))

pub judges_name : (at : ℕ) (scope : Scope) (want : Option Ty) (x : Name) (t : Typed) (r : Result Typed TypeFault) → Some (expr_of t.expr, ty_of t.ty) ≡ meaning scope x.text
    → Fitted scope want at (ty_of t.ty) (Ok t.expr) r → JudgesAt at scope want (tree.Name x) r
judges_name at scope want x t r m h =
    finish_fitted at scope want (tree.Name x) (ty_of t.ty) (Ok t.expr) r (fold_name Bool keeps_need_step x) h
    (λ y p. (
      λ w q. subst (λ e. Elaborates scope w (tree.Name x) (expr_of e) (ty_of t.ty)) (ok_injective p) (name (sym m) q),
      fold_name Bool ints_step x,
    ))
    (λ f p. absurd (ok≢err p))

name_inside : {at : ℕ} {scope : Scope} {want : Option Ty} {x : Name} {o : Offence} → Inside at scope want (Ast-F.Name x) o → o ≡ unknown x.at
name_inside (i_name x h) = refl

pub judges_no_name : (at : ℕ) (scope : Scope) (want : Option Ty) (x : Name) → None ≡ meaning scope x.text → JudgesAt at scope want (tree.Name x) (Err (fault.Unknown x.at))
judges_no_name at scope want x m =
    fault_of_parts at scope want (tree.Name x) (λ o. o ≡ unknown x.at) (fault.Unknown x.at) (unknown_told x.at)
    (λ w o p. subst (OffendsAt at scope w (tree.Name x)) (sym p) (unknown_name (sym m)))
    (λ p h o i. name_inside (subst (λ l. Inside at scope want l o) (tree.outs-Name x) i))
