-- A query over definitions: the scope of its expression, and what is told of it.
use Rattle.std.proofs.Common.{◌≡◌, ◌⊎◌, ℕ, refl, sym, ap, subst, ◌∙◌, inl, inr, suc, List, [], ◌∷◌, length, Option, Some, None, Result, Ok, Err, IfOk, IfErr}
use Rattle.txs_values.specs.View.{ty_of}
use Rattle.txs_values.specs.Value.{Ty, Table, field_types}
use Rattle.txs_terms.specs.Typed.{AreTypes, Of}
use Rattle.txs_terms.specs.Defs.{Definitions, signatures_of, AreDefined}
use Rattle.txs_terms.specs.View.{expr_of}
use Rattle.txs_terms.specs.declared.expr.Expr as rust_expr
use Rattle.txs_syntax.specs.declared.ast.Ast.{Ast}
use Rattle.txs_syntax.specs.declared.ast.Name.{Name}
use Rattle.txs_syntax.specs.declared.file.DeclList.{DeclList}
use Rattle.txs_typing.specs.declared.fault.TypeFault.{TypeFault}
use Rattle.txs_typing.specs.declared.typed.Typed as rust_typed
use Rattle.txs_typing.specs.Names.{Variable, Global, Scope, scope_over}
use Rattle.txs_typing.specs.Elaborates.{Elaborates}
use Rattle.txs_typing.specs.Offends.{Offence, unknown, Offends}
use Rattle.txs_types.specs.Files.{types_used, is_undefined, variables_of, names_of, query_scope, QueryOffends, twice_declared, unknown_declared, in_expression}
use Rattle.txs_typing.specs.Answer.{IsNeed, Told, IsSafe}
use Rattle.txs_typing.proofs.Laws.{HasTypes}
use Rattle.txs_typing.specs.inner.Told.{Finds}
use Rattle.txs_typing.specs.inner.View.{Judges}
use Rattle.txs_types.specs.inner.Queries.{InDeclarations, Decided}
use Rattle.txs_typing.proofs.trees.NotBoth.{not_both}
use Rattle.txs_typing.proofs.trees.WellTyped.{elaborated_is_typed, elaborated_is_wanted}
use Rattle.txs_typing.proofs.trees.Safe.{typed_is_safe}
use Rattle.txs_types.proofs.files.Tables.{all_defined, not_true, known_variables}
use Rattle.txs_typing.proofs.judging.Told.{Either, told_same, told_left, told_right, told_either, none_of_both}

-- ---- the scope

names_length : (table : Table) → length (names_of table) ≡ length table
names_length [] = refl
names_length (t ∷ ts) = ap suc (names_length ts)

abbrev made : ℕ → List Global → List Variable → List Variable → Scope
made n gs vs ls = record { types = n; globals = gs; slots = vs; locals = ls }

pub scope_is : (d : Definitions) (list : DeclList) (types : List Name) (n : ℕ) (gs : List Global) (vs ls : List Variable) → types ≡ names_of d.table
    → n ≡ length types → gs ≡ (scope_over d []).globals → vs ≡ variables_of types list → ls ≡ [] → made n gs vs ls ≡ query_scope d list
scope_is d list types n gs vs ls named p q r s =
    ap (λ n. made n gs vs ls) (p ∙ (ap length named ∙ names_length d.table))
    ∙ (ap (λ gs. made (length d.table) gs vs ls) q
    ∙ (ap (λ vs. made (length d.table) (scope_over d []).globals vs ls) (r ∙ ap (λ types. variables_of types list) named)
    ∙ ap (made (length d.table) (scope_over d []).globals (variables_of (names_of d.table) list)) s))

-- ---- what is told

to_query : (d : Definitions) (list : DeclList) (want : Option Ty) (a : Ast) (o : Offence)
    → InDeclarations (names_of d.table) list o ⊎ Offends (query_scope d list) want a o → QueryOffends d list want a o
to_query d list want a o (inl (inl (at, e, r))) = subst (QueryOffends d list want a) (sym e) (twice_declared r)
to_query d list want a o (inl (inr (j, n, h, u, e))) = subst (QueryOffends d list want a) (sym e) (unknown_declared j h u)
to_query d list want a o (inr w) = in_expression w

from_query : (d : Definitions) (list : DeclList) (want : Option Ty) (a : Ast) (o : Offence) → QueryOffends d list want a o
    → InDeclarations (names_of d.table) list o ⊎ Offends (query_scope d list) want a o
from_query d list want a o (twice_declared {at = at} r) = inl (inl (at, refl, r))
from_query d list want a o (unknown_declared j {n = n} h u) = inl (inr (j, n, h, u, refl))
from_query d list want a o (in_expression w) = inr w

-- nothing offends in what means an expression
none_inside : (d : Definitions) (list : DeclList) (want : Option Ty) (a : Ast) (t : rust_typed.Typed) → Judges (query_scope d list) want a (Ok t)
    → (o : Offence) → Offends (query_scope d list) want a o → ⊥
none_inside d list want a t j o w = not_both (query_scope d list) want a (expr_of t.expr) (ty_of t.ty) o j.0 w

pub query_clean : (d : Definitions) (list : DeclList) (want : Option Ty) (a : Ast) (told : Option TypeFault) (typed : Result rust_typed.Typed TypeFault) (r : Result rust_expr.Expr TypeFault)
    → Finds told (InDeclarations (names_of d.table) list) → Judges (query_scope d list) want a typed → Decided told typed r
    → IfOk r (λ e. (o : Offence) → QueryOffends d list want a o → ⊥)
query_clean d list want a None (Ok t) r none j e =
    subst (λ r. IfOk r (λ e. (o : Offence) → QueryOffends d list want a o → ⊥)) (sym e)
    (λ o q. none_of_both (InDeclarations (names_of d.table) list) (Offends (query_scope d list) want a) none (none_inside d list want a t j) o (from_query d list want a o q))
query_clean d list want a None (Err f) r none j e = subst (λ r. IfOk r (λ e. (o : Offence) → QueryOffends d list want a o → ⊥)) (sym e) tt
query_clean d list want a (Some f) (Ok t) r h j e = subst (λ r. IfOk r (λ e. (o : Offence) → QueryOffends d list want a o → ⊥)) (sym e) tt
query_clean d list want a (Some f) (Err g) r h j e = subst (λ r. IfOk r (λ e. (o : Offence) → QueryOffends d list want a o → ⊥)) (sym e.1) tt

told_query : (f : TypeFault) (d : Definitions) (list : DeclList) (want : Option Ty) (a : Ast)
    → Told f (Either (InDeclarations (names_of d.table) list) (Offends (query_scope d list) want a)) → Told f (QueryOffends d list want a)
told_query f d list want a h =
    told_same f (Either (InDeclarations (names_of d.table) list) (Offends (query_scope d list) want a)) (QueryOffends d list want a) (to_query d list want a) (from_query d list want a) h

pub query_told : (d : Definitions) (list : DeclList) (want : Option Ty) (a : Ast) (told : Option TypeFault) (typed : Result rust_typed.Typed TypeFault) (r : Result rust_expr.Expr TypeFault)
    → Finds told (InDeclarations (names_of d.table) list) → Judges (query_scope d list) want a typed → Decided told typed r
    → IfErr r (λ f. Told f (QueryOffends d list want a))
query_told d list want a None (Ok t) r none j e = subst (λ r. IfErr r (λ f. Told f (QueryOffends d list want a))) (sym e) tt
query_told d list want a None (Err f) r none j e =
    subst (λ r. IfErr r (λ f. Told f (QueryOffends d list want a))) (sym e)
    (told_query f d list want a (told_right f (InDeclarations (names_of d.table) list) (Offends (query_scope d list) want a) none j))
query_told d list want a (Some f) (Ok t) r h j e =
    subst (λ r. IfErr r (λ f. Told f (QueryOffends d list want a))) (sym e)
    (told_query f d list want a (told_left f (InDeclarations (names_of d.table) list) (Offends (query_scope d list) want a) h (none_inside d list want a t j)))
query_told d list want a (Some f) (Err g) r h j e =
    subst (λ r. IfErr r (λ f. Told f (QueryOffends d list want a))) (sym e.1)
    (told_query e.0 d list want a (told_either f g e.0 (InDeclarations (names_of d.table) list) (Offends (query_scope d list) want a) h j e.2))

-- ---- types

has_types : (d : Definitions) → AreDefined d → HasTypes d
has_types d ok = record { functions = ok.functions; constants = ok.constants; fields = ok.typed.table.known }

declared_types : (d : Definitions) (list : DeclList) → ((o : Offence) → InDeclarations (names_of d.table) list o → ⊥) → AreTypes d.table (field_types (variables_of (names_of d.table) list))
declared_types d list none =
    known_variables d.table (names_of d.table) (sym (names_length d.table)) list.decls
    (all_defined (names_of d.table) (types_used list.decls)
    (λ j n h. not_true (is_undefined (names_of d.table) n) (λ u. none (unknown n.at) (inr (j, n, h, u, refl)))))

abbrev TypedQuery : Definitions → DeclList → Option Ty → Ast → rust_expr.Expr → Type 0
TypedQuery d list want a e =
    (t : Ty) → Elaborates (query_scope d list) want a (expr_of e) t
    → Of d.table (signatures_of d) (field_types (variables_of (names_of d.table) list)) [] (expr_of e) t

pub query_typed : (d : Definitions) (list : DeclList) (want : Option Ty) (a : Ast) (told : Option TypeFault) (typed : Result rust_typed.Typed TypeFault) (r : Result rust_expr.Expr TypeFault)
    → AreDefined d → IsNeed d.table want → Finds told (InDeclarations (names_of d.table) list) → Judges (query_scope d list) want a typed → Decided told typed r
    → IfOk r (TypedQuery d list want a)
query_typed d list want a None (Ok x) r ok need none j e =
    subst (λ r. IfOk r (TypedQuery d list want a)) (sym e)
    (λ t h. elaborated_is_typed d (variables_of (names_of d.table) list) want a (expr_of x.expr) t (has_types d ok) (declared_types d list none) need j.1 h)
query_typed d list want a None (Err f) r ok need none j e = subst (λ r. IfOk r (TypedQuery d list want a)) (sym e) tt
query_typed d list want a (Some f) (Ok x) r ok need h j e = subst (λ r. IfOk r (TypedQuery d list want a)) (sym e) tt
query_typed d list want a (Some f) (Err g) r ok need h j e = subst (λ r. IfOk r (TypedQuery d list want a)) (sym e.1) tt

abbrev WantedQuery : Definitions → DeclList → Option Ty → Ast → rust_expr.Expr → Type 0
WantedQuery d list want a e = (s t : Ty) → want ≡ Some s → Elaborates (query_scope d list) want a (expr_of e) t → t ≡ s

pub query_wanted : (d : Definitions) (list : DeclList) (want : Option Ty) (a : Ast) (told : Option TypeFault) (typed : Result rust_typed.Typed TypeFault) (r : Result rust_expr.Expr TypeFault)
    → AreDefined d → IsNeed d.table want → Finds told (InDeclarations (names_of d.table) list) → Judges (query_scope d list) want a typed → Decided told typed r
    → IfOk r (WantedQuery d list want a)
query_wanted d list want a None (Ok x) r ok need none j e =
    subst (λ r. IfOk r (WantedQuery d list want a)) (sym e)
    (λ s t w h. elaborated_is_wanted d (variables_of (names_of d.table) list) want a (expr_of x.expr) t (has_types d ok) (declared_types d list none) need j.1 h s w)
query_wanted d list want a None (Err f) r ok need none j e = subst (λ r. IfOk r (WantedQuery d list want a)) (sym e) tt
query_wanted d list want a (Some f) (Ok x) r ok need h j e = subst (λ r. IfOk r (WantedQuery d list want a)) (sym e) tt
query_wanted d list want a (Some f) (Err g) r ok need h j e = subst (λ r. IfOk r (WantedQuery d list want a)) (sym e.1) tt

abbrev SafeQuery : Definitions → DeclList → Option Ty → Ast → rust_expr.Expr → Type 0
SafeQuery d list want a e =
    (t : Ty) → Elaborates (query_scope d list) want a (expr_of e) t → IsSafe d (field_types (variables_of (names_of d.table) list)) (expr_of e) t

pub query_safe : (d : Definitions) (list : DeclList) (want : Option Ty) (a : Ast) (r : Result rust_expr.Expr TypeFault) → AreDefined d
    → IfOk r (TypedQuery d list want a) → IfOk r (SafeQuery d list want a)
query_safe d list want a (Ok e) ok h = λ t k. typed_is_safe d (field_types (variables_of (names_of d.table) list)) (expr_of e) t ok (h t k)
query_safe d list want a (Err f) ok h = tt
