-- The function and the constant that are made of a judged body.
use Rattle.std.proofs.Common.{◌≡◌, ℕ, ap, sym, subst, ◌∙◌, List, [], ◌∷◌, ◌++◌, map, Some}
use Rattle.txs_values.specs.declared.ty.Ty as rust_ty
use Rattle.txs_values.specs.declared.table.FieldDef.{FieldDef}
use Rattle.txs_values.specs.Value.{Ty, field_types}
use Rattle.txs_values.specs.View.{ty_of}
use Rattle.txs_values.specs.TableView.{field_of}
use Rattle.txs_terms.specs.Expr.{Expr}
use Rattle.txs_terms.specs.Defs.{Function, Constant}
use Rattle.txs_terms.specs.View.{expr_of, function_of, constant_of}
use Rattle.txs_terms.specs.declared.expr.Expr as rust_expr
use Rattle.txs_terms.specs.declared.defs.FunctionDef.{FunctionDef}
use Rattle.txs_terms.specs.declared.defs.ConstantDef.{ConstantDef}
use Rattle.txs_syntax.specs.declared.ast.Name.{Name}
use Rattle.txs_syntax.specs.declared.ast.Ast.{Ast}
use Rattle.txs_syntax.specs.declared.file.File.{File}
use Rattle.txs_syntax.specs.declared.file.Def.TheVariants as def
use Rattle.txs_syntax.specs.declared.file.DeclList.{DeclList}
use Rattle.txs_typing.specs.declared.scope.Scope as rust_scope
use Rattle.txs_typing.specs.Elaborates.{Elaborates, HasInts}
use Rattle.txs_types.specs.Files.{type_names, type_of, variables_of, scope_in, AreFunctions, no_function, a_function, AreConstants, no_constant, a_constant}
use Rattle.txs_typing.specs.inner.View.{scope_of}
use Rattle.txs_types.specs.inner.Among.{IsOfFile}
use Rattle.txs_types.specs.inner.Collected.{FunctionsMeant, ConstantsMeant}
use Rattle.txs_types.proofs.files.Bodies.{body_scope}

function_by : List ℕ → List Ty → Ty → Expr → Function
function_by n ts t e = record { name = n; takes = ts; gives = t; body = e }

constant_by : List ℕ → Ty → Expr → Constant
constant_by n t e = record { name = n; ty = t; body = e }

pub judged_function : (file : File) (x r : Name) (ps : DeclList) (a : Ast) (types : List Name) (s : rust_scope.Scope) (name : List ℕ) (takes : List rust_ty.Ty) (gives : rust_ty.Ty) (vs : List FieldDef)
    (e : rust_expr.Expr) (t : Ty) (got new : List FunctionDef)
    → types ≡ type_names file.defs → IsOfFile file s → s.slots ≡ vs → map field_of vs ≡ variables_of types ps → map ty_of takes ≡ field_types (map field_of vs)
    → ty_of gives ≡ type_of types r.text → name ≡ x.text → Elaborates (scope_of s) (Some (ty_of gives)) a (expr_of e) t → HasInts a → got ≡ []
    → new ≡ got ++ record { name = name; takes = takes; gives = gives; body = e } ∷ [] → FunctionsMeant file (def.FuncDef x ps r a ∷ []) new
unfolding function_by
judged_function file x r ps a types s name takes gives vs e t got new same of_file slots variables as_taken as_given named meant ints nothing pushed =
    let vars : map field_of s.slots ≡ variables_of (type_names file.defs) ps = ap (map field_of) slots ∙ (variables ∙ ap (λ ts. variables_of ts ps) same) in
    let given : ty_of gives ≡ type_of (type_names file.defs) r.text = as_given ∙ ap (λ ts. type_of ts r.text) same in
    let taken : map ty_of takes ≡ field_types (variables_of (type_names file.defs) ps) = as_taken ∙ ap field_types (variables ∙ ap (λ ts. variables_of ts ps) same) in
    let body : Elaborates (scope_in file (variables_of (type_names file.defs) ps)) (Some (type_of (type_names file.defs) r.text)) a (expr_of e) t =
    subst (λ sc. Elaborates sc (Some (type_of (type_names file.defs) r.text)) a (expr_of e) t) (body_scope file s (variables_of (type_names file.defs) ps) of_file vars)
    (subst (λ w. Elaborates (scope_of s) (Some w) a (expr_of e) t) given meant) in
    let seen : map function_of new ≡ function_by x.text (field_types (variables_of (type_names file.defs) ps)) (type_of (type_names file.defs) r.text) (expr_of e) ∷ [] =
    ap (map function_of) (pushed ∙ ap (λ l. l ++ record { name = name; takes = takes; gives = gives; body = e } ∷ []) nothing)
    ∙ (ap (λ n. function_by n (map ty_of takes) (ty_of gives) (expr_of e) ∷ []) named
    ∙ (ap (λ ts. function_by x.text ts (ty_of gives) (expr_of e) ∷ []) taken
    ∙ ap (λ w. function_by x.text (field_types (variables_of (type_names file.defs) ps)) w (expr_of e) ∷ []) given)) in
    record { meant = subst (λ l. AreFunctions file (def.FuncDef x ps r a ∷ []) l) (sym seen) (a_function body no_function); ints = (ints, tt) }

pub judged_constant : (file : File) (x n : Name) (a : Ast) (types : List Name) (s : rust_scope.Scope) (name : List ℕ) (ty : rust_ty.Ty)
    (e : rust_expr.Expr) (t : Ty) (got new : List ConstantDef)
    → types ≡ type_names file.defs → IsOfFile file s → s.slots ≡ []
    → ty_of ty ≡ type_of types n.text → name ≡ x.text → Elaborates (scope_of s) (Some (ty_of ty)) a (expr_of e) t → HasInts a → got ≡ []
    → new ≡ got ++ record { name = name; ty = ty; body = e } ∷ [] → ConstantsMeant file (def.ConstDef x n a ∷ []) new
unfolding constant_by
judged_constant file x n a types s name ty e t got new same of_file slots as_given named meant ints nothing pushed =
    let given : ty_of ty ≡ type_of (type_names file.defs) n.text = as_given ∙ ap (λ ts. type_of ts n.text) same in
    let body : Elaborates (scope_in file []) (Some (type_of (type_names file.defs) n.text)) a (expr_of e) t =
    subst (λ sc. Elaborates sc (Some (type_of (type_names file.defs) n.text)) a (expr_of e) t) (body_scope file s [] of_file (ap (map field_of) slots))
    (subst (λ w. Elaborates (scope_of s) (Some w) a (expr_of e) t) given meant) in
    let seen : map constant_of new ≡ constant_by x.text (type_of (type_names file.defs) n.text) (expr_of e) ∷ [] =
    ap (map constant_of) (pushed ∙ ap (λ l. l ++ record { name = name; ty = ty; body = e } ∷ []) nothing)
    ∙ (ap (λ n. constant_by n (ty_of ty) (expr_of e) ∷ []) named ∙ ap (λ w. constant_by x.text w (expr_of e) ∷ []) given) in
    record { meant = subst (λ l. AreConstants file (def.ConstDef x n a ∷ []) l) (sym seen) (a_constant body no_constant); ints = (ints, tt) }
