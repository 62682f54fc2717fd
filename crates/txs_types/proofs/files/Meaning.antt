-- A file means one list of definitions, or something offends in it.
use Rattle.std.proofs.Common.{◌≡◌, ◌⊎◌, ◌+◌, ℕ, suc, ap, sym, subst, ◌∙◌, List, [], ◌∷◌, slice_get, Some, refl, inl, inr, arith}
use Rattle.txs_values.specs.Value.{Table, field_types}
use Rattle.txs_terms.specs.Expr.{Expr}
use Rattle.txs_terms.specs.Defs.{Function, Constant, Definitions}
use Rattle.txs_syntax.specs.declared.ast.Name.{Name}
use Rattle.txs_syntax.specs.declared.file.File.{File}
use Rattle.txs_syntax.specs.declared.file.Def.{Def}
use Rattle.txs_syntax.specs.declared.file.Def.TheVariants as def
use Rattle.txs_syntax.specs.declared.file.DeclList.{DeclList}
use Rattle.txs_typing.specs.Offends.{Offence}
use Rattle.txs_types.specs.Files.{type_names, type_of, variables_of, table_of, scope_in, FileOffends, in_function, in_constant, AreFunctions, no_function, a_function, AreFunctions.type_between, constant_between, AreConstants, no_constant, a_constant, AreConstants.type_between as type_by, function_between}
use Rattle.txs_types.proofs.Laws.{MeantOrOffends, MeaningIsUnique}
use Rattle.txs_typing.proofs.trees.Unique.{unique}
use Rattle.txs_typing.proofs.trees.Judged.{elaborates_or_offends}

-- ---- no two definitions

abbrev pub function_of : File → Name → DeclList → Name → Expr → Function
function_of file x ps r e = record {
  name = x.text;
  takes = field_types (variables_of (type_names file.defs) ps);
  gives = type_of (type_names file.defs) r.text;
  body = e;
}

abbrev pub constant_of : File → Name → Name → Expr → Constant
constant_of file x n e = record { name = x.text; ty = type_of (type_names file.defs) n.text; body = e }

same_functions : {file : File} {ds : List Def} {fs gs : List Function} → AreFunctions file ds fs → AreFunctions file ds gs → fs ≡ gs
same_functions no_function no_function = refl
same_functions {file = file} (a_function {x = x} {r = r} {ps = ps} {fs = fs} d rest) (a_function {e = f} d' rest') =
    ap (λ e. function_of file x ps r e ∷ fs) (unique d d').0 ∙ ap (λ l. function_of file x ps r f ∷ l) (same_functions rest rest')
same_functions (type_between rest) (type_between rest') = same_functions rest rest'
same_functions (constant_between rest) (constant_between rest') = same_functions rest rest'

same_constants : {file : File} {ds : List Def} {ks ls : List Constant} → AreConstants file ds ks → AreConstants file ds ls → ks ≡ ls
same_constants no_constant no_constant = refl
same_constants {file = file} (a_constant {x = x} {n = n} {ks = ks} d rest) (a_constant {e = f} d' rest') =
    ap (λ e. constant_of file x n e ∷ ks) (unique d d').0 ∙ ap (λ l. constant_of file x n f ∷ l) (same_constants rest rest')
same_constants (type_by rest) (type_by rest') = same_constants rest rest'
same_constants (function_between rest) (function_between rest') = same_constants rest rest'

abbrev pub definitions_of : Table → List Function → List Constant → Definitions
definitions_of t fs ks = record { table = t; functions = fs; constants = ks }

pub meaning_is_unique : MeaningIsUnique
meaning_is_unique file c d p q =
    ap (λ t. definitions_of t c.functions c.constants) (p.table ∙ sym q.table)
    ∙ (ap (λ fs. definitions_of d.table fs c.constants) (same_functions p.functions q.functions)
    ∙ ap (λ ks. definitions_of d.table d.functions ks) (same_constants p.constants q.constants))

-- ---- a meaning or an offence

-- these definitions are those of the file from the i-th on
abbrev pub IsRest : File → ℕ → List Def → Type 0
IsRest file i ds = (k : ℕ) → slice_get file.defs (i + k) ≡ slice_get ds k

pub head_of : (file : File) (i : ℕ) {d : Def} (ds : List Def) → IsRest file i (d ∷ ds) → slice_get file.defs i ≡ Some d
head_of file i {d = d} ds h = subst (λ n. slice_get file.defs n ≡ Some d) (omega arith) (h 0)

pub tail_of : (file : File) (i : ℕ) (d : Def) (ds : List Def) → IsRest file i (d ∷ ds) → IsRest file (suc i) ds
tail_of file i d ds h k = subst (λ n. slice_get file.defs n ≡ slice_get ds k) (omega arith) (h (suc k))

abbrev OffendsSomehow : File → Type 0
OffendsSomehow file = (o : Offence) × FileOffends file o

functions_of : (file : File) (i : ℕ) (ds : List Def) → IsRest file i ds → ((fs : List Function) × AreFunctions file ds fs) ⊎ OffendsSomehow file
functions_of file i [] h = inl ([], no_function)
functions_of file i (def.TypeDef x cs ∷ ds) h = elim (functions_of file (suc i) ds (tail_of file i (def.TypeDef x cs) ds h)) [ inl p ↦ inl (p.0, type_between p.1) | inr w ↦ inr w ]
functions_of file i (def.ConstDef x t e ∷ ds) h = elim (functions_of file (suc i) ds (tail_of file i (def.ConstDef x t e) ds h)) [ inl p ↦ inl (p.0, constant_between p.1) | inr w ↦ inr w ]
functions_of file i (def.FuncDef x ps r a ∷ ds) h =
    elim (elaborates_or_offends (scope_in file (variables_of (type_names file.defs) ps)) (Some (type_of (type_names file.defs) r.text)) a) [
      | inr w ↦ inr (w.0, in_function i (head_of file i ds h) w.1)
      | inl d ↦ elim (functions_of file (suc i) ds (tail_of file i (def.FuncDef x ps r a) ds h)) [ inl p ↦ inl (function_of file x ps r d.0 ∷ p.0, a_function d.2 p.1) | inr w ↦ inr w ]
    ]

constants_of : (file : File) (i : ℕ) (ds : List Def) → IsRest file i ds → ((ks : List Constant) × AreConstants file ds ks) ⊎ OffendsSomehow file
constants_of file i [] h = inl ([], no_constant)
constants_of file i (def.TypeDef x cs ∷ ds) h = elim (constants_of file (suc i) ds (tail_of file i (def.TypeDef x cs) ds h)) [ inl p ↦ inl (p.0, type_by p.1) | inr w ↦ inr w ]
constants_of file i (def.FuncDef x ps r e ∷ ds) h = elim (constants_of file (suc i) ds (tail_of file i (def.FuncDef x ps r e) ds h)) [ inl p ↦ inl (p.0, function_between p.1) | inr w ↦ inr w ]
constants_of file i (def.ConstDef x n a ∷ ds) h =
    elim (elaborates_or_offends (scope_in file []) (Some (type_of (type_names file.defs) n.text)) a) [
      | inr w ↦ inr (w.0, in_constant i (head_of file i ds h) w.1)
      | inl d ↦ elim (constants_of file (suc i) ds (tail_of file i (def.ConstDef x n a) ds h)) [ inl p ↦ inl (constant_of file x n d.0 ∷ p.0, a_constant d.2 p.1) | inr w ↦ inr w ]
    ]

pub all_of : (file : File) → IsRest file 0 file.defs
all_of file k = ap (slice_get file.defs) (omega arith)

pub meant_or_offends : MeantOrOffends
meant_or_offends file = elim (functions_of file 0 file.defs (all_of file)) [
  | inr w ↦ inr w
  | inl fs ↦ elim (constants_of file 0 file.defs (all_of file)) [
    | inr w ↦ inr w
    | inl ks ↦ inl (definitions_of (table_of file) fs.0 ks.0, record { table = refl; functions = fs.1; constants = ks.1 })
  ]
]
