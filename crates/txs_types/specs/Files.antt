-- What offends in a file, and the definitions that a file without an offence means.
use Rattle.std.specs.Prelude.{◌≡◌, ◌⊎◌, ◌<◌, ℕ, suc, ◌+◌, Bool, true, false, ◌||◌, cond, bytes_eq, codes, List, [], ◌∷◌, ◌++◌, length, map, Option, Some, None, slice_get}
use Rattle.txs_values.specs.Value.{Ty, integer, truth, string, named, Value, Constructor, Table, field_types, Place, place_of, size, height, value_size_limit, value_height_limit}
use Rattle.txs_values.specs.Spelled.{IsName}
use Rattle.txs_values.specs.Default.{default_if}
use Rattle.txs_terms.specs.Expr.{Expr}
use Rattle.txs_terms.specs.Defs.{Function, Constant, Definitions}
use Rattle.txs_syntax.specs.declared.ast.Name.{Name}
use Rattle.txs_syntax.specs.declared.ast.Ast.{Ast}
use Rattle.txs_syntax.specs.declared.file.File.{File}
use Rattle.txs_syntax.specs.declared.file.Def.{Def}
use Rattle.txs_syntax.specs.declared.file.Def.TheVariants as def
use Rattle.txs_syntax.specs.declared.file.ConDef.{ConDef}
use Rattle.txs_syntax.specs.declared.file.DeclList.{DeclList}
use Rattle.txs_syntax.specs.declared.file.Decl.{Decl}
use Rattle.txs_typing.specs.Names.{Variable, Global, Scope, scope_over, named_function, named_constant, built_ins, test_name, constructor_globals}
use Rattle.txs_typing.specs.Elaborates.{Elaborates}
use Rattle.txs_typing.specs.Offends.{Offence, twice, unknown, empty_type, big_type, Offends}

-- ---- types and tables

-- the names of the types that a file defines, in order
abbrev pub type_names : List Def → List Name
type_names [] = []
type_names (def.TypeDef x cs ∷ ds) = x ∷ type_names ds
type_names (def.FuncDef x ps r e ∷ ds) = type_names ds
type_names (def.ConstDef x t e ∷ ds) = type_names ds

-- the number of the first type of this name, if the first of all has number k; if there is none, the number after the last
abbrev pub type_number : List ℕ → ℕ → List Name → ℕ
type_number x k [] = k
type_number x k (n ∷ ns) = cond (bytes_eq n.text x) k (type_number x (suc k) ns)

-- the type of this name; of a name without a definition it is a type that is none of the file's
abbrev pub type_of : List Name → List ℕ → Ty
type_of types x =
    cond (bytes_eq x (codes "Int")) integer
    (cond (bytes_eq x (codes "Bool")) truth
    (cond (bytes_eq x (codes "String")) string (named (type_number x 0 types))))

-- each name with its type
abbrev pub each_of : Ty → List Name → List Variable
each_of t [] = []
each_of t (n ∷ ns) = record { name = n.text; ty = t } ∷ each_of t ns

abbrev pub variables_in : List Name → List Decl → List Variable
variables_in types [] = []
variables_in types (d ∷ ds) = each_of (type_of types d.ty.text) d.names ++ variables_in types ds

abbrev pub variables_of : List Name → DeclList → List Variable
variables_of types list = variables_in types list.decls

abbrev pub constructor_of : List Name → ConDef → Constructor
constructor_of types c = record { name = c.name.text; fields = variables_of types c.fields }

abbrev pub constructors_of : List Name → List ConDef → List Constructor
constructors_of types cs = map (constructor_of types) cs

-- the types that definitions define
abbrev pub table_in : List Name → List Def → Table
table_in types [] = []
table_in types (def.TypeDef x cs ∷ ds) = record { name = x.text; constructors = constructors_of types cs } ∷ table_in types ds
table_in types (def.FuncDef x ps r e ∷ ds) = table_in types ds
table_in types (def.ConstDef x t e ∷ ds) = table_in types ds

abbrev pub table_of : File → Table
table_of file = table_in (type_names file.defs) file.defs

-- ---- names

-- what definitions let names mean, in order; the types before them, their constructors, the functions and the constants are so many
abbrev pub globals_in : List Name → ℕ → ℕ → ℕ → ℕ → List Def → List Global
globals_in types k c f n [] = []
globals_in types k c f n (def.TypeDef x cs ∷ ds) =
    constructor_globals k c (constructors_of types cs) ++ globals_in types (suc k) (c + length cs) f n ds
globals_in types k c f n (def.FuncDef x ps r e ∷ ds) =
    record { name = x.text; means = named_function f (field_types (variables_of types ps)) (type_of types r.text) } ∷ globals_in types k c (suc f) n ds
globals_in types k c f n (def.ConstDef x t e ∷ ds) =
    record { name = x.text; means = named_constant n (type_of types t.text) } ∷ globals_in types k c f (suc n) ds

-- the scope of a body in the file, with these parameters
abbrev pub scope_in : File → List Variable → Scope
scope_in file parameters = record {
  types = length (type_names file.defs);
  globals = built_ins ++ globals_in (type_names file.defs) 0 0 0 0 file.defs;
  slots = parameters;
  locals = [];
}

-- ---- offences of names

-- one of these has the name
abbrev pub is_among : List ℕ → List (List ℕ) → Bool
is_among x [] = false
is_among x (y ∷ ys) = bytes_eq y x || is_among x ys

-- after these names, a name at this offset is there already
pub data Repeats : List (List ℕ) → List Name → ℕ → Type 0 where
  here : {xs : List (List ℕ)} {n : Name} {ns : List Name} → is_among n.text xs ≡ true → Repeats xs (n ∷ ns) n.at
  further : {xs : List (List ℕ)} {n : Name} {ns : List Name} {at : ℕ} → Repeats (n.text ∷ xs) ns at → Repeats xs (n ∷ ns) at

abbrev pub built_in_types : List (List ℕ)
built_in_types = codes "Int" ∷ codes "Bool" ∷ codes "String" ∷ []

abbrev pub built_in_names : List (List ℕ)
built_in_names = map (λ g. g.name) built_ins

-- all names of declarations, in order
abbrev pub names_in : List Decl → List Name
names_in [] = []
names_in (d ∷ ds) = d.names ++ names_in ds

-- the names of constructors, each with its test and its fields
abbrev pub constructor_names : List ConDef → List Name
constructor_names [] = []
constructor_names (c ∷ cs) =
    c.name ∷ record { at = c.name.at; text = test_name c.name.text } ∷ (names_in c.fields.decls ++ constructor_names cs)

-- the names that definitions define for expressions
abbrev pub defined_names : List Def → List Name
defined_names [] = []
defined_names (def.TypeDef x cs ∷ ds) = constructor_names cs ++ defined_names ds
defined_names (def.FuncDef x ps r e ∷ ds) = x ∷ defined_names ds
defined_names (def.ConstDef x t e ∷ ds) = x ∷ defined_names ds

-- the type names that declarations use
abbrev pub types_used : List Decl → List Name
types_used ds = map (λ d. d.ty) ds

abbrev pub types_of_fields : List ConDef → List Name
types_of_fields [] = []
types_of_fields (c ∷ cs) = types_used c.fields.decls ++ types_of_fields cs

-- the type names that a definition uses
abbrev pub types_named : Def → List Name
types_named (def.TypeDef x cs) = types_of_fields cs
types_named (def.FuncDef x ps r e) = types_used ps.decls ++ r ∷ []
types_named (def.ConstDef x t e) = t ∷ []

-- a type name without a definition
abbrev pub is_undefined : List Name → Name → Bool
is_undefined types n = cond (is_among n.text built_in_types) false (cond (is_among n.text (map (λ x. x.text) types)) false true)

abbrev pub any_undefined : List Name → List Name → Bool
any_undefined types [] = false
any_undefined types (n ∷ ns) = is_undefined types n || any_undefined types ns

-- ---- types without a value, and with too big a default

-- the types, but that one with a field of an unknown type is given a constructor without fields instead
abbrev pub excused : List Name → List Def → Table
excused types [] = []
excused types (def.TypeDef x cs ∷ ds) =
    record {
      name = x.text;
      constructors = cond (any_undefined types (types_of_fields cs)) (record { name = []; fields = [] } ∷ []) (constructors_of types cs);
    }
    ∷ excused types ds
excused types (def.FuncDef x ps r e ∷ ds) = excused types ds
excused types (def.ConstDef x t e ∷ ds) = excused types ds

-- the default of the file's type of this number
abbrev pub default_in : File → ℕ → Option Value
default_in file k = default_if (excused (type_names file.defs) file.defs) (named k)

-- ---- the file

-- the offence stands in the file
pub data FileOffends (file : File) : Offence → Type 0 where
  -- among types, among the names of expressions, among the parameters of a function
  twice_type : {at : ℕ} → Repeats built_in_types (type_names file.defs) at → FileOffends file (twice at)
  twice_name : {at : ℕ} → Repeats built_in_names (defined_names file.defs) at → FileOffends file (twice at)
  twice_parameter : (i : ℕ) {at : ℕ} {x r : Name} {ps : DeclList} {e : Ast} → slice_get file.defs i ≡ Some (def.FuncDef x ps r e)
      → Repeats [] (names_in ps.decls) at → FileOffends file (twice at)
  -- the type of a field, a parameter, a result or a constant
  unknown_type : (i j : ℕ) {d : Def} {n : Name} → slice_get file.defs i ≡ Some d → slice_get (types_named d) j ≡ Some n
      → is_undefined (type_names file.defs) n ≡ true → FileOffends file (unknown n.at)
  -- a type without a value, and one whose default is too large or too high
  no_value : (k : ℕ) {n : Name} → slice_get (type_names file.defs) k ≡ Some n → default_in file k ≡ None → FileOffends file (empty_type n.at)
  big_default : (k : ℕ) {n : Name} {v : Value} → slice_get (type_names file.defs) k ≡ Some n → default_in file k ≡ Some v
      → (value_size_limit < size v) ⊎ (value_height_limit < height v) → FileOffends file (big_type n.at)
  -- the body of a function or a constant, needed at its type
  in_function : (i : ℕ) {x r : Name} {ps : DeclList} {e : Ast} {o : Offence} → slice_get file.defs i ≡ Some (def.FuncDef x ps r e)
      → Offends (scope_in file (variables_of (type_names file.defs) ps)) (Some (type_of (type_names file.defs) r.text)) e o → FileOffends file o
  in_constant : (i : ℕ) {x t : Name} {e : Ast} {o : Offence} → slice_get file.defs i ≡ Some (def.ConstDef x t e)
      → Offends (scope_in file []) (Some (type_of (type_names file.defs) t.text)) e o → FileOffends file o

-- the functions of definitions, in order: each body means its expression
pub data AreFunctions (file : File) : List Def → List Function → Type 0 where
  no_function : AreFunctions file [] []
  a_function : {x r : Name} {ps : DeclList} {a : Ast} {ds : List Def} {fs : List Function} {e : Expr} {t : Ty}
      → Elaborates (scope_in file (variables_of (type_names file.defs) ps)) (Some (type_of (type_names file.defs) r.text)) a e t
      → AreFunctions file ds fs
      → AreFunctions file (def.FuncDef x ps r a ∷ ds) (record {
        name = x.text;
        takes = field_types (variables_of (type_names file.defs) ps);
        gives = type_of (type_names file.defs) r.text;
        body = e;
      } ∷ fs)
  type_between : {x : Name} {cs : List ConDef} {ds : List Def} {fs : List Function} → AreFunctions file ds fs → AreFunctions file (def.TypeDef x cs ∷ ds) fs
  constant_between : {x t : Name} {a : Ast} {ds : List Def} {fs : List Function} → AreFunctions file ds fs → AreFunctions file (def.ConstDef x t a ∷ ds) fs

pub data AreConstants (file : File) : List Def → List Constant → Type 0 where
  no_constant : AreConstants file [] []
  a_constant : {x n : Name} {a : Ast} {ds : List Def} {ks : List Constant} {e : Expr} {t : Ty}
      → Elaborates (scope_in file []) (Some (type_of (type_names file.defs) n.text)) a e t
      → AreConstants file ds ks
      → AreConstants file (def.ConstDef x n a ∷ ds) (record { name = x.text; ty = type_of (type_names file.defs) n.text; body = e } ∷ ks)
  type_between : {x : Name} {cs : List ConDef} {ds : List Def} {ks : List Constant} → AreConstants file ds ks → AreConstants file (def.TypeDef x cs ∷ ds) ks
  function_between : {x r : Name} {ps : DeclList} {a : Ast} {ds : List Def} {ks : List Constant} → AreConstants file ds ks
      → AreConstants file (def.FuncDef x ps r a ∷ ds) ks

-- the definitions that the file means
pub record IsMeant (file : File) (d : Definitions) : Type 0 where
  pub table : d.table ≡ table_of file
  pub functions : AreFunctions file file.defs d.functions
  pub constants : AreConstants file file.defs d.constants

-- the constructors of the file are called by names
abbrev pub FileHasNames : File → Type 0
FileHasNames file = (c : ℕ) (p : Place) → place_of (table_of file) c ≡ Some p → IsName p.constructor.name

-- ---- queries

-- the names of the types; of their offsets nothing is asked
abbrev pub names_of : Table → List Name
names_of [] = []
names_of (t ∷ ts) = record { at = 0; text = t.name } ∷ names_of ts

-- the scope of an expression over definitions and declarations
abbrev pub query_scope : Definitions → DeclList → Scope
query_scope d list = scope_over d (variables_of (names_of d.table) list)

-- the types of the declared variables
abbrev pub declared_types : Definitions → DeclList → List Ty
declared_types d list = field_types (variables_of (names_of d.table) list)

-- over definitions and declared variables the tree means this expression, of this type
abbrev pub QueryMeans : Definitions → DeclList → Option Ty → Ast → Expr → Ty → Type 0
QueryMeans d list want tree e t = Elaborates (query_scope d list) want tree e t

-- the offence stands in a query over definitions: in its declarations, or in its expression
pub data QueryOffends (d : Definitions) (list : DeclList) (want : Option Ty) (tree : Ast) : Offence → Type 0 where
  twice_declared : {at : ℕ} → Repeats [] (names_in list.decls) at → QueryOffends d list want tree (twice at)
  unknown_declared : (j : ℕ) {n : Name} → slice_get (types_used list.decls) j ≡ Some n → is_undefined (names_of d.table) n ≡ true
      → QueryOffends d list want tree (unknown n.at)
  in_expression : {o : Offence} → Offends (query_scope d list) want tree o → QueryOffends d list want tree o
