-- The offences of a file by the parts that they stand in.
use Rattle.std.specs.Prelude.{◌≡◌, ◌⊎◌, ◌<◌, ℕ, true, List, [], ◌∷◌, ◌++◌, length, map, Option, Some, None, IfSome, slice_get}
use Rattle.txs_values.specs.Value.{Value, Table, named, size, height, value_size_limit, value_height_limit}
use Rattle.txs_values.specs.TableView.{field_of}
use Rattle.txs_values.specs.Default.{default_if}
use Rattle.txs_syntax.specs.declared.ast.Name.{Name}
use Rattle.txs_syntax.specs.declared.file.File.{File}
use Rattle.txs_syntax.specs.declared.file.Def.{Def}
use Rattle.txs_syntax.specs.declared.file.Def.TheVariants as def
use Rattle.txs_typing.specs.declared.fault.TypeFault.{TypeFault}
use Rattle.txs_typing.specs.declared.scope.Scope as rust_scope
use Rattle.txs_typing.specs.Names.{built_ins}
use Rattle.txs_typing.specs.Elaborates.{HasInts}
use Rattle.txs_typing.specs.Offends.{Offence, twice, unknown, empty_type, big_type, Offends}
use Rattle.txs_types.specs.Files.{type_names, type_of, variables_of, types_named, names_in, defined_names, is_undefined, any_undefined, built_in_types, built_in_names, excused, scope_in, globals_in, Repeats}
use Rattle.txs_typing.specs.inner.View.{globals_of}
use Rattle.txs_typing.specs.inner.Told.{Finds}

-- the offence stands at one of these, each with its number
pub record Among {A : Type 0} (At : ℕ → A → Offence → Type 0) (xs : List A) (o : Offence) : Type 0 where
  pub number : ℕ
  pub item : A
  pub there : slice_get xs number ≡ Some item
  pub stands : At number item o

-- the offence stands at one of these
abbrev pub AmongDefs : (Def → Offence → Type 0) → List Def → Offence → Type 0
AmongDefs At ds = Among (λ (_ : ℕ). At) ds

-- after these names, a name is there already
abbrev pub IsTwice : List (List ℕ) → List Name → Offence → Type 0
IsTwice xs ns o = (at : ℕ) × (o ≡ twice at) × Repeats xs ns at

-- one of these type names has no definition
abbrev pub AnyUndefined : List Name → List Name → Offence → Type 0
AnyUndefined types ns o = (j : ℕ) × (n : Name) × (slice_get ns j ≡ Some n) × (is_undefined types n ≡ true) × (o ≡ unknown n.at)

-- the fault tells which of these type names has no definition, and there is one only if a name has none
pub record FindsUndefined (types ns : List Name) (f : Option TypeFault) : Type 0 where
  pub told : Finds f (AnyUndefined types ns)
  pub stands : IfSome f (λ _. any_undefined types ns ≡ true)

-- a parameter of the function is there already
abbrev pub TwiceIn : Def → Offence → Type 0
TwiceIn (def.TypeDef x cs) o = ⊥
TwiceIn (def.FuncDef x ps r e) o = IsTwice [] (names_in ps.decls) o
TwiceIn (def.ConstDef x t e) o = ⊥

-- a type name that the definition uses has no definition
abbrev pub UnknownIn : List Name → Def → Offence → Type 0
UnknownIn types d o = AnyUndefined types (types_named d) o

-- the type of this number has no default, or too large or high a one
pub data BadDefault (table : Table) (k : ℕ) (n : Name) : Offence → Type 0 where
  none : default_if table (named k) ≡ None → BadDefault table k n (empty_type n.at)
  big : (v : Value) → default_if table (named k) ≡ Some v → (value_size_limit < size v) ⊎ (value_height_limit < height v)
      → BadDefault table k n (big_type n.at)

-- it stands in the body of the function
abbrev pub InFunction : File → Def → Offence → Type 0
InFunction file (def.TypeDef x cs) o = ⊥
InFunction file (def.FuncDef x ps r e) o = Offends (scope_in file (variables_of (type_names file.defs) ps)) (Some (type_of (type_names file.defs) r.text)) e o
InFunction file (def.ConstDef x t e) o = ⊥

-- it stands in the body of the constant
abbrev pub InConstant : File → Def → Offence → Type 0
InConstant file (def.TypeDef x cs) o = ⊥
InConstant file (def.FuncDef x ps r e) o = ⊥
InConstant file (def.ConstDef x t e) o = Offends (scope_in file []) (Some (type_of (type_names file.defs) t.text)) e o

-- the numbers in the bodies of functions are in the range of Int
abbrev pub FunctionsHaveInts : List Def → Type 0
FunctionsHaveInts [] = Unit {0}
FunctionsHaveInts (def.TypeDef x cs ∷ ds) = FunctionsHaveInts ds
FunctionsHaveInts (def.FuncDef x ps r e ∷ ds) = HasInts e × FunctionsHaveInts ds
FunctionsHaveInts (def.ConstDef x t e ∷ ds) = FunctionsHaveInts ds

-- and in those of constants
abbrev pub ConstantsHaveInts : List Def → Type 0
ConstantsHaveInts [] = Unit {0}
ConstantsHaveInts (def.TypeDef x cs ∷ ds) = ConstantsHaveInts ds
ConstantsHaveInts (def.FuncDef x ps r e ∷ ds) = ConstantsHaveInts ds
ConstantsHaveInts (def.ConstDef x t e ∷ ds) = HasInts e × ConstantsHaveInts ds

-- in the scope stand the names of the file, and no local
pub record IsOfFile (file : File) (s : rust_scope.Scope) : Type 0 where
  pub types : s.types ≡ length (type_names file.defs)
  pub globals : globals_of s.globals.list ≡ built_ins ++ globals_in (type_names file.defs) 0 0 0 0 file.defs
  pub locals : map field_of s.locals ≡ []

-- it stands in the names of the file
abbrev pub InNames : File → Offence → Type 0
InNames file o =
    (IsTwice built_in_types (type_names file.defs) o ⊎ IsTwice built_in_names (defined_names file.defs) o)
    ⊎ (AmongDefs TwiceIn file.defs o ⊎ AmongDefs (UnknownIn (type_names file.defs)) file.defs o)

-- in the names of the file, or in the default of a type
abbrev pub OutsideBodies : File → Offence → Type 0
OutsideBodies file o = InNames file o ⊎ Among (BadDefault (excused (type_names file.defs) file.defs)) (type_names file.defs) o

-- or in a body
abbrev pub InFile : File → Offence → Type 0
InFile file o = (OutsideBodies file o ⊎ AmongDefs (InFunction file) file.defs o) ⊎ AmongDefs (InConstant file) file.defs o
