-- What a name may mean in an expression.
use Rattle.std.specs.Prelude.{◌≡◌, ◌⊎◌, ◌≤◌, ℕ, suc, ◌+◌, Bool, true, false, cond, bytes_eq, codes, List, [], ◌∷◌, ◌++◌, length, map, Option, Some, None}
use Rattle.txs_values.specs.Value.{Ty, integer, truth, string, named, bool, cons, no_value, Field, Constructor, Table, field_types}
use Rattle.txs_terms.specs.Expr.{Expr, val, slot, local, constant}
use Rattle.txs_terms.specs.Defs.{Function, Constant, Definitions}

-- a name with its type
abbrev pub Variable : Type 0
Variable = Field

-- what a definition, or the language, lets a name mean
pub data Meaning : Type 0 where
  named_value : Bool → Meaning
  named_constant : ℕ → Ty → Meaning
  named_function : ℕ → List Ty → Ty → Meaning
  -- the constructor's number, that of its type, and the types of its fields
  named_constructor : ℕ → ℕ → List Ty → Meaning
  -- whether a value of this type is made by this constructor
  named_test : ℕ → ℕ → Meaning
  -- the constructor's number, that of its field, that of its type, and the type of the field
  named_selector : ℕ → ℕ → ℕ → Ty → Meaning
  named_not : Meaning
  named_to_string : Meaning
  named_from_string : Meaning
  named_len : Meaning
  named_at : Meaning

-- a name that is defined for the whole file
pub record Global : Type 0 where
  pub name : List ℕ
  pub means : Meaning

-- What names mean at a place: how many types there are, the names of the whole file in order, the slots and the locals, outermost first.
pub record Scope : Type 0 where
  pub types : ℕ
  pub globals : List Global
  pub slots : List Variable
  pub locals : List Variable

-- a type without a definition; it fits everywhere
abbrev pub anything : Scope → Ty
anything scope = named scope.types

-- the type has no definition
abbrev pub IsUnknown : Scope → Ty → Type 0
IsUnknown scope integer = ⊥
IsUnknown scope truth = ⊥
IsUnknown scope string = ⊥
IsUnknown scope (named k) = scope.types ≤ k

-- one type may stand if the other is needed: they are equal, or one of them has no definition
abbrev pub Fits : Scope → Ty → Ty → Type 0
Fits scope s t = (s ≡ t) ⊎ IsUnknown scope s ⊎ IsUnknown scope t

-- the scope inside a LET of this name
abbrev pub inside : Scope → List ℕ → Ty → Scope
inside scope x t = record {
  types = scope.types;
  globals = scope.globals;
  slots = scope.slots;
  locals = scope.locals ++ record { name = x; ty = t } ∷ [];
}

-- the last variable of this name, with its number; the first has number i
abbrev pub last_of : List ℕ → ℕ → List Variable → Option (ℕ × Ty)
last_of x i [] = None
last_of x i (v ∷ vs) = elim (last_of x (suc i) vs) [ None ↦ cond (bytes_eq v.name x) (Some (i, v.ty)) None | Some p ↦ Some p ]

-- what the name means in the file: of two equal names the earlier holds
abbrev pub global_of : List ℕ → List Global → Option Meaning
global_of x [] = None
global_of x (g ∷ gs) = cond (bytes_eq g.name x) (Some g.means) (global_of x gs)

-- the expression, and its type, that a name of the file means alone: a truth value, a constant, a constructor without fields
abbrev pub alone : Meaning → Option (Expr × Ty)
alone (named_value b) = Some (val (bool b), truth)
alone (named_constant k t) = Some (constant k, t)
alone (named_function f ts t) = None
alone (named_constructor c k []) = Some (val (cons c no_value), named k)
alone (named_constructor c k (t ∷ ts)) = None
alone (named_test c k) = None
alone (named_selector c j k t) = None
alone named_not = None
alone named_to_string = None
alone named_from_string = None
alone named_len = None
alone named_at = None

abbrev pub global_alone : Scope → List ℕ → Option (Expr × Ty)
global_alone scope x = elim (global_of x scope.globals) [ None ↦ None | Some m ↦ alone m ]

abbrev pub slot_or_global : Scope → List ℕ → Option (Expr × Ty)
slot_or_global scope x = elim (last_of x 0 scope.slots) [ None ↦ global_alone scope x | Some p ↦ Some (slot p.0, p.1) ]

-- what a name means in an expression: the innermost variable, or else what it is in the file
abbrev pub meaning : Scope → List ℕ → Option (Expr × Ty)
meaning scope x = elim (last_of x 0 scope.locals) [ None ↦ slot_or_global scope x | Some p ↦ Some (local p.0, p.1) ]

-- each of these types is needed
abbrev pub needed : List Ty → List (Option Ty)
needed ts = map (λ t. Some t) ts

-- what is called takes these arguments: each needed at a type, or, as that of toString, at none
abbrev pub takes : Meaning → Option (List (Option Ty))
takes (named_value b) = None
takes (named_constant k t) = None
takes (named_function f ts t) = Some (needed ts)
takes (named_constructor c k ts) = Some (needed ts)
takes (named_test c k) = Some (Some (named k) ∷ [])
takes (named_selector c j k t) = Some (Some (named k) ∷ [])
takes named_not = Some (Some truth ∷ [])
takes named_to_string = Some (None ∷ [])
takes named_from_string = Some (Some string ∷ [])
takes named_len = Some (Some string ∷ [])
takes named_at = Some (Some string ∷ Some integer ∷ [])

-- what is called by a name, and the arguments that it takes; no variable is called
abbrev pub called : Scope → List ℕ → Option (Meaning × List (Option Ty))
called scope x =
    elim (global_of x scope.globals) [ None ↦ None | Some m ↦ elim (takes m) [ None ↦ None | Some ts ↦ Some (m, ts) ] ]

-- ---- the names of a file

-- the names of the language
abbrev pub built_ins : List Global
built_ins =
    record { name = codes "True"; means = named_value true }
    ∷ record { name = codes "False"; means = named_value false }
    ∷ record { name = codes "not"; means = named_not }
    ∷ record { name = codes "toString"; means = named_to_string }
    ∷ record { name = codes "fromString"; means = named_from_string }
    ∷ record { name = codes "len"; means = named_len }
    ∷ record { name = codes "at"; means = named_at }
    ∷ []

-- the test of a constructor is called `is` and its name
abbrev pub test_name : List ℕ → List ℕ
test_name x = codes "is" ++ x

-- the selectors of constructor c of type k, the first for field j
abbrev pub selectors : ℕ → ℕ → ℕ → List Field → List Global
selectors c k j [] = []
selectors c k j (f ∷ fs) = record { name = f.name; means = named_selector c j k f.ty } ∷ selectors c k (suc j) fs

-- the names of the constructors of type k: each with its test and its selectors; the first has number c
abbrev pub constructor_globals : ℕ → ℕ → List Constructor → List Global
constructor_globals k c [] = []
constructor_globals k c (x ∷ xs) =
    record { name = x.name; means = named_constructor c k (field_types x.fields) }
    ∷ record { name = test_name x.name; means = named_test c k }
    ∷ (selectors c k 0 x.fields ++ constructor_globals k (suc c) xs)

-- the names of the types from k on, whose first constructor has number c
abbrev pub table_globals : ℕ → ℕ → Table → List Global
table_globals k c [] = []
table_globals k c (t ∷ ts) = constructor_globals k c t.constructors ++ table_globals (suc k) (c + length t.constructors) ts

abbrev pub function_globals : ℕ → List Function → List Global
function_globals i [] = []
function_globals i (f ∷ fs) = record { name = f.name; means = named_function i f.takes f.gives } ∷ function_globals (suc i) fs

abbrev pub constant_globals : ℕ → List Constant → List Global
constant_globals i [] = []
constant_globals i (k ∷ ks) = record { name = k.name; means = named_constant i k.ty } ∷ constant_globals (suc i) ks

-- the scope of an expression over definitions, with these variables
abbrev pub scope_over : Definitions → List Variable → Scope
scope_over d variables = record {
  types = length d.table;
  globals = built_ins ++ (table_globals 0 0 d.table ++ (function_globals 0 d.functions ++ constant_globals 0 d.constants));
  slots = variables;
  locals = [];
}
