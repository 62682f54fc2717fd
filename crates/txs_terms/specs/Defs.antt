-- The definitions of a file: its types, functions and constants, with their names and types.
use Rattle.std.specs.Prelude.{ℕ, List, [], ◌∷◌, map}
use Rattle.txs_values.specs.Value.{Ty, Table}
use Rattle.txs_values.specs.Spelled.{IsNamed}
use Rattle.txs_terms.specs.Expr.{Expr}
use Rattle.txs_terms.specs.Eval.{Defs}
use Rattle.txs_terms.specs.Typed.{Signatures, IsType, AreTypes, AreTyped}

-- a function, its body over its parameters
pub record Function : Type 0 where
  pub name : List ℕ
  pub takes : List Ty
  pub gives : Ty
  pub body : Expr

pub record Constant : Type 0 where
  pub name : List ℕ
  pub ty : Ty
  pub body : Expr

pub record Definitions : Type 0 where
  pub table : Table
  pub functions : List Function
  pub constants : List Constant

-- what evaluation sees of them
abbrev pub bodies : Definitions → Defs
bodies d = record {
  table = d.table;
  functions = map (λ f. record { takes = f.takes; body = f.body }) d.functions;
  constants = map (λ k. k.body) d.constants;
}

-- what typing sees of them
abbrev pub signatures_of : Definitions → Signatures
signatures_of d = record {
  functions = map (λ f. record { takes = f.takes; gives = f.gives }) d.functions;
  constants = map (λ k. k.ty) d.constants;
  processes = [];
  automata = [];
}

-- the types in the header of each function are of the table
abbrev pub HaveHeaders : Table → List Function → Type 0
HaveHeaders table [] = Unit {0}
HaveHeaders table (f ∷ fs) = (AreTypes table f.takes × IsType table f.gives) × HaveHeaders table fs

-- the type of each constant is of the table
abbrev pub HaveConstantTypes : Table → List Constant → Type 0
HaveConstantTypes table [] = Unit {0}
HaveConstantTypes table (k ∷ ks) = IsType table k.ty × HaveConstantTypes table ks

-- headers name types of the table, each body is of its type, each type has a default, and constructors are called by names, no two by one
pub record AreDefined (d : Definitions) : Type 0 where
  pub functions : HaveHeaders d.table d.functions
  pub constants : HaveConstantTypes d.table d.constants
  pub typed : AreTyped (bodies d) (signatures_of d)
  pub named : IsNamed d.table
