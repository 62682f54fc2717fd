-- What holds of the definitions in specs/, as statements: the files beside prove each.
use Rattle.std.specs.Prelude.{◌≡◌, ◌⊎◌, ℕ, List, [], Option, Some}
use Rattle.txs_values.specs.Value.{Ty, Place, place_of, field_types}
use Rattle.txs_terms.specs.Expr.{Expr}
use Rattle.txs_terms.specs.Typed.{AreTypes, Of}
use Rattle.txs_terms.specs.Defs.{HaveHeaders, HaveConstantTypes, Definitions, signatures_of}
use Rattle.txs_syntax.specs.declared.ast.Ast.{Ast}
use Rattle.txs_typing.specs.Names.{Variable, Scope, scope_over}
use Rattle.txs_typing.specs.Elaborates.{Elaborates, HasInts}
use Rattle.txs_typing.specs.Offends.{Offence, Offends}
use Rattle.txs_typing.specs.Answer.{IsNeed}

-- a tree means one expression, of one type (trees/Unique)
abbrev pub ElaborationIsUnique : Type 0
ElaborationIsUnique =
    (scope : Scope) (want : Option Ty) (tree : Ast) (e f : Expr) (s t : Ty)
    → Elaborates scope want tree e s → Elaborates scope want tree f t → (e ≡ f) × (s ≡ t)

-- a tree means an expression, or something offends in it (trees/Judged)
abbrev pub ElaboratesOrOffends : Type 0
ElaboratesOrOffends =
    (scope : Scope) (want : Option Ty) (tree : Ast)
    → ((e : Expr) × (t : Ty) × Elaborates scope want tree e t) ⊎ ((o : Offence) × Offends scope want tree o)

-- and not both (trees/NotBoth)
abbrev pub NotBoth : Type 0
NotBoth =
    (scope : Scope) (want : Option Ty) (tree : Ast) (e : Expr) (t : Ty) (o : Offence)
    → Elaborates scope want tree e t → Offends scope want tree o → ⊥

-- the types in the headers of definitions, and those of the fields of their types, are of the table
pub record HasTypes (d : Definitions) : Type 0 where
  pub functions : HaveHeaders d.table d.functions
  pub constants : HaveConstantTypes d.table d.constants
  pub fields : (c : ℕ) (p : Place) → place_of d.table c ≡ Some p → AreTypes d.table (field_types p.constructor.fields)

-- what a tree means over definitions is well typed (trees/WellTyped)
abbrev pub ElaboratedIsTyped : Type 0
ElaboratedIsTyped =
    (d : Definitions) (variables : List Variable) (want : Option Ty) (tree : Ast) (e : Expr) (t : Ty)
    → HasTypes d → AreTypes d.table (field_types variables) → IsNeed d.table want → HasInts tree
    → Elaborates (scope_over d variables) want tree e t → Of d.table (signatures_of d) (field_types variables) [] e t
