-- Places: a slot under selectors, the innermost first.
use Rattle.std.specs.Prelude.{ℕ, Bool, true, false, ◌||◌, eqb, List, [], ◌∷◌, ◌++◌, Option, Some, None, slice_get}
use Rattle.txs_values.specs.Value.{Ty, Table, Place, place_of, integer, truth, string, named}
use Rattle.txs_terms.specs.Expr.{Expr, select, slot, one}
use Rattle.txs_guard.specs.Query.{Query}

pub record Spot : Type 0 where
  pub base : ℕ
  pub path : List (ℕ × ℕ)

-- a selector on a place
abbrev pub under : Option Spot → ℕ × ℕ → Option Spot
under None s = None
under (Some p) s = Some (record { base = p.base; path = p.path ++ s ∷ [] })

-- the place that an expression is, if it is one
abbrev pub spot_of : Expr → Option Spot
spot_of (slot i) = Some (record { base = i; path = [] })
spot_of (one (select c j) e) = under (spot_of e) (c, j)
spot_of _ = None

-- the type of a field of a constructor
abbrev pub field_type : Option Place → ℕ → Option Ty
field_type None j = None
field_type (Some p) j = elim (slice_get p.constructor.fields j) [ None ↦ None | Some f ↦ Some f.ty ]

-- the type of what stands under selectors
abbrev pub type_under : Table → Option Ty → List (ℕ × ℕ) → Option Ty
type_under table t [] = t
type_under table t (s ∷ ss) = type_under table (field_type (place_of table s.0) s.1) ss

-- the type of a place of a query
abbrev pub spot_type : Query → Option Spot → Option Ty
spot_type q None = None
spot_type q (Some p) = type_under q.defs.table (slice_get q.slots p.base) p.path

-- whether there is a place
abbrev pub has_spot : Option Spot → Bool
has_spot None = false
has_spot (Some p) = true

-- whether two types are equal
abbrev pub same_ty : Ty → Ty → Bool
same_ty integer integer = true
same_ty truth truth = true
same_ty string string = true
same_ty (named j) (named k) = eqb j k
same_ty _ _ = false

-- whether it is this type
abbrev pub is_type : Ty → Option Ty → Bool
is_type t None = false
is_type t (Some u) = same_ty t u

-- whether it is Int, Bool or String
abbrev pub is_plain : Option Ty → Bool
is_plain t = is_type integer t || (is_type truth t || is_type string t)

-- whether both are there, and equal
abbrev pub same_types : Option Ty → Option Ty → Bool
same_types None u = false
same_types (Some t) u = is_type t u
