-- What a menu means: each item whose guards hold is a step, and each step is such an item.
use Rattle.std.specs.Prelude.{◌≡◌, ℕ, List, []}
use Rattle.txs_values.specs.Value.{Value, Table}
use Rattle.txs_terms.specs.Expr.{put_all, filled}
use Rattle.txs_terms.specs.Eval.{Hold}
use Rattle.txs_terms.specs.Action.{Label, channels, values, Scope, IsAction, act, inner, ends}
use Rattle.txs_terms.specs.Term.{Term, fill}
use Rattle.txs_terms.specs.Rules.{Model, In, Step}
use Rattle.txs_terms.specs.Typed.{WellTyped}
use Rattle.txs_terms.specs.Menu.{Kind, Item, menu, on, within, ending, walked}

abbrev pub kind_of : Label → Kind
kind_of (act a) = on (channels a)
kind_of inner = within
kind_of (ends vs) = ending vs

-- the values for the slots
abbrev pub given : Label → List Value
given (act a) = values a
given inner = []
given (ends vs) = []

-- an action is one of this scope
abbrev pub IsLabel : Table → Scope → Label → Type 0
IsLabel table scope (act a) = IsAction table scope a
IsLabel table scope inner = Unit {0}
IsLabel table scope (ends vs) = Unit {0}

-- the item does this: it is of its kind, and its guards hold at its values
pub record Does (model : Model) (scope : Scope) (i : Item) (l : Label) : Type 0 where
  pub kind : kind_of l ≡ i.kind
  pub typed : IsLabel model.defs.table scope l
  pub holds : Hold model.defs (put_all (filled (given l)) i.guards)

abbrev pub IsSound : Model → Scope → Term → List Item → Type 0
IsSound model scope t items =
    (i : Item) (l : Label) → In i items → Does model scope i l → Step model scope t l (fill (given l) i.rest)

pub record Found (model : Model) (scope : Scope) (items : List Item) (l : Label) (t' : Term) : Type 0 where
  pub item : Item
  pub listed : In item items
  pub does : Does model scope item l
  pub rest : fill (given l) item.rest ≡ t'

abbrev pub IsComplete : Model → Scope → Term → List Item → Type 0
IsComplete model scope t items = (l : Label) (t' : Term) → Step model scope t l t' → Found model scope items l t'

-- the items of a term without a menu fault are its steps
abbrev pub MenuIsRules : Type 0
MenuIsRules =
    (model : Model) (scope : Scope) (t : Term) (n : ℕ) (items : List Item) → WellTyped model scope t → menu model scope t ≡ walked n items
    → IsSound model scope t items × IsComplete model scope t items
