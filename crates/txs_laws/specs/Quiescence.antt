-- Quiescence, told by a menu.
use Rattle.std.specs.Prelude.{◌≡◌, ◌↔◌, ℕ, List}
use Rattle.txs_terms.specs.Action.{Action, channels, Scope, act}
use Rattle.txs_terms.specs.Term.{Term}
use Rattle.txs_terms.specs.Rules.{Model, In}
use Rattle.txs_terms.specs.After.{Sync, IsQuiescent}
use Rattle.txs_terms.specs.Typed.{WellTyped}
use Rattle.txs_laws.specs.Menus.{Does}
use Rattle.txs_terms.specs.Menu.{Item, menu, within, walked}

-- the item does something on a set of outputs, at some values of its channels' types
abbrev pub Speaks : Model → Scope → Sync → Item → Type 0
Speaks model scope sync i = (a : Action) × In (channels a) sync.outs × Does model scope i (act a)

-- a term is quiescent exactly if no item of its menu is internal, and none does an output at any values
abbrev pub QuietIsSilent : Type 0
QuietIsSilent =
    (model : Model) (scope : Scope) (sync : Sync) (t : Term) (n : ℕ) (items : List Item) → WellTyped model scope t → menu model scope t ≡ walked n items
    → IsQuiescent model scope sync t ↔ ((i : Item) → In i items → (i.kind ≡ within → ⊥) × (Speaks model scope sync i → ⊥))
