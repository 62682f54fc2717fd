-- What a well typed term leads to is well typed.
use Rattle.std.specs.Prelude.{◌≡◌, ◌≢◌, ℕ, true, List, [], ◌∷◌, length}
use Rattle.txs_values.specs.Value.{Ty, Value, Table, HasType, HaveTypes, truth}
use Rattle.txs_terms.specs.Expr.{Expr, has_slot}
use Rattle.txs_terms.specs.Eval.{Defs, run, wrong, got, bad}
use Rattle.txs_terms.specs.Action.{Label, channels, Scope, types_over, act, inner, ends}
use Rattle.txs_terms.specs.Term.{Term}
use Rattle.txs_terms.specs.Rules.{Model, Step}
use Rattle.txs_terms.specs.Typed.{Signatures, Of, AreTyped, AllBelow, OfTerm, IsTypedModel}
use Rattle.txs_terms.specs.Menu.{Kind, Item, menu, on, within, ending, walked}

-- each guard is a truth value over these slots, and has a slot
abbrev pub AreItemGuards : Table → Signatures → List Ty → List Expr → Type 0
AreItemGuards table signatures slots [] = Unit {0}
AreItemGuards table signatures slots (g ∷ gs) =
    Of table signatures slots [] g truth × (has_slot g ≡ true) × AreItemGuards table signatures slots gs

-- an item of this kind is well typed over its slots; without an action it has no slots and no guards
abbrev pub IsItem : Table → Signatures → Scope → List Ty → Kind → List Expr → Term → Type 0
IsItem table signatures scope exit_types (on cs) gs t =
    AllBelow (length scope) cs × AreItemGuards table signatures (types_over scope cs) gs
    × OfTerm table signatures scope (types_over scope cs) exit_types t
IsItem table signatures scope exit_types within gs t = (gs ≡ []) × OfTerm table signatures scope [] exit_types t
IsItem table signatures scope exit_types (ending vs) gs t = (gs ≡ []) × HaveTypes table vs exit_types × OfTerm table signatures scope [] exit_types t

abbrev pub AreItems : Table → Signatures → Scope → List Ty → List Item → Type 0
AreItems table signatures scope exit_types [] = Unit {0}
AreItems table signatures scope exit_types (i ∷ is) =
    IsItem table signatures scope exit_types i.kind i.guards i.rest × AreItems table signatures scope exit_types is

-- the items of a well typed term are well typed
abbrev pub ItemsAreTyped : Type 0
ItemsAreTyped =
    (model : Model) (signatures : Signatures) (scope : Scope) (exit_types : List Ty) (t : Term) (n : ℕ) (items : List Item)
    → IsTypedModel model signatures → OfTerm model.defs.table signatures scope [] exit_types t → menu model scope t ≡ walked n items
    → AreItems model.defs.table signatures scope exit_types items

-- an action is on channels in scope, and an exit has values of these types
abbrev pub StaysWithin : Table → Scope → List Ty → Label → Type 0
StaysWithin table scope exit_types (act a) = AllBelow (length scope) (channels a)
StaysWithin table scope exit_types inner = Unit {0}
StaysWithin table scope exit_types (ends vs) = HaveTypes table vs exit_types

-- a step of a well typed term is within its scope and leads to a well typed term
abbrev pub StepsAreTyped : Type 0
StepsAreTyped =
    (model : Model) (signatures : Signatures) (scope : Scope) (exit_types : List Ty) (t t' : Term) (l : Label)
    → IsTypedModel model signatures → OfTerm model.defs.table signatures scope [] exit_types t → Step model scope t l t'
    → StaysWithin model.defs.table scope exit_types l × OfTerm model.defs.table signatures scope [] exit_types t'

-- a well typed expression never meets a value of a wrong type, and gives one of its own
abbrev pub RunsAreTyped : Type 0
RunsAreTyped =
    (defs : Defs) (signatures : Signatures) (e : Expr) (t : Ty) (left n : ℕ) → AreTyped defs signatures → Of defs.table signatures [] [] e t
    → (run defs left e n ≢ bad wrong) × ((v : Value) (m : ℕ) → run defs left e n ≡ got v m → HasType defs.table v t)
