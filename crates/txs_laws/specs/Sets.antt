-- What closing a set and moving it mean.
use Rattle.std.specs.Prelude.{◌↔◌, ℕ, List, [], ◌∷◌, Some}
use Rattle.txs_terms.specs.Action.{Action, Scope, IsAction, act}
use Rattle.txs_terms.specs.Term.{Term}
use Rattle.txs_terms.specs.Rules.{Model, In, Step}
use Rattle.txs_terms.specs.After.{Inners, Observable, Sync, acted}
use Rattle.txs_terms.specs.Typed.{WellTyped}
use Rattle.txs_terms.specs.Close.{Closes, MovesTo, closed}
use Rattle.txs_terms.specs.Sets.{IsAfter}

abbrev pub AllWellTyped : Model → Scope → List Term → Type 0
AllWellTyped model scope set = (t : Term) → In t set → WellTyped model scope t

-- a closed set is what internal steps reach from the set
abbrev pub ClosedIsReached : Type 0
ClosedIsReached =
    (model : Model) (scope : Scope) (level : ℕ) (set c : List Term) → AllWellTyped model scope set → Closes model scope level set (closed c)
    → (t : Term) → In t c ↔ (s : Term) × In s set × Inners model scope s t

-- a moved set is what its members become by the action
abbrev pub MovedIsStepped : Type 0
MovedIsStepped =
    (model : Model) (scope : Scope) (a : Action) (set more : List Term) → AllWellTyped model scope set → IsAction model.defs.table scope a
    → MovesTo model scope a set (Some more)
    → (t' : Term) → In t' more ↔ (t : Term) × In t set × Step model scope t (act a) t'

-- the behaviour, closed, is the set of terms after the empty trace
abbrev pub FirstIsAfter : Type 0
FirstIsAfter =
    (model : Model) (scope : Scope) (sync : Sync) (b : Term) (level : ℕ) (c : List Term) → WellTyped model scope b
    → Closes model scope level (b ∷ []) (closed c) → IsAfter model scope sync b [] c

-- the set after a trace, moved by an action and closed, is the set of terms after the trace and the action
abbrev pub NextIsAfter : Type 0
NextIsAfter =
    (model : Model) (scope : Scope) (sync : Sync) (b : Term) (trace : List Observable) (a : Action) (level : ℕ) (set more c : List Term)
    → WellTyped model scope b → IsAction model.defs.table scope a → IsAfter model scope sync b trace set
    → MovesTo model scope a set (Some more) → Closes model scope level more (closed c)
    → IsAfter model scope sync b (acted a ∷ trace) c
