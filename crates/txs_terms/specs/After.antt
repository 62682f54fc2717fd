-- Where a behaviour may be after a trace, and what it may do there.
use Rattle.std.specs.Prelude.{List, [], ◌∷◌}
use Rattle.txs_terms.specs.Action.{Action, act, inner, Channels, channels, Scope}
use Rattle.txs_terms.specs.Term.{Term}
use Rattle.txs_terms.specs.Rules.{In, Model, Step}

-- an observation: an action, or quiescence
pub data Observable : Type 0 where
  acted : Action → Observable
  quiescence : Observable

-- the sets of SYNC
pub record Sync : Type 0 where
  pub ins : List Channels
  pub outs : List Channels

module _ (model : Model) (scope : Scope) where
  -- by internal steps
  pub data Inners : Term → Term → Type 0 where
    here : {t : Term} → Inners t t
    onward : {t t' u : Term} → Step model scope t inner t' → Inners t' u → Inners t u

module _ (model : Model) (scope : Scope) (sync : Sync) where
  -- no internal step and no action on a set of outputs
  pub record IsQuiescent (t : Term) : Type 0 where
    pub still : (t' : Term) → Step model scope t inner t' → ⊥
    pub silent : (a : Action) (t' : Term) → In (channels a) sync.outs → Step model scope t (act a) t' → ⊥

  -- the members after a trace, the latest observation first
  abbrev pub After : Term → List Observable → Term → Type 0
  After b [] t = Inners model scope b t
  After b (acted a ∷ trace) t = (s : Term) × (s' : Term) × After b trace s × Step model scope s (act a) s' × Inners model scope s' t
  After b (quiescence ∷ trace) t = After b trace t × IsQuiescent t

  -- some member after the trace can do the action
  abbrev pub CanDo : Term → List Observable → Action → Type 0
  CanDo b trace a = (t : Term) × (t' : Term) × After b trace t × Step model scope t (act a) t'

  -- some member after the trace is quiescent
  abbrev pub CanRest : Term → List Observable → Type 0
  CanRest b trace = (t : Term) × After b trace t × IsQuiescent t

  -- the allowed outputs, quiescence among them
  abbrev pub Out : Term → List Observable → Observable → Type 0
  Out b trace (acted a) = In (channels a) sync.outs × CanDo b trace a
  Out b trace quiescence = CanRest b trace

  -- the allowed inputs
  abbrev pub AllowedIn : Term → List Observable → Action → Type 0
  AllowedIn b trace a = In (channels a) sync.ins × CanDo b trace a
