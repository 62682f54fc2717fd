-- Closing a set by levels, and moving it by an action.
use Rattle.std.specs.Prelude.{◌≡◌, ◌≢◌, ℕ, suc, ◌+◌, Bool, true, false, ◌||◌, ltb, ◌⊎◌, List, [], ◌∷◌, ◌++◌, length, Option, Some, None}
use Rattle.txs_terms.specs.Expr.{put_all, filled}
use Rattle.txs_terms.specs.Eval.{Defs}
use Rattle.txs_terms.specs.Action.{Action, Channels, channels, values, same_channels, Scope}
use Rattle.txs_terms.specs.Term.{Term, fill, term_nodes}
use Rattle.txs_terms.specs.Rules.{In, Model}
use Rattle.txs_terms.specs.Menu.{Kind, on, within, ending, Item, items_nodes, MenuFault, eval_fault, unfixed, wide, faulted, walked, Verdict, holds, fails, faults, judge, menu}

unfoldable pub set_limit : ℕ
set_limit = 1024

unfoldable pub set_node_limit : ℕ
set_node_limit = 262144

unfoldable pub menus_node_limit : ℕ
menus_node_limit = 4194304

abbrev pub set_nodes : List Term → ℕ
set_nodes [] = 0
set_nodes (t ∷ ts) = term_nodes t + set_nodes ts

abbrev pub is_large : List Term → Bool
is_large set = ltb set_limit (length set) || ltb set_node_limit (set_nodes set)

-- the term that an internal step leads to
abbrev pub inner_rest : Kind → Term → List Term
inner_rest (on cs) t = []
inner_rest within t = t ∷ []
inner_rest (ending vs) t = []

-- those that the internal items lead to
abbrev pub inner_rests : List Item → List Term
inner_rests [] = []
inner_rests (i ∷ is) = inner_rest i.kind i.rest ++ inner_rests is

-- a set with more terms, each that is not there yet
abbrev pub Adds : List Term → List Term → List Term → Type 0
Adds set [] more = more ≡ set
Adds set (u ∷ us) more = In u set × Adds set us more ⊎ ((In u set → ⊥) × Adds (set ++ u ∷ []) us more)

pub data Closing : Type 0 where
  too_deep : ℕ → Closing
  faulty_set : MenuFault → Closing
  closed : List Term → Closing

module _ (model : Model) (scope : Scope) where
  -- the targets of the members' internal items, with the nodes of all their menus
  abbrev pub Targets : List Term → List Term → ℕ → Type 0
  Targets [] us nodes = (us ≡ []) × (nodes ≡ 0)
  Targets (t ∷ set) us nodes =
      (n : ℕ) × (items : List Item) × (vs : List Term) × (k : ℕ) × (menu model scope t ≡ walked n items) × Targets set vs k
      × (us ≡ inner_rests items ++ vs) × (nodes ≡ items_nodes items + k)

  -- the menu of some member ends with this fault
  abbrev pub HasFault : List Term → MenuFault → Type 0
  HasFault set s = (t : Term) × In t set × (menu model scope t ≡ faulted s)

  -- Eval goes before Unfixed, and this before Wide
  abbrev pub IsFault : List Term → MenuFault → Type 0
  IsFault set eval_fault = HasFault set eval_fault
  IsFault set unfixed = HasFault set unfixed × (HasFault set eval_fault → ⊥)
  IsFault set wide =
      (HasFault set wide ⊎ ((us : List Term) × (k : ℕ) × Targets set us k × (ltb menus_node_limit k ≡ true)))
      × (HasFault set eval_fault → ⊥) × (HasFault set unfixed → ⊥)

  -- what closing a set gives, from this level on
  pub data Closes : ℕ → List Term → Closing → Type 0 where
    large : {level : ℕ} {set : List Term} → is_large set ≡ true → Closes level set (too_deep level)
    member_faults : {level : ℕ} {set : List Term} {s : MenuFault}
        → is_large set ≡ false → IsFault set s → Closes level set (faulty_set s)
    done : {level : ℕ} {set : List Term} (us : List Term) (nodes : ℕ)
        → is_large set ≡ false → Targets set us nodes → ltb menus_node_limit nodes ≡ false
        → Adds set us set → Closes level set (closed set)
    next : {level : ℕ} {set : List Term} {r : Closing} (us more : List Term) (nodes : ℕ)
        → is_large set ≡ false → Targets set us nodes → ltb menus_node_limit nodes ≡ false
        → Adds set us more → more ≢ set → Closes (suc level) more r → Closes level set r

-- ---- moving by an action

-- the filled residual, if the guards hold; nothing is told if one of them faults
abbrev pub rest_if : Verdict → Term → Option (List Term)
rest_if holds t = Some (t ∷ [])
rest_if fails t = Some []
rest_if faults t = None

abbrev pub moved_by : Defs → Action → Bool → Item → Option (List Term)
moved_by defs a false i = Some []
moved_by defs a true i = rest_if (judge defs (put_all (filled (values a)) i.guards)) (fill (values a) i.rest)

-- on exactly these channels
abbrev pub is_on : Channels → Kind → Bool
is_on cs (on ds) = same_channels cs ds
is_on cs within = false
is_on cs (ending vs) = false

abbrev pub and_terms : Option (List Term) → Option (List Term) → Option (List Term)
and_terms None o = None
and_terms (Some ts) None = None
and_terms (Some ts) (Some us) = Some (ts ++ us)

-- what the items on the action's channels lead to, in order, if no guard faults
abbrev pub moved_items : Defs → Action → List Item → Option (List Term)
moved_items defs a [] = Some []
moved_items defs a (i ∷ is) = and_terms (moved_by defs a (is_on (channels a) i.kind) i) (moved_items defs a is)

module _ (model : Model) (scope : Scope) (a : Action) where
  -- members in order and items in order
  abbrev pub Moves : List Term → Option (List Term) → Type 0
  Moves [] r = r ≡ Some []
  Moves (t ∷ set) r =
      (n : ℕ) × (items : List Item) × (rest : Option (List Term)) × (menu model scope t ≡ walked n items) × Moves set rest
      × (r ≡ and_terms (moved_items model.defs a items) rest)

  -- what moving a set by an action gives: a fault, if some guard on its channels faults, or a set without repeats
  pub data MovesTo (set : List Term) : Option (List Term) → Type 0 where
    faults_somewhere : Moves set None → MovesTo set None
    moves_to : (us more : List Term) → Moves set (Some us) → Adds [] us more → MovesTo set (Some more)
