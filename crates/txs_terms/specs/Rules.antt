-- What a term may do.
use Rattle.std.specs.Prelude.{◌≡◌, ◌⊎◌, ℕ, true, false, ltb, List, [], ◌∷◌, ◌++◌, map, length, Some, slice_get}
use Rattle.txs_values.specs.Value.{Value}
use Rattle.txs_terms.specs.Expr.{Expr, put, put_all, filled}
use Rattle.txs_terms.specs.Eval.{Defs, Gives, Hold}
use Rattle.txs_terms.specs.Action.{Action, Label, act, inner, ends, Channels, channels, values_on, values_over, part_of, none_in, kept, union, in_order, is_empty, joins, Scope, IsAction}
use Rattle.txs_terms.specs.Term.{Name, Position, give, take, Offer, Term, stop, exits, prefix, step, guard, choice, par, enable, disable, interrupt, hide, call, bind, machine, hit, miss, fill, instance, Move, Automaton, move_term}

-- the functions, the bodies of what may be called, and the automata. The body of an automaton is the automaton at its first state.
pub record Model : Type 0 where
  pub defs : Defs
  pub bodies : List Term
  pub automata : List Automaton

abbrev pub In : {A : Type 0} → A → List A → Type 0
In x [] = ⊥
In x (y ∷ ys) = (x ≡ y) ⊎ In x ys

module _ (defs : Defs) where
  -- the values of these expressions
  abbrev pub AllGive : List Expr → List Value → Type 0
  AllGive [] [] = Unit {0}
  AllGive [] (v ∷ vs) = ⊥
  AllGive (e ∷ es) [] = ⊥
  AllGive (e ∷ es) (v ∷ vs) = Gives defs e v × AllGive es vs

  -- the values of the bindings of a LET in order, each expression seeing the values before it
  abbrev pub AllBind : List Value → List Expr → List Value → Type 0
  AllBind before [] [] = Unit {0}
  AllBind before [] (v ∷ vs) = ⊥
  AllBind before (e ∷ es) [] = ⊥
  AllBind before (e ∷ es) (v ∷ vs) = Gives defs (put (filled before) e) v × AllBind (before ++ v ∷ []) es vs

  -- a value at each position: that of the expression at `! e`, and any at `? x`
  abbrev pub Meets : List Position → List Value → Type 0
  Meets [] [] = Unit {0}
  Meets [] (v ∷ vs) = ⊥
  Meets (p ∷ ps) [] = ⊥
  Meets (give e ∷ ps) (v ∷ vs) = Gives defs e v × Meets ps vs
  Meets (take x ∷ ps) (v ∷ vs) = Meets ps vs

  -- the action's values meet each offer
  abbrev pub MeetAll : List Offer → Action → Type 0
  MeetAll [] a = Unit {0}
  MeetAll (o ∷ os) a = Meets o.positions (values_on a o.channel) × MeetAll os a

abbrev pub offered : List Offer → Channels
offered os = map (λ o. o.channel) os

-- the channels below the depth
abbrev pub visible : ℕ → Channels → Channels
visible depth cs = kept (λ c. ltb c depth) cs

pub data Goal : Type 0 where
  to_hit : Goal
  to_miss : Goal

module _ (model : Model) where
  -- this automaton has this transition at this state
  pub record HasMove (k q : ℕ) (formals : Channels) (move : Move) : Type 0 where
    pub states : List (List Move)
    pub moves : List Move
    pub automaton : slice_get model.automata k ≡ Some (record { formals = formals; states = states })
    pub state : slice_get states q ≡ Some moves
    pub listed : In move moves

  -- In the scope of these channels the term does this and becomes that.
  pub data Step : Scope → Term → Label → Term → Type 0 where
    offers : {scope : Scope} {os : List Offer} {gs : List Expr} {t : Term} (a : Action)
        → channels a ≡ in_order (offered os) → IsAction model.defs.table scope a → MeetAll model.defs os a
        → Hold model.defs (put_all (filled (values_over a (offered os))) gs)
        → Step scope (prefix os gs t) (act a) (fill (values_over a (offered os)) t)
    steps : {scope : Scope} {gs : List Expr} {t : Term}
        → Hold model.defs gs → Step scope (step gs t) inner t
    exit : {scope : Scope} {es : List Expr} (vs : List Value)
        → AllGive model.defs es vs → Step scope (exits es) (ends vs) stop
    guarded : {scope : Scope} {gs : List Expr} {t t' : Term} {l : Label}
        → Hold model.defs gs → Step scope t l t' → Step scope (guard gs t) l t'
    choose_left : {scope : Scope} {a b a' : Term} {l : Label}
        → Step scope a l a' → Step scope (choice a b) l a'
    choose_right : {scope : Scope} {a b b' : Term} {l : Label}
        → Step scope b l b' → Step scope (choice a b) l b'
    left_alone : {scope : Scope} {gates : Channels} {a b a' : Term} {x : Action}
        → none_in gates (channels x) ≡ true
        → Step scope a (act x) a' → Step scope (par gates a b) (act x) (par gates a' b)
    right_alone : {scope : Scope} {gates : Channels} {a b b' : Term} {x : Action}
        → none_in gates (channels x) ≡ true
        → Step scope b (act x) b' → Step scope (par gates a b) (act x) (par gates a b')
    left_inner : {scope : Scope} {gates : Channels} {a b a' : Term}
        → Step scope a inner a' → Step scope (par gates a b) inner (par gates a' b)
    right_inner : {scope : Scope} {gates : Channels} {a b b' : Term}
        → Step scope b inner b' → Step scope (par gates a b) inner (par gates a b')
    joined : {scope : Scope} {gates : Channels} {a b a' b' : Term} (x : Action) (xs ys : Channels)
        → joins gates xs ys ≡ true → channels x ≡ union xs ys → IsAction model.defs.table scope x
        → Step scope a (act (part_of x xs)) a' → Step scope b (act (part_of x ys)) b'
        → Step scope (par gates a b) (act x) (par gates a' b')
    both_end : {scope : Scope} {gates : Channels} {a b a' b' : Term} {vs : List Value}
        → Step scope a (ends vs) a' → Step scope b (ends vs) b'
        → Step scope (par gates a b) (ends vs) stop
    before : {scope : Scope} {a a' b : Term} {xs : List Name} {x : Action}
        → Step scope a (act x) a' → Step scope (enable a xs b) (act x) (enable a' xs b)
    before_inner : {scope : Scope} {a a' b : Term} {xs : List Name}
        → Step scope a inner a' → Step scope (enable a xs b) inner (enable a' xs b)
    passes : {scope : Scope} {a a' b : Term} {xs : List Name} (vs : List Value)
        → Step scope a (ends vs) a' → Step scope (enable a xs b) inner (fill vs b)
    left_goes_on : {scope : Scope} {a a' b : Term} {x : Action}
        → Step scope a (act x) a' → Step scope (disable a b) (act x) (disable a' b)
    left_inner_on : {scope : Scope} {a a' b : Term}
        → Step scope a inner a' → Step scope (disable a b) inner (disable a' b)
    left_ends : {scope : Scope} {a a' b : Term} {vs : List Value}
        → Step scope a (ends vs) a' → Step scope (disable a b) (ends vs) stop
    takes_over : {scope : Scope} {a b b' : Term} {l : Label}
        → Step scope b l b' → Step scope (disable a b) l b'
    undisturbed : {scope : Scope} {a a' b : Term} {x : Action}
        → Step scope a (act x) a' → Step scope (interrupt a b) (act x) (interrupt a' b)
    undisturbed_inner : {scope : Scope} {a a' b : Term}
        → Step scope a inner a' → Step scope (interrupt a b) inner (interrupt a' b)
    undisturbed_ends : {scope : Scope} {a a' b : Term} {vs : List Value}
        → Step scope a (ends vs) a' → Step scope (interrupt a b) (ends vs) stop
    interrupts : {scope : Scope} {a b b' : Term} {x : Action}
        → Step scope b (act x) b' → Step scope (interrupt a b) (act x) (enable b' [] (interrupt a b))
    interrupts_inner : {scope : Scope} {a b b' : Term}
        → Step scope b inner b' → Step scope (interrupt a b) inner (enable b' [] (interrupt a b))
    returns : {scope : Scope} {a b b' : Term} {vs : List Value}
        → Step scope b (ends vs) b' → Step scope (interrupt a b) inner (interrupt a b)
    shown : {scope : Scope} {hs : Scope} {t t' : Term} (x : Action)
        → is_empty (visible (length scope) (channels x)) ≡ false
        → Step (scope ++ hs) t (act x) t'
        → Step scope (hide hs t) (act (part_of x (visible (length scope) (channels x)))) (hide hs t')
    hidden : {scope : Scope} {hs : Scope} {t t' : Term} (x : Action)
        → is_empty (visible (length scope) (channels x)) ≡ true
        → Step (scope ++ hs) t (act x) t' → Step scope (hide hs t) inner (hide hs t')
    hide_inner : {scope : Scope} {hs : Scope} {t t' : Term}
        → Step (scope ++ hs) t inner t' → Step scope (hide hs t) inner (hide hs t')
    hide_ends : {scope : Scope} {hs : Scope} {t t' : Term} {vs : List Value}
        → Step (scope ++ hs) t (ends vs) t' → Step scope (hide hs t) (ends vs) stop
    unfold' : {scope : Scope} {p : ℕ} {cs : Channels} {es : List Expr} {t' : Term} {l : Label} (vs : List Value) (body : Term)
        → slice_get model.bodies p ≡ Some body → AllGive model.defs es vs
        → Step scope (instance cs vs (length scope) body) l t' → Step scope (call p cs es) l t'
    binds : {scope : Scope} {xs : List Name} {es : List Expr} {t t' : Term} {l : Label} (vs : List Value)
        → AllBind model.defs [] es vs → Step scope (fill vs t) l t' → Step scope (bind xs es t) l t'
    moves : {scope : Scope} {k q : ℕ} {cs : Channels} {es : List Expr} {t' : Term} {l : Label} (vs : List Value) (formals : Channels) (m : Move)
        → HasMove k q formals m → AllGive model.defs es vs
        → Step scope (instance cs vs (length scope) (move_term k formals m)) l t' → Step scope (machine k cs es q) l t'

  -- HIT or MISS is offered.
  pub data Offers : Goal → Scope → Term → Type 0 where
    here_hit : {scope : Scope} → Offers to_hit scope hit
    here_miss : {scope : Scope} → Offers to_miss scope miss
    by_left : {g : Goal} {scope : Scope} {a b : Term} → Offers g scope a → Offers g scope (choice a b)
    by_right : {g : Goal} {scope : Scope} {a b : Term} → Offers g scope b → Offers g scope (choice a b)
    par_left : {g : Goal} {scope : Scope} {gates : Channels} {a b : Term} → Offers g scope a → Offers g scope (par gates a b)
    par_right : {g : Goal} {scope : Scope} {gates : Channels} {a b : Term} → Offers g scope b → Offers g scope (par gates a b)
    disable_left : {g : Goal} {scope : Scope} {a b : Term} → Offers g scope a → Offers g scope (disable a b)
    disable_right : {g : Goal} {scope : Scope} {a b : Term} → Offers g scope b → Offers g scope (disable a b)
    interrupt_left : {g : Goal} {scope : Scope} {a b : Term} → Offers g scope a → Offers g scope (interrupt a b)
    interrupt_right : {g : Goal} {scope : Scope} {a b : Term} → Offers g scope b → Offers g scope (interrupt a b)
    by_enable : {g : Goal} {scope : Scope} {a b : Term} {xs : List Name} → Offers g scope a → Offers g scope (enable a xs b)
    by_guard : {g : Goal} {scope : Scope} {gs : List Expr} {t : Term} → Hold model.defs gs → Offers g scope t → Offers g scope (guard gs t)
    by_hide : {g : Goal} {scope : Scope} {hs : Scope} {t : Term} → Offers g (scope ++ hs) t → Offers g scope (hide hs t)
    by_call : {g : Goal} {scope : Scope} {p : ℕ} {cs : Channels} {es : List Expr} (vs : List Value) (body : Term)
        → slice_get model.bodies p ≡ Some body → AllGive model.defs es vs
        → Offers g scope (instance cs vs (length scope) body) → Offers g scope (call p cs es)
    by_let : {g : Goal} {scope : Scope} {xs : List Name} {es : List Expr} {t : Term} (vs : List Value)
        → AllBind model.defs [] es vs → Offers g scope (fill vs t) → Offers g scope (bind xs es t)
