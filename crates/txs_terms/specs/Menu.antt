-- The menu of a term: its items, or the fault with which its walk ends.
use Rattle.std.specs.Prelude.{ℕ, zero, suc, ◌+◌, ◌-◌, Bool, true, false, ◌&&◌, ◌||◌, not, cond, eqb, ltb, List, [], ◌∷◌, ◌++◌, map, length, Option, Some, None, slice_get}
use Rattle.txs_values.specs.Value.{Value, num, bool, text, cons, same_value, size}
use Rattle.txs_terms.specs.Expr.{Expr, val, slot, equal, Puts, put, put_all, filled, moved, has_slot, exprs_nodes}
use Rattle.txs_terms.specs.Eval.{Defs, Run, got, bad, eval}
use Rattle.txs_terms.specs.Action.{Channels, has, kept, none_in, joins, union, in_order, Scope, arity, from}
use Rattle.txs_terms.specs.Term.{Name, Position, give, take, Offer, Term, stop, exits, prefix, step, guard, choice, par, enable, disable, interrupt, hide, call, bind, machine, hit, miss, put_term, fill, instance, term_nodes, channels_bound, Move, Automaton, move_term}
use Rattle.txs_terms.specs.Rules.{Model, offered, visible}

-- what an item does: an action on these channels, an internal step, or an exit
pub data Kind : Type 0 where
  on : Channels → Kind
  within : Kind
  ending : List Value → Kind

pub record Item : Type 0 where
  pub kind : Kind
  pub guards : List Expr
  pub rest : Term

pub data MenuFault : Type 0 where
  eval_fault : MenuFault
  unfixed : MenuFault
  wide : MenuFault

-- how a walk ends: with a fault, or with the nodes met so far and the items
pub data Walk : Type 0 where
  faulted : MenuFault → Walk
  walked : ℕ → List Item → Walk

unfoldable pub path_limit : ℕ
path_limit = 1000

unfoldable pub walk_limit : ℕ
walk_limit = 65536

unfoldable pub item_limit : ℕ
item_limit = 4096

unfoldable pub item_node_limit : ℕ
item_node_limit = 1048576

unfoldable pub channel_limit : ℕ
channel_limit = 4294967295

abbrev pub values_nodes : List Value → ℕ
values_nodes [] = 0
values_nodes (v ∷ vs) = size v + values_nodes vs

abbrev pub kind_nodes : Kind → ℕ
kind_nodes (on cs) = 0
kind_nodes within = 0
kind_nodes (ending vs) = values_nodes vs

-- the nodes of items: those of exit values, guards and residual; a value counts its own size
abbrev pub items_nodes : List Item → ℕ
items_nodes [] = 0
items_nodes (i ∷ is) = kind_nodes i.kind + exprs_nodes i.guards + term_nodes i.rest + items_nodes is

-- ---- slots

-- how many slots these channels have
abbrev pub width : Scope → Channels → ℕ
width scope [] = 0
width scope (c ∷ cs) = arity scope c + width scope cs

-- the first slot of a channel
abbrev pub start : Scope → Channels → ℕ → ℕ
start scope [] c = 0
start scope (x ∷ xs) c = cond (eqb x c) 0 (arity scope x + start scope xs c)

-- the slots of these channels among those of all
abbrev pub places : Scope → Channels → Channels → List ℕ
places scope all [] = []
places scope all (c ∷ cs) = from (start scope all c) (arity scope c) ++ places scope all cs

-- ---- conjuncts

pub data Verdict : Type 0 where
  holds : Verdict
  fails : Verdict
  faults : Verdict

abbrev pub and_then : Run → Verdict → Verdict
and_then (got (bool true) n) rest = rest
and_then (got (bool false) n) rest = fails
and_then (got (num x) n) rest = faults
and_then (got (text bs) n) rest = faults
and_then (got (cons c vs) n) rest = faults
and_then (bad f) rest = faults

module _ (defs : Defs) where
  -- the first that is False or faults decides
  abbrev pub judge : List Expr → Verdict
  judge [] = holds
  judge (e ∷ es) = and_then (eval defs e) (judge es)

abbrev pub with_slots : List Expr → List Expr
with_slots [] = []
with_slots (e ∷ es) = cond (has_slot e) (e ∷ with_slots es) (with_slots es)

abbrev pub without_slots : List Expr → List Expr
without_slots [] = []
without_slots (e ∷ es) = cond (has_slot e) (without_slots es) (e ∷ without_slots es)

-- goes on if they hold; if they do not, there is no item
abbrev pub where_holds : Verdict → ℕ → Walk → Walk
where_holds holds n go = go
where_holds fails n go = walked n []
where_holds faults n go = faulted eval_fault

-- ---- walks

abbrev pub then_walk : Walk → (ℕ → List Item → Walk) → Walk
then_walk (faulted s) go = faulted s
then_walk (walked n is) go = go n is

-- no more items than allowed, and no more nodes in them
abbrev pub too_many : List Item → Bool
too_many is = ltb item_limit (length is) || ltb item_node_limit (items_nodes is)

abbrev pub capped : ℕ → List Item → Walk
capped n is = cond (too_many is) (faulted wide) (walked n is)

abbrev pub gather : {A : Type 0} → (A → List Item) → List A → List Item
gather f [] = []
gather f (x ∷ xs) = f x ++ gather f xs

-- ---- prefix and exit

-- goes on with what there is; if an expression faulted there is nothing
abbrev pub where_some : {A : Type 0} → Option A → (A → Walk) → Walk
where_some None go = faulted eval_fault
where_some (Some x) go = go x

abbrev pub with_value : Run → Option (List Value) → Option (List Value)
with_value (bad f) o = None
with_value (got v n) None = None
with_value (got v n) (Some vs) = Some (v ∷ vs)

abbrev pub with_front : Value → Option (List Value) → Option (List Value)
with_front v None = None
with_front v (Some vs) = Some (v ∷ vs)

abbrev pub then_bound : Run → (Value → Option (List Value)) → Option (List Value)
then_bound (bad f) go = None
then_bound (got v n) go = with_front v (go v)

abbrev pub fixed_by : ℕ → Run → Option (List Expr) → Option (List Expr)
fixed_by i (bad f) o = None
fixed_by i (got v n) None = None
fixed_by i (got v n) (Some gs) = Some (equal (slot i) (val v) ∷ gs)

abbrev pub both_lists : Option (List Expr) → Option (List Expr) → Option (List Expr)
both_lists None o = None
both_lists (Some gs) None = None
both_lists (Some gs) (Some hs) = Some (gs ++ hs)

module _ (defs : Defs) where
  -- the values of the expressions, if none faults
  abbrev pub all_values : List Expr → Option (List Value)
  all_values [] = Some []
  all_values (e ∷ es) = with_value (eval defs e) (all_values es)

  -- the values of the bindings of a LET in order, if none faults; each sees the values before it
  abbrev pub bound_values : List Value → List Expr → Option (List Value)
  bound_values before [] = Some []
  bound_values before (e ∷ es) = then_bound (eval defs (put (filled before) e)) (λ v. bound_values (before ++ v ∷ []) es)

  -- `slot == value` for each `!`, the slots counted from this one
  abbrev pub fixes : ℕ → List Position → Option (List Expr)
  fixes i [] = Some []
  fixes i (take x ∷ ps) = fixes (suc i) ps
  fixes i (give e ∷ ps) = fixed_by i (eval defs e) (fixes (suc i) ps)

  abbrev pub all_fixes : Scope → Channels → List Offer → Option (List Expr)
  all_fixes scope cs [] = Some []
  all_fixes scope cs (o ∷ os) = both_lists (fixes (start scope cs o.channel) o.positions) (all_fixes scope cs os)

abbrev pub prefix_item : Scope → Channels → List ℕ → List Expr → List Expr → Term → Item
prefix_item scope cs ps fixed gs t = record {
  kind = on cs;
  guards = fixed ++ put_all (moved ps (width scope cs)) (with_slots gs);
  rest = put_term (moved ps (width scope cs)) t;
}

abbrev pub prefix_walk : Defs → Scope → Channels → List Offer → List Expr → Term → ℕ → Walk
prefix_walk defs scope cs os gs t n =
    where_some (all_fixes defs scope cs os)
    (λ fixed. where_holds (judge defs (without_slots gs)) n
    (walked n (prefix_item scope cs (places scope cs (offered os)) fixed gs t ∷ [])))

-- ---- parallel

abbrev pub size_of : Scope → Kind → ℕ
size_of scope (on cs) = width scope cs
size_of scope within = 0
size_of scope (ending vs) = 0

-- a term beside an item, whose slots come first
abbrev pub beside : Scope → Kind → Term → Term
beside scope kind t = put_term (moved [] (size_of scope kind)) t

abbrev pub goes_alone : Channels → Kind → Bool
goes_alone gates (on cs) = none_in gates cs
goes_alone gates within = true
goes_alone gates (ending vs) = false

abbrev pub wrapped : (Kind → Term → Term) → Item → Item
wrapped wrap i = record { kind = i.kind; guards = i.guards; rest = wrap i.kind i.rest }

abbrev pub alone : Channels → (Kind → Term → Term) → Item → List Item
alone gates wrap i = cond (goes_alone gates i.kind) (wrapped wrap i ∷ []) []

-- the slots of an item on these channels, as slots of one on all
abbrev pub among : Scope → Channels → Channels → Puts
among scope all cs = moved (places scope all cs) (width scope all)

abbrev pub same_values : List Value → List Value → Bool
same_values [] [] = true
same_values [] (v ∷ vs) = false
same_values (v ∷ vs) [] = false
same_values (v ∷ vs) (w ∷ ws) = same_value v w && same_values vs ws

abbrev pub join_ends : List Value → Item → Item → Item
join_ends vs i j = record { kind = ending vs; guards = i.guards ++ j.guards; rest = stop }

module _ (scope : Scope) (gates : Channels) where
  -- what one side becomes beside the other
  abbrev pub left_of : Term → Kind → Term → Term
  left_of b k t = par gates t (beside scope k b)

  abbrev pub right_of : Term → Kind → Term → Term
  right_of a k t = par gates (beside scope k a) t

  -- two items as one on all these channels
  abbrev pub join_on : Channels → Channels → Channels → Item → Item → Item
  join_on all xs ys i j = record {
    kind = on all;
    guards = put_all (among scope all xs) i.guards ++ put_all (among scope all ys) j.guards;
    rest = par gates (put_term (among scope all xs) i.rest) (put_term (among scope all ys) j.rest);
  }

  abbrev pub join_kinds : Kind → Kind → Item → Item → List Item
  join_kinds (on xs) (on ys) i j = cond (joins gates xs ys) (join_on (union xs ys) xs ys i j ∷ []) []
  join_kinds (on xs) within i j = []
  join_kinds (on xs) (ending ws) i j = []
  join_kinds within k i j = []
  join_kinds (ending vs) (on ys) i j = []
  join_kinds (ending vs) within i j = []
  join_kinds (ending vs) (ending ws) i j =
      cond (same_values vs ws) (join_ends vs i j ∷ []) []

  abbrev pub join : Item → Item → List Item
  join i j = join_kinds i.kind j.kind i j

  abbrev pub par_items : Term → Term → List Item → List Item → List Item
  par_items a b is js =
      gather (alone gates (left_of b)) is
      ++ (gather (alone gates (right_of a)) js
      ++ gather (λ i. gather (join i) js) is)

-- ---- enable

abbrev pub pass_kind : Scope → List Name → Term → Kind → Item → Item
pass_kind scope xs b (on cs) i = record { kind = on cs; guards = i.guards; rest = enable i.rest xs (beside scope (on cs) b) }
pass_kind scope xs b within i = record { kind = within; guards = i.guards; rest = enable i.rest xs (beside scope within b) }
pass_kind scope xs b (ending vs) i = record { kind = within; guards = i.guards; rest = fill vs b }

abbrev pub pass : Scope → List Name → Term → Item → Item
pass scope xs b i = pass_kind scope xs b i.kind i

-- ---- disable and interrupt

abbrev pub wrap_kind : Scope → (Term → Term) → Kind → Item → Item
wrap_kind scope wrap (on cs) i = record { kind = on cs; guards = i.guards; rest = wrap i.rest }
wrap_kind scope wrap within i = record { kind = within; guards = i.guards; rest = wrap i.rest }
wrap_kind scope wrap (ending vs) i = record { kind = ending vs; guards = i.guards; rest = stop }

-- the left side goes on
abbrev pub disabled : Scope → Term → Item → Item
disabled scope b i = wrap_kind scope (λ t. disable t (beside scope i.kind b)) i.kind i

abbrev pub interrupted : Scope → Term → Item → Item
interrupted scope b i = wrap_kind scope (λ t. interrupt t (beside scope i.kind b)) i.kind i

-- the right side interrupts
abbrev pub back_kind : Scope → Term → Kind → Item → Item
back_kind scope t (on cs) i = record { kind = on cs; guards = i.guards; rest = enable i.rest [] (beside scope (on cs) t) }
back_kind scope t within i = record { kind = within; guards = i.guards; rest = enable i.rest [] (beside scope within t) }
back_kind scope t (ending vs) i = record { kind = within; guards = i.guards; rest = t }

abbrev pub back_to : Scope → Term → Item → Item
back_to scope t i = back_kind scope t i.kind i

-- ---- hide

-- one value put for one slot
abbrev pub only : ℕ → Value → Puts
only s v i = cond (eqb s i) (val v) (slot i)

abbrev pub or_else : Option (ℕ × Expr) → Option (ℕ × Expr) → Option (ℕ × Expr)
or_else None o = o
or_else (Some p) o = Some p

module _ (loose : List ℕ) where
  -- the slot that this conjunct fixes, with the expression
  abbrev pub fix_by : ℕ → Expr → Option (ℕ × Expr)
  fix_by s e = cond (has loose s && not (has_slot e)) (Some (s, e)) None

  abbrev pub fix_right : Expr → Expr → Option (ℕ × Expr)
  fix_right e (slot s) = fix_by s e
  fix_right e _ = None

  abbrev pub fix_equal : Expr → Expr → Option (ℕ × Expr)
  fix_equal (slot s) b = or_else (fix_by s b) (fix_right (slot s) b)
  fix_equal a b = fix_right a b

  abbrev pub fix_of : Expr → Option (ℕ × Expr)
  fix_of (equal a b) = fix_equal a b
  fix_of _ = None

  -- the first conjunct that fixes one of the loose slots
  abbrev pub next_fix : List Expr → Option (ℕ × Expr)
  next_fix [] = None
  next_fix (g ∷ gs) = or_else (fix_of g) (next_fix gs)

abbrev pub put_in : ℕ → Value → Item → Item
put_in s v i = record { kind = i.kind; guards = put_all (only s v) i.guards; rest = put_term (only s v) i.rest }

abbrev pub is_loose : List ℕ → Bool
is_loose [] = false
is_loose (s ∷ ss) = true

pub data Fixed : Type 0 where
  unable : MenuFault → Fixed
  fixed : Item → Fixed

abbrev pub fix_value : Run → (Value → Fixed) → Fixed
fix_value (bad f) go = unable eval_fault
fix_value (got v n) go = go v

abbrev pub fix_at : Defs → Option (ℕ × Expr) → (ℕ → Value → Fixed) → Fixed
fix_at defs None go = unable unfixed
fix_at defs (Some p) go = fix_value (eval defs p.1) (go p.0)

abbrev pub less : ℕ → List ℕ → List ℕ
less s loose = kept (λ x. not (eqb s x)) loose

-- each loose slot gets its value, at most `n` of them
abbrev pub fix_all : Defs → ℕ → List ℕ → Item → Fixed
fix_all defs zero loose i = cond (is_loose loose) (unable unfixed) (fixed i)
fix_all defs (suc n) loose i =
    cond (is_loose loose)
    (fix_at defs (next_fix loose i.guards) (λ s v. fix_all defs n (less s loose) (put_in s v i)))
    (fixed i)

-- where a slot stands among those that are left
abbrev pub position : List ℕ → ℕ → ℕ
position [] i = 0
position (p ∷ ps) i = cond (eqb p i) 0 (suc (position ps i))

-- of `size` slots those that are left, numbered anew
abbrev pub closed_up : List ℕ → ℕ → Puts
closed_up ps size i = cond (ltb i size) (slot (position ps i)) (slot ((i - size) + length ps))

abbrev pub shown_kind : Channels → Kind
shown_kind [] = within
shown_kind (c ∷ cs) = on (c ∷ cs)

abbrev pub strip : Scope → Channels → List ℕ → ℕ → Item → Item
strip hs shown ps size i = record {
  kind = shown_kind shown;
  guards = put_all (closed_up ps size) (with_slots i.guards);
  rest = hide hs (put_term (closed_up ps size) i.rest);
}

pub data Hidden : Type 0 where
  bad_item : MenuFault → Hidden
  left_with : List Item → Hidden

abbrev pub strip_by : Verdict → Item → Hidden
strip_by holds z = left_with (z ∷ [])
strip_by fails z = left_with []
strip_by faults z = bad_item eval_fault

abbrev pub strip_fixed : Defs → Scope → Channels → List ℕ → ℕ → Fixed → Hidden
strip_fixed defs hs shown ps size (unable s) = bad_item s
strip_fixed defs hs shown ps size (fixed i) = strip_by (judge defs (without_slots i.guards)) (strip hs shown ps size i)

-- the slots of the channels that are hidden
abbrev pub loose_slots : List ℕ → ℕ → List ℕ
loose_slots ps size = kept (λ i. not (has ps i)) (from 0 size)

abbrev pub hide_on : Defs → Scope → Scope → Channels → Channels → Item → Hidden
hide_on defs all hs cs shown i =
    let ps = places all cs shown in
    let size = width all cs in
    let loose = loose_slots ps size in
    strip_fixed defs hs shown ps size (fix_all defs (length loose) loose i)

abbrev pub hide_kind : Defs → Scope → Scope → Kind → Item → Hidden
hide_kind defs scope hs (on cs) i = hide_on defs (scope ++ hs) hs cs (visible (length scope) cs) i
hide_kind defs scope hs within i = left_with (record { kind = within; guards = i.guards; rest = hide hs i.rest } ∷ [])
hide_kind defs scope hs (ending vs) i = left_with (record { kind = ending vs; guards = i.guards; rest = stop } ∷ [])

abbrev pub and_hidden : Hidden → Hidden → Hidden
and_hidden (bad_item s) h = bad_item s
and_hidden (left_with is) (bad_item s) = bad_item s
and_hidden (left_with is) (left_with js) = left_with (is ++ js)

abbrev pub hide_all : Defs → Scope → Scope → List Item → Hidden
hide_all defs scope hs [] = left_with []
hide_all defs scope hs (i ∷ is) = and_hidden (hide_kind defs scope hs i.kind i) (hide_all defs scope hs is)

abbrev pub hidden_walk : ℕ → Hidden → Walk
hidden_walk n (bad_item s) = faulted s
hidden_walk n (left_with is) = walked n is

-- ---- the walk

-- a body that would bind a channel number from `channel_limit` on is too wide
abbrev pub body_walk : Option Term → ℕ → ℕ → (Term → Walk) → Walk
body_walk None depth n go = walked n []
body_walk (Some t) depth n go = cond (ltb channel_limit (depth + channels_bound t)) (faulted wide) (go t)

abbrev pub Walks : Type 0
Walks = Scope → Term → ℕ → Walk

-- offers or ISTEP
abbrev pub prefix_level : Model → Scope → List Offer → List Expr → Term → ℕ → Walk
prefix_level model scope os gs t n = prefix_walk model.defs scope (in_order (offered os)) os gs t n

abbrev pub step_level : Model → List Expr → Term → ℕ → Walk
step_level model gs t n =
    where_holds (judge model.defs gs) n (walked n (record { kind = within; guards = []; rest = t } ∷ []))

-- a transition, once its values and channels stand in it
abbrev pub move_level : Model → Scope → Term → ℕ → Walk
move_level model scope (prefix os gs t) n = prefix_level model scope os gs t n
move_level model scope (step gs t) n = step_level model gs t n
move_level model scope _ n = walked n []

abbrev pub each_move : (Move → Walk) → List Move → ℕ → Walk
each_move go [] n = walked n []
each_move go (m ∷ ms) n = then_walk (go m) (λ _ is. then_walk (each_move go ms n) (λ _ js. walked n (is ++ js)))

abbrev pub state_walk : Option (List Move) → ℕ → (Move → Walk) → Walk
state_walk None n go = walked n []
state_walk (Some ms) n go = each_move go ms n

abbrev pub machine_walk : Option Automaton → ℕ → ℕ → (Channels → Move → Walk) → Walk
machine_walk None q n go = walked n []
machine_walk (Some a) q n go = state_walk (slice_get a.states q) n (go a.formals)

module _ (model : Model) (go : Walks) where
  -- one node, which is met; `go` walks the terms below it
  abbrev pub level : Walks
  level scope stop n = walked n []
  level scope (exits es) n =
      where_some (all_values model.defs es) (λ vs. walked n (record { kind = ending vs; guards = []; rest = stop } ∷ []))
  level scope (prefix os gs t) n = prefix_level model scope os gs t n
  level scope (step gs t) n = step_level model gs t n
  level scope (guard gs t) n = where_holds (judge model.defs gs) n (go scope t n)
  level scope (choice a b) n =
      then_walk (go scope a n) (λ m is. then_walk (go scope b m) (λ k js. walked k (is ++ js)))
  level scope (par gates a b) n =
      then_walk (go scope a n) (λ m is. then_walk (go scope b m) (λ k js. walked k (par_items scope gates a b is js)))
  level scope (enable a xs b) n = then_walk (go scope a n) (λ m is. walked m (map (pass scope xs b) is))
  level scope (disable a b) n =
      then_walk (go scope a n) (λ m is. then_walk (go scope b m) (λ k js. walked k (map (disabled scope b) is ++ js)))
  level scope (interrupt a b) n =
      then_walk (go scope a n) (λ m is. then_walk (go scope b m)
      (λ k js. walked k (map (interrupted scope b) is ++ map (back_to scope (interrupt a b)) js)))
  level scope (hide hs t) n =
      then_walk (go (scope ++ hs) t n) (λ m is. hidden_walk m (hide_all model.defs scope hs is))
  level scope (call p cs es) n =
      where_some (all_values model.defs es)
      (λ vs. body_walk (slice_get model.bodies p) (length scope) n (λ body. go scope (instance cs vs (length scope) body) n))
  level scope (bind xs es t) n = where_some (bound_values model.defs [] es) (λ vs. go scope (fill vs t) n)
  level scope (machine k cs es q) n =
      where_some (all_values model.defs es)
      (λ vs. machine_walk (slice_get model.automata k) q n
      (λ formals m. move_level model scope (instance cs vs (length scope) (move_term k formals m)) n))
  level scope hit n = walked n []
  level scope miss n = walked n []

module _ (model : Model) where
  -- the walk of a term, when a path may meet `left` more nodes and `n` nodes were met
  abbrev pub walk : ℕ → Walks
  walk zero scope t n = faulted wide
  walk (suc left) scope t n = cond (ltb n walk_limit) (then_walk (level model (walk left) scope t (suc n)) capped) (faulted wide)

  abbrev pub menu : Scope → Term → Walk
  menu scope t = walk path_limit scope t 0
