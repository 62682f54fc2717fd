-- Terms: behaviours in which values stand for the variables that are known.
use Rattle.std.specs.Prelude.{ℕ, zero, suc, ◌+◌, max, List, [], ◌∷◌, map, length}
use Rattle.txs_values.specs.Value.{Value, Ty}
use Rattle.txs_terms.specs.Expr.{Expr, Puts, put, put_all, filled, expr_nodes, exprs_nodes}
use Rattle.txs_terms.specs.Action.{Channels, in_order}

-- the name of a variable, a label that counts in the equality of terms
abbrev pub Name : Type 0
Name = List ℕ

-- `! e` or `? x`
pub data Position : Type 0 where
  give : Expr → Position
  take : Name → Position

pub record Offer : Type 0 where
  pub channel : ℕ
  pub positions : List Position

-- A prefix binds one slot for each position of its offers in order, an enable one for each name that it
-- accepts, and a LET one for each binding, each seeing those before it. A HIDE binds the next channels.
-- An automaton stands at a state.
-- The gates of a parallel are a set: they ascend.
pub data Term : Type 0 where
  stop : Term
  exits : List Expr → Term
  prefix : List Offer → List Expr → Term → Term
  step : List Expr → Term → Term
  guard : List Expr → Term → Term
  choice : Term → Term → Term
  par : Channels → Term → Term → Term
  enable : Term → List Name → Term → Term
  disable : Term → Term → Term
  interrupt : Term → Term → Term
  hide : List (List Ty) → Term → Term
  call : ℕ → Channels → List Expr → Term
  bind : List Name → List Expr → Term → Term
  machine : ℕ → Channels → List Expr → ℕ → Term
  hit : Term
  miss : Term

abbrev pub put_position : Puts → Position → Position
put_position f (give e) = give (put f e)
put_position f (take x) = take x

abbrev pub put_offer : Puts → Offer → Offer
put_offer f o = record { channel = o.channel; positions = map (put_position f) o.positions }

-- the term with these put for its slots
abbrev pub put_term : Puts → Term → Term
put_term f stop = stop
put_term f (exits es) = exits (put_all f es)
put_term f (prefix os gs t) = prefix (map (put_offer f) os) (put_all f gs) (put_term f t)
put_term f (step gs t) = step (put_all f gs) (put_term f t)
put_term f (guard gs t) = guard (put_all f gs) (put_term f t)
put_term f (choice a b) = choice (put_term f a) (put_term f b)
put_term f (par gates a b) = par gates (put_term f a) (put_term f b)
put_term f (enable a xs b) = enable (put_term f a) xs (put_term f b)
put_term f (disable a b) = disable (put_term f a) (put_term f b)
put_term f (interrupt a b) = interrupt (put_term f a) (put_term f b)
put_term f (hide hs t) = hide hs (put_term f t)
put_term f (call p cs es) = call p cs (put_all f es)
put_term f (bind xs es t) = bind xs (put_all f es) (put_term f t)
put_term f (machine k cs es q) = machine k cs (put_all f es) q
put_term f hit = hit
put_term f miss = miss

abbrev pub fill : List Value → Term → Term
fill vs t = put_term (filled vs) t

-- ---- calls

-- the actual channels for the first numbers; those after them come to stand from `depth` on
abbrev pub channel_at : Channels → ℕ → ℕ → ℕ
channel_at [] depth c = c + depth
channel_at (x ∷ xs) depth zero = x
channel_at (x ∷ xs) depth (suc c) = channel_at xs depth c

abbrev pub offer_at : (ℕ → ℕ) → Offer → Offer
offer_at f o = record { channel = f o.channel; positions = o.positions }

abbrev pub with_channels : (ℕ → ℕ) → Term → Term
with_channels f stop = stop
with_channels f (exits es) = exits es
with_channels f (prefix os gs t) = prefix (map (offer_at f) os) gs (with_channels f t)
with_channels f (step gs t) = step gs (with_channels f t)
with_channels f (guard gs t) = guard gs (with_channels f t)
with_channels f (choice a b) = choice (with_channels f a) (with_channels f b)
with_channels f (par gates a b) = par (in_order (map f gates)) (with_channels f a) (with_channels f b)
with_channels f (enable a xs b) = enable (with_channels f a) xs (with_channels f b)
with_channels f (disable a b) = disable (with_channels f a) (with_channels f b)
with_channels f (interrupt a b) = interrupt (with_channels f a) (with_channels f b)
with_channels f (hide hs t) = hide hs (with_channels f t)
with_channels f (call p cs es) = call p (map f cs) es
with_channels f (bind xs es t) = bind xs es (with_channels f t)
with_channels f (machine k cs es q) = machine k (map f cs) es q
with_channels f hit = hit
with_channels f miss = miss

-- a body at this depth, with the actual channels and values
abbrev pub instance : Channels → List Value → ℕ → Term → Term
instance cs vs depth body = fill vs (with_channels (channel_at cs depth) body)

-- ---- automata

-- a transition, by offers or by ISTEP: its guard, the updates of all values, and the target
pub data Move : Type 0 where
  offering : List Offer → List Expr → List Expr → ℕ → Move
  silent : List Expr → List Expr → ℕ → Move

-- how many channels it has, and the transitions of each state
pub record Automaton : Type 0 where
  pub formals : Channels
  pub states : List (List Move)

-- a transition as a prefix that leads back to the automaton
abbrev pub move_term : ℕ → Channels → Move → Term
move_term k formals (offering os gs es q) = prefix os gs (machine k formals es q)
move_term k formals (silent gs es q) = step gs (machine k formals es q)

-- ---- nodes

abbrev pub positions_nodes : List Position → ℕ
positions_nodes [] = 0
positions_nodes (give e ∷ ps) = expr_nodes e + positions_nodes ps
positions_nodes (take x ∷ ps) = 1 + positions_nodes ps

abbrev pub offers_nodes : List Offer → ℕ
offers_nodes [] = 0
offers_nodes (o ∷ os) = 1 + positions_nodes o.positions + offers_nodes os

abbrev pub term_nodes : Term → ℕ
term_nodes stop = 1
term_nodes (exits es) = 1 + exprs_nodes es
term_nodes (prefix os gs t) = 1 + offers_nodes os + exprs_nodes gs + term_nodes t
term_nodes (step gs t) = 1 + exprs_nodes gs + term_nodes t
term_nodes (guard gs t) = 1 + exprs_nodes gs + term_nodes t
term_nodes (choice a b) = 1 + term_nodes a + term_nodes b
term_nodes (par gates a b) = 1 + term_nodes a + term_nodes b
term_nodes (enable a xs b) = 1 + term_nodes a + term_nodes b
term_nodes (disable a b) = 1 + term_nodes a + term_nodes b
term_nodes (interrupt a b) = 1 + term_nodes a + term_nodes b
term_nodes (hide hs t) = 1 + term_nodes t
term_nodes (call p cs es) = 1 + exprs_nodes es
term_nodes (bind xs es t) = 1 + exprs_nodes es + term_nodes t
term_nodes (machine k cs es q) = 1 + exprs_nodes es
term_nodes hit = 1
term_nodes miss = 1

-- how many channels a term binds within one another
abbrev pub channels_bound : Term → ℕ
channels_bound stop = 0
channels_bound (exits es) = 0
channels_bound (prefix os gs t) = channels_bound t
channels_bound (step gs t) = channels_bound t
channels_bound (guard gs t) = channels_bound t
channels_bound (choice a b) = max (channels_bound a) (channels_bound b)
channels_bound (par gates a b) = max (channels_bound a) (channels_bound b)
channels_bound (enable a xs b) = max (channels_bound a) (channels_bound b)
channels_bound (disable a b) = max (channels_bound a) (channels_bound b)
channels_bound (interrupt a b) = max (channels_bound a) (channels_bound b)
channels_bound (hide hs t) = length hs + channels_bound t
channels_bound (call p cs es) = 0
channels_bound (bind xs es t) = channels_bound t
channels_bound (machine k cs es q) = 0
channels_bound hit = 0
channels_bound miss = 0
