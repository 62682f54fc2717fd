-- Short words for the examples: the channels that they are on have one Int each, where nothing else is said.
use Rattle.std.proofs.Common.{ℕ, List, [], ◌∷◌}
use Rattle.std.specs.Prelude.{pos}
use Rattle.txs_values.specs.Value.{Ty, integer, num, fits, value_size_limit, value_height_limit}
use Rattle.txs_terms.specs.Expr.{Expr, val, slot, equal, two, divide}
use Rattle.txs_terms.specs.Eval.{height_limit, node_limit}
use Rattle.txs_terms.specs.Action.{Action, Scope}
use Rattle.txs_terms.specs.Term.{Name, Position, give, take, Offer, Term, prefix, step}
use Rattle.txs_terms.specs.Rules.{Model}
use Rattle.txs_terms.specs.Menu.{Kind, Item, path_limit, walk_limit, item_limit, item_node_limit, channel_limit}
use Rattle.txs_terms.specs.Close.{set_limit, set_node_limit, menus_node_limit}

-- opens the limits for a proof that names it
unfoldable pub limits : Unit {0}
unfolding fits value_size_limit value_height_limit height_limit node_limit path_limit walk_limit item_limit item_node_limit channel_limit set_limit set_node_limit menus_node_limit
limits = tt

-- no functions, no processes and no automata
abbrev pub nothing : Model
nothing = record { defs = record { table = []; functions = []; constants = [] }; bodies = []; automata = [] }

-- with these bodies of processes
abbrev pub processes : List Term → Model
processes bodies = record { defs = record { table = []; functions = []; constants = [] }; bodies = bodies; automata = [] }

abbrev pub int : List Ty
int = integer ∷ []

-- two channels
abbrev pub pair : Scope
pair = int ∷ int ∷ []

abbrev pub number : ℕ → Expr
number n = val (num (pos n))

-- 1 / 0
abbrev pub broken_number : Expr
broken_number = two divide (number 1) (number 0)

-- 1 == 1
abbrev pub is_so : Expr
is_so = equal (number 1) (number 1)

-- 1 == 2
abbrev pub not_so : Expr
not_so = equal (number 1) (number 2)

-- 1 / 0 == 1
abbrev pub faulty : Expr
faulty = equal broken_number (number 1)

-- the conjunct that a slot has this value
abbrev pub is_number : ℕ → ℕ → Expr
is_number s n = equal (slot s) (number n)

abbrev pub x : Name
x = 120 ∷ []

abbrev pub y : Name
y = 121 ∷ []

abbrev pub offer : ℕ → List Position → Offer
offer c ps = record { channel = c; positions = ps }

-- c ! n >-> t
abbrev pub sends : ℕ → ℕ → Term → Term
sends c n t = prefix (offer c (give (number n) ∷ []) ∷ []) [] t

-- c ! e >-> t
abbrev pub sends_of : ℕ → Expr → Term → Term
sends_of c e t = prefix (offer c (give e ∷ []) ∷ []) [] t

-- c ? x >-> t
abbrev pub takes : ℕ → Term → Term
takes c t = prefix (offer c (take x ∷ []) ∷ []) [] t

-- ISTEP >-> t
abbrev pub quietly : Term → Term
quietly t = step [] t

abbrev pub item : Kind → List Expr → Term → Item
item k gs t = record { kind = k; guards = gs; rest = t }

-- the number n on the channel c
abbrev pub does : ℕ → ℕ → Action
does c n = record { channel = c; values = num (pos n) ∷ [] } ∷ []
