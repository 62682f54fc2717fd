-- Answers to small queries, and how guards are split into queries, by computation.
use Rattle.std.proofs.Common.{◌≡◌, ℕ, List, [], ◌∷◌, refl, true, false}
use Rattle.std.specs.Prelude.{◌-◌, ◌^◌, ℤ, pos, negsuc, None}
use Rattle.txs_values.specs.Value.{Ty, Value, num, bool, text, cons, no_value, and_value, integer, truth, string, named, Field, Constructor, Table, fits}
use Rattle.txs_terms.specs.Expr.{Expr, val, slot, one, is_made_by, negation, select, equal, either, two, differ, more_than, less_than, at_most, times, remainder}
use Rattle.txs_terms.specs.Eval.{Defs, height_limit, node_limit}
use Rattle.txs_guard.specs.Query.{Query, split}
use Rattle.txs_guard.specs.Candidates.{order_candidates, order_case}
use Rattle.txs_guard.specs.Answer.{solved, sat, unsat, undecided, cell_count, point_limit, cell_limit}

abbrev nothing : Defs
nothing = record { table = []; functions = []; constants = [] }

abbrev int : ℕ → Expr
int k = val (num (pos k))

-- ---- Ints

-- $1 < $2, $2 < 2
abbrev chain : Query
chain = record {
  defs = nothing;
  slots = integer ∷ integer ∷ [];
  conjuncts = two less_than (slot 0) (slot 1) ∷ two less_than (slot 1) (int 2) ∷ [];
}

abbrev pair : ℤ → ℤ → List Value
pair x y = num x ∷ num y ∷ []

-- seven candidates for each slot, -2 to 4: 49 cells
chain_cells : cell_count (order_candidates chain) ≡ 49
unfolding height_limit node_limit fits
chain_cells = refl

-- six points: those of -2 <= x < y < 2
chain_solved : solved chain ≡ sat (pair (negsuc 1) (negsuc 0) ∷ pair (negsuc 1) (pos 0) ∷ pair (negsuc 1) (pos 1) ∷ pair (negsuc 0) (pos 0) ∷ pair (negsuc 0) (pos 1) ∷ pair (pos 0) (pos 1) ∷ [])
unfolding height_limit node_limit fits point_limit cell_limit
chain_solved = refl

-- 0 < x, x < 10, x % 7 == 0
abbrev sevens : Query
sevens = record {
  defs = nothing;
  slots = integer ∷ [];
  conjuncts = two more_than (slot 0) (int 0) ∷ two less_than (slot 0) (int 10) ∷ equal (two remainder (slot 0) (int 7)) (int 0) ∷ [];
}

-- x % 7 == 0 is no order atom, so the bounds decide: 7 alone
sevens_solved : solved sevens ≡ sat ((num (pos 7) ∷ []) ∷ [])
unfolding height_limit node_limit fits point_limit cell_limit
sevens_solved = refl

-- 1 <= x, x <= 10, x % 7 == 0
abbrev closed_sevens : Query
closed_sevens = record {
  defs = nothing;
  slots = integer ∷ [];
  conjuncts = two at_most (int 1) (slot 0) ∷ two at_most (slot 0) (int 10) ∷ equal (two remainder (slot 0) (int 7)) (int 0) ∷ [];
}

-- the lower bound stands with its constant on the left: 7 alone again
closed_sevens_solved : solved closed_sevens ≡ sat ((num (pos 7) ∷ []) ∷ [])
unfolding height_limit node_limit fits point_limit cell_limit
closed_sevens_solved = refl

-- 0 < x, x < 1
abbrev gap : Query
gap = record { defs = nothing; slots = integer ∷ []; conjuncts = two more_than (slot 0) (int 0) ∷ two less_than (slot 0) (int 1) ∷ [] }

-- no Int lies between 0 and 1
gap_solved : solved gap ≡ unsat
unfolding height_limit node_limit fits point_limit cell_limit
gap_solved = refl

-- x * x == 2
abbrev square : Query
square = record { defs = nothing; slots = integer ∷ []; conjuncts = equal (two times (slot 0) (slot 0)) (int 2) ∷ [] }

-- no order atom, and no bounds
square_solved : solved square ≡ undecided
unfolding height_limit node_limit fits point_limit cell_limit
square_solved = refl

abbrev last : ℤ
last = pos (2 ^ 127 - 1)

-- x > k
abbrev above_last : ℤ → Query
above_last k = record { defs = nothing; slots = integer ∷ []; conjuncts = two more_than (slot 0) (val (num k)) ∷ [] }

-- x > 2^127 - 2 has the one Int above
last_solved : solved (above_last (pos (2 ^ 127 - 2))) ≡ sat ((num last ∷ []) ∷ [])
unfolding height_limit node_limit fits point_limit cell_limit
last_solved = refl

-- and x > 2^127 - 1 has none
past_solved : solved (above_last last) ≡ unsat
unfolding height_limit node_limit fits point_limit cell_limit
past_solved = refl

-- ---- Bools

-- $1 \/ $2, not $1
abbrev truths : Query
truths = record { defs = nothing; slots = truth ∷ truth ∷ []; conjuncts = either (slot 0) (slot 1) ∷ one negation (slot 0) ∷ [] }

-- False and True
truths_solved : solved truths ≡ sat ((bool false ∷ bool true ∷ []) ∷ [])
unfolding height_limit node_limit fits point_limit cell_limit
truths_solved = refl

-- $1, not $1
abbrev untrue : Query
untrue = record { defs = nothing; slots = truth ∷ []; conjuncts = slot 0 ∷ one negation (slot 0) ∷ [] }

-- neither Bool is True and not
untrue_solved : solved untrue ≡ unsat
unfolding height_limit node_limit fits point_limit cell_limit
untrue_solved = refl

-- ---- Strings

abbrev letter_a : Value
letter_a = text (97 ∷ [])

-- $1 == $2, $1 <> "a"
abbrev others : Query
others = record { defs = nothing; slots = string ∷ string ∷ []; conjuncts = equal (slot 0) (slot 1) ∷ two differ (slot 0) (val letter_a) ∷ [] }

abbrev twice : Value → List Value
twice v = v ∷ v ∷ []

-- the candidates are "a" and the fresh texts "t1" and "t2"; the points have a fresh text twice
others_solved : solved others ≡ sat (twice (text (116 ∷ 49 ∷ [])) ∷ twice (text (116 ∷ 50 ∷ [])) ∷ [])
unfolding height_limit node_limit fits point_limit cell_limit
others_solved = refl

-- $1 == "t1", $1 <> $2
abbrev fresh : Query
fresh = record {
  defs = nothing;
  slots = string ∷ string ∷ [];
  conjuncts = equal (slot 0) (val (text (116 ∷ 49 ∷ []))) ∷ two differ (slot 0) (slot 1) ∷ [];
}

-- "t1" is a constant, so the fresh texts are "t2" and "t3"
fresh_solved : solved fresh ≡ sat ((text (116 ∷ 49 ∷ []) ∷ text (116 ∷ 50 ∷ []) ∷ []) ∷ (text (116 ∷ 49 ∷ []) ∷ text (116 ∷ 51 ∷ []) ∷ []) ∷ [])
unfolding height_limit node_limit fits point_limit cell_limit
fresh_solved = refl

-- ---- types of a table

abbrev field : Ty → Field
field t = record { name = []; ty = t }

abbrev plain : Constructor
plain = record { name = []; fields = [] }

-- the type Colour ::= Red | Green | Blue
abbrev colours : Defs
colours = record { table = record { name = []; constructors = plain ∷ plain ∷ plain ∷ [] } ∷ []; functions = []; constants = [] }

abbrev colour : ℕ → Value
colour c = cons c no_value

-- x <> Red
abbrev not_red : Query
not_red = record { defs = colours; slots = named 0 ∷ []; conjuncts = two differ (slot 0) (val (colour 0)) ∷ [] }

-- Green and Blue
not_red_solved : solved not_red ≡ sat ((colour 1 ∷ []) ∷ (colour 2 ∷ []) ∷ [])
unfolding height_limit node_limit fits point_limit cell_limit
not_red_solved = refl

-- isRed(x) == isGreen(x)
abbrev neither : Query
neither = record { defs = colours; slots = named 0 ∷ []; conjuncts = equal (one (is_made_by 0) (slot 0)) (one (is_made_by 1) (slot 0)) ∷ [] }

-- the first case does not apply
neither_order : order_case neither ≡ None
unfolding height_limit node_limit
neither_order = refl

-- the second lists the three colours: Blue alone
neither_solved : solved neither ≡ sat ((colour 2 ∷ []) ∷ [])
unfolding height_limit node_limit fits point_limit cell_limit
neither_solved = refl

-- the type Items ::= Nil | More { head :: Int; rest :: Items }
abbrev items : Table
items = record { name = []; constructors = plain ∷ record { name = []; fields = field integer ∷ field (named 0) ∷ [] } ∷ [] } ∷ []

abbrev empty : Value
empty = cons 0 no_value

-- head(x) > 3 and rest(x) == Nil, over x :: Items
abbrev single : Query
single = record {
  defs = record { table = items; functions = []; constants = [] };
  slots = named 0 ∷ [];
  conjuncts = two more_than (one (select 1 0) (slot 0)) (int 3) ∷ equal (one (select 1 1) (slot 0)) (val empty) ∷ [];
}

-- the one item 4
single_solved : solved single ≡ sat ((cons 1 (and_value (num (pos 4)) (and_value empty no_value)) ∷ []) ∷ [])
unfolding height_limit node_limit fits point_limit cell_limit
single_solved = refl

-- ---- guards

-- $3 < $1, $2, $1 < 3: the first and the third share a slot, so they are one query, whose slots stand for $3 and $1; the second is another
grouped :
    split nothing (two less_than (slot 2) (slot 0) ∷ slot 1 ∷ two less_than (slot 0) (int 3) ∷ []) (integer ∷ truth ∷ integer ∷ [])
    ≡ record { query = record { defs = nothing; slots = integer ∷ integer ∷ []; conjuncts = two less_than (slot 0) (slot 1) ∷ two less_than (slot 1) (int 3) ∷ [] }; slots = 2 ∷ 0 ∷ [] }
    ∷ record { query = record { defs = nothing; slots = truth ∷ []; conjuncts = slot 0 ∷ [] }; slots = 1 ∷ [] }
    ∷ []
grouped = refl

-- $1 < $2, $3 < $4, $2 < $3: the third ties the others, so there is one query, in the order of the guards
tied :
    split nothing (two less_than (slot 0) (slot 1) ∷ two less_than (slot 2) (slot 3) ∷ two less_than (slot 1) (slot 2) ∷ []) (integer ∷ integer ∷ integer ∷ integer ∷ [])
    ≡ record {
      query = record {
        defs = nothing;
        slots = integer ∷ integer ∷ integer ∷ integer ∷ [];
        conjuncts = two less_than (slot 0) (slot 1) ∷ two less_than (slot 2) (slot 3) ∷ two less_than (slot 1) (slot 2) ∷ [];
      };
      slots = 0 ∷ 1 ∷ 2 ∷ 3 ∷ [];
    }
    ∷ []
tied = refl
