-- The plain answer to a query: its cells in lexicographic order, and those at which it is True.
use Rattle.std.specs.Prelude.{ℕ, ◌*◌, Bool, true, false, cond, leb, List, [], ◌∷◌, length, take, Option, Some, None}
use Rattle.txs_values.specs.Value.{Value}
use Rattle.txs_terms.specs.Expr.{put_all, filled}
use Rattle.txs_terms.specs.Menu.{Verdict, judge, holds, fails, faults}
use Rattle.txs_guard.specs.Query.{Query}
use Rattle.txs_guard.specs.Candidates.{cells, order_case}
use Rattle.txs_guard.specs.Bounds.{bounded_case}

-- the points are lists of values of the slots
pub data Answer : Type 0 where
  sat : List (List Value) → Answer
  unsat : Answer
  undecided : Answer

-- whether all conjuncts gave True
abbrev pub is_holds : Verdict → Bool
is_holds holds = true
is_holds fails = false
is_holds faults = false

-- whether the query is True at a point
abbrev pub is_true_at : Query → List Value → Bool
is_true_at q p = is_holds (judge q.defs (put_all (filled p) q.conjuncts))

-- the cells at which it is True, in order
abbrev pub true_cells : Query → List (List Value) → List (List Value)
true_cells q [] = []
true_cells q (p ∷ ps) = cond (is_true_at q p) (p ∷ true_cells q ps) (true_cells q ps)

-- how many points are kept
unfoldable pub point_limit : ℕ
point_limit = 64

-- how many cells a case may have
unfoldable pub cell_limit : ℕ
cell_limit = 262144

-- the first 64 of them, or Unsat if there is none
abbrev pub answer_from : List (List Value) → Answer
answer_from [] = unsat
answer_from (p ∷ ps) = sat (take point_limit (p ∷ ps))

-- how many cells there are
abbrev pub cell_count : List (List Value) → ℕ
cell_count [] = 1
cell_count (vs ∷ vss) = length vs * cell_count vss

-- the first case that applies with few enough cells; a case is the candidates of each slot
abbrev pub by_cases : Query → List (Option (List (List Value))) → Answer
by_cases q [] = undecided
by_cases q (None ∷ cases) = by_cases q cases
by_cases q (Some vss ∷ cases) =
    cond (leb (cell_count vss) cell_limit) (answer_from (true_cells q (cells vss))) (by_cases q cases)

-- the plain answer to a query: by order atoms, else by bounds
abbrev pub solved : Query → Answer
solved q = by_cases q (order_case q ∷ bounded_case q ∷ [])
