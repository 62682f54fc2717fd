-- What typing gives to answers: points have cells, Sat answers are points, and Unsat answers are right.
use Rattle.std.proofs.Common.{◌≡◌, Bool, true, false, cond, leb, inl, inr, List, [], ◌∷◌, refl, sym, subst}
use Rattle.std.specs.Prelude.{Option, Some, None}
use Rattle.txs_values.specs.Value.{Value}
use Rattle.txs_terms.specs.Rules.{In}
use Rattle.txs_guard.specs.Query.{Query}
use Rattle.txs_guard.specs.Atom.{atoms_of_all, all_order}
use Rattle.txs_guard.specs.Candidates.{cells, order_case}
use Rattle.txs_guard.specs.Bounds.{bounded_case}
use Rattle.txs_guard.specs.Answer.{sat, is_true_at, true_cells, answer_from, by_cases, cell_count, cell_limit}
use Rattle.txs_guard.specs.Point.{IsPoint, IsTypedQuery}
use Rattle.txs_laws.specs.Answers.{SatIsPoint, UnsatIsNone}
use Rattle.txs_laws.specs.Cells.{PointsHaveCells}
use Rattle.txs_laws.proofs.typing.Facts.{Facts}
use Rattle.txs_laws.proofs.solver.Order.{point_has_cell}
use Rattle.txs_laws.proofs.solver.Right.{sat_from, order_case_is, unsat_is_none_by}
use Rattle.txs_laws.proofs.solver.Constants.{constants_fit}
use Rattle.txs_laws.proofs.solver.Typed.{cells_are_points, defaults_typed}
use Rattle.txs_laws.proofs.solver.Ranged.{bounded_are_points}

pub points_have_cells : Facts → PointsHaveCells
points_have_cells facts q t o p h = point_has_cell q o (constants_fit facts q t) p h

pub unsat_is_none : Facts → UnsatIsNone
unsat_is_none facts q t e p h g = unsat_is_none_by q (constants_fit facts q t) e p h g

-- ---- Sat

cell_step : (q : Query) (p c : List Value) (ps : List (List Value)) (b : Bool) → In p (cond b (c ∷ true_cells q ps) (true_cells q ps))
    → (In p (true_cells q ps) → In p ps) → In p (c ∷ ps)
cell_step q p c ps true (inl e) go = inl e
cell_step q p c ps true (inr h) go = inr (go h)
cell_step q p c ps false h go = inr (go h)

true_cell_In : (q : Query) (p : List Value) (ps : List (List Value)) → In p (true_cells q ps) → In p ps
true_cell_In q p [] h = absurd h
true_cell_In q p (c ∷ ps) h = cell_step q p c ps (is_true_at q c) h (true_cell_In q p ps)

-- a point of a Sat answer is a cell of one of the cases
sat_case : (q : Query) (o : Option (List (List Value))) (cases : List (Option (List (List Value)))) (ps : List (List Value)) (p : List Value)
    → by_cases q (o ∷ cases) ≡ sat ps → In p ps → ((vss : List (List Value)) → o ≡ Some vss → In p (cells vss) → IsPoint q p)
    → (by_cases q cases ≡ sat ps → IsPoint q p) → IsPoint q p
sat_case q None cases ps p e h f go = go e
sat_case q (Some vss) cases ps p e h f go = by_limit (leb (cell_count vss) cell_limit) e
  where
    by_limit : (b : Bool) → cond b (answer_from (true_cells q (cells vss))) (by_cases q cases) ≡ sat ps → IsPoint q p
    by_limit true e = f vss refl (true_cell_In q p (cells vss) (sat_from (true_cells q (cells vss)) ps p e h))
    by_limit false e = go e

none_after : (q : Query) (ps : List (List Value)) (p : List Value) → by_cases q [] ≡ sat ps → IsPoint q p
none_after q ps p e = absurd (undecided_sat e)
  where
    undecided_sat : by_cases q [] ≡ sat ps → ⊥
    undecided_sat e = cc

order_cell : Facts → (q : Query) → IsTypedQuery q → (vss : List (List Value)) → order_case q ≡ Some vss → (p : List Value) → In p (cells vss) → IsPoint q p
order_cell facts q t vss e p h =
    let o = order_case_is q vss (all_order q (atoms_of_all q.conjuncts)) refl e in
    cells_are_points q (defaults_typed facts q.defs.table t.defs.table) p (subst (λ (z : List (List Value)). In p (cells z)) (sym o.1) h)

pub sat_is_point : Facts → SatIsPoint
sat_is_point facts q ps t e p h =
    sat_case q (order_case q) (bounded_case q ∷ []) ps p e h (λ vss x i. order_cell facts q t vss x p i)
    (λ d. sat_case q (bounded_case q) [] ps p d h (λ vss x i. bounded_are_points facts q t vss x p i) (none_after q ps p))
