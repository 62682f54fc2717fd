-- What the candidates of the slots stand for.
use Rattle.std.specs.Prelude.{◌≡◌, ℕ, true, List, [], ◌∷◌}
use Rattle.txs_values.specs.Value.{Value}
use Rattle.txs_terms.specs.Expr.{Expr, put, filled}
use Rattle.txs_terms.specs.Eval.{Defs, run}
use Rattle.txs_terms.specs.Rules.{In}
use Rattle.txs_guard.specs.Query.{Query}
use Rattle.txs_guard.specs.Atom.{atoms_of, atoms_of_all, all_order}
use Rattle.txs_guard.specs.Candidates.{cells, order_candidates}
use Rattle.txs_guard.specs.Point.{IsPoint, IsTypedQuery}

-- the expression ends alike at both points, begun at any depth after any number of nodes
abbrev pub EndsAlike : Defs → List Value → List Value → Expr → Type 0
EndsAlike defs p q e = (left n : ℕ) → run defs left (put (filled p) e) n ≡ run defs left (put (filled q) e) n

abbrev pub EndAlike : Defs → List Value → List Value → List Expr → Type 0
EndAlike defs p q [] = Unit {0}
EndAlike defs p q (e ∷ es) = EndsAlike defs p q e × EndAlike defs p q es

-- a conjunct ends alike if its atoms do
abbrev pub AtomsDecide : Type 0
AtomsDecide = (defs : Defs) (p q : List Value) (e : Expr) → EndAlike defs p q (atoms_of e) → EndsAlike defs p q e

-- every point has a cell at which every order atom ends alike
abbrev pub PointsHaveCells : Type 0
PointsHaveCells =
    (q : Query) → IsTypedQuery q → all_order q (atoms_of_all q.conjuncts) ≡ true → (p : List Value) → IsPoint q p
    → (c : List Value) × In c (cells (order_candidates q)) × EndAlike q.defs c p (atoms_of_all q.conjuncts)
