-- The candidates of each slot, if each has finitely many values, or is an Int that is bounded on both sides.
use Rattle.std.specs.Prelude.{ℕ, suc, ℤ, pos, negsuc, ◌+ℤ◌, ◌-ℤ◌, int_lt, Bool, true, false, ◌&&◌, not, cond, eqb, List, [], ◌∷◌, ◌++◌, map, Option, Some, None}
use Rattle.txs_terms.specs.Action.{from}
use Rattle.txs_values.specs.Value.{Ty, Value, Table, place_of, integer, truth, string, named, num, bool, cons, no_value}
use Rattle.txs_terms.specs.Expr.{Binary, Expr, less_than, at_most, more_than, at_least, slot, two, equal}
use Rattle.txs_guard.specs.Query.{Query}
use Rattle.txs_guard.specs.Atom.{fixed_value}
use Rattle.txs_guard.specs.Mentioned.{flat}
use Rattle.txs_guard.specs.Candidates.{count_made, fields_of, run_up, least}

-- at least an Int, or at most
pub record Bound : Type 0 where
  pub of_slot : ℕ
  pub is_low : Bool
  pub value : ℤ

-- the Int of a value
abbrev pub number_in : Option Value → Option ℤ
number_in (Some (num x)) = Some x
number_in _ = None

-- at least this
abbrev pub low : ℕ → ℤ → List Bound
low i x = record { of_slot = i; is_low = true; value = x } ∷ []

-- at most this
abbrev pub high : ℕ → ℤ → List Bound
high i x = record { of_slot = i; is_low = false; value = x } ∷ []

-- the bound of slot i that this operator sets if x is its right side
abbrev pub operator_bounds : Binary → ℕ → ℤ → List Bound
operator_bounds less_than i x = high i (x -ℤ pos 1)
operator_bounds at_most i x = high i x
operator_bounds more_than i x = low i (x +ℤ pos 1)
operator_bounds at_least i x = low i x
operator_bounds _ i x = []

-- the operator that says the same with its sides exchanged
abbrev pub turned : Binary → Binary
turned less_than = more_than
turned at_most = at_least
turned more_than = less_than
turned at_least = at_most
turned o = o

-- what is made of an Int, if there is one
abbrev pub with_number : Option ℤ → (ℤ → List Bound) → List Bound
with_number None go = []
with_number (Some x) go = go x

module _ (q : Query) where
  -- the bounds of a slot by an expression without slots
  abbrev pub left_bounds : Expr → Expr → (ℕ → ℤ → List Bound) → List Bound
  left_bounds (slot i) b go = with_number (number_in (fixed_value q b)) (go i)
  left_bounds _ b go = []

  -- the bounds that a conjunct is, either way round
  abbrev pub bounds_of : Expr → List Bound
  bounds_of (equal a b) = left_bounds a b (λ i x. low i x ++ high i x) ++ left_bounds b a (λ i x. low i x ++ high i x)
  bounds_of (two o a b) = left_bounds a b (operator_bounds o) ++ left_bounds b a (operator_bounds (turned o))
  bounds_of _ = []

-- the lower bounds of a slot, or the upper ones
abbrev pub bounds_for : ℕ → Bool → List Bound → List ℤ
bounds_for i low [] = []
bounds_for i low (b ∷ bs) = cond (eqb b.of_slot i && (cond low b.is_low (not b.is_low))) (b.value ∷ bounds_for i low bs) (bounds_for i low bs)

-- the greatest of these
abbrev pub greatest : ℤ → List ℤ → ℤ
greatest x [] = x
greatest x (y ∷ ys) = cond (int_lt x y) (greatest y ys) (greatest x ys)

-- a number and as many after it
abbrev pub up_by : ℤ → ℤ → List ℤ
up_by x (pos n) = run_up x n
up_by x (negsuc n) = []

-- the numbers from one to another
abbrev pub from_to : ℤ → ℤ → List ℤ
from_to x y = up_by x (y -ℤ x)

-- the Ints between the greatest lower and the least upper bound, if there are both
abbrev pub between : List ℤ → List ℤ → Option (List Value)
between [] hs = None
between (l ∷ ls) [] = None
between (l ∷ ls) (h ∷ hs) = Some (map num (from_to (greatest l ls) (least h hs)))

-- the constructors of a type, if none has fields
abbrev pub plain_made : Table → ℕ → List ℕ → Option (List Value)
plain_made table k [] = Some []
plain_made table k (c ∷ cs) =
    elim (plain_made table k cs) [ None ↦ None | Some vs ↦ elim (fields_of (place_of table c) k) [ None ↦ Some vs | Some fs ↦ elim fs [ [] ↦ Some (cons c no_value ∷ vs) | f ∷ gs ↦ None ] ] ]

module _ (table : Table) (bs : List Bound) where
  -- all values of a slot, if they are bounded so
  abbrev pub every_value : ℕ → Ty → Option (List Value)
  every_value i integer = between (bounds_for i true bs) (bounds_for i false bs)
  every_value i truth = Some (bool false ∷ bool true ∷ [])
  every_value i string = None
  every_value i (named k) = plain_made table k (from 0 (count_made table))

  -- all values of each slot, if each is bounded so
  abbrev pub every_slot : ℕ → List Ty → Option (List (List Value))
  every_slot i [] = Some []
  every_slot i (t ∷ ts) =
      elim (every_value i t) [ None ↦ None | Some vs ↦ elim (every_slot (suc i) ts) [ None ↦ None | Some vss ↦ Some (vs ∷ vss) ] ]

-- all values of each slot of a query, if each is bounded so
abbrev pub bounded_case : Query → Option (List (List Value))
bounded_case q = every_slot q.defs.table (flat (bounds_of q) q.conjuncts) 0 q.slots
