-- The atoms of a query, and which of them are order atoms.
use Rattle.std.specs.Prelude.{Bool, true, false, ◌&&◌, ◌||◌, cond, List, [], ◌∷◌, ◌++◌, Option, Some, None}
use Rattle.txs_values.specs.Value.{Value, integer, truth, bool}
use Rattle.txs_terms.specs.Expr.{Binary, Expr, has_slot, negation, is_made_by, select, differ, less_than, at_most, more_than, at_least, val, slot, local, constant, one, two, equal, both, either, choose, apply, build, let_in}
use Rattle.txs_terms.specs.Eval.{Run, eval, got, bad}
use Rattle.txs_guard.specs.Query.{Query}
use Rattle.txs_guard.specs.Place.{spot_of, spot_type, has_spot, is_type, is_plain, same_types}

-- the largest parts that are not made by `/\`, `\/`, `not`, a Bool IF, `True` or `False`
abbrev pub atoms_of : Expr → List Expr
atoms_of (both a b) = atoms_of a ++ atoms_of b
atoms_of (either a b) = atoms_of a ++ atoms_of b
atoms_of (one negation a) = atoms_of a
atoms_of (choose c a b) = atoms_of c ++ (atoms_of a ++ atoms_of b)
atoms_of (val (bool b)) = []
atoms_of (val v) = val v ∷ []
atoms_of (slot i) = slot i ∷ []
atoms_of (local i) = local i ∷ []
atoms_of (constant k) = constant k ∷ []
atoms_of (one o a) = one o a ∷ []
atoms_of (two o a b) = two o a b ∷ []
atoms_of (equal a b) = equal a b ∷ []
atoms_of (apply k es) = apply k es ∷ []
atoms_of (build c es) = build c es ∷ []
atoms_of (let_in x a b) = let_in x a b ∷ []

-- the atoms of conjuncts, in order
abbrev pub atoms_of_all : List Expr → List Expr
atoms_of_all [] = []
atoms_of_all (e ∷ es) = atoms_of e ++ atoms_of_all es

-- the value of a run that ended with one
abbrev pub value_in : Run → Option Value
value_in (got v n) = Some v
value_in (bad f) = None

-- whether there is a value
abbrev pub has_value : Option Value → Bool
has_value None = false
has_value (Some v) = true

-- `<`, `<=`, `>` and `>=`
abbrev pub is_order_operator : Binary → Bool
is_order_operator less_than = true
is_order_operator at_most = true
is_order_operator more_than = true
is_order_operator at_least = true
is_order_operator _ = false

-- `<>`
abbrev pub is_differ : Binary → Bool
is_differ differ = true
is_differ _ = false

module _ (q : Query) where
  -- the value of an expression without slots that evaluates without fault
  abbrev pub fixed_value : Expr → Option Value
  fixed_value e = cond (has_slot e) None (value_in (eval q.defs e))

  -- a place against a place of its type Int, Bool or String, or against a constant
  abbrev pub is_equality : Expr → Expr → Bool
  is_equality a b =
      has_spot (spot_of a) && (has_spot (spot_of b) && (is_plain (spot_type q (spot_of a)) && same_types (spot_type q (spot_of a)) (spot_type q (spot_of b))))
      || (has_spot (spot_of a) && has_value (fixed_value b) || has_value (fixed_value a) && has_spot (spot_of b))

  -- an Int place, or a constant
  abbrev pub is_integer_side : Expr → Bool
  is_integer_side a = is_type integer (spot_type q (spot_of a)) || has_value (fixed_value a)

  -- Int places and constants, one place at least
  abbrev pub is_comparison : Expr → Expr → Bool
  is_comparison a b = is_integer_side a && (is_integer_side b && (has_spot (spot_of a) || has_spot (spot_of b)))

  -- whether an atom is an order atom
  abbrev pub is_order_atom : Expr → Bool
  is_order_atom (slot i) = is_type truth (spot_type q (spot_of (slot i)))
  is_order_atom (one (is_made_by c) a) = has_spot (spot_of a)
  is_order_atom (one (select c j) a) = is_type truth (spot_type q (spot_of (one (select c j) a)))
  is_order_atom (equal a b) = is_equality a b
  is_order_atom (two o a b) = cond (is_order_operator o) (is_comparison a b) (cond (is_differ o) (is_equality a b) false)
  is_order_atom _ = false

  -- whether all of them are
  abbrev pub all_order : List Expr → Bool
  all_order [] = true
  all_order (e ∷ es) = is_order_atom e && all_order es
