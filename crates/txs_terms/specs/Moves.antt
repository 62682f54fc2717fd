-- The terms that plain terms lead to, as lists.
use Rattle.std.specs.Prelude.{ℕ, Bool, true, false, cond, ◌||◌, eqb, List, [], ◌∷◌, ◌++◌}
use Rattle.std.specs.Ordering.{int_eq}
use Rattle.txs_values.specs.Value.{Value, num}
use Rattle.txs_terms.specs.Expr.{Expr, val}
use Rattle.txs_terms.specs.Action.{Action}
use Rattle.txs_terms.specs.Term.{Position, give, take, Offer, Term, prefix, choice, fill}

abbrev pub is_number : Expr → Value → Bool
is_number (val (num x)) (num y) = int_eq x y
is_number e v = false

-- whether the position has the value
abbrev pub admits : Position → Value → Bool
admits (take x) v = true
admits (give e) v = is_number e v

-- after one value at one position
abbrev pub met_by : List Position → List Value → Term → List Term
met_by (p ∷ []) (v ∷ []) t = cond (admits p v) (fill (v ∷ []) t ∷ []) []
met_by _ _ t = []

-- after one part that meets one offer
abbrev pub offers_met : List Offer → Action → Term → List Term
offers_met (o ∷ []) (p ∷ []) t = cond (eqb o.channel p.channel) (met_by o.positions p.values t) []
offers_met _ _ t = []

-- the terms that the action leads to
abbrev pub moves_of : Term → Action → List Term
moves_of (prefix os gs t) a = offers_met os a t
moves_of (choice a b) x = moves_of a x ++ moves_of b x
moves_of _ a = []

abbrev pub all_moves : List Term → Action → List Term
all_moves [] a = []
all_moves (t ∷ ts) a = moves_of t a ++ all_moves ts a

-- whether the one offer is on the channel
abbrev pub is_offered : ℕ → List Offer → Bool
is_offered c (o ∷ []) = eqb o.channel c
is_offered c _ = false

-- whether the term offers something on the channel
abbrev pub speaks : ℕ → Term → Bool
speaks c (prefix os gs t) = is_offered c os
speaks c (choice a b) = speaks c a || speaks c b
speaks c _ = false

-- those that offer nothing on the channel
abbrev pub quiet_ones : ℕ → List Term → List Term
quiet_ones c [] = []
quiet_ones c (t ∷ ts) = cond (speaks c t) (quiet_ones c ts) (t ∷ quiet_ones c ts)
