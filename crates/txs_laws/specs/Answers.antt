-- What an answer to a query means.
use Rattle.std.specs.Prelude.{◌≡◌, List}
use Rattle.txs_values.specs.Value.{Value}
use Rattle.txs_terms.specs.Rules.{In}
use Rattle.txs_guard.specs.Query.{Query}
use Rattle.txs_guard.specs.Answer.{solved, sat, unsat}
use Rattle.txs_guard.specs.Point.{IsPoint, IsTrueAt, IsTypedQuery}

-- every point of a Sat answer makes the query True
abbrev pub SatIsTrue : Type 0
SatIsTrue = (q : Query) (ps : List (List Value)) → solved q ≡ sat ps → (p : List Value) → In p ps → IsTrueAt q p

-- every point of a Sat answer has values of the slots' types
abbrev pub SatIsPoint : Type 0
SatIsPoint = (q : Query) (ps : List (List Value)) → IsTypedQuery q → solved q ≡ sat ps → (p : List Value) → In p ps → IsPoint q p

-- after Unsat no values of the slots' types make the query True
abbrev pub UnsatIsNone : Type 0
UnsatIsNone = (q : Query) → IsTypedQuery q → solved q ≡ unsat → (p : List Value) → IsPoint q p → IsTrueAt q p → ⊥
