-- Points of a query: values for its slots.
use Rattle.std.specs.Prelude.{List}
use Rattle.txs_values.specs.Value.{Value, HaveTypes}
use Rattle.txs_terms.specs.Expr.{put_all, filled}
use Rattle.txs_terms.specs.Eval.{Hold}
use Rattle.txs_terms.specs.Typed.{Signatures, AreTypes, AreTyped, AreGuards}
use Rattle.txs_guard.specs.Query.{Query}

-- a value of its type for each slot
abbrev pub IsPoint : Query → List Value → Type 0
IsPoint q p = HaveTypes q.defs.table p q.slots

-- each conjunct gives True there
abbrev pub IsTrueAt : Query → List Value → Type 0
IsTrueAt q p = Hold q.defs (put_all (filled p) q.conjuncts)

-- the definitions and the conjuncts are well typed, over slots whose types are of the table
pub record IsTypedQuery (q : Query) : Type 0 where
  pub signatures : Signatures
  pub defs : AreTyped q.defs signatures
  pub slots : AreTypes q.defs.table q.slots
  pub conjuncts : AreGuards q.defs.table signatures q.slots q.conjuncts
