-- A text that spells a value spells one of the type that is read.
use Rattle.std.specs.Prelude.{Option, Some, None}
use Rattle.std.proofs.Common.{◌≡◌, ℕ, List, refl}
use Rattle.txs_values.specs.Value.{Ty, Value, Table, HasType}
use Rattle.txs_values.specs.Reading.{read_text}
use Rattle.txs_values.proofs.spellings.Directions.{spelled}

module _ (table : Table) where
  abbrev pub IfTyped : Ty → Option Value → Type 0
  IfTyped t None = Unit {0}
  IfTyped t (Some v) = HasType table v t

  pub read_typed : (t : Ty) (bs : List ℕ) → IfTyped t (read_text table t bs)
  read_typed t bs = by (read_text table t bs) refl
    where
      by : (o : Option Value) → read_text table t bs ≡ o → IfTyped t o
      by None e = tt
      by (Some v) e = (spelled table t bs v e).1.typed
