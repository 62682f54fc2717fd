-- A table whose types have defaults is one whose texts can be read.
use Rattle.std.proofs.Common.{List, [], ◌∷◌}
use Rattle.txs_values.specs.Value.{Ty, Table, field_types}
use Rattle.txs_values.specs.Default.{default_of}
use Rattle.txs_values.specs.Faults.{HasValue, HaveValues}
use Rattle.txs_terms.specs.Typed.{IsTable, IsType, AreTypes}
use Rattle.txs_laws.specs.Spellings.{TablesAreReadable}
use Rattle.txs_laws.proofs.typing.Defaults.{default_typed}

valued : (table : Table) → IsTable table → (t : Ty) → IsType table t → HasValue table t
valued table h t k = (default_of table t, default_typed table h t k)

all_valued : (table : Table) → IsTable table → (ts : List Ty) → AreTypes table ts → HaveValues table ts
all_valued table h [] k = tt
all_valued table h (t ∷ ts) k = (valued table h t k.0, all_valued table h ts k.1)

pub tables_are_readable : TablesAreReadable
tables_are_readable table t h n k =
    record { named = n; valued = valued table h t k; fields_valued = λ c j name fs p. all_valued table h (field_types fs) (h.known c _ p) }
