-- What reading a text means.
use Rattle.std.specs.Prelude.{◌≡◌, ◌↔◌, ℕ, List, Some}
use Rattle.txs_values.specs.Value.{Ty, Value, Table, HasType}
use Rattle.txs_values.specs.Text.{text_of}
use Rattle.txs_values.specs.Faults.{IsReadable}
use Rattle.txs_terms.specs.Typed.{IsTable, IsType}
use Rattle.txs_values.specs.Reading.{read_text}
use Rattle.txs_values.specs.Spelled.{IsSpelling, IsNamed, IsAllowed}

-- a text is read as the value that it spells, if that is an allowed one, and as nothing else
abbrev pub ReadIsSpelled : Type 0
ReadIsSpelled =
    (table : Table) (t : Ty) (bs : List ℕ) (v : Value) → IsNamed table
    → (read_text table t bs ≡ Some v) ↔ (IsSpelling table t v bs × IsAllowed table t v)

-- the canonical text of a value is one of its spellings
abbrev pub TextIsSpelling : Type 0
TextIsSpelling = (table : Table) (t : Ty) (v : Value) → HasType table v t → IsSpelling table t v (text_of table v)

-- so what is written is read as what it was
abbrev pub WrittenIsRead : Type 0
WrittenIsRead = (table : Table) (t : Ty) (v : Value) → IsNamed table → IsAllowed table t v → read_text table t (text_of table v) ≡ Some v

-- a text spells at most one value of a type, whatever its numbers, its size and its height
abbrev pub SpelledIsOne : Type 0
SpelledIsOne =
    (table : Table) (t : Ty) (bs : List ℕ) (v w : Value) → IsNamed table → IsSpelling table t v bs → IsSpelling table t w bs → v ≡ w

-- if each type has a default, each field a type of the table, and no two constructors one name, texts of any type of it can be read
abbrev pub TablesAreReadable : Type 0
TablesAreReadable = (table : Table) (t : Ty) → IsTable table → IsNamed table → IsType table t → IsReadable table t
