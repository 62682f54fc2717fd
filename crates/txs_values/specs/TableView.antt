-- The table that the program's definitions of types stand for.
use Rattle.std.specs.Prelude.{◌≡◌, ◌≤◌, ℕ, zero, suc, ◌+◌, List, [], ◌∷◌, length, map}
use Rattle.txs_values.specs.View.{ty_of}
use Rattle.txs_values.specs.Value.{Field, Constructor, TypeDef, Table}
use Rattle.txs_values.specs.declared.table.FieldDef as rust_field
use Rattle.txs_values.specs.declared.table.ConsDef as rust_cons
use Rattle.txs_values.specs.declared.table.TypeDef as rust_type

abbrev pub field_of : rust_field.FieldDef → Field
field_of f = record { name = f.name; ty = ty_of f.ty }

abbrev pub cons_of : rust_cons.ConsDef → Constructor
cons_of c = record { name = c.name; fields = map field_of c.fields }

abbrev pub conses_of : List rust_cons.ConsDef → List Constructor
conses_of cs = map cons_of cs

abbrev pub type_of : rust_type.TypeDef → TypeDef
type_of t = record { name = t.name; constructors = conses_of t.cons }

abbrev pub table_of : List rust_type.TypeDef → Table
table_of ts = map type_of ts

-- how many constructors the types before type k have
abbrev pub first_of : Table → ℕ → ℕ
first_of [] k = 0
first_of (t ∷ ts) zero = 0
first_of (t ∷ ts) (suc k) = length t.constructors + first_of ts k

-- how many constructors the table has
abbrev pub constructor_count : Table → ℕ
constructor_count [] = 0
constructor_count (t ∷ ts) = length t.constructors + constructor_count ts

-- so many constructors can have a number
abbrev pub constructor_limit : ℕ
constructor_limit = 4294967296

-- the count is the table's, and within the limit
pub record IsCounted (count : ℕ) (table : Table) : Type 0 where
  pub counted : count ≡ constructor_count table
  pub within : count ≤ constructor_limit
