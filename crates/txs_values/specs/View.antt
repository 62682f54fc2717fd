-- The values and types that the program's types stand for.
use Rattle.std.specs.Prelude.{List, map}
use Rattle.txs_values.specs.declared.ty.Ty as rust_ty
use Rattle.txs_values.specs.declared.ty.Ty.TheVariants as ty
use Rattle.txs_values.specs.declared.value.Value as rust
use Rattle.txs_values.specs.declared.value.Value.TheVariants as value
use Rattle.txs_values.specs.Value.{Ty, integer, truth, string, named, Value, num, bool, text, cons}

-- the fields of a constructor are seen as values already
abbrev pub value_of : rust.Value → Value
value_of (value.Int x) = num x
value_of (value.Bool b) = bool b
value_of (value.Text t) = text t
value_of (value.Cons id vs) = cons id vs

abbrev pub values_of : List rust.Value → List Value
values_of vs = map value_of vs

abbrev pub ty_of : rust_ty.Ty → Ty
ty_of ty.Int = integer
ty_of ty.Bool = truth
ty_of ty.Text = string
ty_of (ty.Named k) = named k
