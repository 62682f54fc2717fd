-- Each field is smaller than the fields together.
use Rattle.std.specs.Prelude.{◌≤◌, List, [], ◌∷◌}
use Rattle.std.proofs.Common.{arith}
use Rattle.txs_values.specs.Value.{size, sizes, packed}
use Rattle.txs_values.specs.View.{value_of, values_of}
use Rattle.txs_values.specs.declared.value.Value as rust
use Rattle.txs_values.specs.declared.value.Value.TheVariants.{Int, Bool, Text, Cons}
use Rattle.txs_values.specs.declared.value.Fields.TheInside.{Inside}
use Rattle.txs_values.specs.declared.value.Fields.TheDeep.{deep-Value, deep-Fields}
use denote.Param.Weighed.{most}

pub deep_le-size : (v : rust.Value) → deep-Value v ≤ size (value_of v)
deep_le-size (Int x) = omega arith
deep_le-size (Bool b) = omega arith
deep_le-size (Text t) = omega arith
deep_le-size (Cons id vs) = omega arith

pub most_le-sizes : (vs : List rust.Value) → most deep-Value vs ≤ sizes (packed (values_of vs))
most_le-sizes [] = omega arith
most_le-sizes (v ∷ vs) = omega (arith, most_le-sizes vs, deep_le-size v)

pub deep_le-sizes : (a : Inside) → deep-Fields a ≤ sizes (packed (values_of a.items))
deep_le-sizes a = omega (arith, most_le-sizes a.items)
