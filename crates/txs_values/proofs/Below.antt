-- A field is smaller than the value that it stands in.
use Rattle.std.proofs.Common.{◌≡◌, ℕ, zero, suc, ◌<◌, ◌≤◌, List, [], ◌∷◌, length, drop, get_or, ap, arith}
use Rattle.txs_values.specs.declared.value.Value as rust
use Rattle.txs_values.specs.declared.value.Value.TheVariants as variant
use Rattle.txs_values.specs.Value.{Values, packed, size, sizes}
use Rattle.txs_values.specs.View.{value_of, values_of}

-- a field is no larger than all together
one_le-all : (fields : List rust.Value) (i : ℕ) (v : rust.Value) → i < length fields → v ≡ get_or fields i v → size (value_of v) ≤ sizes (packed (values_of fields))
one_le-all [] i v l e = absurd (omega (arith, l))
one_le-all (f ∷ fs) zero v l e = omega (arith, ap (λ (x : rust.Value). size (value_of x)) e)
one_le-all (f ∷ fs) (suc i) v l e = omega (arith, one_le-all fs i v (omega (arith, l)) e)

pub below : (value : rust.Value) (id : ℕ) (kept : Values) (fields : List rust.Value) (i : ℕ) (v : rust.Value) → value ≡ variant.Cons id kept → packed (values_of fields) ≡ kept
    → i < length fields → v ≡ get_or fields i v → size (value_of v) < size (value_of value)
below value id kept fields i v e k l g =
    omega (arith, one_le-all fields i v l g, ap sizes k, ap (λ (x : rust.Value). size (value_of x)) e)

others_le : (fields : List rust.Value) → sizes (packed (values_of (drop 1 fields))) ≤ sizes (packed (values_of fields))
others_le [] = omega arith
others_le (f ∷ fs) = omega arith

-- one of the fields behind the first
pub below-other : (value : rust.Value) (id : ℕ) (kept : Values) (fields others : List rust.Value) (i : ℕ) (v : rust.Value) → value ≡ variant.Cons id kept → packed (values_of fields) ≡ kept
    → others ≡ drop 1 fields → i < length others → v ≡ get_or others i v → size (value_of v) < size (value_of value)
below-other value id kept fields others i v e k o l g =
    omega (arith, one_le-all others i v l g, ap (λ (xs : List rust.Value). sizes (packed (values_of xs))) o, others_le fields, ap sizes k, ap (λ (x : rust.Value). size (value_of x)) e)
