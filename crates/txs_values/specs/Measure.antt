-- The greatest number that a measure answers, and what is kept of a constructor's fields.
use Rattle.std.specs.Prelude.{◌≡◌, ℕ, min}
use Rattle.txs_values.specs.Value.{Values, sizes, heights}

abbrev pub u64_max : ℕ
u64_max = 18446744073709551615

-- the size and the height of these values together
pub record IsKept (size height : ℕ) (vs : Values) : Type 0 where
  pub sized : size ≡ min (sizes vs) u64_max
  pub raised : height ≡ min (heights vs) u64_max
