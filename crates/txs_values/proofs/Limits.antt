-- The limits of a value as numbers.
use Rattle.std.proofs.Common.{◌≡◌, refl}
use Rattle.txs_values.specs.Value.{value_size_limit, value_height_limit}

pub size_limit_is : value_size_limit ≡ 16384
unfolding value_size_limit
size_limit_is = refl

pub height_limit_is : value_height_limit ≡ 1000
unfolding value_height_limit
height_limit_is = refl
