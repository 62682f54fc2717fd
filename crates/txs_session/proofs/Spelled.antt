-- The Int of a value that was read.
use Rattle.std.proofs.Common.{◌≡◌, ℤ, Option, Some, None, refl}
use Rattle.txs_values.specs.Value.{Value, num, bool, text, cons}
use Rattle.txs_session.specs.Commands.{number_of}

-- what is no Int has no number
pub number_of-none : (o : Option Value) → ((n : ℤ) → o ≡ Some (num n) → ⊥) → number_of o ≡ None
number_of-none None h = refl
number_of-none (Some (num n)) h = absurd (h n refl)
number_of-none (Some (bool b)) h = refl
number_of-none (Some (text bs)) h = refl
number_of-none (Some (cons c vs)) h = refl
