-- A number that the program holds is one of Int, and the other way round.
use Rattle.std.proofs.Common.{◌≡◌, ◌^◌, ℤ, true, FitsSigned}
use Rattle.std.proofs.lemmas.Bool.Decides.{Decides-ltb}
use Rattle.std.specs.Int.{w128}
use Rattle.std.specs.Int.Signed.{mag}
use Rattle.txs_values.specs.Value.{fits}

pub fits_true : (z : ℤ) → FitsSigned w128 z → fits z ≡ true
unfolding fits
fits_true z h = (Decides-ltb (mag z) (2 ^ 127)).1 h.sfits

pub true_fits : (z : ℤ) → fits z ≡ true → FitsSigned w128 z
unfolding fits
true_fits z h = record { sfits = (Decides-ltb (mag z) (2 ^ 127)).0 h }
