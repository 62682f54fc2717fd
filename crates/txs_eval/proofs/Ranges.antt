-- A number that was worked out is one of Int, or past its range.
use Rattle.std.proofs.Common.{◌≡◌, ◌≢◌, zero, suc, ℤ, pos, negsuc, Bool, true, false, cond, refl, ap, FitsSigned, Option, Some, None, SomeIff, int_div, int_rem}
use Rattle.std.specs.Int.{w128, IsNonZero}
use Rattle.txs_values.specs.Value.{fits, num}
use Rattle.txs_values.proofs.Ranges.{fits_true, true_fits}
use Rattle.txs_terms.specs.Eval.{in_range, divided, fine, broken, range}
use Rattle.txs_terms.specs.Expr.{divide, remainder}

pub within : (z : ℤ) → FitsSigned w128 z → in_range z ≡ fine (num z)
within z h = ap (λ (t : Bool). cond t (fine (num z)) (broken range)) (fits_true z h)

pub past : (z : ℤ) → ¬ FitsSigned w128 z → in_range z ≡ broken range
past z h = by (fits z) refl
  where
    by : (t : Bool) → fits z ≡ t → in_range z ≡ broken range
    by true e = absurd (h (true_fits z e))
    by false e = ap (λ (t : Bool). cond t (fine (num z)) (broken range)) e

-- ---- division

pub quotient_is : (x y : ℤ) → y ≢ pos 0 → divided divide x y ≡ in_range (int_div x y)
quotient_is x (pos zero) h = absurd (h refl)
quotient_is x (pos (suc n)) h = refl
quotient_is x (negsuc n) h = refl

pub remainder_is : (x y : ℤ) → y ≢ pos 0 → divided remainder x y ≡ in_range (int_rem x y)
remainder_is x (pos zero) h = absurd (h refl)
remainder_is x (pos (suc n)) h = refl
remainder_is x (negsuc n) h = refl

-- the quotient by another number than 0, where it fits
pub fitting : (y z : ℤ) (o : Option ℤ) → IsNonZero w128 y → SomeIff o (IsNonZero w128 y × FitsSigned w128 z) z → SomeIff o (FitsSigned w128 z) z
fitting y z None n h = λ f. h (n, f)
fitting y z (Some q) n h = (h.0.1, h.1)
