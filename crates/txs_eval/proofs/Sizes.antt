-- A value against the limits of size and height.
use Rattle.std.proofs.Common.{◌≡◌, Bool, ◌≤◌, true, false, ltb, cond, refl, subst}
use Rattle.std.proofs.lemmas.Bool.{le-ltb, ltb-false}
use Rattle.txs_values.specs.Value.{Value, size, height, value_size_limit, value_height_limit}
use Rattle.txs_values.proofs.Limits.{size_limit_is, height_limit_is}
use Rattle.txs_terms.specs.Eval.{sized, fine, broken, big}

pub within_limits : (v : Value) → (size v ≤ 16384) × (height v ≤ 1000) → sized v ≡ fine v
within_limits v h =
    let p : ltb value_size_limit (size v) ≡ false = rw size_limit_is (le-ltb 16384 (size v) h.0) in
    let q : ltb value_height_limit (height v) ≡ false = rw height_limit_is (le-ltb 1000 (height v) h.1) in
    rw (p, q) refl

pub past_limits : (v : Value) → ((size v ≤ 16384) × (height v ≤ 1000) → ⊥) → sized v ≡ broken big
past_limits v h = by_tests (ltb value_size_limit (size v)) (ltb value_height_limit (height v)) refl refl
  where
    by_tests : (p q : Bool) → ltb value_size_limit (size v) ≡ p → ltb value_height_limit (height v) ≡ q
        → cond p (broken big) (cond q (broken big) (fine v)) ≡ broken big
    by_tests true q e f = refl
    by_tests false true e f = refl
    by_tests false false e f = absurd (h (
      subst (λ n. size v ≤ n) size_limit_is (ltb-false value_size_limit (size v) e),
      subst (λ n. height v ≤ n) height_limit_is (ltb-false value_height_limit (height v) f),
    ))
