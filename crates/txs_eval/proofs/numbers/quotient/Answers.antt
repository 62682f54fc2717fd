use Rattle.std.proofs.Common.{rules, ◌≢◌, ℤ, pos, subst, sym, int_div, FitsSigned, SomeIff}
use Rattle.std.proofs.lemmas.Int.{to_z-of_z}
use Rattle.std.specs.Int.{w128, IsNonZero}
use mir.Val.{to_z, of_z}
use Rattle.txs_eval.specs.Answer.{Comes}
use Rattle.txs_eval.proofs.Ranges.{quotient_is, fitting}
use Rattle.txs_eval.proofs.numbers.quotient.Goals as goal

pub returns-else-y-eq0-clause-value : goal.returns-else-y-eq0-clause-value
returns-else-y-eq0-clause-value c =
    let x = c.args.x in
    let y = c.args.y in
    let o = c.checked_div.result in
    let n : y ≢ pos 0 = search rules in
    let m : IsNonZero w128 y = search rules in
    let found =
    subst (λ (a : ℤ). SomeIff o (IsNonZero w128 y × FitsSigned w128 (int_div a y)) (int_div a y)) (to_z-of_z w128 x c.ranges.x)
    (subst (λ (b : ℤ). SomeIff o (IsNonZero w128 b × FitsSigned w128 (int_div (to_z w128 (of_z w128 x)) b)) (int_div (to_z w128 (of_z w128 x)) b)) (to_z-of_z w128 y c.ranges.y) c.checked_div.ensures) in
    subst (Comes c.integer.result) (sym (quotient_is x y n)) (c.integer.ensures.value (int_div x y) (fitting y (int_div x y) o m found))
