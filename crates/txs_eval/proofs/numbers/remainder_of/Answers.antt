use Rattle.std.proofs.Common.{rules, ◌≢◌, ℤ, pos, subst, sym, int_rem, Some, SomeIff, FitsSigned}
use Rattle.std.proofs.lemmas.Int.{rem_is}
use Rattle.std.specs.Int.{w128}
use Rattle.txs_eval.specs.Answer.{Comes}
use Rattle.txs_eval.proofs.Ranges.{remainder_is}
use Rattle.txs_eval.proofs.numbers.remainder_of.Goals as goal

pub returns-then-y-eqminus1-clause-value : goal.returns-then-y-eqminus1-clause-value
returns-then-y-eqminus1-clause-value c =
    let n : c.args.y ≢ pos 0 = search rules in
    let z : ℤ = int_rem c.args.x c.args.y in
    let h : SomeIff (Some (pos 0)) (FitsSigned w128 z) z = search rules in
    subst (Comes c.integer.result) (sym (remainder_is c.args.x c.args.y n)) (c.integer.ensures.value z h)

pub returns-else-y-eqminus1-clause-value : goal.returns-else-y-eqminus1-clause-value
returns-else-y-eqminus1-clause-value c =
    let n : c.args.y ≢ pos 0 = search rules in
    let z : ℤ = int_rem c.args.x c.args.y in
    let h : FitsSigned w128 z = search rules in
    subst (Comes c.integer-else-y-eqminus1.result) (sym (remainder_is c.args.x c.args.y n)) (c.integer-else-y-eqminus1.ensures.value z (h, rem_is w128 c.args.x c.args.y c.ranges.x c.ranges.y))
