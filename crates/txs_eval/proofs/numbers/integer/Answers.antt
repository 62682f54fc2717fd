use Rattle.std.proofs.Common.{FitsSigned, SomeIff, subst, sym, ap, ◌∙◌}
use Rattle.std.specs.Int.{w128}
use Rattle.std.proofs.lemmas.Int.{to_z-of_z}
use Rattle.txs_values.specs.Value.{num}
use Rattle.txs_terms.specs.Eval.{fine}
use Rattle.txs_eval.proofs.Ranges.{within, past}
use Rattle.txs_eval.proofs.numbers.integer.Goals as goal

pub returns-in-Some-clause-value : goal.returns-in-Some-clause-value
returns-in-Some-clause-value c = λ x h.
    let k = subst (λ o. SomeIff o (FitsSigned w128 x) x) c.in-Some.is h in
    let e = to_z-of_z w128 c.in-Some.number (subst (FitsSigned w128) (sym k.1) k.0) in
    within x k.0 ∙ ap fine (sym (ap num (e ∙ k.1)))

pub returns-in-None-clause-value : goal.returns-in-None-clause-value
returns-in-None-clause-value c = λ x h. past x (subst (λ o. SomeIff o (FitsSigned w128 x) x) c.in-None.is h)
