use Rattle.txs_terms.specs.Sets.{ArePlain}
use Rattle.txs_terms.specs.View.{terms_of}
use Rattle.txs_cases.proofs.model.after.Given as goal

abbrev pub invariant-loop-step : goal.invariant-loop-step
invariant-loop-step l = ArePlain (terms_of l.set)
