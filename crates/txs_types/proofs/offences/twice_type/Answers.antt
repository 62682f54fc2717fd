use Rattle.std.proofs.Common.{subst, ◌∙◌, List, ℕ}
use Rattle.std.specs.Prelude.{IfOk}
use Rattle.txs_typing.specs.inner.Told.{Finds}
use Rattle.txs_types.specs.inner.Among.{IsTwice}
use Rattle.txs_types.proofs.offences.twice_type.Goals as goal

pub returns : goal.returns
returns c = subst (λ (xs : List (List ℕ)). IfOk c.repeated.result (λ f. Finds f (IsTwice xs c.args.types.now))) (c.as_slice.ensures ∙ c.in_ok-before.ensures) c.repeated.ensures
