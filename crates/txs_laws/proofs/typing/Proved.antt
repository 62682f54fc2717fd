-- The facts of typing, each proved.
use Rattle.txs_laws.proofs.typing.Facts.{Facts}
use Rattle.txs_terms.proofs.typing.Runs
use Rattle.txs_laws.proofs.typing.Defaults
use Rattle.txs_laws.proofs.typing.Terms
use Rattle.txs_laws.proofs.typing.Items
use Rattle.txs_laws.proofs.typing.Steps

pub facts : Facts
facts = record {
  run_typed = Runs.run_typed;
  default_typed = Defaults.default_typed;
  fill_typed = Terms.fill_typed;
  instance_typed = Terms.instance_typed;
  values_typed = Runs.values_typed;
  bound_typed = Runs.bound_typed;
  walk_typed = Items.walk_typed;
  step_typed = Steps.step_typed;
}
