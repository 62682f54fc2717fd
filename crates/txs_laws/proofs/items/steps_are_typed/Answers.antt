use Rattle.txs_laws.proofs.typing.Steps.{steps_are_typed}
use Rattle.txs_laws.proofs.items.steps_are_typed.Goals as goal

pub returns : goal.returns
returns c = steps_are_typed
