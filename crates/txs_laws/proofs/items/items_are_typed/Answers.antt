use Rattle.txs_laws.proofs.typing.Items.{items_are_typed}
use Rattle.txs_laws.proofs.items.items_are_typed.Goals as goal

pub returns : goal.returns
returns c = items_are_typed
