use Rattle.txs_laws.proofs.rules.Closing.{closed_is_reached}
use Rattle.txs_laws.proofs.typing.Proved.{facts}
use Rattle.txs_laws.proofs.rules.Meaning.{prefixes_offer}
use Rattle.txs_laws.proofs.sets.closed_is_reached.Goals as goal

pub returns : goal.returns
returns c = closed_is_reached facts prefixes_offer
