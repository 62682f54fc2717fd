use Rattle.txs_laws.proofs.rules.Traces.{next_is_after}
use Rattle.txs_laws.proofs.typing.Proved.{facts}
use Rattle.txs_laws.proofs.rules.Meaning.{prefixes_offer}
use Rattle.txs_laws.proofs.sets.next_is_after.Goals as goal

pub returns : goal.returns
returns c = next_is_after facts prefixes_offer
