use Rattle.txs_laws.proofs.rules.Traces.{first_is_after}
use Rattle.txs_laws.proofs.typing.Proved.{facts}
use Rattle.txs_laws.proofs.rules.Meaning.{prefixes_offer}
use Rattle.txs_laws.proofs.sets.first_is_after.Goals as goal

pub returns : goal.returns
returns c = first_is_after facts prefixes_offer
