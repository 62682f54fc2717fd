use Rattle.txs_laws.proofs.rules.Quiet.{quiet_is_silent}
use Rattle.txs_laws.proofs.typing.Proved.{facts}
use Rattle.txs_laws.proofs.rules.Meaning.{prefixes_offer}
use Rattle.txs_laws.proofs.sets.quiet_is_silent.Goals as goal

pub returns : goal.returns
returns c = quiet_is_silent facts prefixes_offer
