use Rattle.txs_laws.proofs.rules.Moving.{moved_is_stepped}
use Rattle.txs_laws.proofs.typing.Proved.{facts}
use Rattle.txs_laws.proofs.rules.Meaning.{prefixes_offer}
use Rattle.txs_laws.proofs.sets.moved_is_stepped.Goals as goal

pub returns : goal.returns
returns c = moved_is_stepped facts prefixes_offer
