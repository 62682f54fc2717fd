use Rattle.txs_laws.proofs.spellings.Laws.{read_is_spelled}
use Rattle.txs_laws.proofs.reading.read_is_spelled.Goals as goal

pub returns : goal.returns
returns c = read_is_spelled
