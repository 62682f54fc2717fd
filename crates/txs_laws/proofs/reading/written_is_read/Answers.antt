use Rattle.txs_laws.proofs.spellings.Laws.{written_is_read}
use Rattle.txs_laws.proofs.reading.written_is_read.Goals as goal

pub returns : goal.returns
returns c = written_is_read
