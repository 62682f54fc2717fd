use Rattle.txs_laws.proofs.spellings.Laws.{text_is_spelling}
use Rattle.txs_laws.proofs.reading.text_is_spelling.Goals as goal

pub returns : goal.returns
returns c = text_is_spelling
