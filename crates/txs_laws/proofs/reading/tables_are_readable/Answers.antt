use Rattle.txs_laws.proofs.spellings.Tables.{tables_are_readable}
use Rattle.txs_laws.proofs.reading.tables_are_readable.Goals as goal

pub returns : goal.returns
returns c = tables_are_readable
