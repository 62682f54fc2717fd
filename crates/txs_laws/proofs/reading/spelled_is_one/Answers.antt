use Rattle.txs_values.proofs.spellings.Ones.{spelled_is_one}
use Rattle.txs_laws.proofs.reading.spelled_is_one.Goals as goal

pub returns : goal.returns
returns c = spelled_is_one
