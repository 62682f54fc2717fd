-- A filled expression evaluates as the expression under those values.
use Rattle.txs_terms.proofs.under.Node.{filled_is_under}
use Rattle.txs_laws.proofs.filling.filled_is_under.Goals as goal

pub returns : goal.returns
returns c = filled_is_under
