-- The bare evaluation ends as the one that looks at types, where that one is not wrong.
use Rattle.txs_terms.proofs.under.Bare.{bare_is}
use Rattle.txs_laws.proofs.filling.bare_is_under.Goals as goal

pub returns : goal.returns
returns c = bare_is
