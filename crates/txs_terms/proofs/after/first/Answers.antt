use Rattle.txs_terms.specs.View.{term_of}
use Rattle.txs_terms.proofs.SetLaws.{set_first}
use Rattle.txs_terms.proofs.after.first.Goals as goal

pub returns-clause-after : goal.returns-clause-after
returns-clause-after c model scope sync = rw c.in_ok-found.ensures (set_first model scope sync (term_of c.args.term.now) c.requires)
