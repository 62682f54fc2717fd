use Rattle.txs_session.specs.Allowed.{definitions, scope, sync}
use Rattle.txs_session.proofs.run.Run.begin.Goals as goal

pub returns-clause-kept : goal.returns-clause-kept
returns-clause-kept c = λ _. rw c.new.ensures.items (c.in_ok-set.ensures.after definitions scope sync)
