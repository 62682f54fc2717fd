use Rattle.std.proofs.Common.{FitsSigned, rules}
use Rattle.std.specs.Int.{w128}
use Rattle.std.proofs.lemmas.Int.{to_z-of_z}
use Rattle.txs_session.specs.Ready.{state_of}
use Rattle.txs_session.proofs.Sessions.{heeds_number, heeds_quiet}
use Rattle.txs_session.proofs.session.Session.after_wait.Goals as goal

pub returns-in_ok-judge-in-Number-clause-heeds : goal.returns-in_ok-judge-in-Number-clause-heeds
returns-in_ok-judge-in-Number-clause-heeds c m k =
    let fits : FitsSigned w128 c.in-Number.value = search rules in
    rw c.in-Number.is (heeds_number m c.in-Number.value (state_of c.args.self.now).run (state_of c.args.self.now) _ (simp to_z-of_z at (c.in_ok-judge-in-Number.ensures.judges m k)))

pub returns-in_ok-judge-in-Quiet-clause-heeds : goal.returns-in_ok-judge-in-Quiet-clause-heeds
returns-in_ok-judge-in-Quiet-clause-heeds c m k = rw c.in-Quiet.is (heeds_quiet m (state_of c.args.self.now).run (state_of c.args.self.now) _ (c.in_ok-judge-in-Quiet.ensures.judges m k))
