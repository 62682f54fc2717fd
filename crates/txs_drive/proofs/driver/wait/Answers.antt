use Rattle.txs_session.specs.Ready.{state_of}
use Rattle.txs_drive.proofs.Calls.{called_wait, heeded_rank, dialled_same}
use Rattle.txs_drive.specs.Course.{waits}
use Rattle.txs_drive.proofs.Stops.{on_err, stopped_unheeded}
use Rattle.txs_drive.proofs.Told.{heeds_undue}
use Rattle.txs_drive.proofs.driver.wait.Goals as goal

pub returns-clause-called : goal.returns-clause-called
returns-clause-called g c =
    called_wait c.args.model.now (state_of c.args.session.now) (state_of c.after_wait.new.self) _ _ _ _ _ _ c.wait_once-answer.result c.requires.due
    (c.in_ok-after_wait.ensures.heeds c.args.model.now c.requires.ready.kept) c.wait_once-answer.ensures.called c.wait_once-answer.ensures.hang_ups

pub returns-clause-busy : goal.returns-clause-busy
returns-clause-busy g c = (c.in_ok-after_wait.ensures.busy, rw c.requires.due (heeded_rank c.args.model.now c.wait_once-answer.result _ _ _ (c.in_ok-after_wait.ensures.heeds c.args.model.now c.requires.ready.kept)))

pub returns-clause-ready : goal.returns-clause-ready
returns-clause-ready g c = record {
  kept = c.in_ok-after_wait.ensures.kept c.args.model.now c.requires.ready.kept;
  plain = c.in_ok-after_wait.ensures.plain;
  dialled = dialled_same _ _ _ _ c.wait_once-answer.ensures.dialled c.in_ok-after_wait.ensures.ends c.requires.ready.dialled;
}

pub returns-in_err-after_wait-clause-stopped : goal.returns-in_err-after_wait-clause-stopped
returns-in_err-after_wait-clause-stopped g c k =
    let w = c.wait_once-answer.ensures.called in
    on_err c.from_residual.result (stopped_unheeded c.args.model.now (state_of c.args.session.now) _ k _ _ _ _ _ _ (waits w.heard) c.requires.due w.called
    c.wait_once-answer.ensures.hang_ups w.later c.after_wait.ensures.ends)

pub returns-clause-undue : goal.returns-clause-undue
returns-clause-undue g c =
    heeds_undue c.args.model.now c.wait_once-answer.result (state_of c.args.session.now).run (state_of c.args.session.now) (state_of c.after_wait.new.self) (c.in_ok-after_wait.ensures.heeds c.args.model.now c.requires.ready.kept)
