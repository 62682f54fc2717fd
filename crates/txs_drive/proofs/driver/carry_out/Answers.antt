use Rattle.std.proofs.Common.{◌∷◌, [], ◌∙◌, ap, refl, sym}
use Rattle.txs_session.specs.Ready.{state_of}
use Rattle.txs_drive.proofs.Calls.{dialled_same}
use Rattle.txs_drive.proofs.Courses.{carried_out_then, carried_out_line}
use Rattle.txs_drive.specs.declared.driver.Stop.TheVariants.{NoMemory}
use Rattle.txs_drive.proofs.Stops.{if_err, stopped_here, stopped_after}
use Rattle.txs_session.specs.Commands.{command_of}
use Rattle.txs_drive.specs.Course.{due_in}
use Rattle.txs_drive.proofs.Told.{carries_undue}
use Rattle.txs_drive.proofs.driver.carry_out.Goals as goal

pub steps-init : goal.steps-init
steps-init g c = record {
  went = carried_out_line c.args.model.now (state_of c.args.session.now) (state_of c.line.new.self) _ _ _ _ c.args.line.now c.requires.idle c.in_ok-line.ensures.carries;
  ready = record {
    kept = c.in_ok-line.ensures.kept;
    plain = c.in_ok-line.ensures.plain;
    dialled = dialled_same _ _ _ _ refl c.in_ok-line.ensures.ends c.requires.ready.dialled;
  };
  tracks = λ e. e ∙ sym c.in_ok-line.ensures.ends;
  busy = c.in_ok-line.ensures.busy;
  undue = carries_undue c.args.model.now (command_of c.args.model.now c.args.line.now) (state_of c.args.session.now) (state_of c.line.new.self) c.in_ok-line.ensures.carries;
  calm = refl;
}

pub steps-preserved : goal.steps-preserved
steps-preserved g c =
    let went = rw c.in-GoesOn.is at c.in_ok-step.ensures.carried_out in
    let ahead = rw c.in-GoesOn.is at c.in_ok-step.ensures.ahead in
    record {
      went = carried_out_then _ _ _ _ _ _ _ _ _ _ _ _ _ _ _ _ _ _ _ c.steps.invariant.went went;
      ready = c.in_ok-step.ensures.ready;
      tracks = λ e. c.in_ok-step.ensures.tracks (c.steps.invariant.tracks e);
      busy = ahead.0;
      undue = c.in_ok-step.ensures.undue;
      calm = c.in_ok-step.ensures.calm (λ e. cc) ∙ c.steps.invariant.calm;
    }

pub returns-in-Idle-clause-carried_out : goal.returns-in-Idle-clause-carried_out
returns-in-Idle-clause-carried_out g c = let went = rw c.in-Idle.is at c.in_ok-step.ensures.carried_out in carried_out_then _ _ _ _ _ _ _ _ _ _ _ _ _ _ _ _ _ _ _ c.steps.invariant.went went

pub returns-in-Quit-clause-carried_out : goal.returns-in-Quit-clause-carried_out
returns-in-Quit-clause-carried_out g c = let went = rw c.in-Quit.is at c.in_ok-step.ensures.carried_out in carried_out_then _ _ _ _ _ _ _ _ _ _ _ _ _ _ _ _ _ _ _ c.steps.invariant.went went

pub returns-in_err-line-clause-stopped : goal.returns-in_err-line-clause-stopped
returns-in_err-line-clause-stopped g c =
    if_err _ _ NoMemory c.from_residual.result c.from_residual.ensures.1 (λ y h. h)
    (stopped_here c.args.model.now (state_of c.args.session.now) _ _ _ _ _ (c.args.line.now ∷ []) (ap due_in c.requires.idle) c.line.ensures.ends)

pub returns-in_err-step-clause-stopped : goal.returns-in_err-step-clause-stopped
returns-in_err-step-clause-stopped g c =
    if_err _ _ c.in_err-step.field-0.0 c.from_residual-in_err-step.result c.from_residual-in_err-step.ensures.1 (λ y h. h)
    (stopped_after _ _ _ _ _ _ _ _ _ _ _ _ _ _ _ _ _ _ _ c.steps.invariant.went c.in_err-step.ensures.stopped)
