use Rattle.std.proofs.Common.{◌≡◌, [], refl, arith, rules}
use Rattle.txs_session.specs.Lines.{line_of}
use Rattle.txs_session.specs.Ready.{state_of}
use Rattle.txs_drive.proofs.Calls.{dialled_same}
use Rattle.txs_drive.proofs.Courses.{carried_out_say, carried_out_hang_up, carried_out_idle, carried_out_quit}
use Rattle.txs_drive.specs.declared.driver.Stop.TheVariants.{Sink, NoMemory}
use Rattle.txs_drive.proofs.Stops.{if_err, stopped_here, stopped_torn}
use Rattle.txs_drive.proofs.Told.{next_undue}
use Rattle.txs_drive.proofs.driver.step.Goals as goal

pub dial-requires-clause-ready : goal.dial-requires-clause-ready
dial-requires-clause-ready g c = record {
  kept = c.in-Dial.ensures.kept c.args.model.now c.requires.ready.kept;
  plain = c.in-Dial.ensures.plain c.requires.ready.plain;
  dialled = dialled_same _ _ _ _ refl c.in-Dial.ensures.ends c.requires.ready.dialled;
}

pub wait-requires-clause-ready : goal.wait-requires-clause-ready
wait-requires-clause-ready g c = record {
  kept = c.in-Wait.ensures.kept c.args.model.now c.requires.ready.kept;
  plain = c.in-Wait.ensures.plain c.requires.ready.plain;
  dialled = dialled_same _ _ _ _ refl c.in-Wait.ensures.ends c.requires.ready.dialled;
}

pub send-requires-clause-ready : goal.send-requires-clause-ready
send-requires-clause-ready g c = record {
  kept = c.in-Send.ensures.kept c.args.model.now c.requires.ready.kept;
  plain = c.in-Send.ensures.plain c.requires.ready.plain;
  dialled = dialled_same _ _ _ _ refl c.in-Send.ensures.ends c.requires.ready.dialled;
}

pub returns-in_ok-say-in-Say-clause-carried_out : goal.returns-in_ok-say-in-Say-clause-carried_out
returns-in_ok-say-in-Say-clause-carried_out g c =
    let n = c.in-Say.ensures.next in
    let line : c.as_str.result.now ≡ line_of c.args.model.now c.in-Say.note = search rules in
    carried_out_say c.args.model.now (state_of c.args.session.now) (state_of c.next.new.self) _ _ _ _ _ c.in-Say.note n.0 c.as_str.result.now n.1 n.2 line c.in_ok-say-in-Say.ensures.ok

pub returns-in_ok-say-in-Say-clause-ready : goal.returns-in_ok-say-in-Say-clause-ready
returns-in_ok-say-in-Say-clause-ready g c = record {
  kept = c.in-Say.ensures.kept c.args.model.now c.requires.ready.kept;
  plain = c.in-Say.ensures.plain c.requires.ready.plain;
  dialled = dialled_same _ _ _ _ refl c.in-Say.ensures.ends c.requires.ready.dialled;
}

pub returns-in-HangUp-clause-carried_out : goal.returns-in-HangUp-clause-carried_out
returns-in-HangUp-clause-carried_out g c =
    let n = c.in-HangUp.ensures.next in
    carried_out_hang_up c.args.model.now (state_of c.args.session.now) (state_of c.next.new.self) _ _ _ _ _ _ _ n.0 n.1 n.2 c.hang_up.ensures.calls c.hang_up.ensures.hang_ups c.hang_up.ensures.faults

pub returns-in-HangUp-clause-ready : goal.returns-in-HangUp-clause-ready
returns-in-HangUp-clause-ready g c = record {
  kept = c.in-HangUp.ensures.kept c.args.model.now c.requires.ready.kept;
  plain = c.in-HangUp.ensures.plain c.requires.ready.plain;
  dialled = λ lt. absurd (omega (arith, lt, c.in-HangUp.ensures.ends));
}

pub returns-in-Idle-clause-carried_out : goal.returns-in-Idle-clause-carried_out
returns-in-Idle-clause-carried_out g c =
    let n = c.in-Idle.ensures.next in
    carried_out_idle c.args.model.now (state_of c.args.session.now) (state_of c.next.new.self) _ _ _ _ n.0 n.1 n.2

pub returns-in-Idle-clause-ready : goal.returns-in-Idle-clause-ready
returns-in-Idle-clause-ready g c = record {
  kept = c.in-Idle.ensures.kept c.args.model.now c.requires.ready.kept;
  plain = c.in-Idle.ensures.plain c.requires.ready.plain;
  dialled = dialled_same _ _ _ _ refl c.in-Idle.ensures.ends c.requires.ready.dialled;
}

pub returns-in-Quit-clause-carried_out : goal.returns-in-Quit-clause-carried_out
returns-in-Quit-clause-carried_out g c =
    let n = c.in-Quit.ensures.next in
    carried_out_quit c.args.model.now (state_of c.args.session.now) (state_of c.next.new.self) _ _ _ _ n.0 n.1 n.2

pub returns-in-Quit-clause-ready : goal.returns-in-Quit-clause-ready
returns-in-Quit-clause-ready g c = record {
  kept = c.in-Quit.ensures.kept c.args.model.now c.requires.ready.kept;
  plain = c.in-Quit.ensures.plain c.requires.ready.plain;
  dialled = dialled_same _ _ _ _ refl c.in-Quit.ensures.ends c.requires.ready.dialled;
}

pub returns-in_err-line-in-Say-clause-stopped : goal.returns-in_err-line-in-Say-clause-stopped
returns-in_err-line-in-Say-clause-stopped g c =
    if_err _ _ NoMemory c.from_residual.result c.from_residual.ensures.1 (λ y h. h)
    (stopped_here c.args.model.now (state_of c.args.session.now) _ _ _ _ _ [] c.requires.undue c.in-Say.ensures.ends)

pub returns-in_err-say-in-Say-clause-stopped : goal.returns-in_err-say-in-Say-clause-stopped
returns-in_err-say-in-Say-clause-stopped g c =
    let n = c.in-Say.ensures.next in
    let line : c.as_str.result.now ≡ line_of c.args.model.now c.in-Say.note = search rules in
    if_err _ _ Sink c.from_residual-in_err-say-in-Say.result c.from_residual-in_err-say-in-Say.ensures.1 (λ y h. h)
    (stopped_torn c.args.model.now (state_of c.args.session.now) _ _ _ _ _ _ c.in-Say.note n.0 c.as_str.result.now n.1 line c.in_err-say-in-Say.ensures.torn c.in-Say.ensures.ends)

pub returns-in_ok-say-in-Say-clause-undue : goal.returns-in_ok-say-in-Say-clause-undue
returns-in_ok-say-in-Say-clause-undue g c = next_undue _ (state_of c.args.session.now) (state_of c.next.new.self) c.in-Say.ensures.next c.requires.undue

pub returns-in-HangUp-clause-undue : goal.returns-in-HangUp-clause-undue
returns-in-HangUp-clause-undue g c = next_undue _ (state_of c.args.session.now) (state_of c.next.new.self) c.in-HangUp.ensures.next c.requires.undue

pub returns-in-Idle-clause-undue : goal.returns-in-Idle-clause-undue
returns-in-Idle-clause-undue g c = next_undue _ (state_of c.args.session.now) (state_of c.next.new.self) c.in-Idle.ensures.next c.requires.undue

pub returns-in-Quit-clause-undue : goal.returns-in-Quit-clause-undue
returns-in-Quit-clause-undue g c = next_undue _ (state_of c.args.session.now) (state_of c.next.new.self) c.in-Quit.ensures.next c.requires.undue
