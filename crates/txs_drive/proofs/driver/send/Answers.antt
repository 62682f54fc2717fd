use Rattle.std.proofs.Common.{◌≡◌, ◌∙◌, [], ap, rules, FitsSigned}
use Rattle.std.specs.Int.{w128}
use Rattle.std.proofs.lemmas.Int.{to_z-of_z}
use Rattle.txs_drive.specs.declared.driver.Stop.TheVariants.{Sink, NoMemory}
use Rattle.txs_session.specs.declared.note.Note.TheVariants.{In}
use Rattle.txs_session.specs.Lines.{line_of}
use Rattle.txs_session.specs.Session.{State, dialled_of}
use Rattle.txs_session.specs.Ready.{state_of, next_number}
use Rattle.txs_drive.proofs.Calls.{dialled_same}
use Rattle.txs_drive.proofs.Stops.{if_err, stopped_here}
use Rattle.txs_drive.proofs.Sending.{carried_out_sent, carried_out_unsent, stopped_sent, ends_sent, undue_sent, busy_sent}
use Rattle.txs_drive.specs.Course.{due_in}
use Rattle.txs_drive.proofs.Told.{unsent_undue}
use Rattle.txs_drive.proofs.driver.send.Goals as goal

pub returns-in_err-line-clause-stopped : goal.returns-in_err-line-clause-stopped
returns-in_err-line-clause-stopped g c =
    if_err _ _ NoMemory c.from_residual.result c.from_residual.ensures.1 (λ y h. h)
    (stopped_here c.args.model.now (state_of c.args.session.now) _ _ _ _ _ [] (ap due_in c.requires.due) (ap (λ (s : State). dialled_of s.run) c.find_memory.ensures.same))

pub returns-then-not-is_sent-clause-carried_out : goal.returns-then-not-is_sent-clause-carried_out
returns-then-not-is_sent-clause-carried_out g c =
    carried_out_unsent c.args.model.now (state_of c.args.session.now) (state_of c.find_memory.new.session) (state_of c.transmit-is_sent.new.session) _ _ _ _ _ _ _ c.find_memory.ensures.same (c.transmit-is_sent.ensures.called c.args.model.now)

pub returns-in_err-say-clause-stopped : goal.returns-in_err-say-clause-stopped
returns-in_err-say-clause-stopped g c =
    let fits : FitsSigned w128 c.args.value = c.ranges.value in
    let line : c.as_str-2.result.now ≡ line_of c.args.model.now (In (next_number (state_of c.args.session.now).run) c.args.value) = search rules in
    if_err _ _ Sink c.from_residual-in_err-say.result c.from_residual-in_err-say.ensures.1 (λ y h. h)
    (stopped_sent c.args.model.now (state_of c.args.session.now) (state_of c.find_memory.new.session) (state_of c.transmit-is_sent.new.session) (state_of c.next.new.self) _ _ _ _ _ _ _ _ _ c.args.value c.transmit-is_sent.result
    c.next.result c.as_str-2.result.now c.find_memory.ensures.same (c.transmit-is_sent.ensures.called c.args.model.now) c.if-not-is_sent.false (simp to_z-of_z at c.transmit-is_sent.ensures.told) c.next.ensures.next line
    c.in_err-say.ensures.torn c.next.ensures.ends)

pub returns-clause-carried_out : goal.returns-clause-carried_out
returns-clause-carried_out g c =
    let fits : FitsSigned w128 c.args.value = c.ranges.value in
    let line : c.as_str-2.result.now ≡ line_of c.args.model.now (In (next_number (state_of c.args.session.now).run) c.args.value) = search rules in
    carried_out_sent c.args.model.now (state_of c.args.session.now) (state_of c.find_memory.new.session) (state_of c.transmit-is_sent.new.session) (state_of c.next.new.self) _ _ _ _ _ _ _ _ c.args.value c.transmit-is_sent.result
    c.next.result c.as_str-2.result.now c.find_memory.ensures.same (c.transmit-is_sent.ensures.called c.args.model.now) c.if-not-is_sent.false (simp to_z-of_z at c.transmit-is_sent.ensures.told) c.next.ensures.next line
    c.in_ok-say.ensures.ok

pub returns-clause-ready : goal.returns-clause-ready
returns-clause-ready g c =
    let fits : FitsSigned w128 c.args.value = c.ranges.value in
    let same : dialled_of (state_of c.next.new.self).run ≡ dialled_of (state_of c.transmit-is_sent.new.session).run
    = ends_sent (state_of c.args.session.now) (state_of c.find_memory.new.session) (state_of c.transmit-is_sent.new.session) (state_of c.next.new.self) c.args.value _ c.transmit-is_sent.result c.next.result
    c.find_memory.ensures.same c.if-not-is_sent.false (simp to_z-of_z at c.transmit-is_sent.ensures.told) c.next.ensures.next c.next.ensures.ends in
    record {
      kept = c.next.ensures.kept c.args.model.now (c.transmit-is_sent.ensures.kept c.args.model.now (c.find_memory.ensures.kept c.args.model.now c.requires.ready.kept));
      plain = c.next.ensures.plain c.transmit-is_sent.ensures.plain;
      dialled = dialled_same _ _ _ _ c.transmit-is_sent.ensures.dialled (same ∙ (c.transmit-is_sent.ensures.ends ∙ ap (λ (s : State). dialled_of s.run) c.find_memory.ensures.same)) c.requires.ready.dialled;
    }

pub returns-then-not-is_sent-clause-undue : goal.returns-then-not-is_sent-clause-undue
returns-then-not-is_sent-clause-undue g c =
    unsent_undue _ c.transmit-is_sent.result (state_of c.find_memory.new.session).run (state_of c.find_memory.new.session) (state_of c.transmit-is_sent.new.session) c.if-not-is_sent.true c.transmit-is_sent.ensures.told

pub returns-clause-undue : goal.returns-clause-undue
returns-clause-undue g c =
    let fits : FitsSigned w128 c.args.value = c.ranges.value in
    undue_sent (state_of c.args.session.now) (state_of c.find_memory.new.session) (state_of c.transmit-is_sent.new.session) (state_of c.next.new.self) c.args.value c.transmit-is_sent.result c.next.result
    c.find_memory.ensures.same c.if-not-is_sent.false (simp to_z-of_z at c.transmit-is_sent.ensures.told) c.next.ensures.next

pub returns-clause-busy : goal.returns-clause-busy
returns-clause-busy g c =
    let fits : FitsSigned w128 c.args.value = c.ranges.value in
    busy_sent (state_of c.args.session.now) (state_of c.find_memory.new.session) (state_of c.transmit-is_sent.new.session) (state_of c.next.new.self) c.args.value c.transmit-is_sent.result c.next.result
    c.requires.due c.find_memory.ensures.same c.if-not-is_sent.false (simp to_z-of_z at c.transmit-is_sent.ensures.told) c.next.ensures.next c.transmit-is_sent.ensures.busy
