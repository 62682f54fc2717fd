use Rattle.std.proofs.Common.{◌∙◌, ℕ, Bool, ap}
use Rattle.txs_drive.specs.Course.{hung_after}
use Rattle.txs_drive.specs.Served.{last_of}
use Rattle.txs_session.specs.Ready.{state_of}
use Rattle.txs_drive.specs.inner.CarriedOut.{code_of}
use Rattle.txs_drive.proofs.Serving.{served}
use Rattle.txs_drive.specs.inner.Stopped.{ends_in}
use Rattle.txs_drive.proofs.Breaking.{cut_by_note, cut_by_want, cut_by_both}
use Rattle.txs_drive.proofs.plain.run_plain.Goals as goal

pub returns-in-Ok-clause-served : goal.returns-in-Ok-clause-served
returns-in-Ok-clause-served g c n4 n5 =
    served c.args.model.now c.in-Ok.finish (state_of c.converse-outcome.new.session) _ _ _ _ _ _ _ _ _ _ _ _ _ _ _ _ _ c.in-Ok.ensures.carried_out c.hang_up_last.ensures.calls
    (c.hang_up_last.ensures.hang_ups ∙ ap (λ (n : ℕ). hung_after (last_of n) (g.U.Sut.hang_ups c.converse-outcome.new.sut)) c.dialled.ensures)
    c.hang_up_last.ensures.faults (c.code_of.ensures ∙ ap (λ (b : Bool). code_of c.in-Ok.finish b) c.has_failed.ensures)

pub returns-in-Err-Sink-clause-cut_by_sink : goal.returns-in-Err-Sink-clause-cut_by_sink
returns-in-Err-Sink-clause-cut_by_sink g c four =
    let broke = rw c.in-Err-Sink.is at c.converse-outcome.ensures.stopped in
    cut_by_note c.in-Err-Sink.field-0 (rw c.in-Err-Sink.is at c.in-Err-Sink.field-0-is) c.args.model.now (ends_in c.converse-outcome.new.session) _ _ _ _ _ _ _ _ _ _ _ _ _ _ _ _ broke c.hang_up_last.ensures.calls
    (c.hang_up_last.ensures.hang_ups ∙ ap (λ (n : ℕ). hung_after (last_of n) (g.U.Sut.hang_ups c.converse-outcome.new.sut)) c.dialled.ensures)
    c.hang_up_last.ensures.faults

pub returns-clause-cut_by_sink : goal.returns-clause-cut_by_sink
returns-clause-cut_by_sink g c four =
    let broke = rw c.in-Err-NoMemory.is at c.converse-outcome.ensures.stopped in
    cut_by_both c.in-Err-NoMemory.field-0 (rw c.in-Err-NoMemory.is at c.in-Err-NoMemory.field-0-is) c.args.model.now (ends_in c.converse-outcome.new.session) _ _ _ _ _ _ _ _ _ _ _ _ _ _ _ _ _ broke c.hang_up_last.ensures.calls
    (c.hang_up_last.ensures.hang_ups ∙ ap (λ (n : ℕ). hung_after (last_of n) (g.U.Sut.hang_ups c.converse-outcome.new.sut)) c.dialled.ensures)
    c.hang_up_last.ensures.faults (c.close.ensures.torn four)

pub returns-clause-cut_by_memory : goal.returns-clause-cut_by_memory
returns-clause-cut_by_memory g c five =
    let broke = rw c.in-Err-NoMemory.is at c.converse-outcome.ensures.stopped in
    cut_by_want c.in-Err-NoMemory.field-0 (rw c.in-Err-NoMemory.is at c.in-Err-NoMemory.field-0-is) c.args.model.now (ends_in c.converse-outcome.new.session) _ _ _ _ _ _ _ _ _ _ _ _ _ _ _ _ _ broke c.hang_up_last.ensures.calls
    (c.hang_up_last.ensures.hang_ups ∙ ap (λ (n : ℕ). hung_after (last_of n) (g.U.Sut.hang_ups c.converse-outcome.new.sut)) c.dialled.ensures)
    c.hang_up_last.ensures.faults (c.close.ensures.written five)
