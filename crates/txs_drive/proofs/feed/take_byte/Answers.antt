use Rattle.std.proofs.Common.{◌∷◌, ◌++◌, [], List, ℕ, false, refl, subst, sym}
use Rattle.txs_session.specs.Ready.{state_of}
use Rattle.txs_drive.specs.inner.CarriedOut.{LinesCarriedOut}
use Rattle.txs_drive.proofs.Feeding.{no_line_carried_out}
use Rattle.txs_drive.specs.declared.driver.Stop.TheVariants.{NoMemory}
use Rattle.txs_drive.proofs.Stops.{if_err, stopped_in_part}
use Rattle.txs_drive.proofs.feed.take_byte.Goals as goal

pub returns-in_ok-push-clause-carried_out : goal.returns-in_ok-push-clause-carried_out
returns-in_ok-push-clause-carried_out g c =
    subst (λ (r : List ℕ). LinesCarriedOut c.args.model.now (state_of c.args.session.now) (state_of c.args.session.now) (g.K.Sink.taken c.args.sink.now) (g.K.Sink.taken c.args.sink.now) (g.U.Sut.calls c.args.sut.now) (g.U.Sut.calls c.args.sut.now)
    (g.U.Sut.hang_ups c.args.sut.now) (g.U.Sut.hang_ups c.args.sut.now) (g.U.Sut.faults c.args.sut.now) (g.U.Sut.faults c.args.sut.now) (c.args.pending.now ++ c.args.byte ∷ []) r false)
    (sym c.in_ok-push.ensures.ok)
    (no_line_carried_out c.args.model.now (state_of c.args.session.now) (g.K.Sink.taken c.args.sink.now) (g.U.Sut.calls c.args.sut.now) (g.U.Sut.hang_ups c.args.sut.now) (g.U.Sut.faults c.args.sut.now) (c.args.pending.now ++ c.args.byte ∷ []))

pub returns-in_err-push-clause-stopped : goal.returns-in_err-push-clause-stopped
returns-in_err-push-clause-stopped g c =
    if_err _ _ NoMemory c.from_residual-in_err-push.result c.from_residual-in_err-push.ensures.1 (λ y h. h)
    (stopped_in_part c.args.model.now (state_of c.args.session.now) _ _ _ _ _ (c.args.pending.now ++ c.args.byte ∷ []) c.requires.idle refl)
