use Rattle.std.proofs.Common.{◌≡◌, ◌∷◌, [], false}
use Rattle.txs_drive.specs.inner.CarriedOut.{CarriedOut, IsReady, rank}
use Rattle.txs_session.specs.Ready.{state_of, IsBusy}
use Rattle.txs_drive.specs.Course.{due_in}
use Rattle.txs_drive.specs.inner.Stopped.{Tracks, ends_in}
use Rattle.txs_drive.proofs.driver.carry_out.Given as goal

abbrev pub invariant-steps : goal.invariant-steps
invariant-steps g l = record {
  went : CarriedOut l.model (state_of l.fn.session) (state_of l.session) (g.K.Sink.taken l.fn.sink) (g.K.Sink.taken l.sink) (g.U.Sut.calls l.fn.sut) (g.U.Sut.calls l.sut)
      (g.U.Sut.hang_ups l.fn.sut) (g.U.Sut.hang_ups l.sut) (g.U.Sut.faults l.fn.sut) (g.U.Sut.faults l.sut) (l.fn.line ∷ []) false;
  ready : IsReady l.model l.session (g.U.Sut.dialled l.sut);
  tracks : Tracks (g.U.Sut.dialled l.fn.sut) (g.U.Sut.dialled l.sut) (ends_in l.fn.session) (ends_in l.session);
  busy : IsBusy (state_of l.session).run (state_of l.session).todo;
  undue : due_in (state_of l.session).todo ≡ [];
  calm : g.K.Sink.faults l.sink ≡ g.K.Sink.faults l.fn.sink;
}

abbrev pub decreases-steps : goal.decreases-steps
decreases-steps g l = rank (state_of l.session).todo
