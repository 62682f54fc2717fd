use Rattle.std.proofs.Common.{◌≡◌, ◌++◌, [], take, false}
use Rattle.txs_drive.specs.inner.CarriedOut.{LinesCarriedOut, IsReady, HasNoFeed}
use Rattle.txs_session.specs.Ready.{state_of, IsTied}
use Rattle.txs_drive.specs.inner.Stopped.{Tracks, ends_in}
use Rattle.txs_drive.proofs.feed.take_bytes.Given as goal

abbrev pub invariant-loop-b : goal.invariant-loop-b
invariant-loop-b g l = record {
  took : LinesCarriedOut l.model (state_of l.fn.session) (state_of l.session) (g.K.Sink.taken l.fn.sink) (g.K.Sink.taken l.sink) (g.U.Sut.calls l.fn.sut) (g.U.Sut.calls l.sut)
      (g.U.Sut.hang_ups l.fn.sut) (g.U.Sut.hang_ups l.sut) (g.U.Sut.faults l.fn.sut) (g.U.Sut.faults l.sut) (l.fn.pending ++ take l.b-index l.bytes) l.pending false;
  ready : IsReady l.model l.session (g.U.Sut.dialled l.sut);
  tracks : Tracks (g.U.Sut.dialled l.fn.sut) (g.U.Sut.dialled l.sut) (ends_in l.fn.session) (ends_in l.session);
  idle : (state_of l.session).todo ≡ [];
  tied : IsTied (state_of l.session).run;
  line : HasNoFeed l.pending;
  calm : g.K.Sink.faults l.sink ≡ g.K.Sink.faults l.fn.sink;
}
