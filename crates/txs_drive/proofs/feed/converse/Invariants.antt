use Rattle.std.proofs.Common.{◌≡◌, ◌≤◌, [], ◌-◌}
use Rattle.txs_drive.specs.inner.CarriedOut.{IsReady, HasNoFeed}
use Rattle.txs_session.specs.Ready.{state_of, IsTied}
use Rattle.txs_drive.specs.inner.Stopped.{Tracks, ends_in}
use Rattle.txs_drive.proofs.Talking.{Talked}
use Rattle.txs_drive.proofs.feed.converse.Given as goal

abbrev pub invariant-reads : goal.invariant-reads
invariant-reads g l = record {
  talked : Talked l.model (state_of l.session) (g.S.Source.given l.fn.source) (g.S.Source.given l.source) (g.S.Source.left l.fn.source) (g.S.Source.left l.source) (g.K.Sink.taken l.fn.sink) (g.K.Sink.taken l.sink) (g.U.Sut.calls l.fn.sut) (g.U.Sut.calls l.sut)
      (g.U.Sut.hang_ups l.fn.sut) (g.U.Sut.hang_ups l.sut) (g.U.Sut.faults l.fn.sut) (g.U.Sut.faults l.sut) l.taken l.pending;
  ready : IsReady l.model l.session (g.U.Sut.dialled l.sut);
  tracks : Tracks (g.U.Sut.dialled l.fn.sut) (g.U.Sut.dialled l.sut) (ends_in l.fn.session) (ends_in l.session);
  idle : (state_of l.session).todo ≡ [];
  tied : IsTied (state_of l.session).run;
  line : HasNoFeed l.pending;
  within : l.taken ≤ 16777216;
  source : g.S.Source.faults l.source ≡ g.S.Source.faults l.fn.source;
  sink : g.K.Sink.faults l.sink ≡ g.K.Sink.faults l.fn.sink;
}

abbrev pub decreases-reads : goal.decreases-reads
decreases-reads g l = 16777216 - l.taken
