use Rattle.std.proofs.Common.{◌∙◌, refl}
use Rattle.txs_session.specs.Ready.{state_of}
use Rattle.txs_drive.proofs.Feeding.{read_none, read_on, read_quits}
use Rattle.txs_drive.specs.inner.Stopped.{ends_in}
use Rattle.txs_drive.proofs.Stops.{if_err, stopped_in_read}
use Rattle.txs_drive.proofs.feed.take_bytes.Goals as goal

pub loop-b-init : goal.loop-b-init
loop-b-init g c = record {
  took = read_none c.args.model.now (state_of c.args.session.now) (g.K.Sink.taken c.args.sink.now) (g.U.Sut.calls c.args.sut.now) (g.U.Sut.hang_ups c.args.sut.now) (g.U.Sut.faults c.args.sut.now) c.args.pending.now;
  ready = c.requires.ready;
  tracks = λ e. e;
  idle = c.requires.idle;
  tied = c.requires.tied;
  line = c.requires.line;
  calm = refl;
}

pub loop-b-preserved : goal.loop-b-preserved
loop-b-preserved g c =
    let took = rw c.if-branch.false at c.in_ok-take_byte.ensures.carried_out in
    record {
      took = read_on c.args.model.now (state_of c.args.session.now) (state_of c.loop-b.session) (state_of c.take_byte.new.session) _ _ _ _ _ _ _ _ _ _ _ _ c.args.pending.now c.args.bytes.now c.loop-b.b-index c.loop-b.pending c.take_byte.new.pending _
          c.loop-b-test.true c.loop-b.invariant.took took;
      ready = c.in_ok-take_byte.ensures.ready;
      tracks = λ e. c.in_ok-take_byte.ensures.tracks (c.loop-b.invariant.tracks e);
      idle = c.in_ok-take_byte.ensures.idle;
      tied = c.in_ok-take_byte.ensures.tied c.if-branch.false;
      line = c.in_ok-take_byte.ensures.line;
      calm = c.in_ok-take_byte.ensures.calm (λ e. cc) ∙ c.loop-b.invariant.calm;
    }

pub returns-then-branch-clause-carried_out : goal.returns-then-branch-clause-carried_out
returns-then-branch-clause-carried_out g c =
    let took = rw c.if-branch.true at c.in_ok-take_byte.ensures.carried_out in
    read_quits c.args.model.now (state_of c.args.session.now) (state_of c.loop-b.session) (state_of c.take_byte.new.session) _ _ _ _ _ _ _ _ _ _ _ _ c.args.pending.now c.args.bytes.now c.loop-b.b-index c.loop-b.pending c.take_byte.new.pending c.loop-b-test.true
    c.loop-b.invariant.took took

pub returns-in_err-take_byte-clause-stopped : goal.returns-in_err-take_byte-clause-stopped
returns-in_err-take_byte-clause-stopped g c =
    if_err _ _ c.in_err-take_byte.field-0.0 c.from_residual.result c.from_residual.ensures.1 (λ y h. h)
    (stopped_in_read c.in_err-take_byte.field-0.0 c.args.model.now (state_of c.args.session.now) (state_of c.loop-b.session) (ends_in c.take_byte.new.session) _ _ _ _ _ _ _ _ _ _ _ _ c.args.pending.now c.args.bytes.now c.loop-b.b-index c.loop-b.pending
    c.loop-b-test.true c.loop-b.invariant.took c.in_err-take_byte.ensures.stopped)
