use Rattle.std.proofs.Common.{◌≡◌, ◌<◌, ◌+◌, ◌∙◌, ℕ, List, arith, ap, length, refl, subst, sym}
use Rattle.txs_outside.specs.Known.{Grows, Loses}
use Rattle.txs_session.specs.Session.{State}
use Rattle.txs_session.specs.Ready.{state_of, IsTied}
use Rattle.txs_drive.specs.inner.CarriedOut.{HasNoFeed}
use Rattle.txs_drive.proofs.Talking.{talked_begin, talked_on, conversed_quit, conversed_fault, conversed_limit, conversed_end}
use Rattle.txs_drive.specs.declared.driver.Stop.TheVariants.{NoMemory}
use Rattle.txs_drive.proofs.Stops.{if_err, ok_no_stop, bytes_no_fault}
use Rattle.txs_drive.proofs.Breaking.{broke_read, broke_bytes, broke_last}
use Rattle.txs_drive.proofs.feed.converse.Goals as goal

pub reads-init : goal.reads-init
reads-init g c = record {
  talked = talked_begin c.args.model.now (state_of c.args.session.now) _ _ _ _ _ _ c.new-pending.result c.requires.new c.new-pending.ensures;
  ready = c.requires.ready;
  tracks = λ e. e;
  idle = ap (λ (s : State). s.todo) c.requires.new;
  tied = subst (λ (s : State). IsTied s.run) (sym c.requires.new) tt;
  line = subst HasNoFeed (sym c.new-pending.ensures) tt;
  within = omega arith;
  source = refl;
  sink = refl;
}

pub reads-preserved : goal.reads-preserved
reads-preserved g c =
    let gave : Grows (g.S.Source.given c.reads.source) (g.S.Source.given c.read_some.new.source) c.as_slice-bytes.result.now
    = subst (λ (p : List ℕ). Grows (g.S.Source.given c.reads.source) (g.S.Source.given c.read_some.new.source) p) (sym c.as_slice-bytes.ensures) (rw c.in-Bytes.is at c.in_ok-read_some.ensures.given) in
    let lost : Loses (g.S.Source.left c.reads.source) (g.S.Source.left c.read_some.new.source) c.as_slice-bytes.result.now
    = subst (λ (p : List ℕ). Loses (g.S.Source.left c.reads.source) (g.S.Source.left c.read_some.new.source) p) (sym c.as_slice-bytes.ensures) (rw c.in-Bytes.is at c.in_ok-read_some.ensures.lost) in
    let size = rw c.in-Bytes.is at c.in_ok-read_some.ensures.size in
    let count : c.len-taken.result ≡ length c.as_slice-bytes.result.now = c.len-taken.ensures ∙ ap length (sym c.as_slice-bytes.ensures) in
    let took = rw c.if-branch.false at c.in_ok-take_bytes-in-Bytes.ensures.carried_out in
    record {
      talked = talked_on _ _ _ _ _ _ _ _ _ _ _ _ _ _ _ _ _ _ _ _ _ c.reads.taken (c.reads.taken + c.len-taken.result) c.reads.pending c.as_slice-bytes.result.now c.take_bytes.new.pending c.reads.invariant.talked gave lost (omega (arith, count)) took;
      ready = c.in_ok-take_bytes-in-Bytes.ensures.ready;
      tracks = λ e. c.in_ok-take_bytes-in-Bytes.ensures.tracks (c.reads.invariant.tracks e);
      idle = c.in_ok-take_bytes-in-Bytes.ensures.idle;
      tied = c.in_ok-take_bytes-in-Bytes.ensures.tied c.if-branch.false;
      line = c.in_ok-take_bytes-in-Bytes.ensures.line;
      within = let below : c.reads.taken < 16777216 = omega (arith, c.reads.invariant.within, c.if-taken-eq-LIMIT.false) in omega (arith, c.room_left.ensures.within below, size.1, c.len-taken.ensures);
      source = c.in_ok-read_some.ensures.calm (bytes_no_fault c.in_ok-read_some.field-0 c.in-Bytes.bytes c.in-Bytes.is) ∙ c.reads.invariant.source;
      sink = c.in_ok-take_bytes-in-Bytes.ensures.calm (ok_no_stop c.in_ok-take_bytes-in-Bytes.field-0) ∙ c.reads.invariant.sink;
    }

pub returns-in-Failed-clause-carried_out : goal.returns-in-Failed-clause-carried_out
returns-in-Failed-clause-carried_out g c =
    let gave = rw c.in-Failed.is at c.in_ok-read_some.ensures.given in
    let lost = rw c.in-Failed.is at c.in_ok-read_some.ensures.lost in
    conversed_fault _ _ _ _ _ _ _ _ _ _ _ _ _ _ _ _ _ c.reads.taken c.reads.pending c.reads.invariant.talked gave lost c.reads.invariant.within c.reads.invariant.line c.reads.invariant.idle

pub returns-then-taken-eq-LIMIT-clause-carried_out : goal.returns-then-taken-eq-LIMIT-clause-carried_out
returns-then-taken-eq-LIMIT-clause-carried_out g c =
    let gave = rw c.in-Bytes.is at c.in_ok-read_some.ensures.given in
    let lost = rw c.in-Bytes.is at c.in_ok-read_some.ensures.lost in
    let size = rw c.in-Bytes.is at c.in_ok-read_some.ensures.size in
    let one : c.room_left.result ≡ 1 = c.room_left.ensures.one c.if-taken-eq-LIMIT.true in
    conversed_limit _ _ _ _ _ _ _ _ _ _ _ _ _ _ _ _ _ c.reads.taken c.reads.pending c.in-Bytes.bytes c.reads.invariant.talked gave lost c.if-taken-eq-LIMIT.true size.0 (omega (arith, size.1)) c.reads.invariant.line c.reads.invariant.idle

pub returns-then-branch-clause-carried_out : goal.returns-then-branch-clause-carried_out
returns-then-branch-clause-carried_out g c =
    let gave : Grows (g.S.Source.given c.reads.source) (g.S.Source.given c.read_some.new.source) c.as_slice-bytes.result.now
    = subst (λ (p : List ℕ). Grows (g.S.Source.given c.reads.source) (g.S.Source.given c.read_some.new.source) p) (sym c.as_slice-bytes.ensures) (rw c.in-Bytes.is at c.in_ok-read_some.ensures.given) in
    let lost : Loses (g.S.Source.left c.reads.source) (g.S.Source.left c.read_some.new.source) c.as_slice-bytes.result.now
    = subst (λ (p : List ℕ). Loses (g.S.Source.left c.reads.source) (g.S.Source.left c.read_some.new.source) p) (sym c.as_slice-bytes.ensures) (rw c.in-Bytes.is at c.in_ok-read_some.ensures.lost) in
    let size = rw c.in-Bytes.is at c.in_ok-read_some.ensures.size in
    let count : length c.in-Bytes.bytes ≡ length c.as_slice-bytes.result.now = ap length (sym c.as_slice-bytes.ensures) in
    let below : c.reads.taken < 16777216 = omega (arith, c.reads.invariant.within, c.if-taken-eq-LIMIT.false) in
    let took = rw c.if-branch.true at c.in_ok-take_bytes-in-Bytes.ensures.carried_out in
    conversed_quit _ _ _ _ _ _ _ _ _ _ _ _ _ _ _ _ _ _ _ _ _ _ c.reads.taken c.reads.pending c.as_slice-bytes.result.now c.take_bytes.new.pending c.reads.invariant.talked gave lost
    (omega (arith, c.room_left.ensures.within below, size.1, count)) c.in_ok-take_bytes-in-Bytes.ensures.idle took

pub returns-in-End-clause-carried_out : goal.returns-in-End-clause-carried_out
returns-in-End-clause-carried_out g c =
    let gave = rw c.in-End.is at c.in_ok-read_some.ensures.given in
    let lost = rw c.in-End.is at c.in_ok-read_some.ensures.lost in
    conversed_end _ _ _ _ _ _ _ _ _ _ _ _ _ _ _ _ _ _ _ _ _ _ c.reads.taken c.reads.pending c.as_slice.result.now c.in_ok-finish-in-End.finish c.reads.invariant.talked gave lost c.reads.invariant.within c.reads.invariant.line
    c.in_ok-finish-in-End.ensures.idle (c.in_ok-read_some.ensures.end c.in-End.is) c.as_slice.ensures c.in_ok-finish-in-End.ensures.carried_out

pub returns-in_err-read_some-clause-stopped : goal.returns-in_err-read_some-clause-stopped
returns-in_err-read_some-clause-stopped g c =
    let more = c.in_err-read_some.ensures.unread in
    if_err _ _ NoMemory c.from_residual.result c.from_residual.ensures.1 (λ y h. h)
    (broke_read c.args.model.now (state_of c.reads.session) _ _ _ _ _ _ _ _ _ _ _ _ _ _ _ _ c.reads.taken c.reads.pending more.0 c.reads.invariant.talked more.2 more.3 c.reads.invariant.within (omega (arith, more.1, c.room_left.ensures.past)) c.reads.invariant.idle refl)

pub returns-in_err-finish-in-End-clause-stopped : goal.returns-in_err-finish-in-End-clause-stopped
returns-in_err-finish-in-End-clause-stopped g c =
    let gave = rw c.in-End.is at c.in_ok-read_some.ensures.given in
    let lost = rw c.in-End.is at c.in_ok-read_some.ensures.lost in
    if_err _ _ c.in_err-finish-in-End.field-0.0 c.from_residual-in_err-finish-in-End.result c.from_residual-in_err-finish-in-End.ensures.1 (λ y h. h)
    (broke_last c.in_err-finish-in-End.field-0.0 c.args.model.now (state_of c.reads.session) _ _ _ _ _ _ _ _ _ _ _ _ _ _ _ _ _ _ _ _ c.reads.taken c.reads.pending c.as_slice.result.now c.reads.invariant.talked gave lost c.reads.invariant.within c.reads.invariant.line
    (c.in_ok-read_some.ensures.end c.in-End.is) c.as_slice.ensures c.in_err-finish-in-End.ensures.stopped)

pub returns-in_err-take_bytes-in-Bytes-clause-stopped : goal.returns-in_err-take_bytes-in-Bytes-clause-stopped
returns-in_err-take_bytes-in-Bytes-clause-stopped g c =
    let gave : Grows (g.S.Source.given c.reads.source) (g.S.Source.given c.read_some.new.source) c.as_slice-bytes.result.now
    = subst (λ (p : List ℕ). Grows (g.S.Source.given c.reads.source) (g.S.Source.given c.read_some.new.source) p) (sym c.as_slice-bytes.ensures) (rw c.in-Bytes.is at c.in_ok-read_some.ensures.given) in
    let lost : Loses (g.S.Source.left c.reads.source) (g.S.Source.left c.read_some.new.source) c.as_slice-bytes.result.now
    = subst (λ (p : List ℕ). Loses (g.S.Source.left c.reads.source) (g.S.Source.left c.read_some.new.source) p) (sym c.as_slice-bytes.ensures) (rw c.in-Bytes.is at c.in_ok-read_some.ensures.lost) in
    let size = rw c.in-Bytes.is at c.in_ok-read_some.ensures.size in
    let count : length c.in-Bytes.bytes ≡ length c.as_slice-bytes.result.now = ap length (sym c.as_slice-bytes.ensures) in
    let below : c.reads.taken < 16777216 = omega (arith, c.reads.invariant.within, c.if-taken-eq-LIMIT.false) in
    if_err _ _ c.in_err-take_bytes-in-Bytes.field-0.0 c.from_residual-in_err-take_bytes-in-Bytes.result c.from_residual-in_err-take_bytes-in-Bytes.ensures.1 (λ y h. h)
    (broke_bytes c.in_err-take_bytes-in-Bytes.field-0.0 c.args.model.now (state_of c.reads.session) _ _ _ _ _ _ _ _ _ _ _ _ _ _ _ _ _ _ _ _ c.reads.taken c.reads.pending c.as_slice-bytes.result.now c.reads.invariant.talked gave lost
    (omega (arith, c.room_left.ensures.within below, size.1, count)) c.in_err-take_bytes-in-Bytes.ensures.stopped)
