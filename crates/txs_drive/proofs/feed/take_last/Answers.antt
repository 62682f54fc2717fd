use Rattle.std.proofs.Common.{◌≡◌, ◌∷◌, [], List, ℕ, length, arith, refl}
use Rattle.std.proofs.lemmas.Grind.{common_steps}
use Rattle.txs_session.specs.Ready.{state_of}
use Rattle.txs_drive.proofs.Courses.{carried_out_nothing}
use Rattle.txs_drive.proofs.feed.take_last.Goals as goal

no_bytes : (line : List ℕ) → length line ≡ 0 → line ≡ []
no_bytes [] h = refl
no_bytes (b ∷ bs) h = absurd (omega (arith, h))

pub returns-then-is_empty-clause-carried_out : goal.returns-then-is_empty-clause-carried_out
returns-then-is_empty-clause-carried_out g c =
    let none : c.args.line.now ≡ [] = no_bytes c.args.line.now (grind (arith, common_steps)) in (
      rw none (carried_out_nothing c.args.model.now (state_of c.args.session.now) (g.K.Sink.taken c.args.sink.now) (g.U.Sut.calls c.args.sut.now) (g.U.Sut.hang_ups c.args.sut.now) (g.U.Sut.faults c.args.sut.now)),
      tt,
    )
