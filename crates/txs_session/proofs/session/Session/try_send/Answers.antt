use Rattle.std.proofs.Common.{List, length, ap, arith, FitsSigned}
use Rattle.std.specs.Int.{w128}
use Rattle.std.proofs.lemmas.Grind.{common_steps}
use Rattle.std.proofs.lemmas.Int.{to_z-of_z}
use Rattle.txs_session.specs.declared.doing.Doing.{Doing}
use Rattle.txs_session.specs.Session.{does}
use Rattle.txs_session.specs.Ready.{state_of}
use Rattle.txs_session.proofs.Sessions.{refuses, stimulates}
use Rattle.txs_session.proofs.session.Session.try_send.Goals as goal

pub returns-then-is_empty-clause-stimulates : goal.returns-then-is_empty-clause-stimulates
returns-then-is_empty-clause-stimulates c m k =
    let fits : FitsSigned w128 c.args.value = c.ranges.value in
    let allowed = simp to_z-of_z at (c.in_ok-set.ensures.allowed m k) in
    refuses m c.args.value c.args.self.now.run (state_of c.args.self.now) _ (length c.in_ok-set.set) c.requires.going allowed
    (λ some. absurd (grind (arith, common_steps)))
    (ap (λ (ds : List Doing). does ds (state_of c.args.self.now)) c.in_ok-self.ensures)

pub returns-clause-stimulates : goal.returns-clause-stimulates
returns-clause-stimulates c m k =
    let fits : FitsSigned w128 c.args.value = c.ranges.value in
    let allowed = simp to_z-of_z at (c.in_ok-set.ensures.allowed m k) in
    stimulates m c.args.value c.args.self.now.run (state_of c.args.self.now) _ (length c.in_ok-set.set) c.requires.going allowed
    (grind (arith, common_steps))
    (ap (λ (ds : List Doing). does ds (state_of c.args.self.now)) (simp to_z-of_z at c.in_ok-self-2.ensures))
