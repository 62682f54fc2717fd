use Rattle.std.proofs.Common.{◌≡◌, ◌∷◌, ◌∙◌, [], ℕ, List, length, ap, arith, subst}
use Rattle.std.proofs.lemmas.Grind.{common_steps}
use Rattle.txs_session.specs.declared.doing.Doing.{Doing}
use Rattle.txs_session.specs.declared.doing.Doing.TheVariants.{Say, HangUp, Idle}
use Rattle.txs_session.specs.declared.note.Note.{Note}
use Rattle.txs_session.specs.declared.note.Note.TheVariants.{Ended}
use Rattle.txs_session.specs.declared.note.Ending.TheVariants.{Fail}
use Rattle.txs_session.specs.Session.{State, goes_on, over_run, seen_run, seen_note}
use Rattle.txs_session.specs.Ready.{state_of, ToldBy, next_number}
use Rattle.txs_session.proofs.Sessions.{fails, keeps}
use Rattle.txs_session.proofs.session.Session.judge.Goals as goal

pub returns-then-is_empty-clause-judges : goal.returns-then-is_empty-clause-judges
returns-then-is_empty-clause-judges c m k =
    let noted : c.note_of-note.result ≡ seen_note (next_number (state_of c.args.self.now).run) c.args.seen = c.note_of-note.ensures ∙ ap (λ (i : ℕ). seen_note i c.args.seen) c.number.ensures in
    let items : c.in_ok-todo.todo.items ≡ Say (seen_note (next_number (state_of c.args.self.now).run) c.args.seen) ∷ Say (Ended Fail) ∷ HangUp ∷ Idle ∷ []
    = c.in_ok-todo.ensures ∙ ap (λ (x : Note). Say x ∷ Say (Ended Fail) ∷ HangUp ∷ Idle ∷ []) noted in
    fails m c.args.seen c.args.self.now.run (state_of c.args.self.now) _ (length c.in_ok-set.set) c.requires.observed c.requires.going (c.in_ok-set.ensures.allowed m k)
    (λ some. absurd (grind (arith, common_steps)))
    (subst (λ (ds : List Doing). ToldBy (state_of c.args.self.now).run (λ q. goes_on (over_run (seen_run c.args.seen q)) ds (state_of c.args.self.now)) (state_of c.see_last.new.self)) items c.in_ok-see_last.ensures.seen)

pub returns-clause-judges : goal.returns-clause-judges
returns-clause-judges c m k =
    let noted : c.note_of-note.result ≡ seen_note (next_number (state_of c.args.self.now).run) c.args.seen = c.note_of-note.ensures ∙ ap (λ (i : ℕ). seen_note i c.args.seen) c.number.ensures in
    let items : c.in_ok-todo-2.todo.items ≡ Say (seen_note (next_number (state_of c.args.self.now).run) c.args.seen) ∷ Idle ∷ []
    = c.in_ok-todo-2.ensures ∙ ap (λ (x : Note). Say x ∷ Idle ∷ []) noted in
    keeps m c.args.seen c.args.self.now.run (state_of c.args.self.now) _ (length c.in_ok-set.set) c.requires.observed c.requires.going (c.in_ok-set.ensures.allowed m k)
    (grind (arith, common_steps))
    (subst (λ (s : State). ToldBy s.run (λ q. goes_on (seen_run c.args.seen q) (Say (seen_note (next_number (state_of c.args.self.now).run) c.args.seen) ∷ Idle ∷ []) s) (state_of c.see.new.self)) c.make_room.ensures.same
    (subst (λ (ds : List Doing). ToldBy (state_of c.make_room.new.self).run (λ q. goes_on (seen_run c.args.seen q) ds (state_of c.make_room.new.self)) (state_of c.see.new.self)) items c.see.ensures.seen))

pub returns-clause-kept : goal.returns-clause-kept
returns-clause-kept c m k = c.see.ensures.kept m (c.make_room.ensures.moved m c.args.seen _ (c.in_ok-set.ensures.after m k))
