-- Each action that was sent is told in the transcript, or its line is due.
use Rattle.std.proofs.Common.{◌≡◌, ◌∙◌, inl, inr, ℕ, ℤ, ◌+◌, Bool, true, false, cond, nat_lt, List, [], ◌∷◌, ◌++◌, Option, None, Some, length, refl, sym, ap, subst, append-nil}
use Rattle.txs_words.specs.declared.model.Model.{Model}
use Rattle.txs_session.specs.declared.command.Command.{Command}
use Rattle.txs_session.specs.declared.command.Command.TheVariants as command
use Rattle.txs_session.specs.declared.doing.Doing.{Doing}
use Rattle.txs_session.specs.declared.doing.Doing.TheVariants.{Say, Dial, Wait, Send, HangUp, Idle, Quit}
use Rattle.txs_session.specs.declared.note.Note.{Note}
use Rattle.txs_session.specs.declared.note.Note.TheVariants as note
use Rattle.txs_session.specs.declared.note.Seen.{Seen}
use Rattle.txs_session.specs.declared.note.Seen.TheVariants as seen
use Rattle.txs_session.specs.declared.note.Ending.TheVariants.{Fail}
use Rattle.txs_session.specs.declared.answer.Answer.{Answer}
use Rattle.txs_session.specs.declared.answer.Answer.TheVariants as answer
use Rattle.txs_session.specs.Commands.{command_of}
use Rattle.txs_session.specs.Session.{Run, State, at_start, Carries, IfGoing, Stimulates, Heeds, Judges, dial_told, send_told, answer_of, seen_note, done, dialled_of, started}
use Rattle.txs_drive.specs.Course.{Event, does', dials, waits, sends, Leads, stays, reading, doing, dialling, waiting, sending, notes_in, notes_of, sent_in, told_in, due_in}
use Rattle.txs_session.specs.Ready.{ToldBy, HeedsBy, IsNext, IsObserved}
use Rattle.txs_drive.specs.Cut.{IsUnheeded}

-- ---- nothing is due

abbrev pub Undue : State → Type 0
Undue s = due_in s.todo ≡ []

undue_is : {s t : State} → t ≡ s → Undue s → Undue t
undue_is e h = subst Undue (sym e) h

undue_todo : (s : State) (ds : List Doing) → s.todo ≡ ds → due_in ds ≡ [] → Undue s
undue_todo s ds e h = ap due_in e ∙ h

hanging_undue : (b : Bool) (d : Doing) → due_in (d ∷ []) ≡ [] → due_in (cond b (HangUp ∷ []) [] ++ d ∷ []) ≡ []
hanging_undue true d h = h
hanging_undue false d h = h

going_undue : (r : Option Run) (s t : State) (go : Run → State → Type 0) → ((q : Run) → go q t → Undue t) → IfGoing r s go t → Undue t
going_undue None s t go k h = undue_is h refl
going_undue (Some q) s t go k (inl h) = undue_is h.1 refl
going_undue (Some q) s t go k (inr h) = k q h.1

stimulates_undue : (m : Model) (v : ℤ) (s t : State) (q : Run) → Stimulates m v s q t → Undue t
stimulates_undue m v s t q (inl h) = undue_is h.1 refl
stimulates_undue m v s t q (inr h) = undue_is h.1 refl

started_undue : (r : Option Run) (s t : State) → t ≡ started r s → Undue t
started_undue None s t h = undue_is h refl
started_undue (Some q) s t h = undue_is h refl

pub carries_undue : (m : Model) (x : Command) (s t : State) → Carries m x s t → Undue t
carries_undue m command.Pass s t h = undue_is h refl
carries_undue m command.Quit s t h = undue_is h (hanging_undue (nat_lt 0 (dialled_of s.run)) Quit refl)
carries_undue m command.Refused s t h = undue_is h refl
carries_undue m command.Tester s t h = started_undue s.run s t h
carries_undue m command.Observe s t h = going_undue s.run s t _ (λ q e. undue_is e refl) h
carries_undue m (command.Stimulate v) s t h = going_undue s.run s t _ (stimulates_undue m v s t) h

dial_told_undue : (ok : Bool) (r : Run) (s : State) → Undue (dial_told ok r s)
dial_told_undue true r s = refl
dial_told_undue false r s = hanging_undue (nat_lt 0 r.dialled) Idle refl

pub dial_undue : (ok : Bool) (r : Option Run) (s t : State) → ToldBy r (λ q. dial_told ok q s) t → Undue t
dial_undue ok None s t h = absurd h
dial_undue ok (Some q) s t h = undue_is h (dial_told_undue ok q s)

seen_undue : (n : ℕ) (x : Seen) (ds : List Doing) → IsObserved x → due_in ds ≡ [] → due_in (Say (seen_note n x) ∷ ds) ≡ []
seen_undue n (seen.In v) ds o h = absurd o
seen_undue n (seen.Out v) ds o h = h
seen_undue n seen.Quiet ds o h = h

judges_undue : (m : Model) (x : Seen) (r : Run) (s t : State) → IsObserved x → Judges m x r s t → Undue t
judges_undue m x r s t o (inl h) = undue_is h.1 (seen_undue (length r.trace + 1) x (Idle ∷ []) o refl)
judges_undue m x r s t o (inr h) =
    undue_is h.1 (seen_undue (length r.trace + 1) x (Say (note.Ended Fail) ∷ (cond (nat_lt 0 r.dialled) (HangUp ∷ []) [] ++ Idle ∷ [])) o (hanging_undue (nat_lt 0 r.dialled) Idle refl))

heeds_told_undue : (m : Model) (x : Answer) (r : Run) (s t : State) → Heeds m x r s t → Undue t
heeds_told_undue m (answer.Number v) r s t h = judges_undue m (seen.Out v) r s t tt h
heeds_told_undue m answer.Quiet r s t h = judges_undue m seen.Quiet r s t tt h
heeds_told_undue m answer.Breaks r s t h = undue_is h (hanging_undue (nat_lt 0 r.dialled) Idle refl)
heeds_told_undue m answer.Later r s t h = undue_is h (hanging_undue (nat_lt 0 r.dialled) Idle refl)

pub heeds_undue : (m : Model) (x : Answer) (r : Option Run) (s t : State) → HeedsBy m x r s t → Undue t
heeds_undue m x None s t h = absurd h
heeds_undue m x (Some q) s t h = heeds_told_undue m x q s t h

pub unsent_undue : (v : ℤ) (ok : Bool) (r : Option Run) (s t : State) → ok ≡ false → ToldBy r (λ q. send_told v ok q s) t → Undue t
unsent_undue v ok None s t e h = absurd h
unsent_undue v true (Some q) s t e h = cc
unsent_undue v false (Some q) s t e h = undue_is h (hanging_undue (nat_lt 0 q.dialled) Idle refl)

behind : (n : Note) (ds : List Doing) → due_in (Say n ∷ ds) ≡ [] → due_in ds ≡ []
behind (note.In k v) ds h = cc
behind note.Tester ds h = h
behind (note.Out k v) ds h = h
behind (note.Quiet k) ds h = h
behind note.NotCommand ds h = h
behind note.NotAllowed ds h = h
behind (note.Ended e) ds h = h

pub next_undue : (d : Doing) (s t : State) → IsNext d s t → Undue s → Undue t
next_undue (Say n) s t x h = undue_is x.2 (behind n x.0 (sym (ap due_in x.1) ∙ h))
next_undue HangUp s t x h = undue_is x.2 (sym (ap due_in x.1) ∙ h)
next_undue Idle s t x h = undue_is x.2 (sym (ap due_in x.1) ∙ h)
next_undue Quit s t x h = undue_is x.2 (sym (ap due_in x.1) ∙ h)
next_undue Dial s t x h = undue_is x.2 h
next_undue Wait s t x h = undue_is x.2 h
next_undue (Send v) s t x h = undue_is x.2 h

pub unheeded_undue : (s : State) (e : Event) → IsUnheeded s (e ∷ []) → Undue s
unheeded_undue s (dials ok) h = undue_todo s (Dial ∷ []) h refl
unheeded_undue s (waits x) h = undue_todo s (Wait ∷ []) h refl
unheeded_undue s _ h = absurd h

-- ---- what was sent

-- one thing is done
done_told : (d : Doing) (more : List Doing) (s : State) (xs ts : List ℤ) (notes : List Note) → due_in (done d more s).todo ++ xs ≡ told_in notes ++ ts → due_in (d ∷ more) ++ xs ≡ told_in (notes_of d ++ notes) ++ ts
done_told (Say (note.In n v)) more s xs ts notes h = ap (λ (q : List ℤ). v ∷ q) h
done_told (Say note.Tester) more s xs ts notes h = h
done_told (Say (note.Out n v)) more s xs ts notes h = h
done_told (Say (note.Quiet n)) more s xs ts notes h = h
done_told (Say note.NotCommand) more s xs ts notes h = h
done_told (Say note.NotAllowed) more s xs ts notes h = h
done_told (Say (note.Ended e)) more s xs ts notes h = h
done_told Dial more s xs ts notes h = h
done_told Wait more s xs ts notes h = h
done_told (Send v) more s xs ts notes h = h
done_told HangUp more s xs ts notes h = h
done_told Idle more s xs ts notes h = h
done_told Quit more s xs ts notes h = h

-- from a state where nothing is due to one where nothing is
both_undue : (s u : State) (xs ys : List ℤ) → Undue s → Undue u → due_in u.todo ++ xs ≡ ys → due_in s.todo ++ xs ≡ ys
both_undue s u xs ys a b h = ap (λ (q : List ℤ). q ++ xs) (a ∙ sym b) ∙ h

-- an action is sent, or not
send_told_due : (v : ℤ) (ok : Bool) (r : Run) (s : State) (es : List Event) (ys : List ℤ) → s.todo ≡ Send v ∷ [] → due_in (send_told v ok r s).todo ++ sent_in es ≡ ys → due_in s.todo ++ sent_in (sends v ok ∷ es) ≡ ys
send_told_due v true r s es ys e h = ap (λ (q : List Doing). due_in q ++ v ∷ sent_in es) e ∙ h
send_told_due v false r s es ys e h =
    ap (λ (q : List Doing). due_in q ++ sent_in es) e ∙ (ap (λ (q : List ℤ). q ++ sent_in es) (sym (hanging_undue (nat_lt 0 r.dialled) Idle refl)) ∙ h)

-- what is due and what is sent is told, or is due in the end
pub sent_told : (m : Model) (s t : State) (es : List Event) → Leads m s es t → due_in s.todo ++ sent_in es ≡ told_in (notes_in es) ++ due_in t.todo
sent_told m s t es stays = append-nil (due_in s.todo)
sent_told m s t es (reading {u = u} {es = rest} line e c h) =
    both_undue s u (sent_in rest) _ (undue_todo s [] e refl) (carries_undue m (command_of m line) s u c) (sent_told m u t rest h)
sent_told m s t es (doing {es = rest} d more e a h) =
    ap (λ (q : List Doing). due_in q ++ sent_in (does' d ∷ rest)) e ∙ done_told d more s (sent_in rest) (due_in t.todo) (notes_in rest) (sent_told m (done d more s) t rest h)
sent_told m s t es (dialling {es = rest} ok r e a h) =
    both_undue s (dial_told ok r s) (sent_in rest) _ (undue_todo s (Dial ∷ []) e refl) (dial_told_undue ok r s) (sent_told m (dial_told ok r s) t rest h)
sent_told m s t es (waiting {u = u} {es = rest} x r e a c h) =
    both_undue s u (sent_in rest) _ (undue_todo s (Wait ∷ []) e refl) (heeds_told_undue m (answer_of x) r s u c) (sent_told m u t rest h)
sent_told m s t es (sending {es = rest} v ok r e a h) = send_told_due v ok r s rest _ e (sent_told m (send_told v ok r s) t rest h)

-- where nothing is due in the end
pub all_told : (m : Model) (t : State) (es : List Event) → Leads m at_start es t → due_in t.todo ≡ [] → sent_in es ≡ told_in (notes_in es)
all_told m t es h e = sent_told m at_start t es h ∙ (ap (λ (q : List ℤ). told_in (notes_in es) ++ q) e ∙ append-nil (told_in (notes_in es)))
