-- What the notes of a course say of it: FAIL of the flag that is kept, and LINK of a failed call.
use Rattle.std.proofs.Common.{◌≡◌, ◌⊎◌, ◌+◌, inl, inr, ℕ, ℤ, Bool, true, false, ◌||◌, cond, eqb, nat_lt, List, [], ◌∷◌, ◌++◌, length, Option, None, Some, refl, ap, sym, ◌∙◌, subst}
use Rattle.txs_outside.specs.declared.sut.Heard.{Heard}
use Rattle.txs_outside.specs.declared.sut.Heard.TheVariants as heard
use Rattle.txs_words.specs.declared.model.Model.{Model}
use Rattle.txs_session.specs.declared.command.Command.{Command}
use Rattle.txs_session.specs.declared.command.Command.TheVariants as command
use Rattle.txs_session.specs.declared.doing.Doing.{Doing}
use Rattle.txs_session.specs.declared.doing.Doing.TheVariants.{Say, Dial, Wait, Send, HangUp, Idle, Quit}
use Rattle.txs_session.specs.declared.note.Note.{Note}
use Rattle.txs_session.specs.declared.note.Note.TheVariants as note
use Rattle.txs_session.specs.declared.note.Ending.TheVariants.{Fail, Link, Later}
use Rattle.txs_session.specs.declared.note.Seen.{Seen}
use Rattle.txs_session.specs.declared.note.Seen.TheVariants as seen
use Rattle.txs_session.specs.declared.answer.Answer.{Answer}
use Rattle.txs_session.specs.declared.answer.Answer.TheVariants as answer
use Rattle.txs_session.specs.Parts.{cut_at}
use Rattle.txs_session.specs.Commands.{command_of}
use Rattle.txs_session.specs.Session.{Run, State, at_start, Carries, IfGoing, Stimulates, Heeds, Judges, dial_told, send_told, answer_of, number_answer, number_in, seen_note, is_fail, done, hanging, dialled_of}
use Rattle.txs_drive.specs.Course.{Event, Leads, stays, reading, doing, dialling, waiting, sending, notes_in, notes_of, has_fail, IsNoted, AnyFailed}

-- ---- FAIL

or_false : (b : Bool) → b ≡ (b || false)
or_false true = refl
or_false false = refl

or_assoc : (a b c : Bool) → ((a || b) || c) ≡ (a || (b || c))
or_assoc true b c = refl
or_assoc false b c = refl

flag : {s t : State} → t ≡ s → t.has_failed ≡ s.has_failed
flag e = ap (λ (x : State). x.has_failed) e

going_flag : (r : Option Run) (s t : State) (go : Run → State → Type 0) → ((q : Run) → go q t → t.has_failed ≡ s.has_failed) → IfGoing r s go t → t.has_failed ≡ s.has_failed
going_flag None s t go k h = flag h
going_flag (Some q) s t go k (inl h) = flag h.1
going_flag (Some q) s t go k (inr h) = k q h.1

stimulates_flag : (m : Model) (v : ℤ) (s t : State) (q : Run) → Stimulates m v s q t → t.has_failed ≡ s.has_failed
stimulates_flag m v s t q (inl h) = flag h.1
stimulates_flag m v s t q (inr h) = flag h.1

started_flag : (m : Model) (r : Option Run) (s t : State) → t ≡ Rattle.txs_session.specs.Session.started r s → t.has_failed ≡ s.has_failed
started_flag m None s t h = flag h
started_flag m (Some q) s t h = flag h

carries_flag : (m : Model) (x : Command) (s t : State) → Carries m x s t → t.has_failed ≡ s.has_failed
carries_flag m command.Pass s t h = flag h
carries_flag m command.Quit s t h = flag h
carries_flag m command.Refused s t h = flag h
carries_flag m command.Tester s t h = started_flag m s.run s t h
carries_flag m command.Observe s t h = going_flag s.run s t _ (λ q e. flag e) h
carries_flag m (command.Stimulate v) s t h = going_flag s.run s t _ (stimulates_flag m v s t) h

judges_flag : (m : Model) (x : Seen) (r : Run) (s t : State) → Judges m x r s t → t.has_failed ≡ s.has_failed
judges_flag m x r s t (inl h) = flag h.1
judges_flag m x r s t (inr h) = flag h.1

heeds_flag : (m : Model) (x : Answer) (r : Run) (s t : State) → Heeds m x r s t → t.has_failed ≡ s.has_failed
heeds_flag m (answer.Number v) r s t h = judges_flag m (seen.Out v) r s t h
heeds_flag m answer.Quiet r s t h = judges_flag m seen.Quiet r s t h
heeds_flag m answer.Breaks r s t h = flag h
heeds_flag m answer.Later r s t h = flag h

dial_flag : (ok : Bool) (r : Run) (s : State) → (dial_told ok r s).has_failed ≡ s.has_failed
dial_flag true r s = refl
dial_flag false r s = refl

send_flag : (v : ℤ) (ok : Bool) (r : Run) (s : State) → (send_told v ok r s).has_failed ≡ s.has_failed
send_flag v true r s = refl
send_flag v false r s = refl

then_flag : (a b c : Bool) (ns : List Note) → c ≡ b → a ≡ (c || has_fail ns) → a ≡ (b || has_fail ns)
then_flag a b c ns e h = h ∙ ap (λ (x : Bool). x || has_fail ns) e

done_flag : (d : Doing) (more : List Doing) (s : State) (a : Bool) (ns : List Note) → a ≡ ((done d more s).has_failed || has_fail ns) → a ≡ (s.has_failed || has_fail (notes_of d ++ ns))
done_flag (Say n) more s a ns h = h ∙ or_assoc s.has_failed (is_fail n) (has_fail ns)
done_flag Dial more s a ns h = h
done_flag Wait more s a ns h = h
done_flag (Send v) more s a ns h = h
done_flag HangUp more s a ns h = h
done_flag Idle more s a ns h = h
done_flag Quit more s a ns h = h

-- FAIL was written exactly where the flag says so
pub failed_says : (m : Model) (s t : State) (es : List Event) → Leads m s es t → t.has_failed ≡ (s.has_failed || has_fail (notes_in es))
failed_says m s t es stays = or_false s.has_failed
failed_says m s t es (reading {u = u} {es = rest} line e c h) = then_flag t.has_failed s.has_failed u.has_failed (notes_in rest) (carries_flag m (command_of m line) s u c) (failed_says m u t rest h)
failed_says m s t es (doing {es = rest} d more e n h) = done_flag d more s t.has_failed (notes_in rest) (failed_says m (done d more s) t rest h)
failed_says m s t es (dialling {es = rest} ok r e n h) = then_flag t.has_failed s.has_failed (dial_told ok r s).has_failed (notes_in rest) (dial_flag ok r s) (failed_says m (dial_told ok r s) t rest h)
failed_says m s t es (waiting {u = u} {es = rest} x r e n c h) = then_flag t.has_failed s.has_failed u.has_failed (notes_in rest) (heeds_flag m (answer_of x) r s u c) (failed_says m u t rest h)
failed_says m s t es (sending {es = rest} v ok r e n h) = then_flag t.has_failed s.has_failed (send_told v ok r s).has_failed (notes_in rest) (send_flag v ok r s) (failed_says m (send_told v ok r s) t rest h)

-- ---- LINK

-- LINK is still to be written
abbrev pub HasLink : List Doing → Type 0
HasLink [] = ⊥
HasLink (Say n ∷ ds) = (note.Ended Link ≡ n) ⊎ HasLink ds
HasLink (Dial ∷ ds) = HasLink ds
HasLink (Wait ∷ ds) = HasLink ds
HasLink (Send v ∷ ds) = HasLink ds
HasLink (HangUp ∷ ds) = HasLink ds
HasLink (Idle ∷ ds) = HasLink ds
HasLink (Quit ∷ ds) = HasLink ds

unlinked : {s t : State} → t ≡ s → (HasLink s.todo → ⊥) → HasLink t.todo → ⊥
unlinked e k h = k (subst (λ (x : State). HasLink x.todo) e h)

hangs_not : (b : Bool) (d : Doing) → (HasLink (d ∷ []) → ⊥) → HasLink (cond b (HangUp ∷ []) [] ++ d ∷ []) → ⊥
hangs_not true d k h = k h
hangs_not false d k h = k h

refused_not : HasLink (Say note.NotCommand ∷ Idle ∷ []) → ⊥
refused_not (inl e) = cc
refused_not (inr h) = h

going_not : (r : Option Run) (s t : State) (go : Run → State → Type 0) → ((q : Run) → go q t → HasLink t.todo → ⊥) → IfGoing r s go t → HasLink t.todo → ⊥
going_not None s t go k h = unlinked h refused_not
going_not (Some q) s t go k (inl h) = unlinked h.1 refused_not
going_not (Some q) s t go k (inr h) = k q h.1

not_allowed_not : HasLink (Say note.NotAllowed ∷ Idle ∷ []) → ⊥
not_allowed_not (inl e) = cc
not_allowed_not (inr h) = h

stimulates_not : (m : Model) (v : ℤ) (s t : State) (q : Run) → Stimulates m v s q t → HasLink t.todo → ⊥
stimulates_not m v s t q (inl h) = unlinked h.1 (λ x. x)
stimulates_not m v s t q (inr h) = unlinked h.1 not_allowed_not

tester_not : HasLink (Say note.Tester ∷ Dial ∷ []) → ⊥
tester_not (inl e) = cc
tester_not (inr h) = h

started_not : (r : Option Run) (s t : State) → t ≡ Rattle.txs_session.specs.Session.started r s → HasLink t.todo → ⊥
started_not None s t h = unlinked h tester_not
started_not (Some q) s t h = unlinked h refused_not

carries_not : (m : Model) (x : Command) (s t : State) → Carries m x s t → HasLink t.todo → ⊥
carries_not m command.Pass s t h = unlinked h (λ x. x)
carries_not m command.Quit s t h = unlinked h (hangs_not (nat_lt 0 (dialled_of s.run)) Quit (λ x. x))
carries_not m command.Refused s t h = unlinked h refused_not
carries_not m command.Tester s t h = started_not s.run s t h
carries_not m command.Observe s t h = going_not s.run s t _ (λ q e. unlinked e (λ x. x)) h
carries_not m (command.Stimulate v) s t h = going_not s.run s t _ (stimulates_not m v s t) h

seen_not : (n : ℕ) (x : Seen) → note.Ended Link ≡ seen_note n x → ⊥
seen_not n (seen.In v) e = cc
seen_not n (seen.Out v) e = cc
seen_not n seen.Quiet e = cc

kept_not : (n : ℕ) (x : Seen) → HasLink (Say (seen_note n x) ∷ Idle ∷ []) → ⊥
kept_not n x (inl e) = seen_not n x e
kept_not n x (inr h) = h

failed_not : (n : ℕ) (x : Seen) (b : Bool) → HasLink (Say (seen_note n x) ∷ Say (note.Ended Fail) ∷ (cond b (HangUp ∷ []) [] ++ Idle ∷ [])) → ⊥
failed_not n x b (inl e) = seen_not n x e
failed_not n x b (inr (inl e)) = cc
failed_not n x b (inr (inr h)) = hangs_not b Idle (λ y. y) h

later_not : (b : Bool) → HasLink (Say (note.Ended Later) ∷ (cond b (HangUp ∷ []) [] ++ Idle ∷ [])) → ⊥
later_not b (inl e) = cc
later_not b (inr h) = hangs_not b Idle (λ y. y) h

judges_not : (m : Model) (x : Seen) (r : Run) (s t : State) → Judges m x r s t → HasLink t.todo → ⊥
judges_not m x r s t (inl h) = unlinked h.1 (kept_not (length r.trace + 1) x)
judges_not m x r s t (inr h) = unlinked h.1 (failed_not (length r.trace + 1) x (nat_lt 0 r.dialled))

heeds_link : (m : Model) (x : Answer) (r : Run) (s t : State) → Heeds m x r s t → HasLink t.todo → x ≡ answer.Breaks
heeds_link m (answer.Number v) r s t h l = absurd (judges_not m (seen.Out v) r s t h l)
heeds_link m answer.Quiet r s t h l = absurd (judges_not m seen.Quiet r s t h l)
heeds_link m answer.Breaks r s t h l = refl
heeds_link m answer.Later r s t h l = absurd (unlinked h (later_not (nat_lt 0 r.dialled)) l)

number_breaks : (o : Option ℤ) → number_answer o ≡ answer.Breaks → ⊥
number_breaks None e = cc
number_breaks (Some v) e = cc

piece_breaks : (b : Bool) (o : Option ℤ) → cond b (number_answer o) answer.Later ≡ answer.Breaks → ⊥
piece_breaks true o e = number_breaks o e
piece_breaks false o e = cc

breaks_failed : (h : Heard) → answer_of h ≡ answer.Breaks → h ≡ heard.Failed
breaks_failed (heard.Piece end bytes) e = absurd (piece_breaks (eqb end 0) (number_in (cut_at 10 bytes)) e)
breaks_failed heard.Nothing e = cc
breaks_failed heard.Quiet e = cc
breaks_failed (heard.Ended end) e = cc
breaks_failed heard.Failed e = refl

dial_link : (ok : Bool) (r : Run) (s : State) → HasLink (dial_told ok r s).todo → ok ≡ false
dial_link true r s h = absurd h
dial_link false r s h = refl

sent_not : (n : ℕ) (v : ℤ) → HasLink (Say (note.In n v) ∷ Idle ∷ []) → ⊥
sent_not n v (inl e) = cc
sent_not n v (inr h) = h

send_link : (v : ℤ) (ok : Bool) (r : Run) (s : State) → HasLink (send_told v ok r s).todo → ok ≡ false
send_link v true r s h = absurd (sent_not (length r.trace + 1) v h)
send_link v false r s h = refl

done_link : (d : Doing) (more : List Doing) (s : State) → HasLink (done d more s).todo → HasLink (d ∷ more)
done_link (Say n) more s h = inr h
done_link Dial more s h = h
done_link Wait more s h = h
done_link (Send v) more s h = h
done_link HangUp more s h = h
done_link Idle more s h = h
done_link Quit more s h = h

noted_done : (d : Doing) (more : List Doing) (ns : List Note) → IsNoted (note.Ended Link) (notes_of d ++ ns) → HasLink (d ∷ more) ⊎ IsNoted (note.Ended Link) ns
noted_done (Say n) more ns (inl e) = inl (inl e)
noted_done (Say n) more ns (inr h) = inr h
noted_done Dial more ns h = inr h
noted_done Wait more ns h = inr h
noted_done (Send v) more ns h = inr h
noted_done HangUp more ns h = inr h
noted_done Idle more ns h = inr h
noted_done Quit more ns h = inr h

todo_is : (ds es : List Doing) → ds ≡ es → HasLink es → HasLink ds
todo_is ds es e h = subst HasLink (sym e) h

-- LINK that was written was to be written, or a call failed
link_from : (m : Model) (s t : State) (es : List Event) → Leads m s es t → IsNoted (note.Ended Link) (notes_in es) → HasLink s.todo ⊎ AnyFailed es
link_from m s t es stays n = absurd n
link_from m s t es (reading {u = u} {es = rest} line e c h) n =
    elim (link_from m u t rest h n) [ inl l ↦ absurd (carries_not m (command_of m line) s u c l) | inr f ↦ inr (inr f) ]
link_from m s t es (doing {es = rest} d more e a h) n =
    elim (noted_done d more (notes_in rest) n) [
      | inl l ↦ inl (todo_is s.todo (d ∷ more) e l)
      | inr k ↦ elim (link_from m (done d more s) t rest h k) [ inl l ↦ inl (todo_is s.todo (d ∷ more) e (done_link d more s l)) | inr f ↦ inr (inr f) ]
    ]
link_from m s t es (dialling {es = rest} ok r e a h) n =
    elim (link_from m (dial_told ok r s) t rest h n) [ inl l ↦ inr (inl (dial_link ok r s l)) | inr f ↦ inr (inr f) ]
link_from m s t es (waiting {u = u} {es = rest} x r e a c h) n =
    elim (link_from m u t rest h n) [ inl l ↦ inr (inl (breaks_failed x (heeds_link m (answer_of x) r s u c l))) | inr f ↦ inr (inr f) ]
link_from m s t es (sending {es = rest} v ok r e a h) n =
    elim (link_from m (send_told v ok r s) t rest h n) [ inl l ↦ inr (inl (send_link v ok r s l)) | inr f ↦ inr (inr f) ]

-- LINK stands only where a call failed
pub link_failed : (m : Model) (t : State) (es : List Event) → Leads m at_start es t → IsNoted (note.Ended Link) (notes_in es) → AnyFailed es
link_failed m t es h n = elim (link_from m at_start t es h n) [ inl l ↦ absurd l | inr f ↦ f ]
