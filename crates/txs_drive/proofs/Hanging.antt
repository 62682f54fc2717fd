-- The ends are hung up once for each dial that succeeds, and not else.
use Rattle.std.proofs.Common.{◌≡◌, ◌≤◌, ◌+◌, inl, inr, ℕ, zero, suc, ℤ, Bool, true, false, List, [], ◌∷◌, ◌++◌, Option, None, Some, refl, ap, sym, ◌∙◌, subst, append-nil, arith}
use Rattle.txs_words.specs.declared.model.Model.{Model}
use Rattle.txs_session.specs.declared.command.Command.{Command}
use Rattle.txs_session.specs.declared.command.Command.TheVariants as command
use Rattle.txs_session.specs.declared.doing.Doing.{Doing}
use Rattle.txs_session.specs.declared.doing.Doing.TheVariants.{Say, Dial, Wait, Send, HangUp, Idle, Quit}
use Rattle.txs_session.specs.declared.note.Note.TheVariants as note
use Rattle.txs_session.specs.declared.note.Seen.{Seen}
use Rattle.txs_session.specs.declared.note.Seen.TheVariants as seen
use Rattle.txs_session.specs.declared.answer.Answer.{Answer}
use Rattle.txs_session.specs.declared.answer.Answer.TheVariants as answer
use Rattle.txs_session.specs.Commands.{command_of}
use Rattle.txs_session.specs.Session.{Run, State, at_start, does, Carries, IfGoing, Stimulates, Heeds, Judges, dial_told, send_told, answer_of, asks_nothing, done, hanging, dialled_of, hung_run, started}
use Rattle.txs_drive.specs.Course.{Event, reads, does', dials, waits, sends, Leads, stays, reading, doing, dialling, waiting, sending, dialled_in, hung_in}
use Rattle.txs_drive.specs.Served.{last_of}
use Rattle.txs_drive.specs.Cut.{IsUnheeded, dialled_by}
use Rattle.txs_drive.proofs.Counts.{dialled_in-append, hung_in-append, hung_last}

-- ---- what is to be done, with so many ends dialled

-- No dial is to be done where an end is dialled, and no hang-up where none is; more than one is never dialled.
abbrev Suits : ℕ → List Doing → Type 0
Suits n [] = n ≤ 1
Suits n (Say x ∷ ds) = Suits n ds
Suits n (Dial ∷ ds) = n ≡ 0
Suits n (Wait ∷ ds) = n ≤ 1
Suits n (Send v ∷ ds) = n ≤ 1
Suits n (HangUp ∷ ds) = (n ≡ 1) × Suits 0 ds
Suits n (Idle ∷ ds) = Suits n ds
Suits n (Quit ∷ ds) = Suits n ds

-- a state with so many ends dialled, which what is to be done suits
abbrev Stands : ℕ → State → Type 0
Stands n s = (dialled_of s.run ≡ n) × Suits n s.todo

at_most_one : (n : ℕ) (ds : List Doing) → Suits n ds → n ≤ 1
at_most_one n [] h = h
at_most_one n (Say x ∷ ds) h = at_most_one n ds h
at_most_one n (Dial ∷ ds) h = omega (arith, h)
at_most_one n (Wait ∷ ds) h = h
at_most_one n (Send v ∷ ds) h = h
at_most_one n (HangUp ∷ ds) h = omega (arith, h.0)
at_most_one n (Idle ∷ ds) h = at_most_one n ds h
at_most_one n (Quit ∷ ds) h = at_most_one n ds h

hanging_suits : (n : ℕ) (ds : List Doing) → n ≤ 1 → Suits 0 ds → Suits n (hanging n ++ ds)
hanging_suits zero ds h k = k
hanging_suits (suc zero) ds h k = (refl, k)
hanging_suits (suc (suc n)) ds h k = absurd (omega (arith, h))

placed : (n : ℕ) (s t : State) (ds : List Doing) → dialled_of s.run ≡ n → Suits n ds → t ≡ does ds s → Stands n t
placed n s t ds e h p = subst (Stands n) (sym p) (e, h)

-- ---- a command line

going_stands : (n : ℕ) (o : Option Run) (s t : State) (go : Run → State → Type 0) → dialled_of s.run ≡ n → n ≤ 1 → ((q : Run) → go q t → Stands n t) → IfGoing o s go t → Stands n t
going_stands n None s t go e w k h = placed n s t (Say note.NotCommand ∷ Idle ∷ []) e w h
going_stands n (Some q) s t go e w k (inl h) = placed n s t (Say note.NotCommand ∷ Idle ∷ []) e w h.1
going_stands n (Some q) s t go e w k (inr h) = k q h.1

stimulates_stands : (m : Model) (v : ℤ) (n : ℕ) (s t : State) (q : Run) → dialled_of s.run ≡ n → n ≤ 1 → Stimulates m v s q t → Stands n t
stimulates_stands m v n s t q e w (inl h) = placed n s t (Send v ∷ []) e w h.1
stimulates_stands m v n s t q e w (inr h) = placed n s t (Say note.NotAllowed ∷ Idle ∷ []) e w h.1

started_stands : (n : ℕ) (o : Option Run) (s t : State) → dialled_of o ≡ n → dialled_of s.run ≡ n → n ≤ 1 → t ≡ started o s → Stands n t
started_stands n None s t z e w h = subst (Stands n) (sym h) (z, sym z)
started_stands n (Some q) s t z e w h = placed n s t (Say note.NotCommand ∷ Idle ∷ []) e w h

quit_stands : (n k : ℕ) (s t : State) → k ≡ n → dialled_of s.run ≡ n → n ≤ 1 → t ≡ does (hanging k ++ Quit ∷ []) s → Stands n t
quit_stands n k s t z e w h = placed n s t (hanging k ++ Quit ∷ []) e (subst (λ (x : ℕ). Suits n (hanging x ++ Quit ∷ [])) (sym z) (hanging_suits n (Quit ∷ []) w (omega arith))) h

carries_stands : (m : Model) (x : Command) (n : ℕ) (s t : State) → dialled_of s.run ≡ n → n ≤ 1 → Carries m x s t → Stands n t
carries_stands m command.Pass n s t e w h = placed n s t (Idle ∷ []) e w h
carries_stands m command.Quit n s t e w h = quit_stands n (dialled_of s.run) s t e e w h
carries_stands m command.Refused n s t e w h = placed n s t (Say note.NotCommand ∷ Idle ∷ []) e w h
carries_stands m command.Tester n s t e w h = started_stands n s.run s t e e w h
carries_stands m command.Observe n s t e w h = going_stands n s.run s t _ e w (λ q p. placed n s t (Wait ∷ []) e w p) h
carries_stands m (command.Stimulate v) n s t e w h = going_stands n s.run s t _ e w (λ q p. stimulates_stands m v n s t q e w p) h

-- ---- what the system tells

ending_suits : (n : ℕ) → n ≤ 1 → Suits n (hanging n ++ Idle ∷ [])
ending_suits n w = hanging_suits n (Idle ∷ []) w (omega arith)

told_false : (r : Run) (s : State) → r.dialled ≤ 1 → Stands r.dialled (dial_told false r s)
told_false r s w = (refl, ending_suits r.dialled w)

sent_stands : (v : ℤ) (ok : Bool) (r : Run) (s : State) → r.dialled ≤ 1 → Stands r.dialled (send_told v ok r s)
sent_stands v true r s w = (refl, w)
sent_stands v false r s w = (refl, ending_suits r.dialled w)

judges_stands : (m : Model) (x : Seen) (r : Run) (s t : State) → r.dialled ≤ 1 → Judges m x r s t → Stands r.dialled t
judges_stands m x r s t w (inl h) = subst (Stands r.dialled) (sym h.1) (refl, w)
judges_stands m x r s t w (inr h) = subst (Stands r.dialled) (sym h.1) (refl, ending_suits r.dialled w)

heeds_stands : (m : Model) (x : Answer) (r : Run) (s t : State) → r.dialled ≤ 1 → Heeds m x r s t → Stands r.dialled t
heeds_stands m (answer.Number v) r s t w h = judges_stands m (seen.Out v) r s t w h
heeds_stands m answer.Quiet r s t w h = judges_stands m seen.Quiet r s t w h
heeds_stands m answer.Breaks r s t w h = subst (Stands r.dialled) (sym h) (refl, ending_suits r.dialled w)
heeds_stands m answer.Later r s t w h = subst (Stands r.dialled) (sym h) (refl, ending_suits r.dialled w)

-- ---- courses

-- what was dialled before and in the events is what was hung up in them and is dialled after
abbrev Balanced : ℕ → List Event → State → Type 0
Balanced n es t = (k : ℕ) × Stands k t × (hung_in es + k ≡ dialled_in es + n)

suited : (n : ℕ) (s : State) (ds : List Doing) → Stands n s → s.todo ≡ ds → Suits n ds
suited n s ds h e = subst (Suits n) e h.1

run_has : (n : ℕ) (s : State) (r : Run) → Stands n s → s.run ≡ Some r → r.dialled ≡ n
run_has n s r h e = sym (ap dialled_of e) ∙ h.0

one_at_most : (n : ℕ) (s : State) (r : Run) → Stands n s → s.run ≡ Some r → r.dialled ≤ 1
one_at_most n s r h e = omega (arith, run_has n s r h e, at_most_one n s.todo h.1)

-- a doing that asks nothing
done_balanced : (d : Doing) (more : List Doing) (n : ℕ) (s t : State) (es : List Event) → dialled_of s.run ≡ n → Suits n (d ∷ more) → asks_nothing d ≡ true
    → ((k : ℕ) → Stands k (done d more s) → Balanced k es t) → Balanced n (does' d ∷ es) t
done_balanced (Say x) more n s t es e h a k = k n (e, h)
done_balanced Dial more n s t es e h a k = cc
done_balanced Wait more n s t es e h a k = cc
done_balanced (Send v) more n s t es e h a k = cc
done_balanced HangUp more n s t es e h a k =
    let b = k 0 (hung_none s.run, h.1) in
    (b.0, b.1, omega (arith, b.2, h.0))
  where
    hung_none : (o : Option Run) → dialled_of (hung_run o) ≡ 0
    hung_none None = refl
    hung_none (Some r) = refl
done_balanced Idle more n s t es e h a k = k n (e, h)
done_balanced Quit more n s t es e h a k = k n (e, h)

-- a dial
dial_balanced : (ok : Bool) (r : Run) (n : ℕ) (s t : State) (es : List Event) → r.dialled ≡ n → n ≡ 0
    → ((k : ℕ) → Stands k (dial_told ok r s) → Balanced k es t) → Balanced n (dials ok ∷ es) t
dial_balanced true r n s t es e z k =
    let b = k 1 (refl, omega arith) in
    (b.0, b.1, omega (arith, b.2, z))
dial_balanced false r n s t es e z k = k n (subst (λ (x : ℕ). Stands x (dial_told false r s)) e (told_false r s (omega (arith, e, z))))

balanced : (m : Model) (n : ℕ) (s t : State) (es : List Event) → Leads m s es t → Stands n s → Balanced n es t
balanced m n s t es stays h = (n, h, refl)
balanced m n s t es (reading {u = u} {es = rest} line e c l) h =
    balanced m n u t rest l (carries_stands m (command_of m line) n s u h.0 (suited n s [] h e) c)
balanced m n s t es (doing {es = rest} d more e a l) h =
    done_balanced d more n s t rest h.0 (suited n s (d ∷ more) h e) a (λ k g. balanced m k (done d more s) t rest l g)
balanced m n s t es (dialling {es = rest} ok r e i l) h =
    dial_balanced ok r n s t rest (run_has n s r h i) (suited n s (Dial ∷ []) h e) (λ k g. balanced m k (dial_told ok r s) t rest l g)
balanced m n s t es (waiting {u = u} {es = rest} x r e i c l) h =
    balanced m n u t rest l (subst (λ (k : ℕ). Stands k u) (run_has n s r h i) (heeds_stands m (answer_of x) r s u (one_at_most n s r h i) c))
balanced m n s t es (sending {es = rest} v ok r e i l) h =
    balanced m n (send_told v ok r s) t rest l (subst (λ (k : ℕ). Stands k (send_told v ok r s)) (run_has n s r h i) (sent_stands v ok r s (one_at_most n s r h i)))

from_first : (m : Model) (t : State) (es : List Event) → Leads m at_start es t → Balanced 0 es t
from_first m t es l = balanced m 0 at_start t es l (refl, omega arith)

-- the ends after a call that was not heeded
unheeded_ends : (n : ℕ) (s : State) (es : List Event) → Stands n s → IsUnheeded s es → (dialled_by es n ≡ dialled_in es + n) × (dialled_by es n ≤ 1)
unheeded_ends n s [] h u = (omega arith, at_most_one n s.todo h.1)
unheeded_ends n s (dials true ∷ []) h u = (omega (arith, suited n s (Dial ∷ []) h u), omega arith)
unheeded_ends n s (dials false ∷ []) h u = (omega arith, at_most_one n s.todo h.1)
unheeded_ends n s (waits x ∷ []) h u = (omega arith, at_most_one n s.todo h.1)
unheeded_ends n s (sends v ok ∷ []) h u = absurd u
unheeded_ends n s (reads line ∷ es) h u = absurd u
unheeded_ends n s (does' d ∷ es) h u = absurd u
unheeded_ends n s (dials ok ∷ e ∷ es) h u = absurd u
unheeded_ends n s (waits x ∷ e ∷ es) h u = absurd u
unheeded_ends n s (sends v ok ∷ e ∷ es) h u = absurd u

-- what is dialled at the end, also by a call that was not heeded, is hung up last
pub hung_once_cut : (m : Model) (t : State) (es more : List Event) → Leads m at_start es t → IsUnheeded t more → hung_in (es ++ last_of (dialled_by more (dialled_of t.run))) ≡ dialled_in (es ++ more)
hung_once_cut m t es more l u =
    let b = from_first m t es l in
    let ends = unheeded_ends b.0 t more b.1 u in
    let same : dialled_by more (dialled_of t.run) ≡ dialled_by more b.0 = ap (dialled_by more) b.1.0 in
    omega (
      arith,
      hung_in-append es (last_of (dialled_by more (dialled_of t.run))),
      hung_last (dialled_by more (dialled_of t.run)) (omega (arith, same, ends.1)),
      dialled_in-append es more,
      same,
      ends.0,
      b.2,
    )

pub hung_once : (m : Model) (t : State) (es : List Event) → Leads m at_start es t → hung_in (es ++ last_of (dialled_of t.run)) ≡ dialled_in es
hung_once m t es l = hung_once_cut m t es [] l tt ∙ ap dialled_in (append-nil es)
