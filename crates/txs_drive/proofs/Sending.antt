-- An action that is sent, and the line that says so, over plain variables.
use Rattle.std.proofs.Common.{◌≡◌, ◌<◌, ◌∷◌, ◌∙◌, [], ℕ, ℤ, Bool, true, false, List, Option, None, Some, sym, ap, subst, arith}
use Rattle.txs_outside.specs.declared.sut.SutEntry.{SutEntry}
use Rattle.txs_outside.specs.Known.{Grows}
use Rattle.txs_session.specs.declared.doing.Doing.{Doing}
use Rattle.txs_session.specs.declared.doing.Doing.TheVariants.{Say, Dial, Wait, Send, HangUp, Idle, Quit}
use Rattle.txs_drive.specs.declared.driver.Stop.TheVariants as stop
use Rattle.txs_drive.specs.declared.driver.Next.TheVariants as next
use Rattle.txs_words.specs.declared.model.Model.{Model}
use Rattle.txs_session.specs.declared.note.Note.TheVariants as note
use Rattle.txs_session.specs.Lines.{line_of}
use Rattle.txs_session.specs.Session.{Run, State, dialled_of, send_told, done}
use Rattle.txs_drive.specs.Course.{due_in}
use Rattle.txs_session.specs.Ready.{IsBusy, IsNext, ToldBy, next_number, ends_after}
use Rattle.txs_drive.specs.Cut.{Torn}
use Rattle.txs_drive.specs.inner.CarriedOut.{CarriedOut, CallAnswered, IsAhead, rank}
use Rattle.txs_drive.specs.inner.Stopped.{Stopped}
use Rattle.txs_drive.proofs.Courses.{carried_out_then, carried_out_call, carried_out_say}
use Rattle.txs_drive.proofs.Stops.{stopped_after, stopped_torn}

-- what is due once an action is sent
pub sent_says : (r : Option Run) (s t : State) (v : ℤ) (ok : Bool) → ok ≡ true → ToldBy r (λ q. send_told v ok q s) t → t.todo ≡ Say (note.In (next_number r) v) ∷ Idle ∷ []
sent_says None s t v ok e h = absurd h
sent_says (Some r) s t v true e h = ap (λ (x : State). x.todo) h
sent_says (Some r) s t v false e h = cc

abbrev pub says_in : ℕ → ℤ → List Doing
says_in n v = Say (note.In n v) ∷ Idle ∷ []

-- the line that is due comes next
pub next_is : (d : Doing) (n : ℕ) (v : ℤ) (t u : State) → t.todo ≡ says_in n v → IsNext d t u → d ≡ Say (note.In n v)
next_is d n v t u h x = let e : d ∷ x.0 ≡ says_in n v = sym x.1 ∙ h in cc

next_done : (d : Doing) (n : ℕ) (v : ℤ) (t u : State) → d ≡ Say (note.In n v) → t.todo ≡ says_in n v → IsNext d t u → u ≡ done (Say (note.In n v)) (Idle ∷ []) t
next_done (Say k) n v t u q h x =
    let e : Say k ∷ x.0 ≡ says_in n v = sym x.1 ∙ h in
    let b : x.0 ≡ Idle ∷ [] = cc in
    x.2 ∙ (ap (λ (d : Doing). done d x.0 t) q ∙ ap (λ (ds : List Doing). done (Say (note.In n v)) ds t) b)
next_done HangUp n v t u q h x = cc
next_done Idle n v t u q h x = cc
next_done Quit n v t u q h x = cc
next_done Dial n v t u q h x = cc
next_done Wait n v t u q h x = cc
next_done (Send w) n v t u q h x = cc

pub next_says : (d : Doing) (n : ℕ) (v : ℤ) (t u : State) → t.todo ≡ says_in n v → IsNext d t u → u ≡ done (Say (note.In n v)) (Idle ∷ []) t
next_says d n v t u h x = next_done d n v t u (next_is d n v t u h x) h x

-- what is due once an action is sent, from the state before all memory for it was found
says_after : (s s1 t : State) (v : ℤ) (ok : Bool) → s1 ≡ s → ok ≡ true → ToldBy s1.run (λ r. send_told v ok r s1) t → t.todo ≡ says_in (next_number s.run) v
says_after s s1 t v ok e o told = sent_says s1.run s1 t v ok o told ∙ ap (λ (y : State). says_in (next_number y.run) v) e

-- it was sent, and its line was written
pub carried_out_sent : (m : Model) (s s1 t u : State) (k0 k1 : Option (List ℕ)) (u0 u1 : Option (List SutEntry)) (h0 h1 : Option ℕ) (f0 f1 : ℕ) (v : ℤ) (ok : Bool) (d : Doing) (text : List ℕ)
    → s1 ≡ s → CallAnswered m s1 t u0 u1 h0 h1 f0 f1 → ok ≡ true → ToldBy s1.run (λ r. send_told v ok r s1) t → IsNext d t u → text ≡ line_of m (note.In (next_number s.run) v) → Grows k0 k1 text
    → CarriedOut m s u k0 k1 u0 u1 h0 h1 f0 f1 [] false
carried_out_sent m s s1 t u k0 k1 u0 u1 h0 h1 f0 f1 v ok d text e c o told x l g =
    let due = says_after s s1 t v ok e o told in
    carried_out_then m s t u k0 k0 k1 u0 u1 u1 h0 h1 h1 f0 f1 f1 [] [] false
    (subst (λ (y : State). CarriedOut m y t k0 k0 u0 u1 h0 h1 f0 f1 [] false) e (carried_out_call m s1 t k0 u0 u1 h0 h1 f0 f1 c))
    (carried_out_say m t u k0 k1 u1 h1 f1 (note.In (next_number s.run) v) (Idle ∷ []) text due (next_says d (next_number s.run) v t u due x) l g)

-- it could not be sent
pub carried_out_unsent : (m : Model) (s s1 t : State) (k : Option (List ℕ)) (u0 u1 : Option (List SutEntry)) (h0 h1 : Option ℕ) (f0 f1 : ℕ)
    → s1 ≡ s → CallAnswered m s1 t u0 u1 h0 h1 f0 f1 → CarriedOut m s t k k u0 u1 h0 h1 f0 f1 [] false
carried_out_unsent m s s1 t k u0 u1 h0 h1 f0 f1 e c = subst (λ (y : State). CarriedOut m y t k k u0 u1 h0 h1 f0 f1 [] false) e (carried_out_call m s1 t k u0 u1 h0 h1 f0 f1 c)

-- the line that is due leaves the ends dialled
pub ends_sent : (s s1 t u : State) (v : ℤ) (k : ℕ) (ok : Bool) (d : Doing) → s1 ≡ s → ok ≡ true → ToldBy s1.run (λ r. send_told v ok r s1) t → IsNext d t u → k ≡ ends_after d (dialled_of t.run) → k ≡ dialled_of t.run
ends_sent s s1 t u v k ok d e o told x z = z ∙ ap (λ (y : Doing). ends_after y (dialled_of t.run)) (next_is d (next_number s.run) v t u (says_after s s1 t v ok e o told) x)

-- it was sent, and its line was begun
pub stopped_sent : (m : Model) (s s1 t u : State) (n1 : ℕ) (k0 k1 : Option (List ℕ)) (u0 u1 : Option (List SutEntry)) (h0 h1 : Option ℕ) (f0 f1 : ℕ) (v : ℤ) (ok : Bool) (d : Doing) (text : List ℕ)
    → s1 ≡ s → CallAnswered m s1 t u0 u1 h0 h1 f0 f1 → ok ≡ true → ToldBy s1.run (λ r. send_told v ok r s1) t → IsNext d t u → text ≡ line_of m (note.In (next_number s.run) v) → Torn k0 k1 text
    → n1 ≡ ends_after d (dialled_of t.run)
    → Stopped stop.Sink m s n1 k0 k1 u0 u1 h0 h1 f0 f1 []
stopped_sent m s s1 t u n1 k0 k1 u0 u1 h0 h1 f0 f1 v ok d text e c o told x l g z =
    stopped_after stop.Sink m s t n1 k0 k0 k1 u0 u1 u1 h0 h1 h1 f0 f1 f1 [] []
    (subst (λ (y : State). CarriedOut m y t k0 k0 u0 u1 h0 h1 f0 f1 [] false) e (carried_out_call m s1 t k0 u0 u1 h0 h1 f0 f1 c))
    (stopped_torn m t n1 k0 k1 u1 h1 f1 (note.In (next_number s.run) v) (Idle ∷ []) text (says_after s s1 t v ok e o told) l g (ends_sent s s1 t u v n1 ok d e o told x z))

-- nothing is due after the line
pub undue_sent : (s s1 t u : State) (v : ℤ) (ok : Bool) (d : Doing) → s1 ≡ s → ok ≡ true → ToldBy s1.run (λ r. send_told v ok r s1) t → IsNext d t u → due_in u.todo ≡ []
undue_sent s s1 t u v ok d e o told x = ap (λ (y : State). due_in y.todo) (next_says d (next_number s.run) v t u (says_after s s1 t v ok e o told) x)

-- what is left after the line leads to the end of the command
pub busy_sent : (s s1 t u : State) (v : ℤ) (ok : Bool) (d : Doing) → s.todo ≡ Send v ∷ [] → s1 ≡ s → ok ≡ true → ToldBy s1.run (λ r. send_told v ok r s1) t → IsNext d t u → IsBusy t.run t.todo → IsAhead next.GoesOn s u
busy_sent s s1 t u v ok d z e o told x b =
    let due = says_after s s1 t v ok e o told in
    let after = next_says d (next_number s.run) v t u due x in (
      subst (λ (y : State). IsBusy y.run y.todo) (sym after) (subst (λ (ds : List Doing). IsBusy t.run ds) due b),
      subst (λ (y : State). rank y.todo < rank s.todo) (sym after) (subst (λ (ds : List Doing). 1 < rank ds) (sym z) (omega arith)),
    )
