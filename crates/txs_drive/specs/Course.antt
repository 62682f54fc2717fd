-- Courses of the reference run: what happens from one state to another, and what comes of it.
use Rattle.std.specs.Prelude.{◌≡◌, ◌⊎◌, ℕ, ◌+◌, ℤ, Bool, true, false, ◌||◌, List, [], ◌∷◌, ◌++◌, Option, Some}
use Rattle.std.specs.Option.{option_map}
use Rattle.txs_outside.specs.declared.sut.Heard.{Heard}
use Rattle.txs_outside.specs.declared.sut.Heard.TheVariants as heard
use Rattle.txs_outside.specs.declared.sut.SutCall.{SutCall}
use Rattle.txs_outside.specs.declared.sut.SutCall.TheVariants as call
use Rattle.txs_outside.specs.declared.sut.SutEntry.{SutEntry}
use Rattle.txs_outside.specs.declared.ends.Ends.{Ends}
use Rattle.txs_outside.specs.Hanging.{number_of, more}
use Rattle.txs_session.specs.declared.doing.Doing.{Doing}
use Rattle.txs_session.specs.declared.doing.Doing.TheVariants.{Say, Dial, Wait, Send, HangUp, Idle, Quit}
use Rattle.txs_words.specs.declared.model.Model.{Model}
use Rattle.txs_session.specs.declared.note.Note.{Note}
use Rattle.txs_session.specs.declared.note.Note.TheVariants as note
use Rattle.txs_session.specs.Commands.{command_of}
use Rattle.txs_session.specs.Lines.{line_of, sent_line}
use Rattle.txs_session.specs.Session.{Run, State, Carries, dial_told, send_told, answer_of, Heeds, is_fail, asks_nothing, done}

-- a command line is read, a doing that asks nothing is done, or a call on the system is answered
pub data Event : Type 0 where
  reads : List ℕ → Event
  does' : Doing → Event
  dials : Bool → Event
  waits : Heard → Event
  sends : ℤ → Bool → Event

-- From one state these events lead to another. A line is read if nothing is left to be done.
pub data Leads (m : Model) : State → List Event → State → Type 0 where
  stays : {s : State} → Leads m s [] s
  reading : {s t u : State} {es : List Event} (line : List ℕ)
      → s.todo ≡ [] → Carries m (command_of m line) s u → Leads m u es t → Leads m s (reads line ∷ es) t
  doing : {s t : State} {es : List Event} (d : Doing) (more : List Doing)
      → s.todo ≡ d ∷ more → asks_nothing d ≡ true → Leads m (done d more s) es t → Leads m s (does' d ∷ es) t
  dialling : {s t : State} {es : List Event} (ok : Bool) (r : Run)
      → s.todo ≡ Dial ∷ [] → s.run ≡ Some r → Leads m (dial_told ok r s) es t → Leads m s (dials ok ∷ es) t
  waiting : {s t u : State} {es : List Event} (h : Heard) (r : Run)
      → s.todo ≡ Wait ∷ [] → s.run ≡ Some r → Heeds m (answer_of h) r s u → Leads m u es t → Leads m s (waits h ∷ es) t
  sending : {s t : State} {es : List Event} (v : ℤ) (ok : Bool) (r : Run)
      → s.todo ≡ Send v ∷ [] → s.run ≡ Some r → Leads m (send_told v ok r s) es t → Leads m s (sends v ok ∷ es) t

-- ---- what comes of events

-- the lines read
abbrev pub lines_in : List Event → List (List ℕ)
lines_in [] = []
lines_in (reads line ∷ es) = line ∷ lines_in es
lines_in (does' d ∷ es) = lines_in es
lines_in (dials ok ∷ es) = lines_in es
lines_in (waits h ∷ es) = lines_in es
lines_in (sends v ok ∷ es) = lines_in es

-- the notes written, in order
abbrev pub notes_of : Doing → List Note
notes_of (Say n) = n ∷ []
notes_of _ = []

abbrev pub notes_in : List Event → List Note
notes_in [] = []
notes_in (reads line ∷ es) = notes_in es
notes_in (does' d ∷ es) = notes_of d ++ notes_in es
notes_in (dials ok ∷ es) = notes_in es
notes_in (waits h ∷ es) = notes_in es
notes_in (sends v ok ∷ es) = notes_in es

-- the text of notes
abbrev pub text_of : Model → List Note → List ℕ
text_of m [] = []
text_of m (n ∷ ns) = line_of m n ++ text_of m ns

-- whether FAIL is among notes
abbrev pub has_fail : List Note → Bool
has_fail [] = false
has_fail (n ∷ ns) = is_fail n || has_fail ns

-- whether a `quit` is among events
abbrev pub is_quit : Doing → Bool
is_quit (Say n) = false
is_quit Dial = false
is_quit Wait = false
is_quit (Send v) = false
is_quit HangUp = false
is_quit Idle = false
is_quit Quit = true

abbrev pub has_quit : List Event → Bool
has_quit [] = false
has_quit (reads line ∷ es) = has_quit es
has_quit (does' d ∷ es) = is_quit d || has_quit es
has_quit (dials ok ∷ es) = has_quit es
has_quit (waits h ∷ es) = has_quit es
has_quit (sends v ok ∷ es) = has_quit es

-- how many dials succeeded
abbrev pub dialled_in : List Event → ℕ
dialled_in [] = 0
dialled_in (dials true ∷ es) = 1 + dialled_in es
dialled_in (_ ∷ es) = dialled_in es

-- how often the ends were hung up
abbrev pub hung_in : List Event → ℕ
hung_in [] = 0
hung_in (does' HangUp ∷ es) = 1 + hung_in es
hung_in (_ ∷ es) = hung_in es

-- the values that were sent, in order
abbrev pub sent_in : List Event → List ℤ
sent_in [] = []
sent_in (sends v true ∷ es) = v ∷ sent_in es
sent_in (_ ∷ es) = sent_in es

-- the values that notes tell to be sent
abbrev pub told_in : List Note → List ℤ
told_in [] = []
told_in (note.In n v ∷ ns) = v ∷ told_in ns
told_in (_ ∷ ns) = told_in ns

-- the values of which it is still to be told that they were sent
abbrev pub due_in : List Doing → List ℤ
due_in [] = []
due_in (Say (note.In n v) ∷ ds) = v ∷ due_in ds
due_in (_ ∷ ds) = due_in ds

-- a note is among those written
abbrev pub IsNoted : Note → List Note → Type 0
IsNoted n [] = ⊥
IsNoted n (x ∷ xs) = (n ≡ x) ⊎ IsNoted n xs

-- the one end of the connection
abbrev pub ends_of : Model → Ends
ends_of m = record { listen = false; list = (record { host = m.host; port = m.port }) ∷ [] }

-- the number of `hang_up`s after a doing
abbrev pub hung_by : Doing → Option ℕ → Option ℕ
hung_by HangUp h = option_map more h
hung_by _ h = h

-- the number of `hang_up`s after events, if it is told
abbrev pub hung_after : List Event → Option ℕ → Option ℕ
hung_after [] h = h
hung_after (reads line ∷ es) h = hung_after es h
hung_after (does' d ∷ es) h = hung_after es (hung_by d h)
hung_after (dials ok ∷ es) h = hung_after es h
hung_after (waits h ∷ es) k = hung_after es k
hung_after (sends v ok ∷ es) h = hung_after es h

abbrev pub entry : Option ℕ → SutCall → SutEntry
entry h c = record { call = c; hang_ups = number_of h }

-- the calls on the system, each with its answer and the number of `hang_up`s before it
abbrev pub calls_in : Model → List Event → Option ℕ → List SutEntry
calls_in m [] h = []
calls_in m (reads line ∷ es) h = calls_in m es h
calls_in m (does' d ∷ es) h = calls_in m es (hung_by d h)
calls_in m (dials ok ∷ es) h = entry h (call.Dial (ends_of m) ok) ∷ calls_in m es h
calls_in m (waits x ∷ es) h = entry h (call.Wait 4096 x) ∷ calls_in m es h
calls_in m (sends v ok ∷ es) h = entry h (call.Send 0 (sent_line v) ok) ∷ calls_in m es h

-- a call of the system failed
abbrev pub IsFailed : Event → Type 0
IsFailed (reads line) = ⊥
IsFailed (does' d) = ⊥
IsFailed (dials ok) = ok ≡ false
IsFailed (waits h) = h ≡ heard.Failed
IsFailed (sends v ok) = ok ≡ false

abbrev pub AnyFailed : List Event → Type 0
AnyFailed [] = ⊥
AnyFailed (e ∷ es) = IsFailed e ⊎ AnyFailed es
