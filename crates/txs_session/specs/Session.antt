-- What a session does for its commands, for what the system tells: the steps of the reference run.
use Rattle.std.specs.Prelude.{◌≡◌, ◌⊎◌, ℕ, ◌+◌, ℤ, Bool, true, false, not, ◌||◌, cond, eqb, nat_lt, List, [], ◌∷◌, ◌++◌, length, Option, Some, None}
use Rattle.txs_outside.specs.declared.sut.Heard.{Heard}
use Rattle.txs_outside.specs.declared.sut.Heard.TheVariants as heard
use Rattle.txs_session.specs.declared.note.Seen.{Seen}
use Rattle.txs_session.specs.declared.note.Seen.TheVariants as seen
use Rattle.txs_session.specs.declared.answer.Answer.{Answer}
use Rattle.txs_session.specs.declared.answer.Answer.TheVariants as answer
use Rattle.txs_session.specs.declared.note.Ending.{Ending}
use Rattle.txs_session.specs.declared.note.Ending.TheVariants.{Fail, Link, Later}
use Rattle.txs_session.specs.declared.note.Note.{Note}
use Rattle.txs_session.specs.declared.note.Note.TheVariants as note
use Rattle.txs_session.specs.declared.doing.Doing.{Doing}
use Rattle.txs_session.specs.declared.doing.Doing.TheVariants.{Say, Dial, Wait, Send, HangUp, Idle, Quit}
use Rattle.txs_session.specs.declared.command.Command.{Command}
use Rattle.txs_session.specs.declared.command.Command.TheVariants as command
use Rattle.txs_words.specs.declared.model.Model.{Model}
use Rattle.txs_session.specs.Parts.{cut_at}
use Rattle.txs_session.specs.Commands.{spelled}
use Rattle.txs_session.specs.Allowed.{MaySend, MaySee}

-- what was numbered, whether the run has ended, and how many ends are dialled
pub record Run : Type 0 where
  pub trace : List Seen
  pub is_over : Bool
  pub dialled : ℕ

-- a session between two steps: its run, whether FAIL was written, and what is still to be done, in order
pub record State : Type 0 where
  pub run : Option Run
  pub has_failed : Bool
  pub todo : List Doing

abbrev pub at_start : State
at_start = record { run = None; has_failed = false; todo = [] }

abbrev pub new_run : Run
new_run = record { trace = []; is_over = false; dialled = 0 }

abbrev pub does : List Doing → State → State
does doings s = record { run = s.run; has_failed = s.has_failed; todo = doings }

abbrev pub goes_on : Run → List Doing → State → State
goes_on r doings s = record { run = Some r; has_failed = s.has_failed; todo = doings }

abbrev pub seen_run : Seen → Run → Run
seen_run x r = record { trace = r.trace ++ x ∷ []; is_over = r.is_over; dialled = r.dialled }

abbrev pub over_run : Run → Run
over_run r = record { trace = r.trace; is_over = true; dialled = r.dialled }

abbrev pub with_dialled : ℕ → Run → Run
with_dialled n r = record { trace = r.trace; is_over = r.is_over; dialled = n }

-- the ends are hung up if they are dialled
abbrev pub hanging : ℕ → List Doing
hanging n = cond (nat_lt 0 n) (HangUp ∷ []) []

abbrev pub dialled_of : Option Run → ℕ
dialled_of None = 0
dialled_of (Some r) = r.dialled

abbrev pub is_going : Option Run → Bool
is_going None = false
is_going (Some r) = not r.is_over

-- the run ends: its line is written, and the ends are hung up
abbrev pub ends_with : Ending → Run → List Doing
ends_with e r = Say (note.Ended e) ∷ (hanging r.dialled ++ Idle ∷ [])

-- ---- a command line

abbrev pub refused : State → State
refused s = does (Say note.NotCommand ∷ Idle ∷ []) s

-- a command that needs a run which goes on
abbrev pub IfGoing : Option Run → State → (Run → State → Type 0) → State → Type 0
IfGoing None s go t = t ≡ refused s
IfGoing (Some r) s go t = (r.is_over ≡ true) × (t ≡ refused s) ⊎ ((r.is_over ≡ false) × go r t)

-- an action is sent exactly if the rules allow it after the trace
abbrev pub Stimulates : Model → ℤ → State → Run → State → Type 0
Stimulates m v s r t =
    MaySend m r.trace v × (t ≡ does (Send v ∷ []) s)
    ⊎ ((MaySend m r.trace v → ⊥) × (t ≡ does (Say note.NotAllowed ∷ Idle ∷ []) s))

-- a run begins, if there is none
abbrev pub started : Option Run → State → State
started None s = record { run = Some new_run; has_failed = s.has_failed; todo = Say note.Tester ∷ Dial ∷ [] }
started (Some r) s = refused s

-- what a command leaves to be done
abbrev pub Carries : Model → Command → State → State → Type 0
Carries m command.Pass s t = t ≡ does (Idle ∷ []) s
Carries m command.Quit s t = t ≡ does (hanging (dialled_of s.run) ++ Quit ∷ []) s
Carries m command.Refused s t = t ≡ refused s
Carries m command.Tester s t = t ≡ started s.run s
Carries m command.Observe s t = IfGoing s.run s (λ r t. t ≡ does (Wait ∷ []) s) t
Carries m (command.Stimulate v) s t = IfGoing s.run s (Stimulates m v s) t

-- ---- what the system tells

-- The ends are dialled, or the run is over. So many ends has the connection.
abbrev pub dial_told : Bool → Run → State → State
dial_told true r s = goes_on (with_dialled 1 r) (Idle ∷ []) s
dial_told false r s = goes_on (over_run r) (ends_with Link r) s

-- the action is numbered, or the run is over
abbrev pub send_told : ℤ → Bool → Run → State → State
send_told v true r s = goes_on (seen_run (seen.In v) r) (Say (note.In (length r.trace + 1) v) ∷ Idle ∷ []) s
send_told v false r s = goes_on (over_run r) (ends_with Link r) s

abbrev pub seen_note : ℕ → Seen → Note
seen_note n (seen.In v) = note.In n v
seen_note n (seen.Out v) = note.Out n v
seen_note n seen.Quiet = note.Quiet n

-- an observation is numbered, and FAIL follows exactly if the rules do not allow it after the trace
abbrev pub Judges : Model → Seen → Run → State → State → Type 0
Judges m x r s t =
    MaySee m r.trace x × (t ≡ goes_on (seen_run x r) (Say (seen_note (length r.trace + 1) x) ∷ Idle ∷ []) s)
    ⊎ ((MaySee m r.trace x → ⊥)
    × (t ≡ goes_on (over_run (seen_run x r)) (Say (seen_note (length r.trace + 1) x) ∷ ends_with Fail r) s))

-- the number of one whole line with nothing after it
abbrev pub number_in : Option (List ℕ × List ℕ) → Option ℤ
number_in None = None
number_in (Some parts) = if_last parts.0 parts.1
  where
    if_last : List ℕ → List ℕ → Option ℤ
    if_last line [] = spelled line
    if_last line (b ∷ bs) = None

-- an Int in one whole line of end 0 is an action on the output channel; what else is told is not read so far
abbrev pub number_answer : Option ℤ → Answer
number_answer None = answer.Later
number_answer (Some v) = answer.Number v

abbrev pub answer_of : Heard → Answer
answer_of (heard.Piece end bytes) = cond (eqb end 0) (number_answer (number_in (cut_at 10 bytes))) answer.Later
answer_of heard.Nothing = answer.Later
answer_of heard.Quiet = answer.Quiet
answer_of (heard.Ended end) = answer.Later
answer_of heard.Failed = answer.Breaks

-- an observation is judged; all else ends the run
abbrev pub Heeds : Model → Answer → Run → State → State → Type 0
Heeds m (answer.Number v) r s t = Judges m (seen.Out v) r s t
Heeds m answer.Quiet r s t = Judges m seen.Quiet r s t
Heeds m answer.Breaks r s t = t ≡ goes_on (over_run r) (ends_with Link r) s
Heeds m answer.Later r s t = t ≡ goes_on (over_run r) (ends_with Later r) s

-- ---- what is done by itself

-- the doings that ask the system nothing
abbrev pub asks_nothing : Doing → Bool
asks_nothing (Say n) = true
asks_nothing Dial = false
asks_nothing Wait = false
asks_nothing (Send v) = false
asks_nothing HangUp = true
asks_nothing Idle = true
asks_nothing Quit = true

abbrev pub is_fail : Note → Bool
is_fail (note.Ended Fail) = true
is_fail _ = false

abbrev pub hung_run : Option Run → Option Run
hung_run None = None
hung_run (Some r) = Some (with_dialled 0 r)

-- the state after a doing that asks nothing, with the doings after it
abbrev pub done : Doing → List Doing → State → State
done (Say n) more s = record { run = s.run; has_failed = s.has_failed || is_fail n; todo = more }
done HangUp more s = record { run = hung_run s.run; has_failed = s.has_failed; todo = more }
done _ more s = does more s
