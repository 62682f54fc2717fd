-- What the parts of a session did to the objects of the outside.
use Rattle.std.specs.Prelude.{◌≡◌, ◌≢◌, ℕ, ◌+◌, ◌≤◌, ◌<◌, Bool, true, false, List, [], ◌∷◌, ◌++◌, Option, Some, length}
use Rattle.std.specs.List.{AllByRecursion}
use Rattle.txs_outside.specs.Causes.{Rose}
use Rattle.txs_outside.specs.Known.{Grows, Loses, Tells, Adds}
use Rattle.txs_outside.specs.declared.sut.SutEntry.{SutEntry}
use Rattle.txs_session.specs.declared.doing.Doing.{Doing}
use Rattle.txs_session.specs.declared.doing.Doing.TheVariants.{Say, Dial, Wait, Send, HangUp, Idle, Quit}
use Rattle.txs_drive.specs.declared.driver.Next.{Next}
use Rattle.txs_drive.specs.declared.driver.Next.TheVariants as next
use Rattle.txs_drive.specs.declared.feed.Finish.{Finish}
use Rattle.txs_drive.specs.declared.feed.Finish.TheVariants as finish
use Rattle.txs_drive.specs.declared.feed.Read.{Read}
use Rattle.txs_drive.specs.declared.feed.Read.TheVariants as read
use Rattle.txs_words.specs.declared.model.Model.{Model}
use Rattle.txs_drive.specs.Served.{Ending, end, last_part, command_lines, Gave, EndsAtRest, by_fail, status_of}
use Rattle.txs_outside.specs.declared.sut.Heard.{Heard}
use Rattle.txs_outside.specs.declared.sut.Heard.TheVariants.{Failed}
use Rattle.txs_outside.specs.declared.sut.SutCall.TheVariants as call
use Rattle.txs_session.specs.declared.answer.Answer.{Answer}
use Rattle.txs_session.specs.declared.session.Session as rust
use Rattle.txs_session.specs.Session.{State, at_start, dialled_of, answer_of}
use Rattle.txs_session.specs.Ready.{IsBusy, IsTied, HasPlainSet, Keeps, state_of}
use Rattle.txs_drive.specs.Course.{Event, entry, does', Leads, lines_in, notes_in, text_of, has_quit, hung_after, calls_in, AnyFailed}

-- the last event, and no other, is that the session ends
abbrev pub IsLeft : List Event → Type 0
IsLeft es = (before : List Event) × (es ≡ before ++ does' Quit ∷ []) × (has_quit before ≡ false)

-- these events led from s to t, the lines were read, and the sink and the system had what comes of them; if q, the session ended
pub record CarriedOut (m : Model) (s t : State) (k0 k1 : Option (List ℕ)) (u0 u1 : Option (List SutEntry)) (h0 h1 : Option ℕ) (f0 f1 : ℕ) (lines : List (List ℕ)) (q : Bool) : Type 0 where
  pub events : List Event
  pub leads : Leads m s events t
  pub read : lines_in events ≡ lines
  pub text : Grows k0 k1 (text_of m (notes_in events))
  pub calls : Adds u0 u1 (calls_in m events h0)
  pub hung : h1 ≡ hung_after events h0
  pub later : f0 ≤ f1
  pub caused : AnyFailed events → Rose f0 f1
  pub calm : (AnyFailed events → ⊥) → f1 ≡ f0
  pub left : q ≡ true → IsLeft events
  pub stays : q ≡ false → has_quit events ≡ false

-- a call of the system, and how it was answered
pub record CallAnswered (m : Model) (s t : State) (u0 u1 : Option (List SutEntry)) (h0 h1 : Option ℕ) (f0 f1 : ℕ) : Type 0 where
  pub event : Event
  pub leads : Leads m s (event ∷ []) t
  pub read : lines_in (event ∷ []) ≡ []
  pub silent : notes_in (event ∷ []) ≡ []
  pub stays : has_quit (event ∷ []) ≡ false
  pub calls : Adds u0 u1 (calls_in m (event ∷ []) h0)
  pub hung : h1 ≡ hung_after (event ∷ []) h0
  pub later : f0 ≤ f1
  pub caused : AnyFailed (event ∷ []) → Rose f0 f1
  pub calm : (AnyFailed (event ∷ []) → ⊥) → f1 ≡ f0

-- a wait, and what its answer says
pub record WaitAnswered (u0 u1 : Option (List SutEntry)) (h0 : Option ℕ) (f0 f1 : ℕ) (answer : Answer) : Type 0 where
  pub heard : Heard
  pub called : Adds u0 u1 (entry h0 (call.Wait 4096 heard) ∷ [])
  pub says : answer ≡ answer_of heard
  pub later : f0 ≤ f1
  pub caused : heard ≡ Failed → Rose f0 f1
  pub calm : heard ≢ Failed → f1 ≡ f0

-- what a session keeps, with so many ends of the system dialled
pub record IsReady (m : Model) (session : rust.Session) (ends : ℕ) : Type 0 where
  pub kept : Keeps m session
  pub plain : HasPlainSet session
  pub dialled : 0 < dialled_of (state_of session).run → ends ≡ dialled_of (state_of session).run

-- no line feed is among the bytes
abbrev pub HasNoFeed : List ℕ → Type 0
HasNoFeed bytes = AllByRecursion (λ b. b ≢ 10) bytes

-- the lines, each with its line feed
abbrev pub joined : List (List ℕ) → List ℕ
joined [] = []
joined (line ∷ lines) = line ++ 10 ∷ joined lines

-- of these bytes some lines were read, and the rest is left
pub record LinesCarriedOut (m : Model) (s t : State) (k0 k1 : Option (List ℕ)) (u0 u1 : Option (List SutEntry)) (h0 h1 : Option ℕ) (f0 f1 : ℕ) (bytes rest : List ℕ) (q : Bool) : Type 0 where
  pub lines : List (List ℕ)
  pub split : bytes ≡ joined lines ++ rest
  pub each : AllByRecursion HasNoFeed lines
  pub went : CarriedOut m s t k0 k1 u0 u1 h0 h1 f0 f1 lines q

-- whether the session ended
abbrev pub has_left : Next → Bool
has_left next.GoesOn = false
has_left next.Idle = false
has_left next.Quit = true

-- how many doings may still come before the command is carried out
abbrev pub weight : Doing → ℕ
weight (Say n) = 1
weight Dial = 4
weight Wait = 6
weight (Send v) = 6
weight HangUp = 1
weight Idle = 1
weight Quit = 1

abbrev pub rank : List Doing → ℕ
rank [] = 0
rank (d ∷ ds) = weight d + rank ds

-- what is left to be done after a step: less than before, or nothing
abbrev pub IsAhead : Next → State → State → Type 0
IsAhead next.GoesOn s t = IsBusy t.run t.todo × (rank t.todo < rank s.todo)
IsAhead next.Idle s t = (t.todo ≡ []) × IsTied t.run
IsAhead next.Quit s t = t.todo ≡ []

-- as LinesCarriedOut, if the rest is what is pending unless the session ended
abbrev pub BytesCarriedOut : Model → State → State → Option (List ℕ) → Option (List ℕ) → Option (List SutEntry) → Option (List SutEntry) → Option ℕ → Option ℕ → ℕ → ℕ → List ℕ → List ℕ → Bool → Type 0
BytesCarriedOut m s t k0 k1 u0 u1 h0 h1 f0 f1 bytes pending q =
    (rest : List ℕ) × LinesCarriedOut m s t k0 k1 u0 u1 h0 h1 f0 f1 bytes rest q × (q ≡ false → rest ≡ pending)

-- the bytes of a read
abbrev pub read_bytes : Read → List ℕ
read_bytes (read.Bytes bytes) = bytes
read_bytes read.End = []
read_bytes read.Failed = []

-- some bytes, which fit the room
abbrev pub IsRead : ℕ → Read → Type 0
IsRead room (read.Bytes bytes) = (0 < length bytes) × (length bytes ≤ room)
IsRead room read.End = Unit {0}
IsRead room read.Failed = Unit {0}

-- whether a `quit` was met
abbrev pub has_quit_at : Finish → Bool
has_quit_at finish.Quit = true
has_quit_at finish.End = false
has_quit_at finish.Failed = false
has_quit_at finish.TooLong = false

-- the last line was carried out, if it has bytes
abbrev pub LastLineCarriedOut : Model → State → State → Option (List ℕ) → Option (List ℕ) → Option (List SutEntry) → Option (List SutEntry) → Option ℕ → Option ℕ → ℕ → ℕ → List ℕ → Finish → Type 0
LastLineCarriedOut m s t k0 k1 u0 u1 h0 h1 f0 f1 line f =
    CarriedOut m s t k0 k1 u0 u1 h0 h1 f0 f1 (last_part end line) (has_quit_at f) × IsAtEnd f
  where
    IsAtEnd : Finish → Type 0
    IsAtEnd finish.Quit = Unit {0}
    IsAtEnd finish.End = Unit {0}
    IsAtEnd finish.Failed = ⊥
    IsAtEnd finish.TooLong = ⊥

-- the status that a session ends with
abbrev pub code_of : Finish → Bool → ℕ
code_of finish.Quit failed = by_fail failed
code_of finish.End failed = by_fail failed
code_of finish.Failed failed = 3
code_of finish.TooLong failed = 6

-- the commands of a source were carried out up to their end
pub record CommandsCarriedOut (m : Model) (f : Finish) (t : State) (g0 g1 l0 l1 : Option (List ℕ)) (at_end : Bool) (k0 k1 : Option (List ℕ)) (u0 u1 : Option (List SutEntry)) (h0 h1 : Option ℕ) (f0 f1 : ℕ) : Type 0 where
  pub given : List ℕ
  pub commands : List ℕ
  pub ending : Ending
  pub quits : Bool
  pub events : List Event
  pub behind : List (List ℕ)
  pub gave : Grows g0 g1 given
  pub lost : Loses l0 l1 given
  pub split : Gave ending given commands
  pub ended : ending ≡ end → (at_end ≡ true) × Tells l0 given
  pub leads : Leads m at_start events t
  pub lines : command_lines commands ending ≡ lines_in events ++ behind
  pub rests : EndsAtRest quits t behind events
  pub text : Grows k0 k1 (text_of m (notes_in events))
  pub calls : Adds u0 u1 (calls_in m events h0)
  pub hung : h1 ≡ hung_after events h0
  pub later : f0 ≤ f1
  pub caused : AnyFailed events → Rose f0 f1
  pub calm : (AnyFailed events → ⊥) → f1 ≡ f0
  pub status : (failed : Bool) → status_of ending quits failed ≡ Some (code_of f failed)
