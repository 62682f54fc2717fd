-- What a session of the code keeps between its calls.
use Rattle.std.specs.Prelude.{◌≡◌, ◌⊎◌, ℕ, ℤ, ◌+◌, ◌<◌, Bool, true, false, List, [], ◌∷◌, ◌++◌, length, vec_len, vec_capacity, Option, Some, None}
use Rattle.std.specs.Option.{option_map}
use Rattle.txs_terms.specs.Sets.{IsAfter, ArePlain}
use Rattle.txs_terms.specs.View.{term_of, terms_of}
use Rattle.txs_session.specs.declared.doing.Doing.{Doing}
use Rattle.txs_session.specs.declared.doing.Doing.TheVariants.{Say, Dial, Wait, Send, HangUp, Idle, Quit}
use Rattle.txs_session.specs.declared.run.Run as rust_run
use Rattle.txs_session.specs.declared.session.Session as rust
use Rattle.txs_session.specs.declared.session.Prepared as rust_prepared
use Rattle.txs_session.specs.declared.note.Note.TheVariants as note
use Rattle.txs_session.specs.declared.note.Ending.TheVariants.{Link}
use Rattle.txs_words.specs.declared.model.Model.{Model}
use Rattle.txs_session.specs.Allowed.{definitions, scope, sync, latest_first, IsAllowed}
use Rattle.txs_session.specs.Session.{Run, State, asks_nothing, done, Judges, Heeds}
use Rattle.txs_session.specs.declared.note.Seen.{Seen}
use Rattle.txs_session.specs.declared.note.Seen.TheVariants as seen
use Rattle.txs_terms.specs.declared.term.Term as rust_term
use Rattle.txs_session.specs.declared.answer.Answer.{Answer}

abbrev pub run_of : rust_run.Run → Run
run_of r = record { trace = r.trace.items; is_over = r.is_over; dialled = r.dialled }

-- the state of the reference run that a session stands at
abbrev pub state_of : rust.Session → State
state_of s = record { run = option_map run_of s.run; has_failed = s.has_failed; todo = s.todo.items }

-- a run's set has the terms after its trace, and no others
abbrev pub IsKept : Model → rust_run.Run → Type 0
IsKept m r =
    r.is_over ≡ false
    → IsAfter definitions scope sync (term_of m.start) (latest_first r.trace.items) (terms_of r.set)

abbrev pub KeepsRun : Model → Option rust_run.Run → Type 0
KeepsRun m None = Unit {0}
KeepsRun m (Some r) = IsKept m r

-- the same of a session's run, if it has one
abbrev pub Keeps : Model → rust.Session → Type 0
Keeps m session = KeepsRun m session.run

-- a run's set has plain terms alone
abbrev pub IsPlainRun : Option rust_run.Run → Type 0
IsPlainRun None = Unit {0}
IsPlainRun (Some r) = ArePlain (terms_of r.set)

-- the same of a session's run, if it has one
abbrev pub HasPlainSet : rust.Session → Type 0
HasPlainSet session = IsPlainRun session.run

-- there is room for one more element of the trace
abbrev pub HasRoom : rust_run.Run → Type 0
HasRoom r = vec_len r.trace < vec_capacity r.trace

abbrev pub HasRoomNow : Option rust_run.Run → Type 0
HasRoomNow None = ⊥
HasRoomNow (Some r) = HasRoom r

-- the set has the terms after the run's trace and one more
abbrev pub IsMoved : Model → Seen → Option rust_run.Run → List rust_term.Term → Type 0
IsMoved m x None ts = ⊥
IsMoved m x (Some r) ts = IsAfter definitions scope sync (term_of m.start) (latest_first (r.trace.items ++ x ∷ [])) (terms_of ts)

-- the rules allow this after the run's trace
abbrev pub AllowedNow : Model → Seen → Option rust_run.Run → Type 0
AllowedNow m x None = ⊥
AllowedNow m x (Some r) = IsAllowed (term_of m.start) (latest_first r.trace.items) x

-- what the system shows
abbrev pub IsObserved : Seen → Type 0
IsObserved (seen.In v) = ⊥
IsObserved (seen.Out v) = Unit {0}
IsObserved seen.Quiet = Unit {0}

abbrev pub next_number : Option Run → ℕ
next_number None = 0
next_number (Some r) = length r.trace + 1

-- a run that begins
abbrev pub IsFresh : Option Run → Type 0
IsFresh None = ⊥
IsFresh (Some r) = (r.is_over ≡ false) × (r.trace ≡ []) × (r.dialled ≡ 0)

-- a run that goes on, with its ends dialled
abbrev pub IsGoing : Option Run → Type 0
IsGoing None = ⊥
IsGoing (Some r) = (r.is_over ≡ false) × (0 < r.dialled)

-- a run that has ended
abbrev pub IsOver : Option Run → Type 0
IsOver None = ⊥
IsOver (Some r) = r.is_over ≡ true

-- between two command lines a run that goes on has its ends dialled
abbrev pub IsTied : Option Run → Type 0
IsTied None = Unit {0}
IsTied (Some r) = r.is_over ≡ false → 0 < r.dialled

-- what is left to be done leads to the end of its command, or to a call that the run is ready for
abbrev pub IsBusy : Option Run → List Doing → Type 0
IsBusy r [] = ⊥
IsBusy r (Say n ∷ ds) = IsBusy r ds
IsBusy r (HangUp ∷ ds) = IsOver r × (ds ≡ Idle ∷ []) ⊎ (ds ≡ Quit ∷ [])
IsBusy r (Idle ∷ ds) = IsTied r × (ds ≡ [])
IsBusy r (Quit ∷ ds) = ds ≡ []
IsBusy r (Dial ∷ ds) = IsFresh r × (ds ≡ [])
IsBusy r (Wait ∷ ds) = IsGoing r × (ds ≡ [])
IsBusy r (Send v ∷ ds) = IsGoing r × (ds ≡ [])

-- The first thing to be done: it is done if it asks the system nothing, and else it stays until it is answered.
abbrev pub IsNext : Doing → State → State → Type 0
IsNext d s t = (more : List Doing) × (s.todo ≡ d ∷ more) × AfterNext (asks_nothing d) d more s t
  where
    AfterNext : Bool → Doing → List Doing → State → State → Type 0
    AfterNext true d more s t = t ≡ done d more s
    AfterNext false d more s t = t ≡ s

-- the run goes on to this state
abbrev pub ToldBy : Option Run → (Run → State) → State → Type 0
ToldBy None go t = ⊥
ToldBy (Some r) go t = t ≡ go r

abbrev pub Judged : Model → Seen → Option Run → State → State → Type 0
Judged m x None s t = ⊥
Judged m x (Some r) s t = Judges m x r s t

abbrev pub HeedsBy : Model → Answer → Option Run → State → State → Type 0
HeedsBy m x None s t = ⊥
HeedsBy m x (Some r) s t = Heeds m x r s t

-- how many ends are dialled after a doing
abbrev pub ends_after : Doing → ℕ → ℕ
ends_after HangUp n = 0
ends_after _ n = n

-- What goes on after an action was made before it is sent: the terms after it, what is to be done if it was sent and if it was not, and room in the trace.
pub record IsPrepared (v : ℤ) (session : rust.Session) (p : rust_prepared.Prepared) : Type 0 where
  pub plain : ArePlain (terms_of p.set)
  pub moved : (m : Model) → Keeps m session → IsMoved m (seen.In v) session.run p.set
  pub sent : p.sent.items ≡ Say (note.In (next_number (state_of session).run) v) ∷ Idle ∷ []
  pub unsent : p.unsent.items ≡ Say (note.Ended Link) ∷ HangUp ∷ Idle ∷ []
  pub room : HasRoomNow session.run
