-- How the parts of a session stop if the sink fails or memory runs out.
use Rattle.std.specs.Prelude.{◌≡◌, ◌⊎◌, ℕ, ◌+◌, ◌≤◌, true, false, Bool, List, [], ◌++◌, length, Option}
use Rattle.std.specs.List.{AllByRecursion}
use Rattle.txs_outside.specs.Causes.{Rose}
use Rattle.txs_outside.specs.Known.{Grows, Loses, Tells, Adds}
use Rattle.txs_outside.specs.declared.sut.SutEntry.{SutEntry}
use Rattle.txs_drive.specs.declared.driver.Stop.{Stop}
use Rattle.txs_drive.specs.declared.driver.Stop.TheVariants as stop
use Rattle.txs_words.specs.declared.model.Model.{Model}
use Rattle.txs_session.specs.declared.session.Session as rust
use Rattle.txs_session.specs.Session.{State, at_start, dialled_of}
use Rattle.txs_session.specs.Ready.{state_of}
use Rattle.txs_drive.specs.Course.{Event, Leads, lines_in, notes_in, text_of, has_quit, hung_after, calls_in, due_in, AnyFailed}
use Rattle.txs_drive.specs.Served.{Ending, open', end, command_lines, byte_limit}
use Rattle.txs_drive.specs.Cut.{IsTornNote, IsUnheeded, dialled_by}
use Rattle.txs_drive.specs.inner.CarriedOut.{HasNoFeed, joined}

-- what was taken after the whole lines; if memory ran out, each action that was sent stands there
abbrev pub IsRest : Stop → Model → State → List ℕ → Type 0
IsRest stop.Sink m s tail = IsTornNote m s tail
IsRest stop.NoMemory m s tail = (tail ≡ []) × (due_in s.todo ≡ [])

-- These events led on from s, with so many ends dialled after them: some of the lines were read, and the sink and the system had what comes of them.
pub record Stopped (stop : Stop) (m : Model) (s : State) (n : ℕ) (k0 k1 : Option (List ℕ)) (u0 u1 : Option (List SutEntry)) (h0 h1 : Option ℕ) (f0 f1 : ℕ) (lines : List (List ℕ)) : Type 0 where
  pub events : List Event
  pub behind : List (List ℕ)
  pub final : State
  pub tail : List ℕ
  pub unheeded : List Event
  pub leads : Leads m s events final
  pub read : lines ≡ lines_in events ++ behind
  pub unquit : has_quit events ≡ false
  pub text : Grows k0 k1 (text_of m (notes_in events) ++ tail)
  pub torn : IsRest stop m final tail
  pub calls : Adds u0 u1 (calls_in m (events ++ unheeded) h0)
  pub due : IsUnheeded final unheeded
  pub hung : h1 ≡ hung_after events h0
  pub later : f0 ≤ f1
  pub caused : AnyFailed events → Rose f0 f1
  pub ends : n ≡ dialled_by unheeded (dialled_of final.run)

-- as Stopped, in the midst of these bytes
pub record StoppedInBytes (stop : Stop) (m : Model) (s : State) (n : ℕ) (k0 k1 : Option (List ℕ)) (u0 u1 : Option (List SutEntry)) (h0 h1 : Option ℕ) (f0 f1 : ℕ) (bytes : List ℕ) : Type 0 where
  pub lines : List (List ℕ)
  pub rest : List ℕ
  pub split : bytes ≡ joined lines ++ rest
  pub each : AllByRecursion HasNoFeed lines
  pub stopped : Stopped stop m s n k0 k1 u0 u1 h0 h1 f0 f1 lines

-- the commands of a source were carried out up to some place
pub record StoppedInCommands (stop : Stop) (m : Model) (n : ℕ) (g0 g1 l0 l1 : Option (List ℕ)) (at_end : Bool) (k0 k1 : Option (List ℕ)) (u0 u1 : Option (List SutEntry)) (h0 h1 : Option ℕ) (f0 f1 : ℕ) : Type 0 where
  pub given : List ℕ
  pub commands : List ℕ
  pub unread : List ℕ
  pub ending : Ending
  pub lines : List (List ℕ)
  pub behind : List (List ℕ)
  pub gave : Grows g0 g1 given
  pub lost : Loses l0 l1 given
  pub split : given ≡ commands ++ unread
  pub within : length commands ≤ byte_limit
  pub most : length given ≤ byte_limit + 1
  pub ended : (ending ≡ open') ⊎ ((ending ≡ end) × (at_end ≡ true) × (unread ≡ []) × Tells l0 given)
  pub read : command_lines commands ending ≡ lines ++ behind
  pub stopped : Stopped stop m at_start n k0 k1 u0 u1 h0 h1 f0 f1 lines

-- how many ends a session has dialled
abbrev pub ends_in : rust.Session → ℕ
ends_in session = dialled_of (state_of session).run

-- the system has dialled what the session has, as before
abbrev pub Tracks : ℕ → ℕ → ℕ → ℕ → Type 0
Tracks before now n0 n1 = before ≡ n0 → now ≡ n1
