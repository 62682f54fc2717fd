-- What a session of a model did: all that it wrote and called, and its status, as the reference run has it.
use Rattle.std.specs.Prelude.{◌≡◌, ℕ, zero, suc, ◌≤◌, Bool, true, false, cond, eqb, List, [], ◌∷◌, ◌++◌, length, Option, Some, None}
use Rattle.txs_outside.specs.Causes.{Rose}
use Rattle.txs_outside.specs.Known.{Grows, Loses, Tells, Adds}
use Rattle.txs_outside.specs.declared.sut.SutEntry.{SutEntry}
use Rattle.txs_session.specs.declared.doing.Doing.TheVariants.{HangUp, Quit}
use Rattle.txs_words.specs.declared.model.Model.{Model}
use Rattle.txs_session.specs.declared.note.Note.TheVariants as note
use Rattle.txs_session.specs.declared.note.Ending.TheVariants.{Link}
use Rattle.txs_session.specs.Session.{State, at_start, dialled_of}
use Rattle.txs_drive.specs.Course.{Event, does', Leads, lines_in, notes_in, text_of, has_fail, has_quit, IsNoted, hung_after, calls_in, dialled_in, hung_in, sent_in, told_in, AnyFailed}

-- ---- command bytes

-- how the command bytes end: not yet, by the source's end, by a read fault, or by the limit of bytes
pub data Ending : Type 0 where
  open' : Ending
  end : Ending
  fault : Ending
  limit : Ending

abbrev pub onto_first : ℕ → List (List ℕ) → List (List ℕ)
onto_first b [] = (b ∷ []) ∷ []
onto_first b (line ∷ lines) = (b ∷ line) ∷ lines

-- the parts between line feeds; the last of them is not finished
abbrev pub parts : List ℕ → List (List ℕ)
parts [] = [] ∷ []
parts (b ∷ bs) = cond (eqb b 10) ([] ∷ parts bs) (onto_first b (parts bs))

-- the last part is a line if the source ended, and it has bytes
abbrev pub last_part : Ending → List ℕ → List (List ℕ)
last_part end [] = []
last_part end (b ∷ bs) = (b ∷ bs) ∷ []
last_part open' line = []
last_part fault line = []
last_part limit line = []

abbrev pub lines_of_parts : Ending → List (List ℕ) → List (List ℕ)
lines_of_parts e [] = []
lines_of_parts e (line ∷ []) = last_part e line
lines_of_parts e (line ∷ next ∷ more) = line ∷ lines_of_parts e (next ∷ more)

-- the command lines of these bytes
abbrev pub command_lines : List ℕ → Ending → List (List ℕ)
command_lines bytes e = lines_of_parts e (parts bytes)

-- the most bytes of commands that are carried out
abbrev pub byte_limit : ℕ
byte_limit = 16777216

-- The source gave these bytes as commands, and at the limit one byte past them.
abbrev pub Gave : Ending → List ℕ → List ℕ → Type 0
Gave limit given commands = (b : ℕ) × (given ≡ commands ++ b ∷ []) × (length commands ≡ byte_limit)
Gave open' given commands = (given ≡ commands) × (length commands ≤ byte_limit)
Gave end given commands = (given ≡ commands) × (length commands ≤ byte_limit)
Gave fault given commands = (given ≡ commands) × (length commands ≤ byte_limit)

-- ---- how a session comes to rest

-- All lines are carried out and no `quit` was met, or the first `quit` is the last event; so the reference run
-- neither stands still nor goes on after a `quit`.
abbrev pub EndsAtRest : Bool → State → List (List ℕ) → List Event → Type 0
EndsAtRest false s more es = (s.todo ≡ []) × (more ≡ []) × (has_quit es ≡ false)
EndsAtRest true s more es = (s.todo ≡ []) × (before : List Event) × (es ≡ before ++ does' Quit ∷ []) × (has_quit before ≡ false)

-- the status by how the commands ended, whether a `quit` was met, and whether FAIL was written; after a `quit`
-- nothing is read that fails or is past the limit
abbrev pub by_fail : Bool → ℕ
by_fail true = 10
by_fail false = 0

abbrev pub status_of : Ending → Bool → Bool → Option ℕ
status_of open' true failed = Some (by_fail failed)
status_of end true failed = Some (by_fail failed)
status_of fault true failed = None
status_of limit true failed = None
status_of open' false failed = None
status_of end false failed = Some (by_fail failed)
status_of fault false failed = Some 3
status_of limit false failed = Some 6

-- if the ends are still dialled at the session's end, they are hung up last
abbrev pub last_of : ℕ → List Event
last_of zero = []
last_of (suc n) = does' HangUp ∷ []

-- ---- all of it

-- A session of the model, from the first state of the reference run: the commands that the source gave and
-- their ending, the events that they and the system's answers lead to, and what comes of these: all that was
-- written, the calls on the system, and the status.
pub record Served (m : Model) (g0 g1 l0 l1 : Option (List ℕ)) (at_end : Bool) (k0 k1 : Option (List ℕ)) (u0 u1 : Option (List SutEntry)) (h0 h1 : Option ℕ) (f0 f1 : ℕ) (code : ℕ) : Type 0 where
  pub given : List ℕ
  pub commands : List ℕ
  pub ending : Ending
  pub quits : Bool
  pub events : List Event
  pub behind : List (List ℕ)
  pub final : State
  -- what was read of the source, and how it ended; at its end all was read
  pub gave : Grows g0 g1 given
  pub split : Gave ending given commands
  pub lost : Loses l0 l1 given
  pub ended : ending ≡ end → (at_end ≡ true) × Tells l0 given
  -- the reference run, which does not stand still
  pub leads : Leads m at_start events final
  pub lines : command_lines commands ending ≡ lines_in events ++ behind
  pub rests : EndsAtRest quits final behind events
  -- all that was written and called
  pub text : Grows k0 k1 (text_of m (notes_in events))
  pub calls : Adds u0 u1 (calls_in m events h0)
  pub hang_ups : h1 ≡ hung_after (events ++ last_of (dialled_of final.run)) h0
  -- each action that was sent stands there, and no other
  pub told : sent_in events ≡ told_in (notes_in events)
  -- the ends were hung up once for each dial that succeeded, and not else
  pub once : hung_in (events ++ last_of (dialled_of final.run)) ≡ dialled_in events
  -- LINK only if the system's count of faults rose, and wherever a call failed; without it the count stands
  pub later : f0 ≤ f1
  pub link : IsNoted (note.Ended Link) (notes_in events) → Rose f0 f1
  pub linked : AnyFailed events → IsNoted (note.Ended Link) (notes_in events)
  pub unlinked : (IsNoted (note.Ended Link) (notes_in events) → ⊥) → f1 ≡ f0
  -- 10 if FAIL was written, else 0; 3 after a read fault, and 6 at the limit of bytes
  pub status : status_of ending quits (has_fail (notes_in events)) ≡ Some code
