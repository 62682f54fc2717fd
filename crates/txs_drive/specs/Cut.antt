-- What a session of a model did that was cut short: by the sink, which failed, or by want of memory.
use Rattle.std.specs.Prelude.{◌≡◌, ◌≢◌, ◌⊎◌, ℕ, ◌+◌, ℤ, ◌≤◌, true, false, List, [], ◌∷◌, ◌++◌, length, codes, Option, Bool}
use Rattle.txs_outside.specs.Causes.{Rose}
use Rattle.txs_outside.specs.Known.{Grows, Loses, Tells, Adds}
use Rattle.txs_outside.specs.declared.sut.SutEntry.{SutEntry}
use Rattle.txs_session.specs.declared.doing.Doing.{Doing}
use Rattle.txs_session.specs.declared.doing.Doing.TheVariants.{Say, Dial, Wait}
use Rattle.txs_words.specs.declared.model.Model.{Model}
use Rattle.txs_session.specs.declared.note.Note.{Note}
use Rattle.txs_session.specs.declared.note.Note.TheVariants as note
use Rattle.txs_session.specs.declared.note.Ending.TheVariants.{Link}
use Rattle.txs_session.specs.Lines.{line_of}
use Rattle.txs_session.specs.Session.{State, at_start, dialled_of}
use Rattle.txs_drive.specs.Course.{Event, dials, waits, Leads, lines_in, notes_in, text_of, has_quit, IsNoted, hung_after, calls_in, dialled_in, hung_in, sent_in, told_in, due_in}
use Rattle.txs_drive.specs.Served.{Ending, open', end, command_lines, byte_limit, last_of}

-- a beginning of a line, but not all of it
abbrev pub IsBeginning : List ℕ → List ℕ → Type 0
IsBeginning part line = (rest : List ℕ) × (line ≡ part ++ rest) × (rest ≢ [])

-- a beginning of a line was taken, but not all of it
abbrev pub Torn : Option (List ℕ) → Option (List ℕ) → List ℕ → Type 0
Torn k0 k1 line = (part : List ℕ) × IsBeginning part line × Grows k0 k1 part

-- the line that closes a transcript after want of memory
abbrev pub no_memory : List ℕ
no_memory = codes "NOMEM\n"

-- what cut the session short
pub data Cut : Type 0 where
  by_sink : Cut
  by_memory : Cut

-- The line that is next is written, and what of it was taken is a beginning.
abbrev pub IsTornNote : Model → State → List ℕ → Type 0
IsTornNote m s tail = (n : Note) × (more : List Doing) × (s.todo ≡ Say n ∷ more) × IsBeginning tail (line_of m n)

-- What was taken after the whole lines: NOMEM, or a beginning of it or of the line that is next.
abbrev pub IsTail : Cut → Model → State → List ℕ → Type 0
IsTail by_memory m s tail = tail ≡ no_memory
IsTail by_sink m s tail = IsTornNote m s tail ⊎ IsBeginning tail no_memory

-- The call that is next was made and answered, and memory ran out before the answer was heeded. For an action all
-- memory is found before it is sent.
abbrev pub IsUnheeded : State → List Event → Type 0
IsUnheeded s [] = Unit {0}
IsUnheeded s (dials ok ∷ []) = s.todo ≡ Dial ∷ []
IsUnheeded s (waits heard ∷ []) = s.todo ≡ Wait ∷ []
IsUnheeded s _ = ⊥

-- Each action that was sent stands in the transcript; if the sink failed, the last may be the one that was due.
abbrev pub IsTold : Cut → State → List ℤ → List ℤ → Type 0
IsTold by_memory s sent told = sent ≡ told
IsTold by_sink s sent told = sent ≡ told ++ due_in s.todo

-- how many ends are dialled after it
abbrev pub dialled_by : List Event → ℕ → ℕ
dialled_by (dials true ∷ es) n = 1
dialled_by _ n = n

-- A session that was cut short: the reference run up to there, for the commands that the source had given and what
-- the system had told; its whole lines were written, and its calls were made.
pub record CutShort (cut : Cut) (m : Model) (g0 g1 l0 l1 : Option (List ℕ)) (at_end : Bool) (k0 k1 : Option (List ℕ)) (u0 u1 : Option (List SutEntry)) (h0 h1 : Option ℕ) (f0 f1 : ℕ) : Type 0 where
  pub given : List ℕ
  pub commands : List ℕ
  pub unread : List ℕ
  pub ending : Ending
  pub events : List Event
  pub behind : List (List ℕ)
  pub final : State
  pub tail : List ℕ
  pub unheeded : List Event
  -- what was read of the source, which is at most one byte past the limit
  pub gave : Grows g0 g1 given
  pub lost : Loses l0 l1 given
  pub split : given ≡ commands ++ unread
  pub within : length commands ≤ byte_limit
  pub most : length given ≤ byte_limit + 1
  pub ended : (ending ≡ open') ⊎ ((ending ≡ end) × (at_end ≡ true) × (unread ≡ []) × Tells l0 given)
  -- the reference run, in which no `quit` was met
  pub leads : Leads m at_start events final
  pub lines : command_lines commands ending ≡ lines_in events ++ behind
  pub unquit : has_quit events ≡ false
  -- all that was written and called
  pub text : Grows k0 k1 (text_of m (notes_in events) ++ tail)
  pub torn : IsTail cut m final tail
  pub calls : Adds u0 u1 (calls_in m (events ++ unheeded) h0)
  pub due : IsUnheeded final unheeded
  pub hang_ups : h1 ≡ hung_after (events ++ last_of (dialled_by unheeded (dialled_of final.run))) h0
  pub told : IsTold cut final (sent_in events) (told_in (notes_in events))
  -- the ends were hung up once for each dial that succeeded, and not else
  pub once : hung_in (events ++ last_of (dialled_by unheeded (dialled_of final.run))) ≡ dialled_in (events ++ unheeded)
  -- LINK only if the system's count of faults rose
  pub later : f0 ≤ f1
  pub link : IsNoted (note.Ended Link) (notes_in events) → Rose f0 f1
