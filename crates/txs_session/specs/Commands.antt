-- The command of a line.
use Rattle.std.specs.Prelude.{ℕ, ◌-◌, ℤ, ◌&&◌, List, [], ◌∷◌, length, take, cond, eqb, nat_lt, Option, Some, None, bytes_eq, codes, slice_index}
use Rattle.txs_values.specs.Reading.{read_text}
use Rattle.txs_values.specs.Value.{Value, num, bool, text, cons, integer}
use Rattle.txs_session.specs.declared.command.Command.{Command}
use Rattle.txs_session.specs.declared.command.Command.TheVariants.{Pass, Quit, Tester, Observe, Stimulate, Refused}
use Rattle.txs_words.specs.declared.model.Model.{Model}
use Rattle.txs_session.specs.Parts.{stripped, cut_at, word_cut}

-- the number of an Int
abbrev pub number_of : Option Value → Option ℤ
number_of None = None
number_of (Some (num v)) = Some v
number_of (Some (bool b)) = None
number_of (Some (text bs)) = None
number_of (Some (cons c vs)) = None

-- the Int that the bytes spell
abbrev pub spelled : List ℕ → Option ℤ
spelled bs = number_of (read_text [] integer bs)

abbrev pub stimulus : Option ℤ → Command
stimulus None = Refused
stimulus (Some v) = Stimulate v

-- an action on the input channel, by its parts around the first `!`
abbrev pub action_of : Model → Option (List ℕ × List ℕ) → Command
action_of m None = Refused
action_of m (Some parts) = cond (bytes_eq (stripped parts.0) m.input) (stimulus (spelled parts.1)) Refused

-- `tester` and the names of the model and the connection
abbrev pub tester_of : Model → List ℕ × List ℕ → Command
tester_of m names = cond (bytes_eq names.0 m.name && bytes_eq (stripped names.1) m.link) Tester Refused

abbrev pub test_of : Model → List ℕ → Command
test_of m [] = Observe
test_of m (b ∷ bs) = action_of m (cut_at 33 (b ∷ bs))

abbrev pub quit_of : List ℕ → Command
quit_of [] = Quit
quit_of (b ∷ bs) = Refused

-- by its first word, and by the rest
abbrev pub by_word : Model → List ℕ → List ℕ → Command
by_word m word rest =
    cond (bytes_eq word (codes "quit")) (quit_of rest)
    (cond (bytes_eq word (codes "test")) (test_of m rest)
    (cond (bytes_eq word (codes "tester")) (tester_of m (word_cut rest)) Refused))

abbrev pub worded : Model → List ℕ × List ℕ → Command
worded m parts = by_word m parts.0 (stripped parts.1)

-- a line in which nothing is left is passed over
abbrev pub unless_empty : Model → List ℕ → Command
unless_empty m [] = Pass
unless_empty m (b ∷ bs) = worded m (word_cut (b ∷ bs))

-- the line without one carriage return at its end
abbrev pub without_return : List ℕ → List ℕ
without_return line = cond (eqb (slice_index line (length line - 1)) 13) (take (length line - 1) line) line

-- the most bytes of a command line before its line feed
unfoldable pub line_limit : ℕ
line_limit = 4096

-- the command of a line, which is given without its line feed; a line that is too long is passed over
abbrev pub command_of : Model → List ℕ → Command
command_of m line = cond (nat_lt line_limit (length line)) Pass (unless_empty m (stripped (without_return line)))
