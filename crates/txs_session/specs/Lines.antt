-- The lines of a transcript, and the line that is sent for an action.
use Rattle.std.specs.Prelude.{ℕ, ℤ, List, [], ◌++◌, codes, decimal}
use Rattle.txs_values.specs.Value.{num}
use Rattle.txs_values.specs.Text.{text_of}
use Rattle.txs_session.specs.declared.note.Note.{Note}
use Rattle.txs_session.specs.declared.note.Note.TheVariants.{Tester, In, Out, Quiet, NotCommand, NotAllowed, Ended}
use Rattle.txs_session.specs.declared.note.Ending.{Ending}
use Rattle.txs_session.specs.declared.note.Ending.TheVariants.{Fail, Link, Later}
use Rattle.txs_words.specs.declared.model.Model.{Model}

-- a channel with its value
abbrev pub action_text : List ℕ → ℤ → List ℕ
action_text channel v = channel ++ codes "!" ++ text_of [] (num v)

abbrev pub ending_text : Ending → List ℕ
ending_text Fail = codes "FAIL"
ending_text Link = codes "LINK"
ending_text Later = codes "LATER"

abbrev pub note_text : Model → Note → List ℕ
note_text m Tester = codes "TESTER " ++ m.name
note_text m (In n v) = decimal n ++ codes " IN " ++ action_text m.input v
note_text m (Out n v) = decimal n ++ codes " OUT " ++ action_text m.output v
note_text m (Quiet n) = decimal n ++ codes " OUT QUIET"
note_text m NotCommand = codes "ERROR command"
note_text m NotAllowed = codes "ERROR not allowed"
note_text m (Ended e) = ending_text e

-- with its line feed
abbrev pub line_of : Model → Note → List ℕ
line_of m note = note_text m note ++ codes "\n"

-- the line that is sent for an action on the input channel
abbrev pub sent_line : ℤ → List ℕ
sent_line v = text_of [] (num v) ++ codes "\n"
