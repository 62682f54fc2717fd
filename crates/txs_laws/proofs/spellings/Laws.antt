-- The laws on reading a text.
use Rattle.txs_values.specs.Text.{text_of}
use Rattle.txs_laws.specs.Spellings.{ReadIsSpelled, TextIsSpelling, WrittenIsRead}
use Rattle.txs_values.proofs.spellings.Directions as directions
use Rattle.txs_values.proofs.spellings.Written.{text-spelling}

pub read_is_spelled : ReadIsSpelled
read_is_spelled = directions.read_is_spelled

pub text_is_spelling : TextIsSpelling
text_is_spelling = text-spelling

pub written_is_read : WrittenIsRead
written_is_read table t v n a = (read_is_spelled table t (text_of table v) v n).1 (text_is_spelling table t v a.typed, a)
