use Rattle.std.proofs.Common.{refl}
use Rattle.txs_lexer.proofs.text.named_numbers.Goals as goal

pub returns : goal.returns
returns c = record { words = refl; symbols = refl }
