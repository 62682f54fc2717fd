use Rattle.txs_lexer.proofs.Total.{some-answer}
use Rattle.txs_lexer.proofs.text.some_answer.Goals as goal

pub returns : goal.returns
returns c bytes = some-answer bytes
