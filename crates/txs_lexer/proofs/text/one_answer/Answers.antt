use Rattle.txs_lexer.proofs.Whole.{one-answer}
use Rattle.txs_lexer.proofs.text.one_answer.Goals as goal

pub returns : goal.returns
returns c bytes a b h k = one-answer bytes h k
