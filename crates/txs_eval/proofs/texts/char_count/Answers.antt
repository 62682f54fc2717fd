use Rattle.txs_eval.proofs.Characters.{counted}
use Rattle.txs_eval.proofs.texts.char_count.Goals as goal

pub returns : goal.returns
returns c = counted c.chars.result c.args.text.now c.count.result c.chars.ensures.rest c.utf8.text c.count.ensures.ran.0 c.count.ensures.ran.1 c.count.ensures.ran.2
