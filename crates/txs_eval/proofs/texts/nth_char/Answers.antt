use Rattle.txs_eval.proofs.Characters.{found}
use Rattle.txs_eval.proofs.texts.nth_char.Goals as goal

pub returns : goal.returns
returns c = found c.chars.result c.args.text.now c.args.at c.nth.result c.nth.new.self c.chars.ensures.rest c.utf8.text c.nth.ensures.ran
