use Rattle.txs_words.proofs.Digits.{name-utf8}
use Rattle.txs_words.proofs.names.known_name.Goals as goal

pub unreachable-requires : goal.unreachable-requires
unreachable-requires c = c.in-Err.ensures.cases.0 (name-utf8 c.args.word.now c.requires)
