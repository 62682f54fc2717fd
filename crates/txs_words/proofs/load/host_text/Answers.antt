use Rattle.txs_words.proofs.Parts.{host-text}
use Rattle.txs_words.proofs.load.host_text.Goals as goal

pub unreachable-requires : goal.unreachable-requires
unreachable-requires c = c.in-Err.ensures.cases.0 (host-text c.args.word.now c.in-Some.host.now c.requires c.in-Some.ensures)
