use Rattle.txs_parse_expr.proofs.Meaning as meaning
use Rattle.txs_parse_expr.proofs.parse.one_tree.Goals as goal

pub returns : goal.returns
returns c = meaning.one_tree
