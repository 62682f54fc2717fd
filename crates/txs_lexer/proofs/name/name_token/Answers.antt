use Rattle.txs_lexer.proofs.Numerals.{name_bytes-utf8}
use Rattle.txs_lexer.proofs.name.name_token.Goals as goal

pub text_of-requires : goal.text_of-requires
text_of-requires c = name_bytes-utf8 c.args.name.now c.requires
