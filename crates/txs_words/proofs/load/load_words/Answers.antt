use Rattle.txs_words.proofs.Files.{host-utf8}
use Rattle.txs_words.specs.inner.FileWords.{file_words_of}
use Rattle.txs_words.proofs.load.load_words.Goals as goal

pub model_of-requires : goal.model_of-requires
model_of-requires c = host-utf8 c.args.words.now (file_words_of c.in-Some.file) c.requires c.in-Some.ensures
