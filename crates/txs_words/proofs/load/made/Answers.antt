use Rattle.txs_words.proofs.Parts.{named-each}
use Rattle.txs_words.specs.inner.FileWords.{file_words_of}
use Rattle.txs_words.proofs.load.made.Goals as goal

pub known_name-requires : goal.known_name-requires
known_name-requires c = (named-each (file_words_of c.args.file) c.requires).1

pub known_name-requires-2 : goal.known_name-requires-2
known_name-requires-2 c = (named-each (file_words_of c.args.file) c.requires).2

pub known_name-requires-3 : goal.known_name-requires-3
known_name-requires-3 c = (named-each (file_words_of c.args.file) c.requires).3

pub known_name-requires-4 : goal.known_name-requires-4
known_name-requires-4 c = (named-each (file_words_of c.args.file) c.requires).4
