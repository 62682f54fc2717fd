use Rattle.std.proofs.Common.{◌≡◌, ◌++◌, drop}
use Rattle.txs_words.specs.Form.{words_of}
use Rattle.txs_words.specs.inner.Parsing.{HasNoGap}
use Rattle.txs_words.proofs.words.words_of.Given as goal

-- the words so far, and those of the word under way with the rest
abbrev pub invariant-loop-byte : goal.invariant-loop-byte
invariant-loop-byte l = record {
  words : l.words ++ words_of (l.word ++ drop l.byte-index l.bytes) ≡ words_of l.bytes;
  word : HasNoGap l.word;
}
