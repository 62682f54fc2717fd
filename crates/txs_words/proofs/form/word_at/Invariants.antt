use Rattle.std.proofs.Common.{◌≡◌, length}
use Rattle.txs_words.specs.inner.FileWords.{word_at}
use Rattle.txs_words.proofs.form.word_at.Given as goal

abbrev pub invariant-loop-rest : goal.invariant-loop-rest
invariant-loop-rest l = word_at l.rest l.left ≡ word_at l.words l.place

abbrev pub decreases-loop-rest : goal.decreases-loop-rest
decreases-loop-rest l = length l.rest
