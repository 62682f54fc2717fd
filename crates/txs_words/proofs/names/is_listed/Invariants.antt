use Rattle.std.proofs.Common.{◌≡◌, drop, map}
use Rattle.txs_words.specs.inner.Parsing.{is_listed}
use Rattle.txs_words.proofs.names.is_listed.Given as goal

abbrev pub invariant-loop-listed : goal.invariant-loop-listed
invariant-loop-listed l = is_listed l.word (map (λ w. w.now) (drop l.listed-index l.words)) ≡ is_listed l.word (map (λ w. w.now) l.words)
