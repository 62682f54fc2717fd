use Rattle.std.proofs.Common.{◌≡◌, length}
use Rattle.txs_values.specs.Reading.{name_read}
use Rattle.txs_values.proofs.reading.name.Given as goal

abbrev pub invariant-loop-letters : goal.invariant-loop-letters
invariant-loop-letters l = name_read l.name l.bytes ≡ name_read l.letters l.rest

abbrev pub decreases-loop-letters : goal.decreases-loop-letters
decreases-loop-letters l = length l.letters
