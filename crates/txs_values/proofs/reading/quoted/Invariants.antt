use Rattle.std.proofs.Common.{◌≡◌, false, length}
use Rattle.txs_values.specs.Reading.{quoted_read, with_front}
use Rattle.txs_values.proofs.reading.quoted.Given as goal

abbrev pub invariant-loop-rest : goal.invariant-loop-rest
invariant-loop-rest l = quoted_read false l.bytes ≡ with_front l.text (quoted_read l.is_escaped l.rest)

abbrev pub decreases-loop-rest : goal.decreases-loop-rest
decreases-loop-rest l = length l.rest
