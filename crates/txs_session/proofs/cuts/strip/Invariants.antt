use Rattle.std.proofs.Common.{◌≡◌, length, reverse}
use Rattle.txs_values.specs.Spelling.{past_blanks}
use Rattle.txs_session.specs.Parts.{stripped}
use Rattle.txs_session.proofs.cuts.strip.Given as goal

abbrev pub invariant-loop-rest : goal.invariant-loop-rest
invariant-loop-rest l = reverse (past_blanks (reverse l.rest)) ≡ stripped l.bytes

abbrev pub decreases-loop-rest : goal.decreases-loop-rest
decreases-loop-rest l = length l.rest
