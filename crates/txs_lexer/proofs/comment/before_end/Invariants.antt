use Rattle.std.proofs.Common.{◌≡◌, ◌+◌, length}
use Rattle.txs_lexer.specs.Scan.{before_end, more_by}
use Rattle.txs_lexer.proofs.comment.before_end.Given as goal

abbrev pub invariant-loop-rest : goal.invariant-loop-rest
invariant-loop-rest l = record {
  places : l.len + length l.rest ≡ length l.bytes;
  so_far : more_by l.len (before_end l.rest) ≡ before_end l.bytes;
}

abbrev pub decreases-loop-rest : goal.decreases-loop-rest
decreases-loop-rest l = length l.rest
