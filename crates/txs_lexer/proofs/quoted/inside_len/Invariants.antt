use Rattle.std.proofs.Common.{◌≡◌, ◌+◌, length}
use Rattle.txs_lexer.specs.Scan.{inside_len}
use Rattle.txs_lexer.proofs.quoted.inside_len.Given as goal

abbrev pub invariant-loop-rest : goal.invariant-loop-rest
invariant-loop-rest l = record {
  places : l.len + length l.rest ≡ length l.bytes;
  so_far : l.len + inside_len l.rest ≡ inside_len l.bytes;
}

abbrev pub decreases-loop-rest : goal.decreases-loop-rest
decreases-loop-rest l = length l.rest
