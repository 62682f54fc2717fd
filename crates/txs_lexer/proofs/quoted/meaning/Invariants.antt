use Rattle.std.proofs.Common.{◌≡◌, ◌+◌, length}
use Rattle.txs_lexer.specs.Scan.{meaning}
use Rattle.txs_lexer.proofs.Steps.{ahead}
use Rattle.txs_lexer.proofs.quoted.meaning.Given as goal

abbrev pub invariant-loop-rest : goal.invariant-loop-rest
invariant-loop-rest l = record {
  places : l.len + length l.rest ≡ length l.inside;
  so_far : ahead l.text l.len (meaning l.rest) ≡ meaning l.inside;
}

abbrev pub decreases-loop-rest : goal.decreases-loop-rest
decreases-loop-rest l = length l.rest
