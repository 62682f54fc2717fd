use Rattle.std.proofs.Common.{◌≡◌, ◌+◌, length, drop}
use Rattle.txs_lexer.proofs.Reading.{Decides}
use Rattle.txs_lexer.proofs.text.all_tokens.Given as goal

abbrev pub invariant-loop-rest : goal.invariant-loop-rest
invariant-loop-rest l = record {
  places : l.at + length l.rest ≡ length l.text;
  rest_is : l.rest ≡ drop l.at l.text;
  decides : Decides l.text l.tokens l.at l.rest;
}

abbrev pub decreases-loop-rest : goal.decreases-loop-rest
decreases-loop-rest l = length l.rest
