use Rattle.std.proofs.Common.{◌≡◌, ◌+◌, length, drop}
use Rattle.txs_values.specs.Spelling.{run_of}
use Rattle.txs_lexer.specs.Tokens.{is_in_line}
use Rattle.txs_lexer.proofs.byte.line_len.Given as goal

abbrev pub invariant-loop-byte : goal.invariant-loop-byte
invariant-loop-byte l = record {
  index : l.len ≡ l.byte-index;
  so_far : l.len + length (run_of is_in_line (drop l.byte-index l.bytes)) ≡ length (run_of is_in_line l.bytes);
}
