use Rattle.std.proofs.Common.{◌≡◌, ◌+◌, length, drop}
use Rattle.txs_values.specs.Spelling.{run_of, is_digit}
use Rattle.txs_values.proofs.byte.digits_len.Given as goal

abbrev pub invariant-loop-byte : goal.invariant-loop-byte
invariant-loop-byte l = record {
  index : l.len ≡ l.byte-index;
  so_far : l.len + length (run_of is_digit (drop l.byte-index l.bytes)) ≡ length (run_of is_digit l.bytes);
}
