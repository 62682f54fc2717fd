use Rattle.std.proofs.Common.{◌≡◌, drop}
use Rattle.std.specs.List.{list_all}
use Rattle.txs_words.specs.File.{is_host_byte}
use Rattle.txs_words.proofs.load.are_host_bytes.Given as goal

abbrev pub invariant-loop-byte : goal.invariant-loop-byte
invariant-loop-byte l = list_all is_host_byte (drop l.byte-index l.bytes) ≡ list_all is_host_byte l.bytes
