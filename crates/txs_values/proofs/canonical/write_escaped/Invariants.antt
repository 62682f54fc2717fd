use lib.Utf8.{encodes}
use Rattle.std.proofs.Common.{◌≡◌, ◌++◌, string_bytes}
use Rattle.txs_values.specs.Text.{escaped}
use Rattle.txs_values.proofs.canonical.write_escaped.Given as goal

-- the characters so far
abbrev pub invariant-loop-ch : goal.invariant-loop-ch
invariant-loop-ch l = string_bytes l.out ≡ string_bytes l.fn.out ++ escaped (encodes l.yielded)
