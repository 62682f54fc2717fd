use Rattle.std.proofs.Common.{◌≡◌, ◌++◌, drop, string_bytes}
use Rattle.txs_values.specs.Text.{texts_of}
use Rattle.txs_values.specs.Value.{packed, size}
use Rattle.txs_values.specs.View.{value_of, values_of}
use Rattle.txs_values.proofs.canonical.+write_value.Given as goal

-- the fields so far, with those that are left
abbrev pub invariant-loop-other : goal.invariant-loop-other
invariant-loop-other l = string_bytes l.out ++ texts_of l.table (packed (values_of (drop l.other-index l.others))) ≡ string_bytes l.initial.out ++ texts_of l.table (packed (values_of l.others))

abbrev pub decreases-write_value : goal.decreases-write_value
decreases-write_value l = size (value_of l.value.now)
