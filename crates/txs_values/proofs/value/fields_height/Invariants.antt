use Rattle.std.proofs.Common.{◌≡◌, ◌≤◌, min, max, drop}
use Rattle.txs_values.specs.Measure.{u64_max}
use Rattle.txs_values.specs.Value.{heights, packed}
use Rattle.txs_values.specs.View.{values_of}
use Rattle.txs_values.proofs.value.fields_height.Given as goal

-- the fields so far, with those that are left
abbrev pub invariant-loop-field : goal.invariant-loop-field
invariant-loop-field l = record {
  within : l.highest ≤ u64_max;
  fields : min (max l.highest (heights (packed (values_of (drop l.field-index l.fields))))) u64_max ≡ min (heights (packed (values_of l.fields))) u64_max;
}
