use Rattle.std.proofs.Common.{◌≡◌, ◌+◌, ◌≤◌, min, drop}
use Rattle.txs_values.specs.Measure.{u64_max}
use Rattle.txs_values.specs.Value.{sizes, packed}
use Rattle.txs_values.specs.View.{values_of}
use Rattle.txs_values.proofs.value.fields_size.Given as goal

-- the fields so far, with those that are left
abbrev pub invariant-loop-field : goal.invariant-loop-field
invariant-loop-field l = record {
  within : l.total ≤ u64_max;
  fields : min (l.total + sizes (packed (values_of (drop l.field-index l.fields)))) u64_max ≡ min (sizes (packed (values_of l.fields))) u64_max;
}
