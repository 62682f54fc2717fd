use Rattle.std.proofs.Common.{◌≡◌, ◌-◌, take, map, Some}
use Rattle.txs_values.specs.Choices.{built}
use Rattle.txs_values.specs.Default.{all_defaults}
use Rattle.txs_values.specs.TableView.{field_of}
use Rattle.txs_values.specs.View.{values_of}
use Rattle.txs_values.proofs.default.+build.Given as goal

-- the fields so far
abbrev pub invariant-loop-field : goal.invariant-loop-field
invariant-loop-field l = all_defaults (built (l.levels - 1) l.table l.found) (map field_of (take l.field-index l.field-items)) ≡ Some (values_of l.fields)

abbrev pub decreases-build : goal.decreases-build
decreases-build l = l.levels
