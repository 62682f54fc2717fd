use Rattle.std.proofs.Common.{◌≡◌, ◌+◌, ◌*◌, length, map}
use Rattle.txs_values.specs.Reading.{value_read, arguments_read, with_front}
use Rattle.txs_values.specs.TableView.{field_of}
use Rattle.txs_values.specs.View.{values_of}
use Rattle.txs_values.proofs.reading.+value.Given as goal

abbrev pub decreases-value : goal.decreases-value
decreases-value l = 4 * l.left + 2

abbrev pub decreases-fields_behind : goal.decreases-fields_behind
decreases-fields_behind l = 4 * l.left + 1

abbrev pub decreases-arguments : goal.decreases-arguments
decreases-arguments l = 4 * l.left + 3

abbrev pub invariant-arguments-loop-fields_left : goal.invariant-arguments-loop-fields_left
invariant-arguments-loop-fields_left l =
    arguments_read (value_read l.fn.table l.fn.left) (map field_of l.fn.fields) l.fn.bytes
    ≡ with_front (values_of l.values) (arguments_read (value_read l.fn.table l.fn.left) (map field_of l.fields_left) l.rest)

abbrev pub decreases-arguments-loop-fields_left : goal.decreases-arguments-loop-fields_left
decreases-arguments-loop-fields_left l = length l.fields_left
