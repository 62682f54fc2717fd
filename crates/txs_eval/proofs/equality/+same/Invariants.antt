use Rattle.std.proofs.Common.{◌≡◌, ◌+◌, ◌*◌, length}
use Rattle.txs_values.specs.Value.{packed, same_each, size, sizes}
use Rattle.txs_values.specs.View.{value_of, values_of}
use Rattle.txs_eval.proofs.Alike.{same_from}
use Rattle.txs_eval.proofs.equality.+same.Given as goal

-- those before the index are equal
abbrev pub invariant-same_fields-loop-index : goal.invariant-same_fields-loop-index
invariant-same_fields-loop-index l =
    (same_each (packed (values_of l.xs)) (packed (values_of l.ys)) ≡ same_from l.index l.xs l.ys) × (length l.xs ≡ length l.ys)

abbrev pub decreases-same : goal.decreases-same
decreases-same l = 2 * size (value_of l.a.now)

abbrev pub decreases-same_fields : goal.decreases-same_fields
decreases-same_fields l = 2 * sizes (packed (values_of l.xs.now)) + 1
