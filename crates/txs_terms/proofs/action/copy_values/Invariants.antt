use Rattle.std.proofs.Common.{◌≡◌, take}
use Rattle.txs_terms.proofs.action.copy_values.Given as goal

-- what was copied so far
abbrev pub invariant-loop-value : goal.invariant-loop-value
invariant-loop-value l = l.copies ≡ take l.value-index l.values
