use Rattle.std.proofs.Common.{◌≡◌, take}
use Rattle.txs_terms.proofs.offer.copy_positions.Given as goal

-- what was copied so far
abbrev pub invariant-loop-position : goal.invariant-loop-position
invariant-loop-position l = l.copies ≡ take l.position-index l.positions
