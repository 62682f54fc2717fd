use Rattle.std.proofs.Common.{◌≡◌, take}
use Rattle.txs_outside.proofs.ends.Ends.copy.Given as goal

-- the ends so far
abbrev pub invariant-loop-end : goal.invariant-loop-end
invariant-loop-end l = l.list ≡ take l.end-index l.end-items
