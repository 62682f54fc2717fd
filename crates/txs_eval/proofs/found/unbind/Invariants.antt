use Rattle.std.proofs.Common.{◌≡◌, take, length}
use Rattle.txs_eval.proofs.found.unbind.Given as goal

-- those that stay were there at first
abbrev pub invariant-loop-locals : goal.invariant-loop-locals
invariant-loop-locals l = take l.outer l.locals ≡ take l.outer l.fn.locals

abbrev pub decreases-loop-locals : goal.decreases-loop-locals
decreases-loop-locals l = length l.locals
