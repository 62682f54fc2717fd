use Rattle.std.proofs.Common.{◌≡◌, take}
use Rattle.txs_terms.proofs.action.copy_parts.Given as goal

-- what was copied so far
abbrev pub invariant-loop-part : goal.invariant-loop-part
invariant-loop-part l = l.copies ≡ take l.part-index l.parts
