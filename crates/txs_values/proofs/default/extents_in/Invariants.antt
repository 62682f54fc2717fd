use Rattle.std.proofs.Common.{◌≡◌, ◌++◌, drop, map, option_map}
use Rattle.txs_values.proofs.default.extents_in.Given as goal

-- the extents so far, with those that are left
abbrev pub invariant-loop-choice : goal.invariant-loop-choice
invariant-loop-choice l = l.extents ++ map (option_map (λ c. c.extent)) (drop l.choice-index l.found) ≡ map (option_map (λ c. c.extent)) l.found
