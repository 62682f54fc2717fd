use Rattle.std.proofs.Common.{◌≡◌, ◌++◌, drop, map}
use Rattle.txs_values.specs.View.{values_of}
use Rattle.txs_terms.specs.Expr.{filled}
use Rattle.txs_terms.specs.Term.{put_position}
use Rattle.txs_terms.specs.View.{position_of}
use Rattle.txs_terms.proofs.slots.fill_positions.Given as goal

-- what was filled and the rest with the values put in
abbrev pub invariant-loop-position : goal.invariant-loop-position
invariant-loop-position l =
    map position_of l.filled ++ map (put_position (filled (values_of l.values))) (map position_of (drop l.position-index l.positions))
    ≡ map (put_position (filled (values_of l.values))) (map position_of l.positions)
