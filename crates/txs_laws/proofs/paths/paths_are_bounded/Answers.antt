-- No path is longer than ranks and bodies allow.
use Rattle.txs_laws.proofs.bounded.Level.{paths_are_bounded}
use Rattle.txs_laws.proofs.paths.paths_are_bounded.Goals as goal

pub returns : goal.returns
returns c = paths_are_bounded
