use Rattle.txs_laws.proofs.typing.Proved.{facts}
use Rattle.txs_laws.proofs.solver.Decided.{points_have_cells}
use Rattle.txs_laws.proofs.decided.points_have_cells.Goals as goal

pub returns : goal.returns
returns c = points_have_cells facts
