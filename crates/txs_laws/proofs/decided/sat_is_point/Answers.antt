use Rattle.txs_laws.proofs.typing.Proved.{facts}
use Rattle.txs_laws.proofs.solver.Decided.{sat_is_point}
use Rattle.txs_laws.proofs.decided.sat_is_point.Goals as goal

pub returns : goal.returns
returns c = sat_is_point facts
