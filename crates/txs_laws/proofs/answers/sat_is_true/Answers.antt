use Rattle.txs_laws.proofs.solver.Right.{sat_is_true}
use Rattle.txs_laws.proofs.answers.sat_is_true.Goals as goal

pub returns : goal.returns
returns c = sat_is_true
