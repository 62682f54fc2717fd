use Rattle.txs_laws.proofs.solver.Congruence.{atoms_decide}
use Rattle.txs_laws.proofs.answers.atoms_decide.Goals as goal

pub returns : goal.returns
returns c = atoms_decide
