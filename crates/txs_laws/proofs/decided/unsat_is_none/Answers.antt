use Rattle.txs_laws.proofs.typing.Proved.{facts}
use Rattle.txs_laws.proofs.solver.Decided.{unsat_is_none}
use Rattle.txs_laws.proofs.decided.unsat_is_none.Goals as goal

pub returns : goal.returns
returns c = unsat_is_none facts
