use Rattle.txs_terms.proofs.typing.Runs.{run_right, run_typed}
use Rattle.txs_laws.proofs.items.runs_are_typed.Goals as goal

pub returns : goal.returns
returns c = λ defs signatures e t left n typed h. (run_right defs signatures typed e t left n h, run_typed defs signatures typed e t left n h)
