use Rattle.txs_types.proofs.files.Bodies.{no_function_in}
use Rattle.txs_types.proofs.bodies.function_in.Goals as goal

pub returns-in_default : goal.returns-in_default
returns-in_default c = record { judged = no_function_in c.args.file.now c.args.def.now c.new.result c.new.ensures (λ x r ps e h. c.in_default.not-FuncDef x ps r e h); scope = c.requires.scope }
