use Rattle.txs_types.proofs.files.Bodies.{no_constant_in}
use Rattle.txs_types.proofs.bodies.constant_in.Goals as goal

pub returns-in_default : goal.returns-in_default
returns-in_default c = record { judged = no_constant_in c.args.file.now c.args.def.now c.new.result c.new.ensures (λ x t e h. c.in_default.not-ConstDef x t e h); scope = c.requires.scope }
