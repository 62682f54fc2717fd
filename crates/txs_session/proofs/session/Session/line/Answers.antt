use Rattle.std.proofs.Common.{◌≡◌, FitsSigned, rules, subst}
use Rattle.std.specs.Int.{w128}
use Rattle.std.proofs.lemmas.Int.{to_z-of_z}
use Rattle.txs_session.specs.declared.command.Command.{Command}
use Rattle.txs_session.specs.declared.command.Command.TheVariants.{Stimulate}
use Rattle.txs_session.specs.Commands.{command_of}
use Rattle.txs_session.specs.Session.{Carries}
use Rattle.txs_session.specs.Ready.{state_of}
use Rattle.txs_session.proofs.session.Session.line.Goals as goal

pub returns-in_ok-try_send-in-Stimulate-clause-carries : goal.returns-in_ok-try_send-in-Stimulate-clause-carries
returns-in_ok-try_send-in-Stimulate-clause-carries c =
    let fits : FitsSigned w128 c.in-Stimulate.value = search rules in
    let read : Stimulate c.in-Stimulate.value ≡ command_of c.args.model.now c.args.line.now = c.in-Stimulate.ensures in
    subst (λ (x : Command). Carries c.args.model.now x (state_of c.args.self.now) (state_of c.try_send.new.self)) read
    (simp to_z-of_z at (c.in_ok-try_send-in-Stimulate.ensures.stimulates c.args.model.now c.requires.kept))
