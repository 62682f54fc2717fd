use Rattle.std.proofs.Common.{FitsSigned, refl, rules}
use Rattle.std.specs.Int.{w128}
use Rattle.std.proofs.lemmas.Int.{to_z-of_z}
use Rattle.txs_session.specs.Allowed.{definitions, scope, sync}
use Rattle.txs_session.proofs.run.set_after.Goals as goal

pub returns-in_ok-set_after_action-in-In-clause-after : goal.returns-in_ok-set_after_action-in-In-clause-after
returns-in_ok-set_after_action-in-In-clause-after c b trace h =
    let fits : FitsSigned w128 c.in-In.value = search rules in
    rw c.in-In.is (simp to_z-of_z at (c.in_ok-set_after_action-in-In.ensures.after b trace h))

pub returns-in_ok-set_after_action-in-Out-clause-after : goal.returns-in_ok-set_after_action-in-Out-clause-after
returns-in_ok-set_after_action-in-Out-clause-after c b trace h =
    let fits : FitsSigned w128 c.in-Out.value = search rules in
    rw c.in-Out.is (simp to_z-of_z at (c.in_ok-set_after_action-in-Out.ensures.after b trace h))

pub returns-in_ok-after_quiescence-in-Quiet-clause-allowed : goal.returns-in_ok-after_quiescence-in-Quiet-clause-allowed
returns-in_ok-after_quiescence-in-Quiet-clause-allowed c b trace h = rw c.in-Quiet.is (c.in_ok-after_quiescence-in-Quiet.ensures.quiet definitions scope sync b trace refl refl h)
