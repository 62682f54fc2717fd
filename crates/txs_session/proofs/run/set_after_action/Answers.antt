use Rattle.std.proofs.Common.{◌≡◌, [], FitsSigned}
use Rattle.std.specs.Int.{w128}
use Rattle.std.proofs.lemmas.Int.{to_z-of_z}
use Rattle.txs_terms.specs.View.{action_of, terms_of}
use Rattle.txs_session.specs.Allowed.{definitions, scope, sync, on}
use Rattle.txs_session.proofs.Sets.{int_channel, after_on}
use Rattle.txs_session.proofs.run.set_after_action.Goals as goal

pub returns-clause-after : goal.returns-clause-after
returns-clause-after c b trace h =
    let fits : FitsSigned w128 c.args.value = c.ranges.value in
    let parts : action_of c.in_ok-action.action ≡ on c.args.channel c.args.value = simp to_z-of_z at c.in_ok-action.ensures.parts in
    after_on (action_of c.in_ok-action.action) (on c.args.channel c.args.value) b trace (terms_of c.in_ok-found.found) parts
    (c.in_ok-found.ensures.after definitions scope sync b trace (c.in_ok-action.ensures.action [] scope (int_channel c.args.channel c.requires.known)) h)
