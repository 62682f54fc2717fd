use Rattle.std.proofs.Common.{FitsSigned}
use Rattle.std.specs.Int.{w128}
use Rattle.std.proofs.lemmas.Int.{to_z-of_z}
use Rattle.txs_values.proofs.Ranges.{fits_true}
use Rattle.txs_terms.proofs.Actions.{int_action}
use Rattle.txs_terms.proofs.action.Action.on.Goals as goal

pub returns-clause-int : goal.returns-clause-int
returns-clause-int c =
    let fits : FitsSigned w128 c.args.value = c.ranges.value in
    let is = simp to_z-of_z at c.in_ok-parts.ensures in
    rw is (fits_true c.args.value fits)

pub returns-clause-action : goal.returns-clause-action
returns-clause-action c table scope h =
    let fits : FitsSigned w128 c.args.value = c.ranges.value in
    let is = simp to_z-of_z at c.in_ok-parts.ensures in
    rw is (int_action table scope c.args.channel c.args.value (fits_true c.args.value fits) h)
