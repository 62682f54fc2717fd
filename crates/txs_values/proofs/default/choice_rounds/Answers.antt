use Rattle.std.proofs.Common.{◌∙◌, sym, ap, length}
use Rattle.txs_values.proofs.Rounds.{rounds-same, rounds-next, rounds-stop}
use Rattle.txs_values.proofs.default.choice_rounds.Goals as goal

pub next_choices-requires-clause-same : goal.next_choices-requires-clause-same
next_choices-requires-clause-same c = ap length c.as_slice.ensures ∙ rounds-same c.args.defs.now c.loop-round.found c.loop-round._round c.loop-round.invariant

pub finds_nothing-requires : goal.finds_nothing-requires
finds_nothing-requires c =
    rounds-next c.args.defs.now c.loop-round.found c.as_slice.result.now c.in_ok-next.next c.as_slice-in-loop-round.result.now c.as_slice-in-loop-round-2.result.now c.loop-round._round
    c.loop-round.invariant c.as_slice.ensures c.in_ok-next.ensures c.as_slice-in-loop-round.ensures c.as_slice-in-loop-round-2.ensures

pub returns-then-finds_nothing : goal.returns-then-finds_nothing
returns-then-finds_nothing c =
    rounds-stop c.args.defs.now c.loop-round.found c.as_slice.result.now c.in_ok-next.next c.as_slice-in-loop-round.result.now c.as_slice-in-loop-round-2.result.now c.loop-round._round
    c.loop-round.invariant c.as_slice.ensures c.in_ok-next.ensures c.as_slice-in-loop-round.ensures c.as_slice-in-loop-round-2.ensures (sym c.finds_nothing.ensures ∙ c.if-finds_nothing.true) c.loop-round-test.true
