use Rattle.std.proofs.Common.{◌≡◌, drop}
use Rattle.txs_values.specs.Choices.{finds_nothing}
use Rattle.txs_values.proofs.default.finds_nothing.Given as goal

-- the types that are left
abbrev pub invariant-loop-choice : goal.invariant-loop-choice
invariant-loop-choice l = record {
  index : l.at ≡ l.choice-index;
  rest : finds_nothing (drop l.choice-index l.found) (drop l.choice-index l.next) ≡ finds_nothing l.found l.next;
}
