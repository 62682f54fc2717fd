use Rattle.std.proofs.Common.{◌≡◌}
use Rattle.txs_values.specs.Choices.{choice_rounds}
use Rattle.txs_values.specs.TableView.{table_of}
use Rattle.txs_values.proofs.default.choice_rounds.Given as goal

abbrev pub invariant-loop-round : goal.invariant-loop-round
invariant-loop-round l = l.found ≡ choice_rounds l._round (table_of l.defs)
