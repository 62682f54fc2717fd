use Rattle.std.proofs.Common.{◌≡◌, ◌++◌, drop}
use Rattle.txs_values.specs.Choices.{choice_rounds}
use Rattle.txs_values.specs.TableView.{table_of}
use Rattle.txs_values.proofs.default.nothing_chosen.Given as goal

-- the types so far, with those that are left
abbrev pub invariant-loop-def : goal.invariant-loop-def
invariant-loop-def l = l.found ++ choice_rounds 0 (table_of (drop l._def-index l.defs)) ≡ choice_rounds 0 (table_of l.defs)
