use Rattle.std.proofs.Common.{◌≡◌, ◌+◌, ◌++◌, drop}
use Rattle.txs_values.specs.Choices.{next_choices}
use Rattle.txs_values.specs.TableView.{table_of, constructor_count}
use Rattle.txs_values.proofs.default.next_choices.Given as goal

-- the types so far, with those that are left
abbrev pub invariant-loop-def : goal.invariant-loop-def
invariant-loop-def l = record {
  index : l.at ≡ l.def-index;
  count : l.first + constructor_count (table_of (drop l.def-index l.defs)) ≡ constructor_count (table_of l.defs);
  rest : l.next ++ next_choices l.found l.first (table_of (drop l.def-index l.defs)) (drop l.def-index l.found) ≡ next_choices l.found 0 (table_of l.defs) l.found;
}
