use Rattle.std.proofs.Common.{◌≡◌, ◌+◌, drop}
use Rattle.txs_values.specs.Choices.{first_chosen}
use Rattle.txs_values.specs.TableView.{conses_of}
use Rattle.txs_values.proofs.default.first_chosen.Given as goal

-- the constructors that are left
abbrev pub invariant-loop-constructor : goal.invariant-loop-constructor
invariant-loop-constructor l = record {
  index : l.id ≡ l.first + l.constructor-index;
  rest : first_chosen l.found l.id (conses_of (drop l.constructor-index l.cons)) ≡ first_chosen l.found l.first (conses_of l.cons);
}
