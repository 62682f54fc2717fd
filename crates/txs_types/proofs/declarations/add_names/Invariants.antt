use Rattle.std.proofs.Common.{◌≡◌, ◌++◌, drop}
use Rattle.txs_types.proofs.declarations.add_names.Given as goal

abbrev pub invariant-loop-name : goal.invariant-loop-name
invariant-loop-name l =
    l.list ++ drop l.name-index l.names ≡ l.initial.list ++ l.names
