use Rattle.std.proofs.Common.{◌≡◌, drop, map}
use Rattle.std.specs.Prelude.{option_map}
use Rattle.txs_values.specs.View.{ty_of}
use Rattle.txs_values.specs.TableView.{field_of}
use Rattle.txs_typing.specs.Names.{last_of}
use Rattle.txs_typing.proofs.Lookups.{or_else}
use Rattle.txs_typing.proofs.scope.last_of.Given as goal

-- the last of the rest, or else the one that was found
abbrev pub invariant-loop-variable : goal.invariant-loop-variable
invariant-loop-variable l =
    (last_of l.name 0 (map field_of l.variables) ≡ or_else (last_of l.name l.variable-index (map field_of (drop l.variable-index l.variables))) (option_map (λ p. (p.0, ty_of p.1)) l.found))
    × (l.at ≡ l.variable-index)
