use Rattle.std.proofs.Common.{◌≡◌, drop}
use Rattle.txs_types.specs.Files.{type_number}
use Rattle.txs_types.proofs.declarations.type_number.Given as goal

abbrev pub invariant-loop-number : goal.invariant-loop-number
invariant-loop-number l = type_number l.name l.number (drop l.number l.types) ≡ type_number l.name 0 l.types
