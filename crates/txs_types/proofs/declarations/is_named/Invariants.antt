use Rattle.std.proofs.Common.{◌≡◌, map, drop}
use Rattle.txs_types.specs.Files.{is_among}
use Rattle.txs_types.proofs.declarations.is_named.Given as goal

abbrev pub invariant-loop-ty : goal.invariant-loop-ty
invariant-loop-ty l = is_among l.name (map (λ x. x.text) (drop l.ty-index l.types)) ≡ is_among l.name (map (λ x. x.text) l.types)
