use Rattle.std.proofs.Common.{take}
use Rattle.txs_types.specs.Files.{types_of_fields}
use Rattle.txs_types.specs.inner.Among.{FindsUndefined}
use Rattle.txs_types.proofs.declarations.undefined_field.Given as goal

-- the fault so far
abbrev pub invariant-loop-con : goal.invariant-loop-con
invariant-loop-con l = FindsUndefined l.types (types_of_fields (take l.con-index l.cons)) l.fault
