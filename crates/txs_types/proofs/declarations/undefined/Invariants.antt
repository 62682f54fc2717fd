use Rattle.std.proofs.Common.{take}
use Rattle.txs_types.specs.Files.{types_used}
use Rattle.txs_types.specs.inner.Among.{FindsUndefined}
use Rattle.txs_types.proofs.declarations.undefined.Given as goal

abbrev pub invariant-loop-decl : goal.invariant-loop-decl
invariant-loop-decl l = FindsUndefined l.types (types_used (take l.decl-index l.decl-items)) l.fault
