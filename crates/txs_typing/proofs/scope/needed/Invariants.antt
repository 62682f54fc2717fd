use Rattle.std.proofs.Common.{◌≡◌, take, map}
use Rattle.txs_values.specs.View.{ty_of}
use Rattle.txs_typing.specs.Names.{needed}
use Rattle.txs_typing.specs.inner.View.{wants_of}
use Rattle.txs_typing.proofs.scope.needed.Given as goal

-- those so far
abbrev pub invariant-loop-ty : goal.invariant-loop-ty
invariant-loop-ty l = wants_of l.needs ≡ needed (map ty_of (take l.ty-index l.types))
