use Rattle.std.proofs.Common.{◌≡◌, take}
use Rattle.txs_typing.specs.inner.View.{scope_of, wants_of}
use Rattle.txs_typing.specs.inner.Parts.{stray_needs}
use Rattle.txs_typing.proofs.call.stray_needs.Given as goal

-- those of the arguments so far
abbrev pub invariant-loop-arg : goal.invariant-loop-arg
invariant-loop-arg l = wants_of l.needs ≡ stray_needs (scope_of l.scope) (take l._arg-index l.args)
