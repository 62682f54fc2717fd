use Rattle.std.proofs.Common.{◌≡◌, length, take}
use Rattle.txs_typing.proofs.scope.Scope.leave.Given as goal

abbrev pub invariant-loop-self : goal.invariant-loop-self
invariant-loop-self l = (take l.outer l.self.locals ≡ take l.outer l.fn.self.locals) × (l.self ≡ record l.fn.self { locals = l.self.locals })

abbrev pub decreases-loop-self : goal.decreases-loop-self
decreases-loop-self l = length l.self.locals
