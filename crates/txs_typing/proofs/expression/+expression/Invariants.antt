use Rattle.std.proofs.Common.{◌≡◌, ◌+◌, ◌*◌, take}
use Rattle.txs_typing.specs.inner.View.{scope_of, wants_of}
use Rattle.txs_typing.specs.inner.Parts.{JudgesEach}
use Rattle.txs_typing.specs.inner.Bindings.{IsWithin, JudgesValues}
use Rattle.txs_typing.proofs.trees.Weights.{weight, weights, weights_of}
use Rattle.txs_typing.proofs.expression.+expression.Given as goal

abbrev pub decreases-expression : goal.decreases-expression
decreases-expression l = 4 * weight l.tree.now + 3

abbrev pub decreases-judge : goal.decreases-judge
decreases-judge l = 4 * weight l.tree.now + 2

abbrev pub decreases-call : goal.decreases-call
decreases-call l = 4 * weights l.args.now + 6

abbrev pub decreases-strays : goal.decreases-strays
decreases-strays l = 4 * weights l.args.now + 5

abbrev pub decreases-each : goal.decreases-each
decreases-each l = 4 * weights l.args.now + 4

abbrev pub decreases-negation : goal.decreases-negation
decreases-negation l = 4 * weight l.operand.now + 4

abbrev pub decreases-operation : goal.decreases-operation
decreases-operation l = 4 * (weight l.left.now + weight l.right.now) + 6

abbrev pub decreases-compared : goal.decreases-compared
decreases-compared l = 4 * (weight l.left.now + weight l.right.now) + 5

abbrev pub decreases-both : goal.decreases-both
decreases-both l = 4 * (weight l.left.now + weight l.right.now) + 4

abbrev pub decreases-in_order : goal.decreases-in_order
decreases-in_order l = 4 * (weight l.earlier.now + weight l.later.now) + 4

abbrev pub decreases-choice : goal.decreases-choice
decreases-choice l = 4 * (weight l.condition.now + (weight l.yes.now + weight l.no.now)) + 5

abbrev pub decreases-binding : goal.decreases-binding
decreases-binding l = 4 * (weights_of l.bindings.now + weight l.body.now) + 5

abbrev pub decreases-values : goal.decreases-values
decreases-values l = 4 * weights_of l.bindings.now + 4

-- the arguments so far
abbrev pub invariant-each-loop-arg : goal.invariant-each-loop-arg
invariant-each-loop-arg l =
    JudgesEach (scope_of l.fn.scope) (wants_of (take l.arg-index l.needs)) (take l.arg-index l.args) l.so_far × (l.at ≡ l.arg-index) × (l.scope ≡ l.fn.scope)

-- the values so far
abbrev pub invariant-values-loop-binding : goal.invariant-values-loop-binding
invariant-values-loop-binding l =
    JudgesValues (scope_of l.fn.scope) (take l.binding-index l.bindings) (scope_of l.scope) l.so_far × IsWithin l.fn.scope l.scope
