use Rattle.std.proofs.Common.{◌≡◌, ◌+◌, ◌*◌, List, ◌++◌}
use Rattle.txs_values.specs.declared.value.Value.{Value}
use Rattle.txs_values.specs.View.{values_of}
use Rattle.txs_terms.specs.Defs.{bodies}
use Rattle.txs_terms.specs.View.{definitions_of, expr_of, exprs_of}
use Rattle.txs_terms.specs.Under.{each_under, run_bare}
use Rattle.txs_eval.specs.Answer.{around}
use Rattle.txs_eval.proofs.Steps.{with_prefix, rest_from}
use Rattle.txs_eval.proofs.Names.{rest_of}
use Rattle.txs_eval.proofs.evaluation.+eval.Given as goal

-- a binding is evaluated one level below its LET, and the body behind one binding at least
abbrev pub decreases-bind : goal.decreases-bind
decreases-bind l = 8 * l.frame.left + 1

abbrev pub decreases-within_names : goal.decreases-within_names
decreases-within_names l = 8 * l.frame.left + 2

abbrev pub decreases-let_in : goal.decreases-let_in
decreases-let_in l = 8 * l.frame.left + 3

abbrev pub decreases-value_at : goal.decreases-value_at
decreases-value_at l = 8 * l.frame.left + 4

abbrev pub decreases-body : goal.decreases-body
decreases-body l = 8 * l.frame.left + 5

abbrev pub decreases-each : goal.decreases-each
decreases-each l = 8 * l.frame.left + 5

abbrev pub decreases-constant : goal.decreases-constant
decreases-constant l = 8 * l.frame.left + 6

abbrev pub decreases-one : goal.decreases-one
decreases-one l = 8 * l.frame.left + 6

abbrev pub decreases-two : goal.decreases-two
decreases-two l = 8 * l.frame.left + 6

abbrev pub decreases-equal : goal.decreases-equal
decreases-equal l = 8 * l.frame.left + 6

abbrev pub decreases-both : goal.decreases-both
decreases-both l = 8 * l.frame.left + 6

abbrev pub decreases-either : goal.decreases-either
decreases-either l = 8 * l.frame.left + 6

abbrev pub decreases-choose : goal.decreases-choose
decreases-choose l = 8 * l.frame.left + 6

abbrev pub decreases-call : goal.decreases-call
decreases-call l = 8 * l.frame.left + 6

abbrev pub decreases-build : goal.decreases-build
decreases-build l = 8 * l.frame.left + 6

abbrev pub decreases-node : goal.decreases-node
decreases-node l = 8 * l.frame.left + 7

-- the values so far stand before those of the rest
abbrev pub invariant-each-loop-expr : goal.invariant-each-loop-expr
invariant-each-loop-expr l =
    (each_under (run_bare (bodies (definitions_of l.frame.defs.now)) l.frame.left (around l.frame.slots.now l.fn.locals)) (exprs_of l.exprs) l.fn.nodes
    ≡ with_prefix (values_of l.values) (rest_from (run_bare (bodies (definitions_of l.frame.defs.now)) l.frame.left (around l.frame.slots.now l.fn.locals)) l.exprs l.expr-index l.nodes))
    × (l.locals ≡ l.fn.locals)

-- what is left of the LET, under the values so far, is evaluated as the LET is
abbrev pub invariant-within_names-loop-binding : goal.invariant-within_names-loop-binding
invariant-within_names-loop-binding l =
    (l.left + l.binding-index ≡ l.frame.left)
    × ((vs : List Value) × (l.locals ≡ l.fn.locals ++ vs))
    × (run_bare (bodies (definitions_of l.frame.defs.now)) l.frame.left (around l.frame.slots.now l.fn.locals) (rest_of l.bindings (expr_of l.body) 0) l.fn.nodes
    ≡ run_bare (bodies (definitions_of l.frame.defs.now)) l.left (around l.frame.slots.now l.locals) (rest_of l.bindings (expr_of l.body) l.binding-index) l.nodes)
