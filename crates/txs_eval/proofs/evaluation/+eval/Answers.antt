use Rattle.std.proofs.Common.{IfErr, ◌≡◌, ◌-◌, ◌<◌, ◌≤◌, [], ◌∷◌, ◌++◌, length, get_or, true, false, subst, sym, ap, ◌∙◌, append_assoc}
use Rattle.std.proofs.lemmas.Result.{err_from_is_err_and}
use Rattle.txs_values.specs.Value.{bool}
use Rattle.txs_values.specs.View.{values_of}
use Rattle.txs_terms.specs.Expr.{Expr}
use Rattle.txs_terms.specs.Eval.{Run, got, bad, gots, bads}
use Rattle.txs_terms.proofs.Views.{at_let}
use Rattle.txs_terms.specs.Defs.{bodies}
use Rattle.txs_terms.specs.Under.{each_under, node_bare, run_bare}
use Rattle.txs_terms.specs.View.{definitions_of, expr_of, exprs_of, bounds_of, let_all}
use Rattle.txs_eval.specs.Answer.{Ends, EndEach, Stopped, around}
use Rattle.txs_eval.proofs.Nodes.{spread, constant_is, constant_missing, called, call_missing, call_stopped}
use Rattle.txs_eval.proofs.Steps.{run_node}
use Rattle.txs_eval.proofs.Names.{bind_stopped, one_less, names_step}
use Rattle.txs_eval.proofs.evaluation.+eval.Goals as goal

pub constant-returns-in-Some : goal.constant-returns-in-Some
constant-returns-in-Some t c =
    let defs = c.args.frame.defs.now in
    let ev = run_bare (bodies (definitions_of defs)) c.args.frame.left in
    let b = c.in-Some.ensures.lookup in
    subst (Ends c.body.result)
    (sym (constant_is defs ev (around [] []) c.args.nodes c.args.at c.in-Some.constant.now
    (subst (λ l. c.args.at < length l) c.constants.ensures b.3.0) (b.1 ∙ ap (λ l. get_or l c.args.at c.in-Some.constant.now) c.constants.ensures)))
    c.body.ensures

pub constant-returns-in-None : goal.constant-returns-in-None
constant-returns-in-None t c =
    let defs = c.args.frame.defs.now in
    let ev = run_bare (bodies (definitions_of defs)) c.args.frame.left in
    constant_missing defs ev (around [] []) c.args.nodes c.args.at (subst (λ l. length l ≤ c.args.at) c.constants.ensures c.in-None.ensures.lookup.3)

pub both-returns-in_err-nodes-clause-value : goal.both-returns-in_err-nodes-clause-value
both-returns-in_err-nodes-clause-value t c =
    let run = run_bare (bodies (definitions_of c.args.frame.defs.now)) c.args.frame.left (around c.args.frame.slots.now c.args.locals.now) in
    let p = err_from_is_err_and c.from_residual.result c.from_residual.ensures.1 in
    rw (p.1, p.2) (c.in_err-nodes.ensures.value _ c.value_at.ensures.value (run (expr_of c.args.b.now)) (got (bool false)))

pub either-returns-in_err-nodes-clause-value : goal.either-returns-in_err-nodes-clause-value
either-returns-in_err-nodes-clause-value t c =
    let run = run_bare (bodies (definitions_of c.args.frame.defs.now)) c.args.frame.left (around c.args.frame.slots.now c.args.locals.now) in
    let p = err_from_is_err_and c.from_residual.result c.from_residual.ensures.1 in
    rw (p.1, p.2) (c.in_err-nodes.ensures.value _ c.value_at.ensures.value (got (bool true)) (run (expr_of c.args.b.now)))

pub choose-returns-in_err-nodes-clause-value : goal.choose-returns-in_err-nodes-clause-value
choose-returns-in_err-nodes-clause-value t c =
    let run = run_bare (bodies (definitions_of c.args.frame.defs.now)) c.args.frame.left (around c.args.frame.slots.now c.args.locals.now) in
    let p = err_from_is_err_and c.from_residual.result c.from_residual.ensures.1 in
    rw (p.1, p.2) (c.in_err-nodes.ensures.value _ c.value_at.ensures.value (run (expr_of c.args.a.now)) (run (expr_of c.args.b.now)))

pub call-returns-in-Some-clause-value : goal.call-returns-in-Some-clause-value
call-returns-in-Some-clause-value t c =
    let defs = c.args.frame.defs.now in
    let ev = run_bare (bodies (definitions_of defs)) c.args.frame.left in
    let env = around c.args.frame.slots.now c.args.locals.now in
    let args = c.in_ok-values in
    let b = c.in-Some.ensures.lookup in
    subst (Ends c.body.result)
    (sym (called defs ev env c.args.nodes c.args.function (exprs_of c.args.args.now) (values_of args.values) args.nodes c.in-Some.function.now
    (subst (λ l. each_under (ev env) (exprs_of l) c.args.nodes ≡ gots (values_of args.values) args.nodes) c.as_slice.ensures args.ensures.value)
    (subst (λ l. c.args.function < length l) c.functions.ensures b.3.0) (b.1 ∙ ap (λ l. get_or l c.args.function c.in-Some.function.now) c.functions.ensures)))
    (subst (λ l. Ends c.body.result (ev (around l []) (expr_of c.in-Some.function.now.body) args.nodes)) c.as_slice-2.ensures c.body.ensures)

pub call-returns-clause-value : goal.call-returns-clause-value
call-returns-clause-value t c =
    let defs = c.args.frame.defs.now in
    let ev = run_bare (bodies (definitions_of defs)) c.args.frame.left in
    let env = around c.args.frame.slots.now c.args.locals.now in
    let args = c.in_ok-values in
    call_missing defs ev env c.args.nodes c.args.function (exprs_of c.args.args.now) (values_of args.values) args.nodes
    (subst (λ l. each_under (ev env) (exprs_of l) c.args.nodes ≡ gots (values_of args.values) args.nodes) c.as_slice.ensures args.ensures.value)
    (subst (λ l. length l ≤ c.args.function) c.functions.ensures c.in-None.ensures.lookup.3)

pub call-returns-in_err-values-clause-value : goal.call-returns-in_err-values-clause-value
call-returns-in_err-values-clause-value t c =
    let defs = c.args.frame.defs.now in
    let ev = run_bare (bodies (definitions_of defs)) c.args.frame.left in
    let env = around c.args.frame.slots.now c.args.locals.now in
    let stop = c.in_err-values.field-0.0 in
    let p = err_from_is_err_and c.from_residual.result c.from_residual.ensures.1 in
    rw (p.1, p.2)
    (call_stopped defs ev env c.args.nodes c.args.function (exprs_of c.args.args.now) stop
    (subst (λ l. Stopped bads stop (each_under (ev env) (exprs_of l) c.args.nodes)) c.as_slice.ensures c.in_err-values.ensures.value))

pub build-returns-clause-value : goal.build-returns-clause-value
build-returns-clause-value t c =
    let run = run_bare (bodies (definitions_of c.args.frame.defs.now)) c.args.frame.left (around c.args.frame.slots.now c.args.locals.now) in
    rw (spread (exprs_of c.args.args.now))
    (c.built.ensures.value _ (subst (λ l. EndEach c.each-found.result (each_under run (exprs_of l) c.args.nodes)) c.as_slice.ensures c.each-found.ensures.value))

pub value_at-returns-in-Let-clause-value : goal.value_at-returns-in-Let-clause-value
value_at-returns-in-Let-clause-value t c =
    let run : Expr → Run = λ e. run_bare (bodies (definitions_of c.args.frame.defs.now)) c.args.frame.left (around c.args.frame.slots.now c.args.locals.now) e c.args.nodes in
    subst (λ e. Ends c.let_in.result (run e)) (sym (ap expr_of c.in-Let.is ∙ at_let c.in-Let.bindings c.in-Let.body) ∙ c.past_empty-expr.ensures.same)
    (rw (c.as_slice.ensures, c.get.ensures) at c.let_in.ensures.value)

pub value_at-returns : goal.value_at-returns
value_at-returns t c =
    let d = bodies (definitions_of c.args.frame.defs.now) in
    let env = around c.args.frame.slots.now c.args.locals.now in
    let left = c.args.frame.left in
    let e = expr_of c.past_empty-expr.result.now in
    let p = c.in_ok-nodes.ensures.inside in
    record {
      value = subst (Ends c.node.result)
          (sym (ap (λ x. run_bare d left env x c.args.nodes) (sym c.past_empty-expr.ensures.same)
          ∙ (run_node d left env e c.args.nodes p.0 p.1 ∙ ap (node_bare d (run_bare d (left - 1)) env e) (sym p.2))))
          c.node.ensures.value;
      kept = c.node.ensures.kept;
    }

pub bind-returns-clause-stopped : goal.bind-returns-clause-stopped
bind-returns-clause-stopped t c = λ x e.
    let d = bodies (definitions_of c.args.frame.defs.now) in
    let env = around c.args.frame.slots.now c.args.locals.now in
    let left = c.args.frame.left in
    let p = c.in_ok-nodes.ensures.inside in
    bind_stopped d left env x (expr_of c.args.value.now) e c.args.nodes c.pushed.result p.0 p.1
    (subst (λ n. IfErr c.pushed.result (λ s. Stopped bad s (run_bare d (left - 1) env (expr_of c.args.value.now) n))) p.2
    (c.pushed.ensures.stopped _ c.value_at-found.ensures.value))

pub within_names-loop-binding-preserved : goal.within_names-loop-binding-preserved
within_names-loop-binding-preserved t c =
    let d = bodies (definitions_of c.args.frame.defs.now) in
    let now = c.loop-binding in
    let bound = c.in_ok-nodes.ensures.bound in
    let v = bound.0 in
    let vs = now.invariant.1 in (
      one_less now.left now.binding-index c.args.frame.left bound.1 now.invariant.0,
      (vs.0 ++ v ∷ [], bound.4 ∙ (ap (λ l. l ++ v ∷ []) vs.1 ∙ append_assoc c.args.locals.now vs.0 (v ∷ []))),
      now.invariant.2 ∙ names_step c.args.bindings.now (expr_of c.args.body.now) d c.args.frame.slots.now now.locals c.bind.new.locals now.left now.binding-index now.nodes
          c.in_ok-nodes.nodes c.binding-item.result v c.loop-binding-test.true c.binding-item.is bound.1 bound.2 bound.3 bound.4,
    )
