use Rattle.std.proofs.Common.{map, ap, ◌∙◌}
use Rattle.txs_values.specs.View.{values_of}
use Rattle.txs_terms.specs.declared.expr.Binding as rust_binding
use Rattle.txs_terms.specs.Expr.{put, put_all, filled}
use Rattle.txs_terms.specs.View.{bound_of, bounds_of, expr_of, exprs_of, put_bound}
use Rattle.txs_terms.proofs.Views.{bound_filled, filled_call, filled_build, filled_let, map_one_more}
use Rattle.txs_terms.proofs.slots.+fill_all.Goals as goal

pub fill_expr-returns-in_ok-new-in-Call : goal.fill_expr-returns-in_ok-new-in-Call
fill_expr-returns-in_ok-new-in-Call t c =
    let p = filled (values_of c.args.values.now) in
    filled_call p c.args.expr.now c.in-Call.function c.in-Call.args c.in_ok-new-in-Call.field-0 c.in-Call.is
    (ap exprs_of c.in_ok-new-in-Call.ensures ∙ c.in_ok-args-in-Call.ensures ∙ ap (λ l. put_all p (exprs_of l)) c.as_slice.ensures)

pub fill_expr-returns-in_ok-new-in-Build : goal.fill_expr-returns-in_ok-new-in-Build
fill_expr-returns-in_ok-new-in-Build t c =
    let p = filled (values_of c.args.values.now) in
    filled_build p c.args.expr.now c.in-Build.constructor c.in-Build.fields c.in_ok-new-in-Build.field-0 c.in-Build.is
    (ap exprs_of c.in_ok-new-in-Build.ensures ∙ c.in_ok-fields-in-Build.ensures ∙ ap (λ l. put_all p (exprs_of l)) c.as_slice-in-Build.ensures)

pub fill_exprs-loop-expr-preserved : goal.fill_exprs-loop-expr-preserved
fill_exprs-loop-expr-preserved t c =
    let f = put (filled (values_of c.args.values.now)) in
    let r = c.in_ok-fill_expr.ensures in
    let i = ap (λ x. f (expr_of x)) c.expr-item.is in
    ap (map expr_of) c.in_ok-push.ensures.ok
    ∙ map_one_more expr_of f c.args.exprs.now c.loop-expr.expr-index c.loop-expr.filled c.in_ok-fill_expr.field-0 c.expr-item.result
    c.loop-expr-test.true c.loop-expr.invariant (r ∙ i)

pub fill_expr-returns-in_ok-fill_shared-in-Let : goal.fill_expr-returns-in_ok-fill_shared-in-Let
fill_expr-returns-in_ok-fill_shared-in-Let t c =
    let p = filled (values_of c.args.values.now) in
    filled_let p c.args.expr.now c.in-Let.bindings c.in_ok-bindings-in-Let-2.bindings c.in-Let.body c.in_ok-fill_shared-in-Let.field-0 c.in-Let.is
    (ap bounds_of c.in_ok-bindings-in-Let-2.ensures ∙ c.in_ok-bindings-in-Let.ensures ∙ ap (λ l. map (put_bound p) (bounds_of l)) c.as_slice-in-Let.ensures)
    c.in_ok-fill_shared-in-Let.ensures

pub fill_bindings-loop-binding-preserved : goal.fill_bindings-loop-binding-preserved
fill_bindings-loop-binding-preserved t c =
    let p = filled (values_of c.args.values.now) in
    let f = put_bound p in
    let b : rust_binding.Binding = record { name = c.in_ok-name.name; value = c.in_ok-value.value } in
    let r = bound_filled p c.binding-item.result b c.in_ok-name.ensures c.in_ok-value.ensures in
    let i = ap (λ x. f (bound_of x)) c.binding-item.is in
    ap (map bound_of) c.in_ok-push.ensures.ok
    ∙ map_one_more bound_of f c.args.bindings.now c.loop-binding.binding-index c.loop-binding.filled b c.binding-item.result
    c.loop-binding-test.true c.loop-binding.invariant (r ∙ i)
