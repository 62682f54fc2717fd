use Rattle.std.proofs.Common.{◌+◌, ◌-◌, ◌<◌, drop, arith, ap, ◌∙◌, sym, subst}
use Rattle.std.proofs.lemmas.Result.{err_from_is_err_and}
use Rattle.txs_parse_expr.specs.View.{Says}
use Rattle.txs_parse_expr.specs.Reader.{value_at}
use Rattle.txs_syntax.specs.declared.ast.Ast.TheVariants as tree
use Rattle.txs_syntax.specs.Grammar.{or_signs, and_signs, compare_signs, join_signs, sum_signs, product_signs}
use Rattle.txs_parse_expr.specs.Reader.{readers}
use Rattle.txs_parse_expr.proofs.Steps.{right_stopped, right_read, expr_is, conj_is, cmp_is, cat_is, chain_end, chain_stopped, chain_next, sums_is, prods_is, args_next, if_stopped, if_no_else, if_stopped_else, if_no_end, if_end, group_end, call_empty, call_end, named_call, minus_none, minus_stopped, minus_read, binds_next, let_stopped, let_no_end, let_end, value_stopped, value_read, room_is}
use Rattle.txs_parse_expr.proofs.parse.+expr.Goals as goal

pub expr-returns-in_err-b-in-Some-clause-value : goal.expr-returns-in_err-b-in-Some-clause-value
expr-returns-in_err-b-in-Some-clause-value t c =
    let p = err_from_is_err_and c.from_residual-in_err-b-in-Some.result c.from_residual-in_err-b-in-Some.ensures.1 in
    rw (p.1, p.2)
    (right_stopped or_signs (readers c.args.left).conj (readers (c.args.left - 1)).expr (readers c.args.left).expr c.args.tokens.now (drop c.args.at c.args.tokens.now)
    c.in_ok-a.next c.in_ok-a.a c.in-Some.op (expr_is c.args.left c.in_ok-a.ensures.room (drop c.args.at c.args.tokens.now)) c.in_ok-a.ensures.value c.in-Some.ensures.value
    c.in_err-b-in-Some.field-0.0 c.in_err-b-in-Some.ensures.value)

pub expr-returns-in_ok-binary-in-Some-clause-value : goal.expr-returns-in_ok-binary-in-Some-clause-value
expr-returns-in_ok-binary-in-Some-clause-value t c =
    right_read or_signs (readers c.args.left).conj (readers (c.args.left - 1)).expr (readers c.args.left).expr c.args.tokens.now (drop c.args.at c.args.tokens.now)
    c.in_ok-a.next c.in_ok-a.a c.in-Some.op (expr_is c.args.left c.in_ok-a.ensures.room (drop c.args.at c.args.tokens.now)) c.in_ok-a.ensures.value c.in-Some.ensures.value
    c.in_ok-b-in-Some.b c.in_ok-binary-in-Some.field-0 c.in_ok-b-in-Some.end c.in_ok-b-in-Some.ensures.value c.in_ok-binary-in-Some.ensures

pub conj-returns-in_err-b-in-Some-clause-value : goal.conj-returns-in_err-b-in-Some-clause-value
conj-returns-in_err-b-in-Some-clause-value t c =
    let p = err_from_is_err_and c.from_residual-in_err-b-in-Some.result c.from_residual-in_err-b-in-Some.ensures.1 in
    rw (p.1, p.2)
    (right_stopped and_signs (readers c.args.left).cmp (readers (c.args.left - 1)).conj (readers c.args.left).conj c.args.tokens.now (drop c.args.at c.args.tokens.now)
    c.in_ok-a.next c.in_ok-a.a c.in-Some.op (conj_is c.args.left c.in_ok-a.ensures.room (drop c.args.at c.args.tokens.now)) c.in_ok-a.ensures.value c.in-Some.ensures.value
    c.in_err-b-in-Some.field-0.0 c.in_err-b-in-Some.ensures.value)

pub conj-returns-in_ok-binary-in-Some-clause-value : goal.conj-returns-in_ok-binary-in-Some-clause-value
conj-returns-in_ok-binary-in-Some-clause-value t c =
    right_read and_signs (readers c.args.left).cmp (readers (c.args.left - 1)).conj (readers c.args.left).conj c.args.tokens.now (drop c.args.at c.args.tokens.now)
    c.in_ok-a.next c.in_ok-a.a c.in-Some.op (conj_is c.args.left c.in_ok-a.ensures.room (drop c.args.at c.args.tokens.now)) c.in_ok-a.ensures.value c.in-Some.ensures.value
    c.in_ok-b-in-Some.b c.in_ok-binary-in-Some.field-0 c.in_ok-b-in-Some.end c.in_ok-b-in-Some.ensures.value c.in_ok-binary-in-Some.ensures

pub cmp-returns-in_err-b-in-Some-clause-value : goal.cmp-returns-in_err-b-in-Some-clause-value
cmp-returns-in_err-b-in-Some-clause-value t c =
    let p = err_from_is_err_and c.from_residual-in_err-b-in-Some.result c.from_residual-in_err-b-in-Some.ensures.1 in
    rw (p.1, p.2)
    (right_stopped compare_signs (readers c.args.left).cat (readers (c.args.left - 1)).cat (readers c.args.left).cmp c.args.tokens.now (drop c.args.at c.args.tokens.now)
    c.in_ok-a.next c.in_ok-a.a c.in-Some.op (cmp_is c.args.left c.in_ok-a.ensures.room (drop c.args.at c.args.tokens.now)) c.in_ok-a.ensures.value c.in-Some.ensures.value
    c.in_err-b-in-Some.field-0.0 c.in_err-b-in-Some.ensures.value)

pub cmp-returns-in_ok-binary-in-Some-clause-value : goal.cmp-returns-in_ok-binary-in-Some-clause-value
cmp-returns-in_ok-binary-in-Some-clause-value t c =
    right_read compare_signs (readers c.args.left).cat (readers (c.args.left - 1)).cat (readers c.args.left).cmp c.args.tokens.now (drop c.args.at c.args.tokens.now)
    c.in_ok-a.next c.in_ok-a.a c.in-Some.op (cmp_is c.args.left c.in_ok-a.ensures.room (drop c.args.at c.args.tokens.now)) c.in_ok-a.ensures.value c.in-Some.ensures.value
    c.in_ok-b-in-Some.b c.in_ok-binary-in-Some.field-0 c.in_ok-b-in-Some.end c.in_ok-b-in-Some.ensures.value c.in_ok-binary-in-Some.ensures

pub cat-returns-in_err-b-in-Some-clause-value : goal.cat-returns-in_err-b-in-Some-clause-value
cat-returns-in_err-b-in-Some-clause-value t c =
    let p = err_from_is_err_and c.from_residual-in_err-b-in-Some.result c.from_residual-in_err-b-in-Some.ensures.1 in
    rw (p.1, p.2)
    (right_stopped join_signs (readers c.args.left).sum (readers (c.args.left - 1)).cat (readers c.args.left).cat c.args.tokens.now (drop c.args.at c.args.tokens.now)
    c.in_ok-a.next c.in_ok-a.a c.in-Some.op (cat_is c.args.left c.in_ok-a.ensures.room (drop c.args.at c.args.tokens.now)) c.in_ok-a.ensures.value c.in-Some.ensures.value
    c.in_err-b-in-Some.field-0.0 c.in_err-b-in-Some.ensures.value)

pub cat-returns-in_ok-binary-in-Some-clause-value : goal.cat-returns-in_ok-binary-in-Some-clause-value
cat-returns-in_ok-binary-in-Some-clause-value t c =
    right_read join_signs (readers c.args.left).sum (readers (c.args.left - 1)).cat (readers c.args.left).cat c.args.tokens.now (drop c.args.at c.args.tokens.now)
    c.in_ok-a.next c.in_ok-a.a c.in-Some.op (cat_is c.args.left c.in_ok-a.ensures.room (drop c.args.at c.args.tokens.now)) c.in_ok-a.ensures.value c.in-Some.ensures.value
    c.in_ok-b-in-Some.b c.in_ok-binary-in-Some.field-0 c.in_ok-b-in-Some.end c.in_ok-b-in-Some.ensures.value c.in_ok-binary-in-Some.ensures

pub arguments-loop-items-preserved : goal.arguments-loop-items-preserved
arguments-loop-items-preserved t c =
    (c.loop-items.invariant.0 ∙ (args_next c.args.left c.args.tokens.now c.loop-items.items c.loop-items.next c.in_ok-e.end c.in_ok-e.e c.in_ok-e.ensures.value c.if-not-has_symbol.ensures.value ∙ (let k = c.in_ok-push.ensures.ok in cc)), (let f = c.in_ok-e.ensures.forward in let g = c.loop-items.invariant.1 in omega arith))

pub call-returns-then-has_symbol-clause-value : goal.call-returns-then-has_symbol-clause-value
call-returns-then-has_symbol-clause-value t c =
    call_empty (c.args.left - 1) c.args.tokens.now c.args.at (record { at = c.args.offset; text = c.args.text.now }) c.in_ok-call_of.field-0 (λ e. c.if-left-eq1.false (let k = c.requires in omega arith)) c.if-has_symbol.ensures.value
    (c.in_ok-call_of.ensures ∙ ap (tree.Call (record { at = c.args.offset; text = c.args.text.now })) c.new.ensures)

pub call-returns-clause-value : goal.call-returns-clause-value
call-returns-clause-value t c =
    call_end (c.args.left - 1) c.args.tokens.now c.args.at c.in_ok-arguments.next (record { at = c.args.offset; text = c.args.text.now }) c.in_ok-call_of-2.field-0 c.in_ok-arguments.arguments c.if-has_symbol.ensures.value
    c.in_ok-arguments.ensures.value c.if-not-has_symbol.ensures.value c.in_ok-call_of-2.ensures

pub choose-returns-in_err-a-clause-value : goal.choose-returns-in_err-a-clause-value
choose-returns-in_err-a-clause-value t c =
    let p = err_from_is_err_and c.from_residual-in_err-a.result c.from_residual-in_err-a.ensures.1 in
    rw (p.1, p.2)
    (if_stopped (c.args.left - 1) c.args.tokens.now (drop c.args.at c.args.tokens.now) c.args.offset c.in_ok-c.next c.in_ok-c.c c.in_ok-c.ensures.value c.if-not-has_word.ensures.value
    c.in_err-a.field-0.0 c.in_err-a.ensures.value)

pub choose-returns-then-not-has_word-2-clause-value : goal.choose-returns-then-not-has_word-2-clause-value
choose-returns-then-not-has_word-2-clause-value t c =
    if_no_else (c.args.left - 1) c.args.tokens.now (drop c.args.at c.args.tokens.now) c.args.offset c.in_ok-c.next c.in_ok-c.c c.in_ok-c.ensures.value c.if-not-has_word.ensures.value
    c.in_ok-a.next c.in_ok-a.a c.in_ok-a.ensures.value c.if-not-has_word-2.ensures.value

pub choose-returns-in_err-b-clause-value : goal.choose-returns-in_err-b-clause-value
choose-returns-in_err-b-clause-value t c =
    let p = err_from_is_err_and c.from_residual-in_err-b.result c.from_residual-in_err-b.ensures.1 in
    rw (p.1, p.2)
    (if_stopped_else (c.args.left - 1) c.args.tokens.now (drop c.args.at c.args.tokens.now) c.args.offset c.in_ok-c.next c.in_ok-c.c c.in_ok-c.ensures.value c.if-not-has_word.ensures.value
    c.in_ok-a.next c.in_ok-a.a c.in_ok-a.ensures.value c.if-not-has_word-2.ensures.value c.in_err-b.field-0.0 c.in_err-b.ensures.value)

pub choose-returns-then-not-has_word-3-clause-value : goal.choose-returns-then-not-has_word-3-clause-value
choose-returns-then-not-has_word-3-clause-value t c =
    if_no_end (c.args.left - 1) c.args.tokens.now (drop c.args.at c.args.tokens.now) c.args.offset c.in_ok-c.next c.in_ok-c.c c.in_ok-c.ensures.value c.if-not-has_word.ensures.value
    c.in_ok-a.next c.in_ok-a.a c.in_ok-a.ensures.value c.if-not-has_word-2.ensures.value c.in_ok-b.next c.in_ok-b.b c.in_ok-b.ensures.value c.if-not-has_word-3.ensures.value

pub choose-returns-clause-value : goal.choose-returns-clause-value
choose-returns-clause-value t c =
    if_end (c.args.left - 1) c.args.tokens.now (drop c.args.at c.args.tokens.now) c.args.offset c.in_ok-c.next c.in_ok-c.c c.in_ok-c.ensures.value c.if-not-has_word.ensures.value
    c.in_ok-a.next c.in_ok-a.a c.in_ok-a.ensures.value c.if-not-has_word-2.ensures.value c.in_ok-b.next c.in_ok-b.b c.in_ok-choice.field-0 c.in_ok-b.ensures.value
    c.if-not-has_word-3.ensures.value c.in_ok-choice.ensures

pub bracket-returns-clause-value : goal.bracket-returns-clause-value
bracket-returns-clause-value t c =
    group_end (c.args.left - 1) c.args.offset c.args.tokens.now (drop c.args.at c.args.tokens.now) c.in_ok-e.next c.in_ok-e.e c.in_ok-group.field-0 c.in_ok-e.ensures.value c.if-not-has_symbol.ensures.value c.in_ok-group.ensures

pub named-returns-clause-value : goal.named-returns-clause-value
named-returns-clause-value t c =
    rw (← named_call (c.args.left - 1) c.args.tokens.now c.args.at (record { at = c.args.offset; text = c.args.text.now }) c.if-not-has_symbol.ensures.value) c.call.ensures.value

pub sum-loop-op-preserved : goal.sum-loop-op-preserved
sum-loop-op-preserved t c = (
  chain_next sum_signs (readers (c.loop-op.room - 1)).prod (readers (c.loop-op.room - 1)).sums (readers c.args.left).sum c.args.tokens.now (drop c.args.at c.args.tokens.now) c.loop-op.next c.loop-op.a
      (c.loop-op.invariant.0 ∙ sums_is c.loop-op.room c.loop-op.invariant.1 c.loop-op.a (drop c.loop-op.next c.args.tokens.now))
      c.in-Some.op c.in-Some.ensures.value c.in_ok-b.b c.in_ok-a-2.a c.in_ok-b.end c.in_ok-b.ensures.value c.in_ok-a-2.ensures,
  c.in_ok-b.ensures.room,
  (let f = c.in_ok-b.ensures.forward in let g = c.loop-op.invariant.2 in omega arith),
  c.loop-op.invariant.3,
  (let g = c.loop-op.invariant.4 in omega arith),
  c.in_ok-b.ensures.within,
)

pub sum-returns-clause-value : goal.sum-returns-clause-value
sum-returns-clause-value t c =
    chain_end sum_signs (readers (c.loop-op.room - 1)).prod (readers (c.loop-op.room - 1)).sums (readers c.args.left).sum c.args.tokens.now (drop c.args.at c.args.tokens.now) c.loop-op.next c.loop-op.a
    (c.loop-op.invariant.0 ∙ sums_is c.loop-op.room c.loop-op.invariant.1 c.loop-op.a (drop c.loop-op.next c.args.tokens.now))
    c.in_default.ensures.value

pub sum-returns-in_err-b-clause-value : goal.sum-returns-in_err-b-clause-value
sum-returns-in_err-b-clause-value t c =
    let p = err_from_is_err_and c.from_residual-in_err-b.result c.from_residual-in_err-b.ensures.1 in
    rw (p.1, p.2)
    (chain_stopped sum_signs (readers (c.loop-op.room - 1)).prod (readers (c.loop-op.room - 1)).sums (readers c.args.left).sum c.args.tokens.now (drop c.args.at c.args.tokens.now) c.loop-op.next c.loop-op.a
    (c.loop-op.invariant.0 ∙ sums_is c.loop-op.room c.loop-op.invariant.1 c.loop-op.a (drop c.loop-op.next c.args.tokens.now))
    c.in-Some.op c.in-Some.ensures.value c.in_err-b.field-0.0 c.in_err-b.ensures.value)

pub prod-loop-op-preserved : goal.prod-loop-op-preserved
prod-loop-op-preserved t c = (
  chain_next product_signs (readers (c.loop-op.room - 1)).un (readers (c.loop-op.room - 1)).prods (readers c.args.left).prod c.args.tokens.now (drop c.args.at c.args.tokens.now) c.loop-op.next c.loop-op.a
      (c.loop-op.invariant.0 ∙ prods_is c.loop-op.room c.loop-op.invariant.1 c.loop-op.a (drop c.loop-op.next c.args.tokens.now))
      c.in-Some.op c.in-Some.ensures.value c.in_ok-b.b c.in_ok-a-2.a c.in_ok-b.end c.in_ok-b.ensures.value c.in_ok-a-2.ensures,
  c.in_ok-b.ensures.room,
  (let f = c.in_ok-b.ensures.forward in let g = c.loop-op.invariant.2 in omega arith),
  c.loop-op.invariant.3,
  (let g = c.loop-op.invariant.4 in omega arith),
  c.in_ok-b.ensures.within,
)

pub prod-returns-clause-value : goal.prod-returns-clause-value
prod-returns-clause-value t c =
    chain_end product_signs (readers (c.loop-op.room - 1)).un (readers (c.loop-op.room - 1)).prods (readers c.args.left).prod c.args.tokens.now (drop c.args.at c.args.tokens.now) c.loop-op.next c.loop-op.a
    (c.loop-op.invariant.0 ∙ prods_is c.loop-op.room c.loop-op.invariant.1 c.loop-op.a (drop c.loop-op.next c.args.tokens.now))
    c.in_default.ensures.value

pub prod-returns-in_err-b-clause-value : goal.prod-returns-in_err-b-clause-value
prod-returns-in_err-b-clause-value t c =
    let p = err_from_is_err_and c.from_residual-in_err-b.result c.from_residual-in_err-b.ensures.1 in
    rw (p.1, p.2)
    (chain_stopped product_signs (readers (c.loop-op.room - 1)).un (readers (c.loop-op.room - 1)).prods (readers c.args.left).prod c.args.tokens.now (drop c.args.at c.args.tokens.now) c.loop-op.next c.loop-op.a
    (c.loop-op.invariant.0 ∙ prods_is c.loop-op.room c.loop-op.invariant.1 c.loop-op.a (drop c.loop-op.next c.args.tokens.now))
    c.in-Some.op c.in-Some.ensures.value c.in_err-b.field-0.0 c.in_err-b.ensures.value)

pub binds-loop-list-preserved : goal.binds-loop-list-preserved
binds-loop-list-preserved t c =
    (c.loop-list.invariant.0 ∙ (binds_next c.args.left c.args.tokens.now c.loop-list.list c.loop-list.next c.in_ok-bind.end c.in_ok-bind.bind c.in_ok-bind.ensures.value c.if-not-has_symbol.ensures.value ∙ (let k = c.in_ok-push.ensures.ok in cc)), (let f = c.in_ok-bind.ensures.forward in let g = c.loop-list.invariant.1 in omega arith))

pub bind_value-returns-clause-value : goal.bind_value-returns-clause-value
bind_value-returns-clause-value t c =
    subst (Says c.args.tokens.now c.value.result)
    (sym (room_is c.args.left c.if-left-eq0.false (drop c.args.at c.args.tokens.now) (value_at (readers c.args.left) (record { at = c.args.offset; text = c.args.text.now }) (drop (c.args.at + 1) c.args.tokens.now))))
    c.value.ensures.value

pub lets-returns-in_err-e-clause-value : goal.lets-returns-in_err-e-clause-value
lets-returns-in_err-e-clause-value t c =
    let p = err_from_is_err_and c.from_residual-in_err-e.result c.from_residual-in_err-e.ensures.1 in
    rw (p.1, p.2)
    (let_stopped (c.args.left - 1) c.args.tokens.now (drop c.args.at c.args.tokens.now) c.args.offset c.in_ok-list.next c.in_ok-list.list c.in_ok-list.ensures.value c.if-not-has_word.ensures.value
    c.in_err-e.field-0.0 c.in_err-e.ensures.value)

pub lets-returns-then-not-has_word-2-clause-value : goal.lets-returns-then-not-has_word-2-clause-value
lets-returns-then-not-has_word-2-clause-value t c =
    let_no_end (c.args.left - 1) c.args.tokens.now (drop c.args.at c.args.tokens.now) c.args.offset c.in_ok-list.next c.in_ok-list.list c.in_ok-list.ensures.value c.if-not-has_word.ensures.value
    c.in_ok-e.next c.in_ok-e.e c.in_ok-e.ensures.value c.if-not-has_word-2.ensures.value

pub lets-returns-clause-value : goal.lets-returns-clause-value
lets-returns-clause-value t c =
    let_end (c.args.left - 1) c.args.tokens.now (drop c.args.at c.args.tokens.now) c.args.offset c.in_ok-list.next c.in_ok-list.list c.in_ok-list.ensures.value c.if-not-has_word.ensures.value
    c.in_ok-e.next c.in_ok-e.e c.in_ok-let_of.field-0 c.in_ok-e.ensures.value c.if-not-has_word-2.ensures.value c.in_ok-let_of.ensures

pub value-returns-in_err-e-clause-value : goal.value-returns-in_err-e-clause-value
value-returns-in_err-e-clause-value t c =
    let p = err_from_is_err_and c.from_residual.result c.from_residual.ensures.1 in
    rw (p.1, p.2)
    (value_stopped c.args.left c.args.tokens.now c.args.at (record { at = c.args.offset; text = c.args.text.now }) c.if-not-has_symbol.ensures.value c.in_err-e.field-0.0 c.in_err-e.ensures.value)

pub value-returns-clause-value : goal.value-returns-clause-value
value-returns-clause-value t c =
    value_read c.args.left c.args.tokens.now c.args.at (record { at = c.args.offset; text = c.args.text.now }) c.if-not-has_symbol.ensures.value c.in_ok-e.e c.into_inner.result c.in_ok-e.next c.in_ok-name.name c.in_ok-e.ensures.value c.in_ok-name.ensures c.into_inner.ensures

pub un-returns-in-None-clause-value : goal.un-returns-in-None-clause-value
un-returns-in-None-clause-value t c =
    let room : 0 < c.args.left = omega arith in
    subst (Says c.args.tokens.now c.prim.result) (sym (minus_none c.args.left room c.args.tokens.now c.args.at c.in-None.ensures.value)) c.prim.ensures.value

pub un-returns-in_err-a-in-Some-clause-value : goal.un-returns-in_err-a-in-Some-clause-value
un-returns-in_err-a-in-Some-clause-value t c =
    let p = err_from_is_err_and c.from_residual.result c.from_residual.ensures.1 in
    let room : 0 < c.args.left = omega arith in
    rw (p.1, p.2)
    (minus_stopped c.args.left room c.args.tokens.now c.args.at c.in-Some.offset c.in-Some.ensures.value c.in_err-a-in-Some.field-0.0 c.in_err-a-in-Some.ensures.value)

pub un-returns-in_ok-negate-in-Some-clause-value : goal.un-returns-in_ok-negate-in-Some-clause-value
un-returns-in_ok-negate-in-Some-clause-value t c =
    let room : 0 < c.args.left = omega arith in
    minus_read c.args.left room c.args.tokens.now c.args.at c.in-Some.offset c.in-Some.ensures.value c.in_ok-a-in-Some.a c.in_ok-negate-in-Some.field-0 c.in_ok-a-in-Some.next
    c.in_ok-a-in-Some.ensures.value c.in_ok-negate-in-Some.ensures
