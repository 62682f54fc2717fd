use Rattle.std.proofs.Common.{◌≡◌, [], subst, ◌∙◌}
use Rattle.txs_values.specs.View.{value_of, values_of}
use Rattle.txs_terms.specs.Defs.{bodies}
use Rattle.txs_terms.specs.Eval.{bad, got}
use Rattle.txs_terms.specs.Under.{run_bare}
use Rattle.txs_terms.specs.View.{definitions_of, expr_of}
use Rattle.txs_eval.specs.Answer.{Stopped, around}
use Rattle.txs_eval.proofs.Meaning.{eval_is, never_wrong, gives_typed, answered, stopped, stops_right}
use Rattle.txs_eval.proofs.evaluation.eval.Goals as goal

pub fault_of-requires : goal.fault_of-requires
fault_of-requires c =
    let d = definitions_of c.args.defs.now in
    let vs = c.args.values.now in
    let e = expr_of c.args.expr.now in
    stops_right c.in-Err.stop (run_bare (bodies d) 1000 (around vs []) e 0)
    (λ q. never_wrong d (values_of vs) e c.requires.typed.0 c.requires.typed.1 (eval_is d vs e c.requires.typed.0 c.requires.typed.1 ∙ q))
    (subst (λ l. Stopped bad c.in-Err.stop (run_bare (bodies d) 1000 (around l []) e 0)) c.as_slice.ensures c.in-Err.ensures)

pub returns-in-Ok-clause-value : goal.returns-in-Ok-clause-value
returns-in-Ok-clause-value c =
    let d = definitions_of c.args.defs.now in
    let vs = c.args.values.now in
    let e = expr_of c.args.expr.now in
    answered c.in-Ok.value c.in-Ok.field-0-1 _
    (eval_is d vs e c.requires.typed.0 c.requires.typed.1 ∙ subst (λ l. run_bare (bodies d) 1000 (around l []) e 0 ≡ got (value_of c.in-Ok.value) c.in-Ok.field-0-1) c.as_slice.ensures c.in-Ok.ensures)

pub returns-in-Ok-clause-typed : goal.returns-in-Ok-clause-typed
returns-in-Ok-clause-typed c = λ t h.
    let d = definitions_of c.args.defs.now in
    let vs = c.args.values.now in
    let e = expr_of c.args.expr.now in
    gives_typed d (values_of vs) e t h (value_of c.in-Ok.value) c.in-Ok.field-0-1
    (eval_is d vs e c.requires.typed.0 c.requires.typed.1 ∙ subst (λ l. run_bare (bodies d) 1000 (around l []) e 0 ≡ got (value_of c.in-Ok.value) c.in-Ok.field-0-1) c.as_slice.ensures c.in-Ok.ensures)

pub returns-in-Err-clause-value : goal.returns-in-Err-clause-value
returns-in-Err-clause-value c =
    let d = definitions_of c.args.defs.now in
    let vs = c.args.values.now in
    let e = expr_of c.args.expr.now in
    stopped c.in-Err.stop _ _ (eval_is d vs e c.requires.typed.0 c.requires.typed.1)
    (subst (λ l. Stopped bad c.in-Err.stop (run_bare (bodies d) 1000 (around l []) e 0)) c.as_slice.ensures c.in-Err.ensures)
    c.fault_of.result c.fault_of.ensures.answer
