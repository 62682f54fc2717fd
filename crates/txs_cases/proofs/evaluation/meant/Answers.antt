use Rattle.txs_terms.specs.View.{definitions_of, expr_of}
use Rattle.txs_cases.proofs.Rows.{may_be_evaluated}
use Rattle.txs_cases.proofs.evaluation.meant.Goals as goal

pub returns-in-Ok : goal.returns-in-Ok
returns-in-Ok c =
    let m = c.in-Ok.ensures.meant in (
      m.0,
      may_be_evaluated (definitions_of c.args.defs.now) c.no_variables-decls.result (expr_of c.in-Ok.expr) m.0 c.defined.ensures c.no_variables-decls.ensures
          (c.in-Ok.ensures.typed m.0 m.1),
    )
