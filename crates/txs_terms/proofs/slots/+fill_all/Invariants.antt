use Rattle.std.proofs.Common.{◌≡◌, map, take}
use Rattle.txs_values.specs.View.{values_of}
use Rattle.txs_terms.specs.Expr.{put_all, filled}
use Rattle.txs_terms.specs.View.{bounds_of, exprs_of, put_bound}
use Rattle.txs_terms.proofs.slots.+fill_all.Given as goal

-- what was filled so far
abbrev pub invariant-fill_exprs-loop-expr : goal.invariant-fill_exprs-loop-expr
invariant-fill_exprs-loop-expr l = exprs_of l.filled ≡ put_all (filled (values_of l.values)) (exprs_of (take l.expr-index l.exprs))

abbrev pub invariant-fill_bindings-loop-binding : goal.invariant-fill_bindings-loop-binding
invariant-fill_bindings-loop-binding l = bounds_of l.filled ≡ map (put_bound (filled (values_of l.values))) (bounds_of (take l.binding-index l.bindings))
