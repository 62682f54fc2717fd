use Rattle.std.proofs.Common.{◌≡◌, take}
use Rattle.txs_terms.proofs.expr.copy_exprs.Given as goal

-- what was copied so far
abbrev pub invariant-loop-expr : goal.invariant-loop-expr
invariant-loop-expr l = l.copies ≡ take l.expr-index l.exprs
