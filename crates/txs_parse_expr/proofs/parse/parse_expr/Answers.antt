use Rattle.txs_syntax.specs.Places.{depth_limit}
use Rattle.txs_parse_expr.proofs.Exact.{exact_ok, exact_stop}
use Rattle.txs_parse_expr.proofs.parse.parse_expr.Goals as goal

pub returns-in-Ok : goal.returns-in-Ok
unfolding depth_limit
returns-in-Ok c =
    record { exact = rw c.into_inner.ensures (exact_ok c.args.tokens.now c.args.from c.args.len c.args.depth c.in-Ok.tree c.in-Ok.next c.requires (rw c.as_slice-tokens.ensures at c.in-Ok.ensures.within) (rw (c.saturating_sub.ensures, c.as_slice-tokens.ensures) at c.in-Ok.ensures.value)) }

pub returns-in-Err : goal.returns-in-Err
unfolding depth_limit
returns-in-Err c =
    record { exact = rw (c.fault_of.ensures, c.as_slice-tokens.ensures) (exact_stop c.args.tokens.now c.args.from c.args.len c.args.depth c.in-Err.stop c.requires (rw (c.saturating_sub.ensures, c.as_slice-tokens.ensures) at c.in-Err.ensures.value)) }
