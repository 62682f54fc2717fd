use Rattle.std.proofs.Common.{sym, ◌∙◌, true≢false}
use Rattle.txs_types.proofs.naming.Loops.{among_found, among_passed}
use Rattle.txs_types.proofs.declarations.is_named.Goals as goal

pub returns-then-is : goal.returns-then-is
returns-then-is c =
    sym (among_found c.args.name.now c.args.types.now c.loop-ty.ty-index c.ty-item.result c.loop-ty-test.true c.ty-item.is (c.is.ensures.0 c.if-is.true))
    ∙ c.loop-ty.invariant

pub loop-ty-preserved : goal.loop-ty-preserved
loop-ty-preserved c =
    among_passed c.args.name.now c.args.types.now c.loop-ty.ty-index c.ty-item.result c.loop-ty-test.true c.ty-item.is
    (λ e. true≢false (sym (c.is.ensures.1 e) ∙ c.if-is.false))
    ∙ c.loop-ty.invariant
