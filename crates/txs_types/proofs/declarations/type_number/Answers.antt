use Rattle.std.proofs.Common.{sym, ◌∙◌, true≢false}
use Rattle.txs_types.proofs.naming.Loops.{number_found, number_passed}
use Rattle.txs_types.proofs.declarations.type_number.Goals as goal

pub returns-then-is : goal.returns-then-is
returns-then-is c =
    sym (number_found c.args.name.now c.args.types.now c.loop-number.number c.index-types-number.result c.loop-number-test.true c.index-types-number.is (c.is.ensures.0 c.if-is.true))
    ∙ c.loop-number.invariant

pub loop-number-preserved : goal.loop-number-preserved
loop-number-preserved c =
    number_passed c.args.name.now c.args.types.now c.loop-number.number c.index-types-number.result c.loop-number-test.true c.index-types-number.is
    (λ e. true≢false (sym (c.is.ensures.1 e) ∙ c.if-is.false))
    ∙ c.loop-number.invariant
