use Rattle.std.proofs.Common.{ap, sym, ◌∙◌}
use Rattle.txs_values.proofs.Digits.{parsed}
use Rattle.txs_lexer.proofs.Numerals.{parse-number, numeral-utf8}
use Rattle.txs_lexer.proofs.number.number_of.Goals as goal

pub unreachable-requires : goal.unreachable-requires
unreachable-requires c = c.in-Err.ensures.cases.0 (numeral-utf8 c.args.digits.now c.requires)

pub returns-in-Err-parse : goal.returns-in-Err-parse
returns-in-Err-parse c =
    let told = rw c.in-Ok.ensures.cases.0 at c.parse.ensures.value.0 in
    sym (ap parsed c.in-Err-parse.is) ∙ parse-number c.args.digits.now c.parse.result c.requires told
