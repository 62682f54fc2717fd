use Rattle.std.proofs.Common.{sym, ◌∙◌}
use Rattle.txs_words.proofs.Digits.{parse-none, digits-utf8}
use Rattle.txs_words.proofs.numbers.port_of.Goals as goal

pub unreachable-requires : goal.unreachable-requires
unreachable-requires c = c.in-Err.ensures.cases.0 (digits-utf8 c.args.word.now (sym c.are_digits.ensures ∙ c.if-not-are_digits.false))

pub returns-in-Err-parse : goal.returns-in-Err-parse
returns-in-Err-parse c =
    let told = rw c.in-Ok.ensures.cases.0 at c.parse.ensures.value.0 in
    parse-none c.args.word.now c.parse.result c.in-Err-parse.field-0 (sym c.are_digits.ensures ∙ c.if-not-are_digits.false) told c.in-Err-parse.is
