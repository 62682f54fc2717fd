use Rattle.std.proofs.Common.{◌∙◌, sym}
use Rattle.txs_values.specs.Spelling.{is_name_byte}
use Rattle.txs_lexer.proofs.Fronts.{first-all, first-letter, first-digit, first-numeral, gives-same}
use Rattle.txs_lexer.specs.Scan.{front_of}
use Rattle.txs_lexer.proofs.front.read_front.Goals as goal

pub name_token-requires : goal.name_token-requires
name_token-requires c = first-all is_name_byte c.args.rest.now c.first.result.now c.name_len.result c.name_len.ensures.run c.first.ensures

pub number_token-requires : goal.number_token-requires
number_token-requires c =
    first-numeral c.args.rest.now c.first-in-len1-up-3.result.now c.digits_len.result c.in-len1-up.len_at_least (sym c.is_digit.ensures ∙ c.if-is_digit.true) c.digits_len.ensures.run c.first-in-len1-up-3.ensures

pub returns-in-len1-up-2 : goal.returns-in-len1-up-2
returns-in-len1-up-2 c =
    first-letter c.args.at c.args.rest.now c.first.result.now c.name_len.result c.name_token.result c.in-len1-up.len_at_least (sym c.is_blank.ensures ∙ c.if-is_blank.false) (sym c.is_letter.ensures ∙ c.if-is_letter.true) c.name_len.ensures.run c.first.ensures c.name_token.ensures

pub returns-in-len1-up-3 : goal.returns-in-len1-up-3
returns-in-len1-up-3 c =
    gives-same c.number_token.result (front_of c.args.at c.args.rest.now) (first-digit c.args.at c.args.rest.now c.first-in-len1-up-3.result.now c.digits_len.result c.number_token.result c.in-len1-up.len_at_least (sym c.is_blank.ensures ∙ c.if-is_blank.false) (sym c.is_letter.ensures ∙ c.if-is_letter.false) (sym c.is_digit.ensures ∙ c.if-is_digit.true) c.digits_len.ensures.run c.first-in-len1-up-3.ensures c.number_token.ensures)
