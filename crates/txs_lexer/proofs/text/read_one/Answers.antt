use Rattle.std.proofs.Common.{◌∙◌, ap, arith, Ok, Err}
use Rattle.std.proofs.lemmas.Result.{err_from_is_err_and}
use Rattle.txs_lexer.proofs.Reading.{gap-steps, token-steps, token-within, stops-fails, step-fault}
use Rattle.txs_lexer.proofs.text.read_one.Goals as goal

pub returns-in_err-len : goal.returns-in_err-len
returns-in_err-len c =
    let p = err_from_is_err_and c.from_residual.result c.from_residual.ensures.1 in
    step-fault c.args.at c.args.rest.now c.args.tokens.now c.in_err-len.field-0.0 c.from_residual.result (p.1 ∙ ap Err p.2) (stops-fails c.args.at c.args.rest.now c.in_err-len.field-0.0 c.requires.some c.in_err-len.ensures)

pub overflow_add-at : goal.overflow_add-at
overflow_add-at c =
    let front = c.in_ok-len.ensures ∙ ap Ok c.in-Lexeme.is in
    let within = token-within c.args.at c.args.rest.now c.in-Lexeme.kind c.in-Lexeme.len c.requires.some front in
    omega (arith, within)

pub returns-in-Gap : goal.returns-in-Gap
returns-in-Gap c = gap-steps c.args.at c.args.rest.now c.args.tokens.now c.in-Gap.len c.requires.some (c.in_ok-len.ensures ∙ ap Ok c.in-Gap.is)

pub returns-in_ok-push-in-Lexeme : goal.returns-in_ok-push-in-Lexeme
returns-in_ok-push-in-Lexeme c =
    token-steps c.args.at c.args.rest.now c.args.tokens.now c.push.new.self c.in-Lexeme.kind c.in-Lexeme.len c.requires.some (c.in_ok-len.ensures ∙ ap Ok c.in-Lexeme.is) c.in_ok-push-in-Lexeme.ensures.ok
