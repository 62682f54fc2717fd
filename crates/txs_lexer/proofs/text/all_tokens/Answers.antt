use Rattle.std.proofs.Common.{◌≡◌, ◌∙◌, ap, rules, Err, length}
use Rattle.std.proofs.lemmas.Result.{err_from_is_err_and}
use Rattle.txs_lexer.proofs.Reading.{decides-end, decides-fault, reads-stopped, tail-at}
use Rattle.txs_lexer.proofs.text.all_tokens.Goals as goal

pub read_one-requires-clause-tail : goal.read_one-requires-clause-tail
read_one-requires-clause-tail c = tail-at c.args.text.now c.loop-rest.rest.now c.loop-rest.at c.requires.utf8 c.loop-rest.invariant.rest_is

pub returns-in_err-len : goal.returns-in_err-len
returns-in_err-len c =
    let p = err_from_is_err_and c.from_residual.result c.from_residual.ensures.1 in
    reads-stopped c.args.text.now c.in_err-len.field-0.0 c.from_residual.result (p.1 ∙ ap Err p.2) (decides-fault c.args.text.now c.loop-rest.tokens c.loop-rest.at c.loop-rest.rest.now c.in_err-len.field-0.0 c.loop-rest.invariant.decides c.in_err-len.ensures)

pub returns : goal.returns
returns c =
    let empty : length c.loop-rest.rest.now ≡ 0 = search rules in
    decides-end c.args.text.now c.loop-rest.tokens c.loop-rest.at c.loop-rest.rest.now c.loop-rest.invariant.decides empty
