use Rattle.std.proofs.Common.{◌∙◌, arith, Err}
use Rattle.txs_lexer.specs.declared.fault.LexFault.TheVariants.{TooLong, NotUtf8}
use Rattle.txs_lexer.proofs.Whole.{exact-by, is-long, is-not_utf8, is-read, slices-read}
use Rattle.txs_lexer.proofs.text.lex.Goals as goal

pub returns-then-bytes-gt-TEXT_LIMIT-clause-exact : goal.returns-then-bytes-gt-TEXT_LIMIT-clause-exact
returns-then-bytes-gt-TEXT_LIMIT-clause-exact c = λ n. exact-by c.args.bytes.now (Err TooLong) (is-long c.args.bytes.now (omega arith))

pub returns-in-Ok-clause-exact : goal.returns-in-Ok-clause-exact
returns-in-Ok-clause-exact c = λ n.
    let told = c.in-Ok.ensures.cases in
    exact-by c.args.bytes.now c.all_tokens.result (is-read c.args.bytes.now c.as_bytes.result.now c.all_tokens.result (omega arith) told.1 (c.as_bytes.ensures.value ∙ told.0) n c.all_tokens.ensures)

pub returns-in-Ok-clause-slices : goal.returns-in-Ok-clause-slices
returns-in-Ok-clause-slices c = slices-read c.args.bytes.now c.as_bytes.result.now c.all_tokens.result (c.as_bytes.ensures.value ∙ c.in-Ok.ensures.cases.0) c.all_tokens.ensures

pub returns-in-Err-clause-exact : goal.returns-in-Err-clause-exact
returns-in-Err-clause-exact c = λ n.
    exact-by c.args.bytes.now (Err (NotUtf8 c.valid_up_to.result)) (is-not_utf8 c.args.bytes.now c.valid_up_to.result _ (omega arith) c.valid_up_to.ensures c.in-Err.ensures.cases.1)
