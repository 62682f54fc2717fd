use Rattle.std.proofs.Common.{sym, ◌∙◌}
use Rattle.txs_words.proofs.Apart.{kept-is, kept-not}
use Rattle.txs_words.specs.inner.FileWords.{file_words_of}
use Rattle.txs_words.proofs.form.kept.Goals as goal

pub returns-then-is_form : goal.returns-then-is_form
returns-then-is_form c = kept-is c.args.front.now c.args.behaviour.now c.args.back.now c.split_at.result.0.now c.split_at.result.1.now (file_words_of c.placed-file.result) c.placed-file.ensures c.split_at.ensures.front c.split_at.ensures.back (sym c.is_form.ensures ∙ c.if-is_form.true)

pub returns-else-is_form : goal.returns-else-is_form
returns-else-is_form c = kept-not c.args.front.now c.args.behaviour.now c.args.back.now c.split_at.result.0.now c.split_at.result.1.now (file_words_of c.placed-file.result) c.placed-file.ensures c.split_at.ensures.front c.split_at.ensures.back (sym c.is_form.ensures ∙ c.if-is_form.false)
