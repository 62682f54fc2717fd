use Rattle.std.proofs.Common.{sym, ◌∙◌}
use Rattle.txs_words.proofs.Files.{form-channels}
use Rattle.txs_words.specs.inner.FileWords.{file_words_of}
use Rattle.txs_words.proofs.load.model_of.Goals as goal

pub start_of-requires : goal.start_of-requires
start_of-requires c = (form-channels (file_words_of c.args.file) (sym c.is_in_form.ensures ∙ c.if-not-is_in_form.false)).2

pub made-requires : goal.made-requires
made-requires c = (form-channels (file_words_of c.args.file) (sym c.is_in_form.ensures ∙ c.if-not-is_in_form.false)).0
