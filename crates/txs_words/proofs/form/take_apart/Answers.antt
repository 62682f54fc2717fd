use Rattle.std.proofs.Common.{◌≡◌, Option, None, Some, MatchOption, sym, subst, arith}
use Rattle.txs_words.proofs.Apart.{apart-is}
use Rattle.txs_words.specs.inner.FileWords.{FileWords, file_words_of}
use Rattle.txs_words.proofs.form.take_apart.Goals as goal

pub returns : goal.returns
returns c =
    subst (λ (z : Option FileWords). MatchOption c.kept.result (z ≡ None) (λ file. z ≡ Some (file_words_of file)))
    (sym (apart-is c.args.words.now c.split_at.result.0.now c.split_at.result.1.now c.split_at-2.result.0.now c.split_at-2.result.1.now c.split_at.ensures.front c.split_at.ensures.back c.split_at-2.ensures.front c.split_at-2.ensures.back (omega arith)))
    c.kept.ensures
