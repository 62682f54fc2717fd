use Rattle.std.proofs.Common.{◌≡◌, List, ℕ, sym, subst, ap, ◌∙◌}
use Rattle.std.specs.List.{AllByRecursion}
use Rattle.std.specs.Str.{IsUtf8}
use Rattle.txs_words.specs.Form.{words_of}
use Rattle.txs_words.specs.inner.FileWords.{parts_of, words_read}
use Rattle.txs_words.specs.inner.Parsing.{Reads}
use Rattle.txs_words.proofs.Files.{ok-file, only-file, plain-file, later-file}
use Rattle.txs_words.proofs.Texts.{words-texts}
use Rattle.txs_words.proofs.load.load_text.Goals as goal

pub load_words-requires : goal.load_words-requires
load_words-requires c =
    let words : c.as_slice.result.now ≡ words_of c.args.text.now = c.as_slice.ensures ∙ (c.in_ok-words.ensures ∙ ap words_of c.as_bytes.ensures.value) in
    subst (λ (ws : List (List ℕ)). AllByRecursion IsUtf8 ws) (sym words) (words-texts c.args.text.now c.utf8.text)

pub returns-clause-ok : goal.returns-clause-ok
returns-clause-ok c =
    let words : c.as_slice.result.now ≡ words_of c.args.text.now = c.as_slice.ensures ∙ (c.in_ok-words.ensures ∙ ap words_of c.as_bytes.ensures.value) in
    ok-file c.args.text.now c.load_words.result c.utf8.text (subst (λ (ws : List (List ℕ)). Reads parts_of c.load_words.result (words_read ws)) words c.load_words.ensures)

pub returns-clause-plain : goal.returns-clause-plain
returns-clause-plain c =
    let words : c.as_slice.result.now ≡ words_of c.args.text.now = c.as_slice.ensures ∙ (c.in_ok-words.ensures ∙ ap words_of c.as_bytes.ensures.value) in
    plain-file c.args.text.now c.load_words.result c.utf8.text (subst (λ (ws : List (List ℕ)). Reads parts_of c.load_words.result (words_read ws)) words c.load_words.ensures)

pub returns-clause-later : goal.returns-clause-later
returns-clause-later c =
    let words : c.as_slice.result.now ≡ words_of c.args.text.now = c.as_slice.ensures ∙ (c.in_ok-words.ensures ∙ ap words_of c.as_bytes.ensures.value) in
    later-file c.args.text.now c.load_words.result (subst (λ (ws : List (List ℕ)). Reads parts_of c.load_words.result (words_read ws)) words c.load_words.ensures)

pub returns-clause-only : goal.returns-clause-only
returns-clause-only c =
    let words : c.as_slice.result.now ≡ words_of c.args.text.now = c.as_slice.ensures ∙ (c.in_ok-words.ensures ∙ ap words_of c.as_bytes.ensures.value) in
    only-file c.args.text.now c.load_words.result c.utf8.text (subst (λ (ws : List (List ℕ)). Reads parts_of c.load_words.result (words_read ws)) words c.load_words.ensures)
