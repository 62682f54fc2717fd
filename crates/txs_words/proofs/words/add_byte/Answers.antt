use Rattle.std.proofs.Common.{◌≡◌, ◌<◌, ◌∙◌, length, arith, true}
use Rattle.std.proofs.lemmas.Grind.{common_steps}
use Rattle.txs_words.specs.Form.{is_gap}
use Rattle.txs_words.proofs.Wording.{words-done}
use Rattle.txs_words.proofs.words.add_byte.Goals as goal

pub returns-clause-words : goal.returns-clause-words
returns-clause-words c rest =
    let some : 0 < length c.args.word.now = omega (arith, c.len.ensures, c.if-len-eq0.false) in
    let gap : is_gap c.args.byte ≡ true = grind (arith, common_steps) in
    words-done c.args.words.now c.push-2.new.self c.args.word.now c.replace-finished.result c.replace-finished.new.dest c.args.byte rest
    c.in_ok-push-2.ensures.ok c.replace-finished.ensures.value (c.replace-finished.ensures.after ∙ c.new.ensures) some c.requires gap
