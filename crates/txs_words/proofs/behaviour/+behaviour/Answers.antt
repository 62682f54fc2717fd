use Rattle.std.proofs.Common.{◌≡◌, ℕ, List, [], ◌∷◌, ◌++◌, ◌-◌, ◌*◌, ◌≤◌, bytes_eq, codes, length, take, drop, length-take, length-drop, refl, sym, ◌∙◌, arith}
use Rattle.txs_terms.specs.View
use Rattle.txs_terms.specs.View.{term_of}
use Rattle.txs_words.specs.Form.{tight}
use Rattle.txs_words.specs.inner.Parsing.{front_of, front_read, prefix_read, position_read, channel_read, binder}
use Rattle.txs_words.proofs.Readers.{prefix-words, stopped, stepped, tight-steps, loose-steps}
use Rattle.txs_values.proofs.Tests.{eq-bytes, not-false}
use Rattle.txs_words.proofs.behaviour.+behaviour.Goals as goal

pub loose_of-returns-in-Ok-clause-read : goal.loose_of-returns-in-Ok-clause-read
loose_of-returns-in-Ok-clause-read t c =
    loose-steps front_of c.choice_of.result c.args.channels.0.now c.args.channels.1.now c.args.bound.now c.tight_of.new.bound c.args.words.now (term_of c.in-Ok.left) c.in-Ok.rest.now
    c.in-Ok.ensures.kept c.in-Ok.ensures.shorter c.in-Ok.ensures.read c.choice_of.ensures.read

pub prefix_of-returns-in-Err-clause-read : goal.prefix_of-returns-in-Err-clause-read
prefix_of-returns-in-Err-clause-read t c k q =
    let arrow : c.as_slice.result.now ≡ codes ">->" = eq-bytes c.as_slice.result.now c.as_bytes.result.now (not-false (bytes_eq c.as_slice.result.now c.as_bytes.result.now) c.if-ne.ensures) ∙ c.as_bytes.ensures.value in
    let more : List (List ℕ) = take (length c.args.words.now - 3) (drop 3 c.args.words.now) in
    let step = prefix-words (front_read k tight c.args.channels.0.now c.args.channels.1.now) c.args.channels.0.now c.args.channels.1.now c.args.bound.now c.as_slice-in-Some-3.result.now c.args.name.now c.args.words.now
    c.sign-item.result c.word-item.result c.arrow-item.result c.as_slice-in-Some.result.now c.as_slice-in-Some-2.result.now c.as_slice.result.now more
    c.in-len3-up.len_at_least c.sign-item.is c.word-item.is c.arrow-item.is c.as_slice-in-Some.ensures c.as_slice-in-Some-2.ensures c.as_slice-in-Some-3.ensures c.as_slice.ensures refl arrow in
    stopped View.position_of front_of c.in-Some.channel (channel_read c.args.channels.0.now c.args.channels.1.now c.args.name.now)
    (position_read c.as_slice-in-Some-3.result.now c.as_slice-in-Some.result.now c.as_slice-in-Some-2.result.now)
    (λ p. front_read k tight c.args.channels.0.now c.args.channels.1.now (c.args.bound.now ++ binder p ∷ []) more) c.in-Err.fault
    (prefix_read (front_read k tight c.args.channels.0.now c.args.channels.1.now) c.args.channels.0.now c.args.channels.1.now c.args.bound.now c.args.name.now c.args.words.now) step c.in-Some.ensures c.in-Err.ensures

pub prefix_of-returns-in-Ok-clause-read : goal.prefix_of-returns-in-Ok-clause-read
prefix_of-returns-in-Ok-clause-read t c k q =
    let arrow : c.as_slice.result.now ≡ codes ">->" = eq-bytes c.as_slice.result.now c.as_bytes.result.now (not-false (bytes_eq c.as_slice.result.now c.as_bytes.result.now) c.if-ne.ensures) ∙ c.as_bytes.ensures.value in
    let more : List (List ℕ) = take (length c.args.words.now - 3) (drop 3 c.args.words.now) in
    let len : 2 * length more ≤ k = let d = length-drop 3 c.args.words.now in let e = length-take (length c.args.words.now - 3) (drop 3 c.args.words.now) in omega (arith, q, c.in-len3-up.len_at_least) in
    let step = prefix-words (front_read k tight c.args.channels.0.now c.args.channels.1.now) c.args.channels.0.now c.args.channels.1.now c.args.bound.now c.as_slice-in-Some-3.result.now c.args.name.now c.args.words.now
    c.sign-item.result c.word-item.result c.arrow-item.result c.as_slice-in-Some.result.now c.as_slice-in-Some-2.result.now c.as_slice.result.now more
    c.in-len3-up.len_at_least c.sign-item.is c.word-item.is c.arrow-item.is c.as_slice-in-Some.ensures c.as_slice-in-Some-2.ensures c.as_slice-in-Some-3.ensures c.as_slice.ensures refl arrow in
    stepped front_of c.prefixed.result c.in-Some.channel (View.position_of c.in-Ok.position) (channel_read c.args.channels.0.now c.args.channels.1.now c.args.name.now)
    (position_read c.as_slice-in-Some-3.result.now c.as_slice-in-Some.result.now c.as_slice-in-Some-2.result.now)
    (λ p. front_read k tight c.args.channels.0.now c.args.channels.1.now (c.args.bound.now ++ binder p ∷ []) more)
    (prefix_read (front_read k tight c.args.channels.0.now c.args.channels.1.now) c.args.channels.0.now c.args.channels.1.now c.args.bound.now c.args.name.now c.args.words.now) step c.in-Some.ensures c.in-Ok.ensures (c.prefixed.ensures.read k len)

pub tight_of-returns-else-eq-2-clause-read : goal.tight_of-returns-else-eq-2-clause-read
tight_of-returns-else-eq-2-clause-read t c =
    tight-steps front_of c.prefix_of.result c.args.channels.0.now c.args.channels.1.now c.args.bound.now c.args.words.now c.first-item.result c.as_slice-word.result.now
    c.as_bytes.result.now c.as_bytes-else-eq.result.now (take (length c.args.words.now - 1) (drop 1 c.args.words.now)) c.in-len1-up.len_at_least c.first-item.is c.as_slice-word.ensures refl
    c.as_bytes.ensures.value (sym c.eq.ensures ∙ c.if-eq.false) c.as_bytes-else-eq.ensures.value (sym c.eq-else-eq.ensures ∙ c.if-eq-2.false) c.prefix_of.ensures.read
