use Rattle.std.proofs.Common.{◌∙◌, ◌-◌, get_or, take, drop, length, sym}
use Rattle.txs_values.proofs.ReadSteps.{first-rest, quoted-plain, quoted-meant}
use Rattle.txs_values.proofs.reading.quoted.Goals as goal

pub loop-rest-preserved-in_ok-push-in-Some : goal.loop-rest-preserved-in_ok-push-in-Some
loop-rest-preserved-in_ok-push-in-Some c =
    let r = c.loop-rest.rest.now in
    quoted-meant c.args.bytes.now c.loop-rest.text r (take (length r - 1) (drop 1 r)) c.push.new.self c.loop-rest.is_escaped (get_or r 0 0) c.in-Some.meant c.loop-rest.invariant c.if-is_escaped.true
    (first-rest r c.in-len1-up.len_at_least) (sym c.escape.ensures ∙ c.in-Some.is) c.in_ok-push-in-Some.ensures.ok

pub loop-rest-preserved : goal.loop-rest-preserved
loop-rest-preserved c =
    let r = c.loop-rest.rest.now in
    quoted-plain c.args.bytes.now c.loop-rest.text r (take (length r - 1) (drop 1 r)) c.push-else-is_raw.new.self c.loop-rest.is_escaped (get_or r 0 0) c.loop-rest.invariant c.if-is_escaped.false
    (first-rest r c.in-len1-up.len_at_least) c.if-byte-eq34.false c.if-byte-eq92.false (sym c.is_raw.ensures ∙ c.if-is_raw.false) c.in_ok-push.ensures.ok
