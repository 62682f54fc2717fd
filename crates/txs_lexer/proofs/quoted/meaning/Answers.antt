use Rattle.std.proofs.Common.{arith, rules, ap, sym, ◌∙◌, ◌<◌, ◌≤◌, length, length-drop}
use Rattle.txs_lexer.proofs.Steps.{read-on, read-within}
use Rattle.txs_lexer.proofs.quoted.meaning.Goals as goal

pub loop-rest-preserved : goal.loop-rest-preserved
loop-rest-preserved c =
    let some : 0 < length c.loop-rest.rest.now = search rules in
    let within : (0 < c.in-Some.width) × (c.in-Some.width ≤ length c.loop-rest.rest.now) = read-within c.loop-rest.rest.now (c.in-Some.byte, c.in-Some.width) some (sym c.in-Some.ensures) in
    record {
      places = omega (arith, within, c.loop-rest.invariant.places, length-drop c.in-Some.width c.loop-rest.rest.now, ap length c.past-rest.ensures);
      so_far = read-on c.loop-rest.rest.now c.past-rest.result.now c.loop-rest.text c.push.new.self c.loop-rest.len (c.in-Some.byte, c.in-Some.width) some (sym c.in-Some.ensures) c.past-rest.ensures c.in_ok-push-in-Some.ensures.ok ∙ c.loop-rest.invariant.so_far;
    }
