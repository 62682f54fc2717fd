use Rattle.std.proofs.Common.{arith}
use Rattle.txs_values.proofs.Escapes.{escaped-encode}
use Rattle.txs_values.proofs.canonical.write_char.Goals as goal

pub returns-in_ok-push-in_default : goal.returns-in_ok-push-in_default
returns-in_ok-push-in_default c =
    let e = escaped-encode c.args.ch (omega arith) (omega arith) (omega arith) (omega arith) (omega arith) in
    rw e (c.in_ok-push-in_default.ensures.bytes)
