use Rattle.std.proofs.Common.{string_bytes}
use Rattle.txs_values.proofs.Escapes.{escaped-more}
use Rattle.txs_values.proofs.canonical.write_escaped.Goals as goal

pub loop-ch-preserved : goal.loop-ch-preserved
loop-ch-preserved c = escaped-more (string_bytes c.args.out.now) (string_bytes c.loop-ch.out) (string_bytes c.write_char.new.out) c.loop-ch.yielded c.in-Some.ch c.loop-ch.invariant c.in_ok-write_char.ensures
