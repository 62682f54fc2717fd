use Rattle.std.specs.BTreeSet.{contains_text}
use Rattle.txs_types.specs.Files.{is_among}
use Rattle.txs_types.proofs.naming.Loops.{put_next}
use Rattle.txs_types.proofs.names.set_of.Goals as goal

pub loop-text-preserved : goal.loop-text-preserved
loop-text-preserved c = λ x.
    put_next x c.args.texts.now c.loop-text.text-index c.text-item.result (contains_text c.loop-text.seen x) (contains_text c.add_text.new.seen x) (is_among x c.args.texts.now)
    c.loop-text-test.true c.text-item.is (c.in_ok-add_text.ensures x) (c.loop-text.invariant x)
