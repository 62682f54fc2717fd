use Rattle.txs_values.proofs.Tables.{counted-more}
use Rattle.txs_values.proofs.table.TypeTable.add.Goals as goal

pub invariant_of-self-2 : goal.invariant_of-self-2
invariant_of-self-2 c = counted-more c.self.inside.defs c.push.new.self c.args.def c.self.inside.count c.len-count.result c.self.invariant c.len-count.ensures c.if-count-self.false c.in_ok-push.ensures.ok
