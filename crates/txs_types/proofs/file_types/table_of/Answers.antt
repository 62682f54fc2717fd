use Rattle.std.proofs.Common.{refl, ◌∷◌, []}
use Rattle.txs_types.specs.Files as files
use Rattle.txs_types.proofs.lists.Gathering.{gather_more, gather_end}
use Rattle.txs_types.proofs.lists.Collecting.{split_table}
use Rattle.txs_types.proofs.file_types.table_of.Goals as goal

pub loop-def-preserved : goal.loop-def-preserved
loop-def-preserved c =
    gather_more (files.table_in c.args.types.now) (split_table c.args.types.now) c.args.defs.now c.loop-def.def-index c.def-item.result c.loop-def.table
    (files.table_in c.args.types.now (c.def-item.result ∷ [])) c.add_type.new.table c.loop-def-test.true c.def-item.is c.loop-def.invariant refl c.in_ok-add_type.ensures

pub returns : goal.returns
returns c = gather_end (files.table_in c.args.types.now) c.args.defs.now c.loop-def.def-index c.loop-def.table refl c.loop-def-test.false c.loop-def.invariant
