use Rattle.std.proofs.Common.{refl}
use Rattle.txs_types.specs.Files.{type_names}
use Rattle.txs_types.proofs.lists.Gathering.{gather_more, gather_end}
use Rattle.txs_types.proofs.lists.Collecting.{split_type_names}
use Rattle.txs_types.proofs.definitions.type_names.Goals as goal

pub loop-def-preserved : goal.loop-def-preserved
loop-def-preserved c =
    gather_more type_names split_type_names c.args.defs.now c.loop-def.def-index c.def-item.result c.loop-def.names c.in_ok-type_name.field-0 c.append.new.self
    c.loop-def-test.true c.def-item.is c.loop-def.invariant c.in_ok-type_name.ensures c.in_ok-append.ensures

pub returns : goal.returns
returns c = gather_end type_names c.args.defs.now c.loop-def.def-index c.loop-def.names refl c.loop-def-test.false c.loop-def.invariant
