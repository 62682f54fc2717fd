use Rattle.std.proofs.Common.{refl}
use Rattle.txs_types.specs.Files.{defined_names}
use Rattle.txs_types.proofs.lists.Gathering.{gather_more, gather_end}
use Rattle.txs_types.proofs.lists.Collecting.{split_defined_names}
use Rattle.txs_types.proofs.definitions.defined_names.Goals as goal

pub loop-def-preserved : goal.loop-def-preserved
loop-def-preserved c =
    gather_more defined_names split_defined_names c.args.defs.now c.loop-def.def-index c.def-item.result c.loop-def.names c.in_ok-names_of_definition.field-0 c.append.new.self
    c.loop-def-test.true c.def-item.is c.loop-def.invariant c.in_ok-names_of_definition.ensures c.in_ok-append.ensures

pub returns : goal.returns
returns c = gather_end defined_names c.args.defs.now c.loop-def.def-index c.loop-def.names refl c.loop-def-test.false c.loop-def.invariant
