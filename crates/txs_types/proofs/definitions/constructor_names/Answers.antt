use Rattle.std.proofs.Common.{refl}
use Rattle.txs_types.specs.Files.{constructor_names}
use Rattle.txs_types.proofs.lists.Gathering.{gather_more, gather_end}
use Rattle.txs_types.proofs.lists.Collecting.{split_constructor_names}
use Rattle.txs_types.proofs.definitions.constructor_names.Goals as goal

pub loop-con-preserved : goal.loop-con-preserved
loop-con-preserved c =
    gather_more constructor_names split_constructor_names c.args.cons.now c.loop-con.con-index c.con-item.result c.loop-con.names c.in_ok-names_of_constructor.field-0 c.append.new.self
    c.loop-con-test.true c.con-item.is c.loop-con.invariant c.in_ok-names_of_constructor.ensures c.in_ok-append.ensures

pub returns : goal.returns
returns c = gather_end constructor_names c.args.cons.now c.loop-con.con-index c.loop-con.names refl c.loop-con-test.false c.loop-con.invariant
