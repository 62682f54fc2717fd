use Rattle.std.proofs.Common.{subst, List}
use Rattle.std.proofs.lemmas.List.{take_all}
use Rattle.txs_syntax.specs.declared.file.ConDef.{ConDef}
use Rattle.txs_types.specs.Files.{types_of_fields}
use Rattle.txs_types.specs.inner.Among.{FindsUndefined}
use Rattle.txs_types.proofs.files.Offending.{none_undefined_yet, fields_more}
use Rattle.txs_types.proofs.declarations.undefined_field.Goals as goal

pub loop-con-init : goal.loop-con-init
loop-con-init c = none_undefined_yet c.args.types.now

pub loop-con-preserved : goal.loop-con-preserved
loop-con-preserved c =
    fields_more c.args.types.now c.args.cons.now c.loop-con.con-index c.con-item.result c.loop-con.fault c.undefined.result c.least-fault.result
    c.loop-con-test.true c.con-item.is c.loop-con.invariant c.undefined.ensures c.least-fault.ensures

pub returns : goal.returns
returns c =
    subst (λ (cs : List ConDef). FindsUndefined c.args.types.now (types_of_fields cs) c.loop-con.fault)
    (take_all c.loop-con.con-index c.args.cons.now c.loop-con-test.false) c.loop-con.invariant
