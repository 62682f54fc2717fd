use Rattle.std.proofs.Common.{refl}
use Rattle.txs_types.specs.inner.Among.{InConstant}
use Rattle.txs_types.specs.inner.Collected.{ConstantsMeant}
use Rattle.txs_types.proofs.files.Bodies.{constants_start, constants_step, collected_end}
use Rattle.txs_types.proofs.bodies.constants_of.Goals as goal

pub constant_in-judged-requires : goal.constant_in-judged-requires
constant_in-judged-requires c = record { types = c.requires.types; scope = c.loop-def.invariant.scope }

pub loop-def-init : goal.loop-def-init
loop-def-init c = record { collected = constants_start c.args.file.now (record { list = c.new.result; fault = _ }) c.new.ensures refl; scope = c.requires.scope }

pub loop-def-preserved : goal.loop-def-preserved
loop-def-preserved c = record {
  collected =
      constants_step c.args.file.now c.as_slice-def-items.result.now c.loop-def.def-index c.def-item.result c.loop-def.constants c.add.new.self c.constant_in-judged.result
      c.loop-def-test.true c.def-item.is c.loop-def.invariant.collected c.constant_in-judged.ensures.judged c.in_ok-add.ensures;
  scope = c.constant_in-judged.ensures.scope;
}

pub returns : goal.returns
returns c = record {
  collected =
      collected_end (ConstantsMeant c.args.file.now) (InConstant c.args.file.now) c.as_slice-def-items.result.now c.args.file.now.defs c.loop-def.def-index c.loop-def.constants c.loop-def-test.false c.as_slice-def-items.ensures c.loop-def.invariant.collected;
  scope = c.loop-def.invariant.scope;
}
