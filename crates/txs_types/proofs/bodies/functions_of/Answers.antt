use Rattle.std.proofs.Common.{refl}
use Rattle.txs_types.specs.inner.Among.{InFunction}
use Rattle.txs_types.specs.inner.Collected.{FunctionsMeant}
use Rattle.txs_types.proofs.files.Bodies.{functions_start, functions_step, collected_end}
use Rattle.txs_types.proofs.bodies.functions_of.Goals as goal

pub function_in-judged-requires : goal.function_in-judged-requires
function_in-judged-requires c = record { types = c.requires.types; scope = c.loop-def.invariant.scope }

pub loop-def-init : goal.loop-def-init
loop-def-init c = record { collected = functions_start c.args.file.now (record { list = c.new.result; fault = _ }) c.new.ensures refl; scope = c.requires.scope }

pub loop-def-preserved : goal.loop-def-preserved
loop-def-preserved c = record {
  collected =
      functions_step c.args.file.now c.as_slice-def-items.result.now c.loop-def.def-index c.def-item.result c.loop-def.functions c.add.new.self c.function_in-judged.result
      c.loop-def-test.true c.def-item.is c.loop-def.invariant.collected c.function_in-judged.ensures.judged c.in_ok-add.ensures;
  scope = c.function_in-judged.ensures.scope;
}

pub returns : goal.returns
returns c = record {
  collected =
      collected_end (FunctionsMeant c.args.file.now) (InFunction c.args.file.now) c.as_slice-def-items.result.now c.args.file.now.defs c.loop-def.def-index c.loop-def.functions c.loop-def-test.false c.as_slice-def-items.ensures c.loop-def.invariant.collected;
  scope = c.loop-def.invariant.scope;
}
