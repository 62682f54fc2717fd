use Rattle.std.proofs.Common.{◌-◌, ◌∙◌, ap, sym, Some, arith}
use Rattle.txs_values.proofs.Rounds.{fields-more, built-end}
use Rattle.txs_values.specs.Choices.{built}
use Rattle.txs_values.specs.View.{ty_of}
use Rattle.txs_values.proofs.default.+build.Goals as goal

pub loop-field-preserved : goal.loop-field-preserved
loop-field-preserved t c =
    fields-more (built (c.args.levels - 1) c.args.table.now c.args.found.now) c.as_slice-field-items.result.now c.loop-field.field-index c.field-item.result c.in_ok-build-in-Some-constructor_at.field-0 c.loop-field.fields c.push.new.self
    (omega arith) c.field-item.is c.loop-field.invariant c.in_ok-build-in-Some-constructor_at.ensures c.in_ok-push-in-Some-constructor_at.ensures.ok

pub returns-in_ok-made-in-Some-constructor_at : goal.returns-in_ok-made-in-Some-constructor_at
returns-in_ok-made-in-Some-constructor_at t c =
    built-end c.args.table.now c.args.found.now c.args.levels c.in-Named.k (ty_of c.args.ty) c.chosen_in.result c.in-Some.choice c.in-Some-constructor_at.field-0-0 c.in-Some-constructor_at.constructor.now
    c.as_slice-field-items.result.now c.loop-field.field-index c.loop-field.fields (omega arith) (ap ty_of c.in-Named.is) c.chosen_in.ensures c.in-Some.is c.in-Some-constructor_at.ensures
    c.as_slice-field-items.ensures c.loop-field-test.false c.loop-field.invariant
    ∙ ap Some (sym c.in_ok-made-in-Some-constructor_at.ensures)
