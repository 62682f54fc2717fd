use Rattle.std.proofs.Common.{◌∙◌}
use Rattle.txs_types.specs.inner.Among.{BadDefault}
use Rattle.txs_types.proofs.lists.Deciding.{among_none, among_more, among_end}
use Rattle.txs_types.proofs.offences.bad_type.Goals as goal

pub loop-place-init : goal.loop-place-init
loop-place-init c = λ o p. among_none (BadDefault c.args.table.now) o p

pub loop-place-preserved : goal.loop-place-preserved
loop-place-preserved c =
    let n = c.index-types-place.result in
    let e = c.extent_at-extent.ensures c.args.table.now (c.as_slice.ensures ∙ c.in_ok-extents.ensures) in
    among_more (BadDefault c.args.table.now) c.args.types.now c.loop-place.place n c.loop-place.fault c.bad_default.result c.least-fault.result
    c.loop-place-test.true c.index-types-place.is c.loop-place.invariant (c.bad_default.ensures c.args.table.now c.loop-place.place e) c.least-fault.ensures

pub returns : goal.returns
returns c = among_end (BadDefault c.args.table.now) c.args.types.now c.loop-place.place c.loop-place.fault c.loop-place-test.false c.loop-place.invariant
