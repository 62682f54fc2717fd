use Rattle.std.proofs.Common.{◌≡◌, None, sym, ap, ◌∙◌, arith, slice_get}
use Rattle.std.specs.Option.{option_copied}
use Rattle.txs_values.proofs.Tables.{place-found, place-past, past-length}
use Rattle.txs_values.proofs.table.TypeTable.constructor_at.Goals as goal

pub returns-in-Some : goal.returns-in-Some
returns-in-Some c =
    let items = c.as_slice-def-items.result.now in
    let found = sym c.in-Some.ensures.value in
    place-found items c.loop-def.def-index c.loop-def.ty c.loop-def.left c.def-item.result c.in-Some.cons.now _ (omega arith) c.def-item.is found c.loop-def.invariant.rest

pub overflow_sub-left : goal.overflow_sub-left
overflow_sub-left c =
    let none : slice_get c.def-item.result.cons c.loop-def.left ≡ None = sym c.get.ensures.value ∙ ap option_copied c.in_default.is in
    let past = past-length c.def-item.result.cons c.loop-def.left none in
    omega (arith, past, c.len-left.ensures)

pub loop-def-preserved : goal.loop-def-preserved
loop-def-preserved c =
    let none : slice_get c.def-item.result.cons c.loop-def.left ≡ None = sym c.get.ensures.value ∙ ap option_copied c.in_default.is in
    record {
      index = omega (arith, c.loop-def.invariant.index);
      rest = rw c.len-left.ensures (place-past c.as_slice-def-items.result.now c.loop-def.def-index c.loop-def.ty c.loop-def.left c.def-item.result _ (omega arith) c.def-item.is none c.loop-def.invariant.rest);
    }
