use Rattle.std.proofs.Common.{string_bytes, ◌∙◌, ◌<◌, subst}
use Rattle.std.proofs.lemmas.List.{take_rest}
use Rattle.txs_values.specs.Value.{size}
use Rattle.txs_values.specs.View.{value_of}
use Rattle.txs_values.proofs.Below.{below-other}
use Rattle.txs_values.proofs.Written.{written-made, written-others, written-value}
use Rattle.txs_values.proofs.canonical.+write_value.Goals as goal

pub returns-in_ok-push_str-in-Cons-3 : goal.returns-in_ok-push_str-in-Cons-3
returns-in_ok-push_str-in-Cons-3 t c =
    let fields = c.as_slice.result.now in
    let others = rw (take_rest fields 1) at (written-others c.args.table.now _ c.loop-other.other-index (string_bytes c.loop-other.out) (string_bytes c.write_value.new.out) c.loop-other-test.false c.loop-other.invariant) in
    written-value c.args.table.now c.in-Cons.id c.in-Cons.fields fields c.args.value.now (string_bytes c.args.out.now) (string_bytes c.push_str-in-len1-up-2.new.self) c.in-Cons.is (c.as_slice.ensures ∙ c.get.ensures)
    (written-made c.args.table.now c.in-Cons.id fields c.first-item.result (string_bytes c.args.out.now) (string_bytes c.write_name.new.out) (string_bytes c.push_str-in-len1-up.new.self)
    (string_bytes c.write_value.new.out) (string_bytes c.loop-other.out) (string_bytes c.push_str-in-len1-up-2.new.self) c.in-len1-up.len_at_least c.first-item.is
    c.in_ok-write_name-in-Cons.ensures c.in_ok-push_str-in-Cons.ensures.bytes c.in_ok-write_value-in-Cons.ensures others c.in_ok-push_str-in-Cons-3.ensures.bytes)

pub write_value-requires-in-loop-other : goal.write_value-requires-in-loop-other
write_value-requires-in-loop-other t c = (
  subst (λ n. size (value_of c.other-item.result) < n) c.decreases
      (below-other c.args.value.now c.in-Cons.id c.in-Cons.fields c.as_slice.result.now _ c.loop-other.other-index c.other-item.result c.in-Cons.is (c.as_slice.ensures ∙ c.get.ensures)
      (take_rest c.as_slice.result.now 1) c.loop-other-test.true c.other-item.is),
  tt,
)
