use Rattle.std.proofs.Common.{◌≡◌, ◌∙◌, subst, sym}
use Rattle.txs_values.specs.declared.value.Value.TheVariants as variant
use Rattle.txs_eval.specs.Answer.{Comes}
use Rattle.txs_eval.proofs.Nodes.{selecting}
use Rattle.txs_eval.proofs.operators.unary.Goals as goal

pub returns-then-constructor-id : goal.returns-then-constructor-id
returns-then-constructor-id c =
    let v = c.args.value.now in
    let is = subst (λ k. v ≡ variant.Cons k c.in-Select-Cons.fields) (sym c.if-constructor-id.true) c.in-Select-Cons.is-1 in
    rw (c.in-Select-Cons.is-0)
    (subst (Comes c.selected.result)
    (sym (selecting v c.in-Select-Cons.constructor c.in-Select-Cons.field c.in-Select-Cons.fields c.as_slice.result.now is (c.as_slice.ensures ∙ c.get.ensures) c.args.table.now)) c.selected.ensures)
