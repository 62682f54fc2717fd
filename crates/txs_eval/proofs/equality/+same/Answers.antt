use Rattle.std.proofs.Common.{◌+◌, ◌*◌, ◌<◌, subst, refl, arith}
use Rattle.txs_values.specs.declared.value.Value.TheVariants as variant
use Rattle.txs_values.specs.Value.{packed, size, sizes}
use Rattle.txs_values.specs.View.{value_of, values_of}
use Rattle.txs_values.proofs.Below.{below}
use Rattle.txs_eval.proofs.Alike.{other_lengths}
use Rattle.txs_eval.proofs.equality.+same.Goals as goal

pub same_fields-returns-then-xs-ys : goal.same_fields-returns-then-xs-ys
same_fields-returns-then-xs-ys t c = other_lengths c.args.xs.now c.args.ys.now c.if-xs-ys.true

pub same_fields-same-requires : goal.same_fields-same-requires
same_fields-same-requires t c =
    let x = c.index-xs-index.result in
    let s : size (value_of x) < 1 + sizes (packed (values_of c.args.xs.now)) = below (variant.Cons 0 (packed (values_of c.args.xs.now))) 0 _ c.args.xs.now c.loop-index.index x refl refl c.loop-index-test.true c.index-xs-index.is in
    (subst (λ n. 2 * size (value_of x) < n) c.decreases (omega (arith, s)), tt)
