use Rattle.std.proofs.Common.{◌∙◌, ap, sym, Some, refl, bytes_eq}
use Rattle.txs_typing.specs.inner.View.{global_of}
use Rattle.txs_typing.proofs.Lookups.{other_name, same_name}
use Rattle.txs_typing.proofs.Tests.{same_text, other_text}
use Rattle.txs_typing.proofs.meaning.GlobalNames.find.Goals as goal

pub returns-then-is : goal.returns-then-is
returns-then-is c =
    let x = c.args.name.now in
    let here = c.global-item.is in
    c.loop-global.invariant
    ∙ (same_name x c.as_slice-global-items.result.now c.loop-global.global-index c.global-item.result c.loop-global-test.true
    (ap (λ g. bytes_eq g.name x) (sym here) ∙ same_text c.global-item.result.name x (c.if-is.ensures.0 refl))
    ∙ ap (λ g. Some ((global_of g).means)) (sym here))

pub loop-global-preserved : goal.loop-global-preserved
loop-global-preserved c =
    let x = c.args.name.now in
    c.loop-global.invariant
    ∙ other_name x c.as_slice-global-items.result.now c.loop-global.global-index c.global-item.result c.loop-global-test.true
    (ap (λ g. bytes_eq g.name x) (sym c.global-item.is) ∙ other_text c.global-item.result.name x c.if-is.ensures.1)
