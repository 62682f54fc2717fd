use Rattle.std.proofs.Common.{[], ◌∷◌, take, sym, subst, ◌∙◌}
use Rattle.std.proofs.lemmas.List.{take_all}
use Rattle.txs_types.specs.Files.{types_used}
use Rattle.txs_types.specs.inner.Among.{FindsUndefined}
use Rattle.txs_types.proofs.naming.Loops.{used_next}
use Rattle.txs_types.proofs.files.Offending.{none_undefined_yet, undefined_least}
use Rattle.txs_types.proofs.declarations.undefined.Goals as goal

pub loop-decl-init : goal.loop-decl-init
loop-decl-init c = none_undefined_yet c.args.types.now

pub loop-decl-preserved : goal.loop-decl-preserved
loop-decl-preserved c =
    let types = c.args.types.now in
    let decls = c.as_slice-decl-items.result.now in
    let d = c.decl-item.result in
    subst (λ ns. FindsUndefined types ns c.least-fault.result)
    (sym (used_next decls c.loop-decl.decl-index d c.loop-decl-test.true c.decl-item.is))
    (undefined_least types (types_used (take c.loop-decl.decl-index decls)) (d.ty ∷ []) c.loop-decl.fault c.undefined_name.result c.least-fault.result
    c.least-fault.ensures c.loop-decl.invariant c.undefined_name.ensures.finds)

pub returns : goal.returns
returns c =
    let decls = c.as_slice-decl-items.result.now in
    subst (λ ds. FindsUndefined c.args.types.now (types_used ds) c.loop-decl.fault)
    (take_all c.loop-decl.decl-index decls c.loop-decl-test.false ∙ c.as_slice-decl-items.ensures)
    c.loop-decl.invariant
