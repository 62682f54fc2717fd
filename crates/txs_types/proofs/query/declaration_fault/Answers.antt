use Rattle.std.proofs.Common.{[], subst, ◌∙◌}
use Rattle.txs_types.specs.Files.{names_in, types_used}
use Rattle.txs_typing.specs.inner.Told.{Finds}
use Rattle.txs_types.specs.inner.Among.{IsTwice, AnyUndefined}
use Rattle.txs_typing.proofs.judging.Told.{finds_least}
use Rattle.txs_types.proofs.query.declaration_fault.Goals as goal

pub returns : goal.returns
returns c =
    let types = c.args.types.now in
    let decls = c.args.decls.now.decls in
    finds_least c.in_ok-twice.twice c.undefined.result c.least.result (IsTwice [] (names_in decls)) (AnyUndefined types (types_used decls)) c.least.ensures
    (subst (λ ns. Finds c.in_ok-twice.twice (IsTwice [] ns)) (c.as_slice.ensures ∙ c.in_ok-names.ensures) c.in_ok-twice.ensures) c.undefined.ensures.told
