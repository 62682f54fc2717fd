use Rattle.std.proofs.Common.{ap, subst, ◌∙◌}
use Rattle.txs_terms.specs.View.{definitions_of}
use Rattle.txs_types.specs.Files.{names_of}
use Rattle.txs_typing.specs.inner.Told.{Finds}
use Rattle.txs_types.specs.inner.Queries.{InDeclarations}
use Rattle.txs_typing.specs.inner.View.{Judges}
use Rattle.txs_typing.specs.Answer.{want_of}
use Rattle.txs_types.proofs.files.Queries.{query_clean, query_told, query_typed, query_wanted, query_safe}
use Rattle.txs_types.proofs.query.type_query.Goals as goal

pub returns-clause-clean : goal.returns-clause-clean
returns-clause-clean c =
    let d = definitions_of c.args.defs.now in
    let list = c.args.decls.now in
    let want = want_of c.args.want in
    let a = c.args.tree.now in
    let told = c.in_ok-declared.declared in
    let typed = c.expression.result in
    let named = c.as_slice-2.ensures ∙ (c.in_ok-types.ensures ∙ ap names_of (c.as_slice.ensures.defs ∙ c.table.ensures.table)) in
    let found = subst (λ ns. Finds told (InDeclarations ns list)) named c.in_ok-declared.ensures in
    let judged = subst (λ s. Judges s want a typed) c.in_ok-scope.ensures c.expression.ensures.judged in
    query_clean d list want a told typed c.decided.result found judged c.decided.ensures

pub returns-clause-typed : goal.returns-clause-typed
returns-clause-typed c =
    let d = definitions_of c.args.defs.now in
    let list = c.args.decls.now in
    let want = want_of c.args.want in
    let a = c.args.tree.now in
    let told = c.in_ok-declared.declared in
    let typed = c.expression.result in
    let named = c.as_slice-2.ensures ∙ (c.in_ok-types.ensures ∙ ap names_of (c.as_slice.ensures.defs ∙ c.table.ensures.table)) in
    let found = subst (λ ns. Finds told (InDeclarations ns list)) named c.in_ok-declared.ensures in
    let judged = subst (λ s. Judges s want a typed) c.in_ok-scope.ensures c.expression.ensures.judged in
    query_typed d list want a told typed c.decided.result c.table.ensures.defined c.requires.need found judged c.decided.ensures

pub returns-clause-wanted : goal.returns-clause-wanted
returns-clause-wanted c =
    let d = definitions_of c.args.defs.now in
    let list = c.args.decls.now in
    let want = want_of c.args.want in
    let a = c.args.tree.now in
    let told = c.in_ok-declared.declared in
    let typed = c.expression.result in
    let named = c.as_slice-2.ensures ∙ (c.in_ok-types.ensures ∙ ap names_of (c.as_slice.ensures.defs ∙ c.table.ensures.table)) in
    let found = subst (λ ns. Finds told (InDeclarations ns list)) named c.in_ok-declared.ensures in
    let judged = subst (λ s. Judges s want a typed) c.in_ok-scope.ensures c.expression.ensures.judged in
    query_wanted d list want a told typed c.decided.result c.table.ensures.defined c.requires.need found judged c.decided.ensures

pub returns-clause-safe : goal.returns-clause-safe
returns-clause-safe c =
    let d = definitions_of c.args.defs.now in
    let list = c.args.decls.now in
    let want = want_of c.args.want in
    let a = c.args.tree.now in
    let told = c.in_ok-declared.declared in
    let typed = c.expression.result in
    let named = c.as_slice-2.ensures ∙ (c.in_ok-types.ensures ∙ ap names_of (c.as_slice.ensures.defs ∙ c.table.ensures.table)) in
    let found = subst (λ ns. Finds told (InDeclarations ns list)) named c.in_ok-declared.ensures in
    let judged = subst (λ s. Judges s want a typed) c.in_ok-scope.ensures c.expression.ensures.judged in
    query_safe d list want a c.decided.result c.table.ensures.defined
    (query_typed d list want a told typed c.decided.result c.table.ensures.defined c.requires.need found judged c.decided.ensures)

pub returns-clause-offends : goal.returns-clause-offends
returns-clause-offends c =
    let d = definitions_of c.args.defs.now in
    let list = c.args.decls.now in
    let want = want_of c.args.want in
    let a = c.args.tree.now in
    let told = c.in_ok-declared.declared in
    let typed = c.expression.result in
    let named = c.as_slice-2.ensures ∙ (c.in_ok-types.ensures ∙ ap names_of (c.as_slice.ensures.defs ∙ c.table.ensures.table)) in
    let found = subst (λ ns. Finds told (InDeclarations ns list)) named c.in_ok-declared.ensures in
    let judged = subst (λ s. Judges s want a typed) c.in_ok-scope.ensures c.expression.ensures.judged in
    query_told d list want a told typed c.decided.result found judged c.decided.ensures
