use Rattle.std.proofs.Common.{◌∙◌, ap, sym, subst}
use Rattle.txs_terms.specs.View.{Held, definitions_of}
use Rattle.txs_types.specs.Files.{type_names, table_in}
use Rattle.txs_typing.specs.Answer.{AreSafe}
use Rattle.txs_types.proofs.files.Safe.{told_of, none_offends, all_defined, defined_are_safe}
use Rattle.txs_types.proofs.file.type_defs.Goals as goal

pub returns-in-Some-clause-offends : goal.returns-in-Some-clause-offends
returns-in-Some-clause-offends c =
    told_of c.args.file.now c.in_ok-outside.outside c.in_ok-functions.functions c.in_ok-constants.constants c.least-without.result c.least.result
    c.in_ok-outside.ensures c.in_ok-functions.ensures.collected c.in_ok-constants.ensures.collected c.least-without.ensures c.least.ensures c.in-Some.fault c.in-Some.is

pub new-requires : goal.new-requires
new-requires c =
    all_defined c.args.file.now c.in_ok-outside.outside c.in_ok-functions.functions c.in_ok-constants.constants c.least-without.result c.least.result
    c.in_ok-outside.ensures c.in_ok-functions.ensures.collected c.in_ok-constants.ensures.collected c.least-without.ensures c.least.ensures
    c.requires.names c.in-None.is c.in_ok-table-in-None.table
    (c.in_ok-table-in-None.ensures
    ∙ (ap (λ ts. table_in ts c.as_slice-in-None-2.result.now) (c.as_slice-in-None.ensures ∙ (c.in_ok-types.ensures ∙ ap type_names c.as_slice.ensures))
    ∙ ap (table_in (type_names c.args.file.now.defs)) c.as_slice-in-None-2.ensures))

pub returns-clause-clean : goal.returns-clause-clean
returns-clause-clean c =
    none_offends c.args.file.now c.in_ok-outside.outside c.in_ok-functions.functions c.in_ok-constants.constants c.least-without.result c.least.result
    c.in_ok-outside.ensures c.in_ok-functions.ensures.collected c.in_ok-constants.ensures.collected c.least-without.ensures c.least.ensures c.in-None.is

pub returns-clause-safe : goal.returns-clause-safe
returns-clause-safe c =
    subst (λ (h : Held). AreSafe (definitions_of h)) (sym c.new.ensures)
    (defined_are_safe (definitions_of (c.in_ok-table-in-None.table, c.in_ok-functions.functions.list, c.in_ok-constants.constants.list))
    (all_defined c.args.file.now c.in_ok-outside.outside c.in_ok-functions.functions c.in_ok-constants.constants c.least-without.result c.least.result
    c.in_ok-outside.ensures c.in_ok-functions.ensures.collected c.in_ok-constants.ensures.collected c.least-without.ensures c.least.ensures
    c.requires.names c.in-None.is c.in_ok-table-in-None.table
    (c.in_ok-table-in-None.ensures
    ∙ (ap (λ ts. table_in ts c.as_slice-in-None-2.result.now) (c.as_slice-in-None.ensures ∙ (c.in_ok-types.ensures ∙ ap type_names c.as_slice.ensures))
    ∙ ap (table_in (type_names c.args.file.now.defs)) c.as_slice-in-None-2.ensures))))
