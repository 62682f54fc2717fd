use Rattle.std.proofs.Common.{map, ap}
use Rattle.txs_values.specs.TableView.{field_of}
use Rattle.txs_terms.specs.View.{definitions_of}
use Rattle.txs_typing.specs.inner.View.{globals_of}
use Rattle.txs_types.proofs.files.Queries.{scope_is}
use Rattle.txs_types.proofs.query.scope_over.Goals as goal

pub returns : goal.returns
returns c =
    scope_is (definitions_of c.args.defs.now) c.args.decls.now c.args.types.now c.in_ok-number_of.field-0 (globals_of c.in_ok-global_names.field-0.list)
    (map field_of c.in_ok-variables_of.field-0) (map field_of c.new.result) c.requires c.in_ok-number_of.ensures c.in_ok-global_names.ensures c.in_ok-variables_of.ensures
    (ap (map field_of) c.new.ensures)
