use Rattle.std.proofs.Common.{◌≡◌, ◌++◌, map, drop}
use Rattle.txs_values.specs.TableView.{field_of}
use Rattle.txs_types.specs.Files.{variables_in}
use Rattle.txs_types.proofs.declarations.variables_of.Given as goal

abbrev pub invariant-loop-decl : goal.invariant-loop-decl
invariant-loop-decl l =
    map field_of l.variables ++ variables_in l.types (drop l.decl-index l.list.decls) ≡ variables_in l.types l.list.decls
