use Rattle.std.proofs.Common.{◌≡◌, drop}
use Rattle.txs_values.specs.Value.{place_from, place_of}
use Rattle.txs_values.specs.TableView.{table_of}
use Rattle.txs_values.proofs.table.TypeTable.constructor_at.Given as goal

abbrev pub invariant-loop-def : goal.invariant-loop-def
invariant-loop-def l = record {
  index : l.ty ≡ l.def-index;
  rest : place_from l.ty (table_of (drop l.def-index l.def-items)) l.left ≡ place_of l.fn.self l.fn.id;
}
