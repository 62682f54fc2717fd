use Rattle.std.proofs.Common.{◌≡◌, ◌+◌, drop, List, ℕ, slice_get}
use Rattle.txs_values.specs.Spelling.{made_from}
use Rattle.txs_values.specs.TableView.{table_of, first_of, constructor_count}
use Rattle.txs_values.proofs.table.TypeTable.constructors.Given as goal

abbrev pub invariant-loop-def : goal.invariant-loop-def
invariant-loop-def l = record {
  index : l.left + l.def-index ≡ l.fn.ty;
  count : l.first + constructor_count (table_of (drop l.def-index l.def-items)) ≡ constructor_count l.fn.self;
  first : l.first + first_of (table_of (drop l.def-index l.def-items)) l.left ≡ first_of l.fn.self l.fn.ty;
  get : slice_get (table_of (drop l.def-index l.def-items)) l.left ≡ slice_get l.fn.self l.fn.ty;
  made : (name : List ℕ) → made_from l.first (table_of (drop l.def-index l.def-items)) l.left name ≡ made_from 0 l.fn.self l.fn.ty name;
}
