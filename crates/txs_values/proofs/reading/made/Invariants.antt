use Rattle.std.proofs.Common.{◌≡◌, ◌≤◌, ◌+◌, ◌-◌, length, drop}
use Rattle.txs_values.specs.declared.reading.Kind.TheVariants.{Wrong}
use Rattle.txs_values.specs.Reading.{made_read, made_among, either, stop}
use Rattle.txs_values.specs.TableView.{conses_of, constructor_limit}
use Rattle.txs_values.proofs.reading.made.Given as goal

-- what is left to be tried, where the place is the furthest so far
abbrev pub invariant-loop-constructor : goal.invariant-loop-constructor
invariant-loop-constructor l = record {
  tried : made_read 0 l.fn.table l.fn.ty l.fn.bytes ≡ either (stop Wrong l.left) (made_among l.id (conses_of (drop l.constructor-index l.constructors)) l.fn.bytes);
  within : l.left ≤ length l.fn.bytes;
  numbers : l.id + (length l.constructors - l.constructor-index) ≤ constructor_limit;
}
