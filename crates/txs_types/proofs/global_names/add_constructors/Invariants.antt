use Rattle.std.proofs.Common.{◌≡◌, ◌++◌, drop}
use Rattle.txs_values.specs.TableView.{conses_of}
use Rattle.txs_typing.specs.Names.{constructor_globals}
use Rattle.txs_typing.specs.inner.View.{globals_of}
use Rattle.txs_types.proofs.global_names.add_constructors.Given as goal

abbrev pub invariant-loop-cons : goal.invariant-loop-cons
invariant-loop-cons l =
    globals_of l.list ++ constructor_globals l.of l.place (conses_of (drop l.cons-index l.constructors))
    ≡ globals_of l.initial.list ++ constructor_globals l.of l.first (conses_of l.constructors)
