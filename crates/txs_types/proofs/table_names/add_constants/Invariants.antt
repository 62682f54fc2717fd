use Rattle.std.proofs.Common.{◌≡◌, ◌++◌, map, drop}
use Rattle.txs_terms.specs.View.{constant_of}
use Rattle.txs_typing.specs.Names.{constant_globals}
use Rattle.txs_typing.specs.inner.View.{globals_of}
use Rattle.txs_types.proofs.table_names.add_constants.Given as goal

abbrev pub invariant-loop-place : goal.invariant-loop-place
invariant-loop-place l =
    globals_of l.list ++ constant_globals l.place (map constant_of (drop l.place l.constants))
    ≡ globals_of l.initial.list ++ constant_globals 0 (map constant_of l.constants)
