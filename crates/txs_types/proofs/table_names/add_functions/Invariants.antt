use Rattle.std.proofs.Common.{◌≡◌, ◌++◌, map, drop}
use Rattle.txs_terms.specs.View.{function_of}
use Rattle.txs_typing.specs.Names.{function_globals}
use Rattle.txs_typing.specs.inner.View.{globals_of}
use Rattle.txs_types.proofs.table_names.add_functions.Given as goal

abbrev pub invariant-loop-place : goal.invariant-loop-place
invariant-loop-place l =
    globals_of l.list ++ function_globals l.place (map function_of (drop l.place l.functions))
    ≡ globals_of l.initial.list ++ function_globals 0 (map function_of l.functions)
