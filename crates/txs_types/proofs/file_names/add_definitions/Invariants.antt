use Rattle.std.proofs.Common.{◌≡◌, ◌++◌, drop}
use Rattle.txs_types.specs.Files.{globals_in}
use Rattle.txs_typing.specs.inner.View.{globals_of}
use Rattle.txs_types.specs.inner.Counted.{globals_from}
use Rattle.txs_types.proofs.file_names.add_definitions.Given as goal

-- the names so far, with those that are left
abbrev pub invariant-loop-def : goal.invariant-loop-def
invariant-loop-def l =
    globals_of l.list ++ globals_from l.types l.counts (drop l.def-index l.defs)
    ≡ globals_of l.initial.list ++ globals_in l.types 0 0 0 0 l.defs
