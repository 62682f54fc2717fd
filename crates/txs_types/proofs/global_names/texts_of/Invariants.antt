use Rattle.std.proofs.Common.{◌≡◌, ◌++◌, drop, map}
use Rattle.txs_typing.specs.inner.View.{globals_of}
use Rattle.txs_types.proofs.global_names.texts_of.Given as goal

-- the names so far, with those that are left
abbrev pub invariant-loop-global : goal.invariant-loop-global
invariant-loop-global l = l.texts ++ map (λ g. g.name) (globals_of (drop l.global-index l.globals)) ≡ map (λ g. g.name) (globals_of l.globals)
