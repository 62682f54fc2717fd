use Rattle.std.proofs.Common.{◌≡◌, ◌++◌, drop}
use Rattle.txs_types.specs.Files.{names_in}
use Rattle.txs_types.proofs.declarations.names_in.Given as goal

abbrev pub invariant-loop-decl : goal.invariant-loop-decl
invariant-loop-decl l =
    l.names ++ names_in (drop l.decl-index l.list.decls) ≡ names_in l.list.decls
