use Rattle.std.proofs.Common.{◌≡◌, drop}
use Rattle.txs_typing.specs.Names.{global_of}
use Rattle.txs_typing.specs.inner.View.{globals_of}
use Rattle.txs_typing.proofs.meaning.GlobalNames.find.Given as goal

-- those before it have other names
abbrev pub invariant-loop-global : goal.invariant-loop-global
invariant-loop-global l = global_of l.name (globals_of l.self.list) ≡ global_of l.name (globals_of (drop l.global-index l.global-items))
