use Rattle.std.proofs.Common.{subst, sym}
use Rattle.std.specs.Prelude.{IfOk}
use Rattle.txs_syntax.specs.declared.file.Def.{Def}
use Rattle.txs_typing.specs.inner.Told.{Finds}
use Rattle.txs_types.specs.inner.Among.{TwiceIn}
use Rattle.txs_types.proofs.offences.twice_in.Goals as goal

pub returns-in-FuncDef : goal.returns-in-FuncDef
returns-in-FuncDef c = subst (λ (d : Def). IfOk c.twice_among.result (λ f. Finds f (TwiceIn d))) (sym c.in-FuncDef.is) c.twice_among.ensures
