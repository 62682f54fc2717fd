use Rattle.std.proofs.Common.{rules, FitsSigned}
use Rattle.std.proofs.lemmas.Int.{to_z-of_z}
use Rattle.std.specs.Int.{w128}
use Rattle.txs_typing.specs.inner.View.{scope_of}
use Rattle.txs_typing.specs.Answer.{want_of}
use Rattle.txs_typing.proofs.judging.Finish.{judges_number}
use Rattle.txs_typing.proofs.judging.Exprs.{fits_true}
use Rattle.txs_typing.proofs.leaf.number.Goals as goal

pub returns : goal.returns
returns c = λ offset.
    let inside : FitsSigned w128 c.args.value = search rules in
    judges_number c.args.at offset (scope_of c.args.scope.now) (want_of c.args.want) c.args.value c.int.result c.fitted.result
    (simp to_z-of_z at c.int.ensures) (fits_true c.args.value inside) c.fitted.ensures
