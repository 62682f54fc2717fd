use Rattle.std.proofs.Common.{◌∙◌, ap, sym}
use Rattle.std.specs.Prelude.{option_map}
use Rattle.txs_typing.specs.inner.View.{scope_of, typed_of}
use Rattle.txs_typing.specs.Answer.{want_of}
use Rattle.txs_typing.proofs.judging.Finish.{judges_name, judges_no_name}
use Rattle.txs_typing.proofs.leaf.named.Goals as goal

pub returns-in-Ok-Some : goal.returns-in-Ok-Some
returns-in-Ok-Some c =
    judges_name c.args.at (scope_of c.args.scope.now) (want_of c.args.want) c.args.name.now c.in-Ok-Some.typed c.fitted.result
    (ap (λ t. option_map typed_of t) (sym c.in-Ok-Some.field-0-is) ∙ c.in-Ok-Some.ensures) c.fitted.ensures

pub returns-in-Ok-None : goal.returns-in-Ok-None
returns-in-Ok-None c =
    judges_no_name c.args.at (scope_of c.args.scope.now) (want_of c.args.want) c.args.name.now
    (ap (λ t. option_map typed_of t) (sym c.in-Ok-None.field-0-is) ∙ c.in-Ok-None.ensures)
