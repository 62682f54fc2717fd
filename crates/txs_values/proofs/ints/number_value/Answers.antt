use Rattle.std.proofs.Common.{FitsSigned, sym, subst}
use Rattle.std.proofs.lemmas.Int.{to_z-of_z}
use Rattle.std.proofs.lemmas.Str.{IsUtf8-from_ascii}
use Rattle.std.specs.Int.{w128}
use Rattle.std.specs.Str.Parse.{signed_digits_value}
use Rattle.txs_values.proofs.Numbers.{number_ascii, parsed-ok, parsed-err}
use Rattle.txs_values.specs.declared.ints.ReadIntFault.TheVariants.{Range}
use Rattle.txs_values.proofs.ints.number_value.Goals as goal

pub unreachable-requires : goal.unreachable-requires
unreachable-requires c = c.in-Err.ensures.cases.0 (IsUtf8-from_ascii c.args.number.now (number_ascii c.args.number.now c.requires))

pub returns-in-Ok-parse : goal.returns-in-Ok-parse
returns-in-Ok-parse c =
    let parsed = rw c.in-Ok.ensures.cases.0 at c.in-Ok-parse.ensures.value.0 in
    let fit : FitsSigned w128 c.in-Ok-parse.n = subst (FitsSigned w128) (sym parsed.1) parsed.0.1 in
    rw (to_z-of_z w128 c.in-Ok-parse.n fit) (parsed-ok Range (signed_digits_value 10 c.args.number.now) c.in-Ok-parse.n parsed.0.1 parsed.1)

pub returns-in-Err-parse : goal.returns-in-Err-parse
returns-in-Err-parse c =
    let parsed = rw c.in-Ok.ensures.cases.0 at c.in-Err-parse.ensures.value.0 in
    parsed-err Range (signed_digits_value 10 c.args.number.now) (λ fit. parsed (c.requires.1, fit))
