use Rattle.std.proofs.Common.{ℕ, List, sym, ◌∙◌, subst}
use Rattle.std.specs.Str.{IsUtf8}
use Rattle.txs_values.proofs.ReadSteps.{text-ok, text-broken}
use Rattle.txs_values.proofs.reading.text.Goals as goal

pub returns-in-Ok : goal.returns-in-Ok
returns-in-Ok c =
    text-ok c.args.bytes.now c.in_ok-rest.rest.now c.in_ok-written.written c.in_ok-from_str-in-Ok.field-0 c.in_ok-written.end.now c.in_ok-rest.ensures c.in_ok-written.ensures
    (subst (λ (l : List ℕ). IsUtf8 l) c.as_slice.ensures c.in-Ok.ensures.cases.1) (c.in_ok-from_str-in-Ok.ensures ∙ (c.in-Ok.ensures.cases.0 ∙ c.as_slice.ensures))

pub returns : goal.returns
returns c =
    text-broken c.args.bytes.now c.in_ok-rest.rest.now c.in_ok-written.written c.in_ok-written.end.now c.in_ok-rest.ensures c.in_ok-written.ensures
    (λ h. c.in-Err.ensures.cases.0 (subst (λ (l : List ℕ). IsUtf8 l) (sym c.as_slice.ensures) h))
