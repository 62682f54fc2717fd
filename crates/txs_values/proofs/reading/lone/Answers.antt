use Rattle.std.proofs.Common.{◌∙◌, ℕ, List, rules}
use Rattle.std.proofs.lemmas.Result.{err_from_is_err_and}
use Rattle.txs_values.proofs.ReadSteps.{lone-stopped, lone-ended, ended-wrong, ended-ok, none-left}
use Rattle.txs_values.specs.View.{value_of, ty_of}
use Rattle.txs_values.proofs.reading.lone.Goals as goal

pub returns-in_err-value : goal.returns-in_err-value
returns-in_err-value c =
    let p = err_from_is_err_and c.from_residual.result c.from_residual.ensures.1 in
    rw (p.1, p.2) (lone-stopped c.args.table.now (ty_of c.args.ty) c.args.bytes.now c.in_err-value.field-0.0 c.in_err-value.ensures)

pub returns-then-not-is_empty : goal.returns-then-not-is_empty
returns-then-not-is_empty c =
    let left : List ℕ = c.skip_blanks-rest.result.now in
    lone-ended c.args.table.now (ty_of c.args.ty) c.args.bytes.now (value_of c.in_ok-value.value) c.in_ok-value.behind.now left c.in_ok-value.ensures c.skip_blanks-rest.ensures
    ∙ ended-wrong (value_of c.in_ok-value.value) left (search rules)

pub returns : goal.returns
returns c =
    let left : List ℕ = c.skip_blanks-rest.result.now in
    lone-ended c.args.table.now (ty_of c.args.ty) c.args.bytes.now (value_of c.in_ok-value.value) c.in_ok-value.behind.now left c.in_ok-value.ensures c.skip_blanks-rest.ensures
    ∙ ended-ok (value_of c.in_ok-value.value) left (none-left left (search rules))
