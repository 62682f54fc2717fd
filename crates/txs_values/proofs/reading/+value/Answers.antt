use Rattle.std.proofs.Common.{◌∙◌, ◌-◌, ap, sym, map}
use Rattle.std.proofs.lemmas.Result.{err_from_is_err_and}
use Rattle.txs_values.proofs.ReadSteps.{enclosed, no-fields, stopped-after}
use Rattle.txs_values.specs.Reading.{ok, after, arguments_read, value_read}
use Rattle.txs_values.specs.TableView.{field_of}
use Rattle.txs_values.specs.Value.{cons, packed}
use Rattle.txs_values.specs.View.{values_of}
use Rattle.txs_values.proofs.reading.+value.Goals as goal

pub fields_behind-returns-in_err-values-in-len1-up : goal.fields_behind-returns-in_err-values-in-len1-up
fields_behind-returns-in_err-values-in-len1-up t c =
    let p = err_from_is_err_and c.from_residual-in_err-values-in-len1-up.result c.from_residual-in_err-values-in-len1-up.ensures.1 in
    let e = enclosed c.args.table.now c.args.left c.args.id c.args.fields.now c.args.bytes.now c.in_ok-rest-in-len1-up.rest.now c.in-len1-up.len_at_least c.if-left-eq0.false c.in_ok-rest-in-len1-up.ensures in
    rw (p.1, p.2, e)
    (stopped-after c.in_err-values-in-len1-up.field-0.0 (arguments_read (value_read c.args.table.now (c.args.left - 1)) (map field_of c.args.fields.now) c.in_ok-rest-in-len1-up.rest.now) (λ vs end. ok (cons c.args.id (packed vs)) end) c.in_err-values-in-len1-up.ensures)

pub fields_behind-returns-in_ok-made_of-in-empty : goal.fields_behind-returns-in_ok-made_of-in-empty
fields_behind-returns-in_ok-made_of-in-empty t c = no-fields c.args.table.now c.args.left c.args.id c.args.fields.now c.args.bytes.now c.in-empty.len_below
    ∙ ap (λ v. ok v c.args.bytes.now) (sym (c.in_ok-made_of-in-empty.ensures ∙ ap (λ l. cons c.args.id (packed (values_of l))) c.new.ensures))

pub fields_behind-returns-in_ok-made_of-in-len1-up : goal.fields_behind-returns-in_ok-made_of-in-len1-up
fields_behind-returns-in_ok-made_of-in-len1-up t c =
    enclosed c.args.table.now c.args.left c.args.id c.args.fields.now c.args.bytes.now c.in_ok-rest-in-len1-up.rest.now c.in-len1-up.len_at_least c.if-left-eq0.false c.in_ok-rest-in-len1-up.ensures
    ∙ ap (λ o. after o (λ vs end. ok (cons c.args.id (packed vs)) end)) c.in_ok-values-in-len1-up.ensures
    ∙ ap (λ v. ok v c.in_ok-values-in-len1-up.end.now) (sym c.in_ok-made_of-in-len1-up.ensures)
