use Rattle.std.proofs.Common.{◌≡◌, drop, map}
use Rattle.txs_values.specs.Choices.{fields_extent}
use Rattle.txs_values.specs.TableView.{field_of}
use Rattle.txs_values.proofs.default.fields_extent.Given as goal

-- the fields so far, with those that are left
abbrev pub invariant-loop-field : goal.invariant-loop-field
invariant-loop-field l = fields_extent l.found l.size l.height (map field_of (drop l.field-index l.fields)) ≡ fields_extent l.found 1 0 (map field_of l.fields)
