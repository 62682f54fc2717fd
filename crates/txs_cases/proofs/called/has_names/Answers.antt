use Rattle.std.proofs.Common.{sym, ap, ◌∙◌}
use Rattle.std.specs.List.{list_all}
use Rattle.txs_cases.specs.Called.{has_names}
use Rattle.txs_cases.proofs.Rows.{file_has_names}
use Rattle.txs_cases.proofs.called.has_names.Goals as goal

pub returns : goal.returns
returns c = λ h. file_has_names c.args.file.now (sym (c.have_names.ensures ∙ ap (list_all has_names) c.as_slice.ensures) ∙ h)
