use Rattle.std.proofs.Common.{◌∙◌}
use Rattle.txs_values.proofs.Rounds.{extents-ok}
use Rattle.txs_values.proofs.default.default_extents.Goals as goal

pub returns : goal.returns
returns c = extents-ok c.as_slice.result.now c.args.table.now c.as_slice-2.result.now c.extents_in.result c.as_slice.ensures.defs (c.as_slice-2.ensures ∙ c.in_ok-found.ensures) c.extents_in.ensures
