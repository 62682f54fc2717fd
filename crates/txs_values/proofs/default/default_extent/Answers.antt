use Rattle.std.proofs.Common.{◌≡◌, ◌∙◌, option_map}
use Rattle.txs_values.proofs.Rounds.{extent-default, extent-some}
use Rattle.txs_values.specs.Choices.{extent_of}
use Rattle.txs_values.specs.Default.{default_if}
use Rattle.txs_values.specs.View.{ty_of}
use Rattle.txs_values.proofs.default.default_extent.Goals as goal

pub returns : goal.returns
returns c =
    let same : c.extent_chosen.result ≡ option_map extent_of (default_if c.args.table.now (ty_of c.args.ty)) =
    extent-default c.as_slice.result.now c.args.table.now c.as_slice-2.result.now (ty_of c.args.ty) c.extent_chosen.result c.as_slice.ensures.defs (c.as_slice-2.ensures ∙ c.in_ok-found.ensures) c.extent_chosen.ensures
    in
    record { extent = same; exists = extent-some (default_if c.args.table.now (ty_of c.args.ty)) c.extent_chosen.result same }
