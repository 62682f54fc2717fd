use Rattle.std.proofs.Common.{◌∙◌}
use Rattle.txs_values.proofs.Rounds.{built-ok, extent-default, extent-none}
use Rattle.txs_values.specs.Default.{default_if}
use Rattle.txs_values.specs.View.{ty_of}
use Rattle.txs_values.proofs.default.default_of.Goals as goal

pub unreachable-requires : goal.unreachable-requires
unreachable-requires c =
    c.requires (extent-none (default_if c.args.table.now (ty_of c.args.ty)) c.extent_chosen.result c.in-None.is
    (extent-default c.as_slice.result.now c.args.table.now c.as_slice-2.result.now (ty_of c.args.ty) c.extent_chosen.result c.as_slice.ensures.defs (c.as_slice-2.ensures ∙ c.in_ok-found.ensures) c.extent_chosen.ensures))

pub returns : goal.returns
returns c = built-ok c.as_slice.result.now c.args.table.now c.as_slice-in-Some.result.now (ty_of c.args.ty) 1000 c.build.result c.as_slice.ensures.defs (c.as_slice-in-Some.ensures ∙ c.in_ok-found.ensures) c.build.ensures
