use Rattle.txs_types.proofs.files.Parts.{outside_found}
use Rattle.txs_types.proofs.file.fault_outside_bodies.Goals as goal

pub returns : goal.returns
returns c =
    outside_found c.args.file.now c.args.types.now c.as_slice.result.now c.in_ok-table.table c.in_ok-in_names.in_names c.in_ok-in_defaults.in_defaults c.least.result
    c.requires c.as_slice.ensures c.in_ok-table.ensures c.in_ok-in_names.ensures c.in_ok-in_defaults.ensures c.least.ensures
