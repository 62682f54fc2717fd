use Rattle.txs_types.proofs.files.Parts.{names_found}
use Rattle.txs_types.proofs.file.fault_in_names.Goals as goal

pub returns : goal.returns
returns c =
    names_found c.args.file.now c.args.types.now c.as_slice-defs.result.now c.in_ok-of_type.of_type c.in_ok-of_name.of_name c.in_ok-of_parameter.of_parameter c.unknown_type-unknown.result
    c.least-twice.result c.least-other.result c.least.result c.requires c.as_slice-defs.ensures c.in_ok-of_type.ensures c.in_ok-of_name.ensures c.in_ok-of_parameter.ensures
    c.unknown_type-unknown.ensures c.least-twice.ensures c.least-other.ensures c.least.ensures
