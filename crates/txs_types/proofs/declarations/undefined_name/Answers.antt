use Rattle.std.proofs.Common.{sym, ◌∙◌}
use Rattle.txs_types.proofs.files.Offending.{is_told_undefined, is_told_defined}
use Rattle.txs_types.proofs.declarations.undefined_name.Goals as goal

pub returns-then-is_undefined-clause-finds : goal.returns-then-is_undefined-clause-finds
returns-then-is_undefined-clause-finds c = is_told_undefined c.args.types.now c.args.name.now (sym c.is_undefined.ensures ∙ c.if-is_undefined.true)

pub returns-else-is_undefined-clause-finds : goal.returns-else-is_undefined-clause-finds
returns-else-is_undefined-clause-finds c = is_told_defined c.args.types.now c.args.name.now (sym c.is_undefined.ensures ∙ c.if-is_undefined.false)
