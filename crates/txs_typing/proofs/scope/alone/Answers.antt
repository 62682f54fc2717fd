use Rattle.std.proofs.Common.{◌∙◌, ap, sym, map}
use Rattle.txs_values.specs.View.{ty_of}
use Rattle.txs_typing.specs.Names as names
use Rattle.txs_typing.specs.inner.View.{meaning_of}
use Rattle.txs_typing.proofs.Lookups.{alone_with_fields}
use Rattle.txs_typing.proofs.scope.alone.Goals as goal

pub returns-else-is_empty : goal.returns-else-is_empty
returns-else-is_empty c =
    alone_with_fields c.in-Constructor.number c.in-Constructor.of c.args.global.now.takes c.if-is_empty.ensures.1
    ∙ ap (λ m. names.alone (meaning_of m (map ty_of c.args.global.now.takes))) (sym c.in-Constructor.is)
