use Rattle.std.proofs.Common.{◌≢◌, length}
use Rattle.txs_outside.specs.Calls.{IsTold}
use Rattle.txs_outside.specs.declared.sut.Told.TheVariants.{Quiet, Failed}
use Rattle.txs_adapters.proofs.tcp_sut.look.Given as goal

-- no bytes were found so far, but perhaps an end that ended
abbrev pub invariant-ends : goal.invariant-ends
invariant-ends g l = record { told : IsTold (length l.ends) l.ended l.buf; polls : l.ended ≢ Quiet; sure : l.ended ≢ Failed }
