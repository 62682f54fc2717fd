use Rattle.std.proofs.Common.{◌≡◌, vec_len}
use Rattle.txs_adapters.proofs.tcp_sut.accepted.Given as goal

-- one for each end so far
abbrev pub invariant-loop-listener : goal.invariant-loop-listener
invariant-loop-listener g l = vec_len l.streams ≡ l.listener-index
