use Rattle.std.proofs.Common.{◌≡◌, vec_len}
use Rattle.txs_adapters.proofs.tcp_sut.bound.Given as goal

-- one for each end so far
abbrev pub invariant-loop-end : goal.invariant-loop-end
invariant-loop-end g l = vec_len l.listeners ≡ l.end-index
