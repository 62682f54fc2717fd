use Rattle.std.proofs.Common.{◌≡◌, ◌-◌, length}
use Rattle.txs_outside.specs.Script.{upcoming, rest_at}
use Rattle.txs_outside.proofs.playing.settled.Given as goal

-- nothing that counts was passed over so far
abbrev pub invariant-loop-place : goal.invariant-loop-place
invariant-loop-place l = upcoming l.ends (rest_at l.script l.place) ≡ upcoming l.ends (rest_at l.script l.fn.from)

abbrev pub decreases-loop-place : goal.decreases-loop-place
decreases-loop-place l = length l.script - l.place.entry
