use Rattle.std.proofs.Common.{◌≡◌, List, ℕ, Option, length}
use Rattle.txs_outside.specs.Known.{Grows}
use Rattle.txs_drive.specs.Cut.{Torn}
use Rattle.txs_drive.proofs.driver.say.Given as goal

-- whatever takes the rest takes the text, and whatever takes a beginning of the rest takes one of the text
abbrev pub invariant-loop-rest : goal.invariant-loop-rest
invariant-loop-rest g l = record {
  told : (k : Option (List ℕ)) → Grows (g.K.Sink.taken l.sink) k l.rest → Grows (g.K.Sink.taken l.fn.sink) k l.text;
  torn : (k : Option (List ℕ)) → Torn (g.K.Sink.taken l.sink) k l.rest → Torn (g.K.Sink.taken l.fn.sink) k l.text;
  calm : g.K.Sink.faults l.sink ≡ g.K.Sink.faults l.fn.sink;
}

abbrev pub decreases-loop-rest : goal.decreases-loop-rest
decreases-loop-rest g l = length l.rest
