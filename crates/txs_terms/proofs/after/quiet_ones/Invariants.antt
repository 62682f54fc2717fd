use Rattle.std.proofs.Common.{◌≡◌, ◌++◌, drop}
use Rattle.txs_terms.specs.Moves.{quiet_ones}
use Rattle.txs_terms.specs.View.{terms_of}
use Rattle.txs_terms.proofs.after.quiet_ones.Given as goal

-- what was kept and the quiet ones of the rest
abbrev pub invariant-loop-term : goal.invariant-loop-term
invariant-loop-term l =
    terms_of l.found ++ quiet_ones l.channel (terms_of (drop l.term-index l.set)) ≡ quiet_ones l.channel (terms_of l.set)
