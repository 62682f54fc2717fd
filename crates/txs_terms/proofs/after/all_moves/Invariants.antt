use Rattle.std.proofs.Common.{◌≡◌, ◌++◌, drop}
use Rattle.txs_terms.specs.Moves.{all_moves}
use Rattle.txs_terms.specs.View.{action_of, terms_of}
use Rattle.txs_terms.proofs.after.all_moves.Given as goal

-- what was found and what the rest leads to
abbrev pub invariant-loop-term : goal.invariant-loop-term
invariant-loop-term l =
    terms_of l.found ++ all_moves (terms_of (drop l.term-index l.set)) (action_of l.action)
    ≡ all_moves (terms_of l.set) (action_of l.action)
