use Rattle.std.proofs.Common.{◌≡◌, ◌||◌, ℕ, List, drop}
use Rattle.std.specs.BTreeSet.{contains_text}
use Rattle.txs_types.specs.Files.{is_among}
use Rattle.txs_types.proofs.names.set_of.Given as goal

-- in the set, or to come
abbrev pub invariant-loop-text : goal.invariant-loop-text
invariant-loop-text l = (x : List ℕ) → (contains_text l.seen x || is_among x (drop l.text-index l.texts)) ≡ is_among x l.texts
