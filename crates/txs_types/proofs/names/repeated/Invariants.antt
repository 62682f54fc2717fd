use Rattle.std.proofs.Common.{◌≡◌, ℕ, List, take}
use Rattle.std.specs.BTreeSet.{contains_text}
use Rattle.txs_types.specs.Files.{is_among}
use Rattle.txs_typing.specs.inner.Told.{Finds}
use Rattle.txs_types.specs.inner.Among.{IsTwice}
use Rattle.txs_types.proofs.naming.Loops.{seen}
use Rattle.txs_types.proofs.names.repeated.Given as goal

abbrev pub invariant-loop-name : goal.invariant-loop-name
invariant-loop-name l = record {
  told : Finds l.fault (IsTwice l.before (take l.name-index l.names));
  seen : (x : List ℕ) → contains_text l.seen x ≡ is_among x (seen l.before (take l.name-index l.names));
}
