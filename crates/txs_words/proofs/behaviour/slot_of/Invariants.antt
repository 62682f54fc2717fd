use Rattle.std.proofs.Common.{◌≡◌, drop}
use Rattle.txs_words.specs.Form.{slot_of, slot_from}
use Rattle.txs_words.proofs.behaviour.slot_of.Given as goal

abbrev pub invariant-loop-binder : goal.invariant-loop-binder
invariant-loop-binder l = record {
  index : l.slot ≡ l.binder-index;
  found : slot_from l.slot (drop l.binder-index l.bound) l.name l.found ≡ slot_of l.bound l.name;
}
