use Rattle.std.proofs.Common.{ap, ◌∙◌, cond, bytes_eq, true, string_bytes}
use Rattle.std.specs.BTreeSet.{contains_text}
use Rattle.std.proofs.lemmas.Map.Text.{btree_set_updates_text}
use Rattle.txs_types.proofs.names.add_text.Goals as goal

pub returns : goal.returns
returns c = λ x.
    btree_set_updates_text (string_bytes c.in_ok-from_str.field-0) c.args.seen.now c.insert.new.self true c.in_ok-insert.ensures.updates x
    ∙ ap (λ bs. cond (bytes_eq bs x) true (contains_text c.args.seen.now x)) (c.in_ok-from_str.ensures.ok ∙ c.as_str.ensures)
