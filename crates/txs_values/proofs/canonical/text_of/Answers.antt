use Rattle.std.proofs.Common.{◌≡◌, ◌∙◌, ◌++◌, ap, sym, subst, List, ℕ}
use Rattle.txs_values.proofs.spellings.Written.{text-spelling}
use Rattle.txs_values.specs.Spelled.{IsSpelling}
use Rattle.txs_values.specs.Text.{text_of}
use Rattle.txs_values.specs.View.{value_of}
use Rattle.txs_values.proofs.canonical.text_of.Goals as goal

pub returns-clause-spelling : goal.returns-clause-spelling
returns-clause-spelling c ty h =
    let table = c.args.table.now in
    let value = value_of c.args.value.now in
    let same : c.in_ok-text.text ≡ text_of table value = c.in_ok-text.ensures ∙ (c.in_ok-write_value.ensures ∙ ap (λ (q : List ℕ). q ++ text_of table value) c.new-out.ensures.bytes) in
    subst (λ (q : List ℕ). IsSpelling table ty value q) (sym same) (text-spelling table ty value h)
