use Rattle.std.proofs.Common.{◌≡◌, ◌∙◌, ℕ, List, bytes_eq}
use Rattle.std.specs.List.{position}
use Rattle.txs_lexer.specs.Words.{words}
use Rattle.txs_lexer.proofs.Places.{place-from}
use Rattle.txs_lexer.proofs.tables.word_number.Goals as goal

pub returns-clause-number : goal.returns-clause-number
returns-clause-number c =
    let found : c.place.result ≡ position (λ (text : List ℕ). bytes_eq text c.args.name.now) words = c.place.ensures.place in
    found ∙ place-from words c.args.name.now
