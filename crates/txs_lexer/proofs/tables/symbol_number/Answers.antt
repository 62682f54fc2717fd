use Rattle.std.proofs.Common.{◌≡◌, ◌∙◌, ap, sym, true, nat_le, ℕ, List, length, take, arith, None, bytes_eq}
use Rattle.std.specs.List.{position}
use Rattle.txs_lexer.specs.Scan.{place_of}
use Rattle.txs_lexer.specs.Words.{symbols}
use Rattle.txs_lexer.proofs.Places.{place-from}
use Rattle.txs_values.proofs.Tests.{yes, le-true}
use Rattle.txs_lexer.proofs.tables.symbol_number.Goals as goal

pub returns-clause-number : goal.returns-clause-number
returns-clause-number c =
    let long : nat_le c.args.len (length c.args.text.now) ≡ true = le-true c.args.len (length c.args.text.now) (omega arith) in
    let found : c.place.result ≡ position (λ (text : List ℕ). bytes_eq text c.first.result.now) symbols = c.place.ensures.place in
    found ∙ (place-from symbols c.first.result.now ∙ (ap (place_of symbols) c.first.ensures ∙ sym (yes (nat_le c.args.len (length c.args.text.now)) (place_of symbols (take c.args.len c.args.text.now)) None long)))
