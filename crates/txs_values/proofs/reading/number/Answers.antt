use Rattle.std.proofs.Common.{◌≡◌, true, List, ℕ, sym, subst, rules}
use Rattle.txs_values.proofs.Numbers.{number_run-number}
use Rattle.txs_values.specs.Ints.{has_digit, IsNumber}
use Rattle.txs_values.proofs.reading.number.Goals as goal

pub number_value-requires : goal.number_value-requires
number_value-requires c =
    let e = c.split_number.ensures.number in
    let h : has_digit c.split_number.result.0.now ≡ true = search rules in
    subst (λ (q : List ℕ). IsNumber q) (sym e) (number_run-number c.args.bytes.now (subst (λ (q : List ℕ). has_digit q ≡ true) e h))
