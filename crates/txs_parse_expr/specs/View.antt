-- What a result of the program says of an outcome.
use Rattle.std.specs.Prelude.{◌≡◌, ℕ, drop, Result, Ok, Err, Option, Some, None}
use Rattle.txs_syntax.specs.declared.ast.Op.{Op}
use Rattle.txs_parse_expr.specs.declared.fault.Stop.{Stop}
use Rattle.txs_parse_expr.specs.declared.fault.Stop.TheVariants.{Unexpected, Deep, NoMemory}
use Rattle.txs_parse_expr.specs.declared.fault.ParseFault.{ParseFault}
use Rattle.txs_parse_expr.specs.declared.fault.ParseFault.TheVariants as parse
use Rattle.txs_parse_expr.specs.Answer.{offset}
use Rattle.txs_parse_expr.specs.declared.sign.Strength.{Strength}
use Rattle.txs_parse_expr.specs.declared.sign.Strength.TheVariants as strength
use Rattle.txs_syntax.specs.Grammar.{Tokens, Signs, or_signs, and_signs, compare_signs, join_signs, sum_signs, product_signs}
use Rattle.txs_parse_expr.specs.Reader.{Outcome, ok, bad, deep, on_sign}

abbrev pub Stopped : {A : Type 0} → Tokens → Stop → Outcome A → Type 0
Stopped ts (Unexpected k) o = o ≡ bad (drop k ts)
Stopped ts (Deep k) o = o ≡ deep (drop k ts)
Stopped ts NoMemory o = Unit {0}

-- the outcome, over the numbers of the tokens
abbrev pub Says : {A : Type 0} → Tokens → Result (A × ℕ) Stop → Outcome A → Type 0
Says ts (Ok p) o = o ≡ ok p.0 (drop p.1 ts)
Says ts (Err e) o = Stopped ts e o

-- the operator that stands first, if one of these does
abbrev pub first_sign : Signs → Tokens → Option Op
first_sign signs ts = on_sign signs ts (λ o _. Some o) None

-- the signs of each kind
abbrev pub table : Strength → Signs
table strength.Or = or_signs
table strength.And = and_signs
table strength.Compare = compare_signs
table strength.Join = join_signs
table strength.Sum = sum_signs
table strength.Product = product_signs

-- the fault, in a text of so many bytes
abbrev pub fault : ℕ → Tokens → Stop → ParseFault
fault len ts (Unexpected k) = parse.Unexpected (offset len (drop k ts))
fault len ts (Deep k) = parse.Deep (offset len (drop k ts))
fault len ts NoMemory = parse.NoMemory
