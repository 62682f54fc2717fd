-- What digits and names are made of, and what parsing gives of digits.
use Rattle.std.proofs.Common.{◌≡◌, ℕ, ℤ, pos, ◌<◌, ◌^◌, true, cond, nat_lt, List, length, Option, Some, None, Result, Ok, Err, sym, ◌∙◌, ap, arith}
use Rattle.std.proofs.lemmas.Bool.Decides.{nat_tests}
use Rattle.std.proofs.lemmas.Str.Parse.{IsNumeralModel, numerals_by_value, tells_digits, parse_signed_digits}
use Rattle.std.specs.Char.{digit_value}
use Rattle.std.specs.Int.{w128}
use Rattle.std.specs.Result.{OkIff}
use Rattle.std.specs.Str.Parse.{AllDigits, digits_value, ParsesSigned}
use Rattle.txs_values.specs.Spelling.{is_digit, is_letter, is_name_byte}
use Rattle.txs_values.proofs.Tests.{yes, no, lt-true, true-lt, if-not}

-- ---- ASCII

pub letter-ascii : (b : ℕ) → is_letter b ≡ true → b < 128
letter-ascii b h = grind (arith, nat_tests)

pub name_byte-ascii : (b : ℕ) → is_name_byte b ≡ true → b < 128
name_byte-ascii b h = grind (arith, nat_tests)

pub digit-ascii : (b : ℕ) → is_digit b ≡ true → b < 128
digit-ascii b h = grind (arith, nat_tests)

pub digit-value : (b : ℕ) → is_digit b ≡ true → digit_value b < 10
digit-value b h = grind (arith, nat_tests)

-- ---- parsing

pub numerals : IsNumeralModel (AllDigits 10) (digits_value 10)
numerals = numerals_by_value (AllDigits 10) tells_digits

-- the number of digits, if it is one of Int
abbrev pub ranged : List ℕ → Option ℤ
ranged w = cond (nat_lt (digits_value 10 w) (2 ^ 127)) (Some (pos (digits_value 10 w))) None

-- what a result of parsing is as an option
abbrev pub parsed : {E A : Type 0} → Result A E → Option A
parsed (Ok x) = Some x
parsed (Err e) = None

signed-parsed : {E : Type 0} (w : List ℕ) (r : Result ℤ E) → 0 < length w → OkIff r ((0 < length w) × (digits_value 10 w < 2 ^ 127)) (pos (digits_value 10 w)) → parsed r ≡ ranged w
signed-parsed w (Ok n) d h = ap Some h.1 ∙ sym (yes (nat_lt (digits_value 10 w) (2 ^ 127)) (Some (pos (digits_value 10 w))) None (lt-true (digits_value 10 w) (2 ^ 127) h.0.1))
signed-parsed w (Err e) d h = sym (no (nat_lt (digits_value 10 w) (2 ^ 127)) (Some (pos (digits_value 10 w))) None (if-not (nat_lt (digits_value 10 w) (2 ^ 127)) (λ k. h (d, true-lt (digits_value 10 w) (2 ^ 127) k))))

-- digits parse to their number, if it is one of Int
pub parse-digits : {E : Type 0} (w : List ℕ) (r : Result ℤ E) → 0 < length w → AllDigits 10 w → ParsesSigned w128 10 w r → parsed r ≡ ranged w
parse-digits w r some d h = signed-parsed w r some (parse_signed_digits numerals w128 w r h d)
