-- Names and numerals are ASCII, and what parsing gives of numerals.
use Rattle.std.proofs.Common.{◌≡◌, ℕ, ℤ, ◌<◌, List, [], ◌∷◌, length, Result, arith}
use Rattle.std.proofs.lemmas.Str.{IsUtf8-from_ascii}
use Rattle.std.proofs.lemmas.Str.Ascii.{IsAscii-nil, IsAscii-cons}
use Rattle.std.specs.Int.{w128}
use Rattle.std.specs.Str.{IsAscii, IsUtf8}
use Rattle.std.specs.Str.Parse.{AllDigits, ParsesSigned}
use Rattle.txs_values.specs.Spelling.{is_digit, is_name_byte}
use Rattle.txs_lexer.specs.Tokens.{AreAll, IsNumeral}
use Rattle.txs_values.proofs.Digits.{name_byte-ascii, digit-ascii, digit-value, ranged, parsed, parse-digits}

name_bytes-ascii : (bs : List ℕ) → AreAll is_name_byte bs → IsAscii bs
name_bytes-ascii [] h = IsAscii-nil
name_bytes-ascii (b ∷ bs) h = IsAscii-cons b bs (name_byte-ascii b h.0) (name_bytes-ascii bs h.1)

digits-ascii : (bs : List ℕ) → AreAll is_digit bs → IsAscii bs
digits-ascii [] h = IsAscii-nil
digits-ascii (b ∷ bs) h = IsAscii-cons b bs (digit-ascii b h.0) (digits-ascii bs h.1)

pub name_bytes-utf8 : (bs : List ℕ) → AreAll is_name_byte bs → IsUtf8 bs
name_bytes-utf8 bs h = IsUtf8-from_ascii bs (name_bytes-ascii bs h)

pub numeral-all : (bs : List ℕ) → IsNumeral bs → AreAll is_digit bs
numeral-all [] h = absurd h
numeral-all (b ∷ bs) h = h

pub numeral-utf8 : (bs : List ℕ) → IsNumeral bs → IsUtf8 bs
numeral-utf8 bs h = IsUtf8-from_ascii bs (digits-ascii bs (numeral-all bs h))

-- ---- parsing

digits-all : (bs : List ℕ) → AreAll is_digit bs → AllDigits 10 bs
digits-all [] h = tt
digits-all (b ∷ bs) h = (digit-value b h.0, digits-all bs h.1)

numeral-some : (bs : List ℕ) → IsNumeral bs → 0 < length bs
numeral-some [] h = absurd h
numeral-some (b ∷ bs) h = omega arith

pub parse-number : {E : Type 0} (w : List ℕ) (r : Result ℤ E) → IsNumeral w → ParsesSigned w128 10 w r → parsed r ≡ ranged w
parse-number w r d h = parse-digits w r (numeral-some w d) (digits-all w (numeral-all w d)) h
