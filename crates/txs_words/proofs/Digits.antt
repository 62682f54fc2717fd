-- What digits and names are made of, and what parsing gives of them.
use Rattle.std.proofs.Common.{◌≡◌, ℕ, ℤ, pos, ◌<◌, ◌^◌, Bool, true, false, cond, ◌&&◌, nat_lt, List, [], ◌∷◌, length, Option, Some, None, Result, Ok, Err, refl, sym, ◌∙◌, ap, arith}
use Rattle.std.proofs.lemmas.Str.{IsUtf8-from_ascii}
use Rattle.std.proofs.lemmas.Str.Ascii.{IsAscii-nil, IsAscii-cons}
use Rattle.std.proofs.lemmas.Str.Parse.{parse_digits, parse_signed_digits}
use Rattle.std.specs.Int.{w128}
use Rattle.std.specs.List.{list_all}
use Rattle.std.specs.Result.{OkIff}
use Rattle.std.specs.Str.{IsAscii, IsUtf8}
use Rattle.std.specs.Str.Parse.{AllDigits, IsNumeral, digits_value, ParsesUnsigned, ParsesSigned}
use Rattle.txs_values.specs.Spelling.{is_digit, is_letter, is_name_byte}
use Rattle.txs_words.specs.Form.{is_worded, is_name}
use Rattle.txs_words.specs.inner.Parsing.{are_digits, number_read, port_read, nonzero}
use Rattle.txs_values.proofs.Tests.{and-both, both-and, yes, no, if-not, lt-true, true-lt}
use Rattle.txs_values.proofs.Digits.{letter-ascii, name_byte-ascii, digit-ascii, digit-value, numerals, parsed}

-- ---- ASCII

name_bytes-ascii : (bs : List ℕ) → list_all is_name_byte bs ≡ true → IsAscii bs
name_bytes-ascii [] h = IsAscii-nil
name_bytes-ascii (b ∷ bs) h = let p = and-both (is_name_byte b) (list_all is_name_byte bs) h in IsAscii-cons b bs (name_byte-ascii b p.0) (name_bytes-ascii bs p.1)

all_digits-ascii : (bs : List ℕ) → list_all is_digit bs ≡ true → IsAscii bs
all_digits-ascii [] h = IsAscii-nil
all_digits-ascii (b ∷ bs) h = let p = and-both (is_digit b) (list_all is_digit bs) h in IsAscii-cons b bs (digit-ascii b p.0) (all_digits-ascii bs p.1)

worded-utf8 : (w : List ℕ) → is_worded w ≡ true → IsUtf8 w
worded-utf8 [] h = absurd (cc)
worded-utf8 (b ∷ bs) h = let p = and-both (is_letter b) (list_all is_name_byte bs) h in IsUtf8-from_ascii (b ∷ bs) (IsAscii-cons b bs (letter-ascii b p.0) (name_bytes-ascii bs p.1))

pub name-utf8 : (w : List ℕ) → is_name w ≡ true → IsUtf8 w
name-utf8 w h = worded-utf8 w (and-both (is_worded w) _ h).0

pub digits-utf8 : (w : List ℕ) → are_digits w ≡ true → IsUtf8 w
digits-utf8 [] h = absurd (cc)
digits-utf8 (b ∷ bs) h = IsUtf8-from_ascii (b ∷ bs) (all_digits-ascii (b ∷ bs) h)

-- ---- numerals

all_digits-numeral : (bs : List ℕ) → list_all is_digit bs ≡ true → AllDigits 10 bs
all_digits-numeral [] h = tt
all_digits-numeral (b ∷ bs) h = let p = and-both (is_digit b) (list_all is_digit bs) h in (digit-value b p.0, all_digits-numeral bs p.1)

pub digits-numeral : (w : List ℕ) → are_digits w ≡ true → IsNumeral 10 w
digits-numeral [] h = absurd (cc)
digits-numeral (b ∷ bs) h = (omega arith, all_digits-numeral (b ∷ bs) h)

pub digits-here : (w : List ℕ) → list_all is_digit w ≡ true → 0 < length w → are_digits w ≡ true
digits-here [] h k = absurd (omega arith)
digits-here (b ∷ bs) h k = h

-- ---- parsing

not-less : (m n : ℕ) → (m < n → ⊥) → nat_lt m n ≡ false
not-less m n h = if-not (nat_lt m n) (λ k. h (true-lt m n k))

number-some : (w : List ℕ) (n : ℤ) → are_digits w ≡ true → digits_value 10 w < 2 ^ 127 → n ≡ pos (digits_value 10 w) → Some n ≡ number_read w
number-some w n d h e = ap Some e ∙ sym (yes (are_digits w && nat_lt (digits_value 10 w) (2 ^ 127)) (Some (pos (digits_value 10 w))) None (both-and (are_digits w) _ d (lt-true (digits_value 10 w) (2 ^ 127) h)))

number-none : (w : List ℕ) → are_digits w ≡ true → (digits_value 10 w < 2 ^ 127 → ⊥) → None ≡ number_read w
number-none w d h = sym (no (are_digits w && nat_lt (digits_value 10 w) (2 ^ 127)) (Some (pos (digits_value 10 w))) None (ap (λ (t : Bool). t && nat_lt (digits_value 10 w) (2 ^ 127)) d ∙ not-less (digits_value 10 w) (2 ^ 127) h))

signed-parsed : {E : Type 0} (w : List ℕ) (r : Result ℤ E) → are_digits w ≡ true → OkIff r ((0 < length w) × (digits_value 10 w < 2 ^ 127)) (pos (digits_value 10 w)) → parsed r ≡ number_read w
signed-parsed w (Ok n) d h = number-some w n d h.0.1 h.1
signed-parsed w (Err e) d h = number-none w d (λ k. h ((digits-numeral w d).0, k))

pub parse-number : {E : Type 0} (w : List ℕ) (r : Result ℤ E) → are_digits w ≡ true → ParsesSigned w128 10 w r → parsed r ≡ number_read w
parse-number w r d h = signed-parsed w r d (parse_signed_digits numerals w128 w r h (digits-numeral w d).1)

-- a port with its zero
abbrev pub within_port : List ℕ → Option ℕ
within_port w = cond (are_digits w && nat_lt (digits_value 10 w) (2 ^ 16)) (Some (digits_value 10 w)) None

port-parsed : {E : Type 0} (w : List ℕ) (r : Result ℕ E) → are_digits w ≡ true → OkIff r ((0 < length w) × (digits_value 10 w < 2 ^ 16)) (digits_value 10 w) → parsed r ≡ within_port w
port-parsed w (Ok n) d h = ap Some h.1 ∙ sym (yes (are_digits w && nat_lt (digits_value 10 w) (2 ^ 16)) (Some (digits_value 10 w)) None (both-and (are_digits w) _ d (lt-true (digits_value 10 w) (2 ^ 16) h.0.1)))
port-parsed w (Err e) d h = sym (no (are_digits w && nat_lt (digits_value 10 w) (2 ^ 16)) (Some (digits_value 10 w)) None (ap (λ (t : Bool). t && nat_lt (digits_value 10 w) (2 ^ 16)) d ∙ not-less (digits_value 10 w) (2 ^ 16) (λ k. h ((digits-numeral w d).0, k))))

then-nonzero : (t : Bool) (n : ℕ) (o : Option ℕ) → o ≡ cond t (Some n) None → (p : ℕ) → o ≡ Some p → nonzero p ≡ cond t (nonzero n) None
then-nonzero true n o e p f = let q : p ≡ n = cc in ap nonzero q
then-nonzero false n o e p f = absurd (cc)

then-none : (t : Bool) (n : ℕ) (o : Option ℕ) → o ≡ cond t (Some n) None → o ≡ None → None ≡ cond t (nonzero n) None
then-none true n o e f = absurd (cc)
then-none false n o e f = refl

pub parse-port : {E : Type 0} (w : List ℕ) (r : Result ℕ E) (p : ℕ) → are_digits w ≡ true → ParsesUnsigned 16 10 w r → r ≡ Ok p → nonzero p ≡ port_read w
parse-port w r p d h e = then-nonzero (are_digits w && nat_lt (digits_value 10 w) (2 ^ 16)) (digits_value 10 w) (parsed r) (port-parsed w r d (parse_digits numerals 16 w r h (digits-numeral w d).1)) p (ap parsed e)

pub parse-none : {E : Type 0} (w : List ℕ) (r : Result ℕ E) (e : E) → are_digits w ≡ true → ParsesUnsigned 16 10 w r → r ≡ Err e → None ≡ port_read w
parse-none w r x d h e = then-none (are_digits w && nat_lt (digits_value 10 w) (2 ^ 16)) (digits_value 10 w) (parsed r) (port-parsed w r d (parse_digits numerals 16 w r h (digits-numeral w d).1)) (ap parsed e)
