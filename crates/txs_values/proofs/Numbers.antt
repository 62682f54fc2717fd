-- The number in front of a text, and what it spells.
use Rattle.std.proofs.Common.{◌≡◌, ◌≢◌, ℕ, zero, suc, ℤ, ◌≤◌, ◌↔◌, Bool, true, false, cond, eqb, eqb-true, List, [], ◌∷◌, length, take, drop, Option, Some, None, Result, Ok, Err, refl, sym, ◌∙◌, ap, subst, arith, FitsSigned, MatchOption}
use Rattle.std.proofs.lemmas.Bool.Decides.{nat_tests}
use Rattle.std.proofs.lemmas.Fmt.{IsAscii-from_digits}
use Rattle.std.proofs.lemmas.Str.Ascii.{IsAscii-nil, IsAscii-cons}
use Rattle.std.specs.Int.{w128}
use Rattle.std.specs.Str.{IsAscii}
use Rattle.std.specs.Str.Parse.{AllDigits, IsNumeral, signed_digits_value}
use Rattle.txs_values.specs.declared.reading.Kind.TheVariants.{Wrong, Past}
use Rattle.txs_values.specs.Ints.{number_run, past_number, has_digit, IsNumber, last_number, spelled_number}
use Rattle.txs_values.specs.Reading.{ok, stop, after, number_read, value_read, levels_below, ended, small_read, read_text}
use Rattle.txs_values.specs.Spelling.{is_digit, run_of, past_run, past_blanks}
use Rattle.txs_values.specs.Value.{Table, integer, Value, num, fits, value_size_limit}
use Rattle.txs_values.proofs.Digits.{digit-value}
use Rattle.txs_values.proofs.Ranges.{fits_true, true_fits}
use Rattle.txs_values.proofs.Runs.{run-length, take-run, drop-run}

-- ---- the front as a prefix

pub number_run-length : (bs : List ℕ) → length (number_run bs) ≤ length bs
number_run-length [] = omega arith
number_run-length (b ∷ bs) = elim (eqb b 45) as (λ t. length (cond t (b ∷ run_of is_digit bs) (run_of is_digit (b ∷ bs))) ≤ length (b ∷ bs)) [
  | true ↦ let h = run-length is_digit bs in omega (arith, h)
  | false ↦ run-length is_digit (b ∷ bs)
]

pub take-number_run : (bs : List ℕ) → take (length (number_run bs)) bs ≡ number_run bs
take-number_run [] = refl
take-number_run (b ∷ bs) = elim (eqb b 45) as (λ t. take (length (cond t (b ∷ run_of is_digit bs) (run_of is_digit (b ∷ bs)))) (b ∷ bs) ≡ cond t (b ∷ run_of is_digit bs) (run_of is_digit (b ∷ bs))) [
  | true ↦ ap (λ (q : List ℕ). b ∷ q) (take-run is_digit bs)
  | false ↦ take-run is_digit (b ∷ bs)
]

pub drop-number_run : (bs : List ℕ) → drop (length (number_run bs)) bs ≡ past_number bs
drop-number_run [] = refl
drop-number_run (b ∷ bs) = elim (eqb b 45) as (λ t. drop (length (cond t (b ∷ run_of is_digit bs) (run_of is_digit (b ∷ bs)))) (b ∷ bs) ≡ cond t (past_run is_digit bs) (past_run is_digit (b ∷ bs))) [
  | true ↦ drop-run is_digit bs
  | false ↦ drop-run is_digit (b ∷ bs)
]

-- ---- the front is a number

digit-signless : (b : ℕ) → is_digit b ≡ true → (b ≢ 43) × (eqb b 45 ≡ false)
digit-signless b h = grind (arith, nat_tests)

digits-if : (b : ℕ) (run : List ℕ) (t : Bool) → is_digit b ≡ t → AllDigits 10 run → AllDigits 10 (cond t (b ∷ run) [])
digits-if b run true h d = (digit-value b h, d)
digits-if b run false h d = tt

run-digits : (bs : List ℕ) → AllDigits 10 (run_of is_digit bs)
run-digits [] = tt
run-digits (b ∷ bs) = digits-if b (run_of is_digit bs) (is_digit b) refl (run-digits bs)

minus-number : (run : List ℕ) → AllDigits 10 run → has_digit (45 ∷ run) ≡ true → IsNumber (45 ∷ run)
minus-number [] d h = absurd (cc)
minus-number (c ∷ run) d h = ((λ e. absurd (omega arith)), (omega arith, d))

no-plus : (b : ℕ) → b ≢ 43 → eqb b 43 ≡ false
no-plus b n = grind (arith, nat_tests)

signless : (b : ℕ) (run : List ℕ) (x y : Bool) → x ≡ false → y ≡ false → AllDigits 10 (b ∷ run) → IsNumeral 10 (cond x run (drop (cond y 1 0) (b ∷ run)))
signless b run true y e f d = absurd (cc)
signless b run false true e f d = absurd (cc)
signless b run false false e f d = (omega arith, d)

plain-number : (b : ℕ) (run : List ℕ) → eqb b 45 ≡ false → b ≢ 43 → AllDigits 10 (b ∷ run) → IsNumber (b ∷ run)
plain-number b run m n d = (n, signless b run (eqb b 45) (eqb b 43) m (no-plus b n) d)

digits-number : (b : ℕ) (run : List ℕ) (t : Bool) → is_digit b ≡ t → AllDigits 10 (cond t (b ∷ run) []) → has_digit (cond t (b ∷ run) []) ≡ true → IsNumber (cond t (b ∷ run) [])
digits-number b run true e d h = let s = digit-signless b e in plain-number b run s.1 s.0 d
digits-number b run false e d h = absurd (cc)

run-number : (b : ℕ) (bs : List ℕ) (t : Bool) → eqb b 45 ≡ t → has_digit (cond t (b ∷ run_of is_digit bs) (run_of is_digit (b ∷ bs))) ≡ true → IsNumber (cond t (b ∷ run_of is_digit bs) (run_of is_digit (b ∷ bs)))
run-number b bs true e h = let m = eqb-true b 45 e in subst (λ (q : ℕ). IsNumber (q ∷ run_of is_digit bs)) (sym m) (minus-number (run_of is_digit bs) (run-digits bs) (subst (λ (q : ℕ). has_digit (q ∷ run_of is_digit bs) ≡ true) m h))
run-number b bs false e h = digits-number b (run_of is_digit bs) (is_digit b) refl (run-digits (b ∷ bs)) h

-- the run in front is a number where it has a digit
pub number_run-number : (bs : List ℕ) → has_digit (number_run bs) ≡ true → IsNumber (number_run bs)
number_run-number [] h = absurd (cc)
number_run-number (b ∷ bs) h = run-number b bs (eqb b 45) refl h

-- ---- a number is ASCII

by_sign : (b : ℕ) (bs : List ℕ) (x y : Bool) → eqb b 45 ≡ x → eqb b 43 ≡ y → b ≢ 43 → AllDigits 10 (cond x bs (drop (cond y 1 0) (b ∷ bs))) → IsAscii (b ∷ bs)
by_sign b bs true y minus plus n d = let e = eqb-true b 45 minus in IsAscii-cons b bs (omega arith) (IsAscii-from_digits bs d)
by_sign b bs false true minus plus n d = absurd (n (eqb-true b 43 plus))
by_sign b bs false false minus plus n d = IsAscii-from_digits (b ∷ bs) d

pub number_ascii : (word : List ℕ) → IsNumber word → IsAscii word
number_ascii [] h = IsAscii-nil
number_ascii (b ∷ bs) h = by_sign b bs (eqb b 45) (eqb b 43) refl refl h.0 h.1.1

-- ---- the value

pub parsed-ok : {E : Type 0} (e : E) (z n : ℤ) → FitsSigned w128 z → n ≡ z → ◌≡◌ {A = Result ℤ E} (Ok n) (cond (fits z) (Ok z) (Err e))
parsed-ok e z n f h = ap Ok h ∙ sym (ap (λ (t : Bool). cond t (Ok z) (Err e)) (fits_true z f))

past-false : (z : ℤ) (t : Bool) → fits z ≡ t → (FitsSigned w128 z → ⊥) → fits z ≡ false
past-false z true e h = absurd (h (true_fits z e))
past-false z false e h = e

pub parsed-err : {E : Type 0} (e : E) (z : ℤ) → (FitsSigned w128 z → ⊥) → ◌≡◌ {A = Result ℤ E} (Err e) (cond (fits z) (Ok z) (Err e))
parsed-err e z h = sym (ap (λ (t : Bool). cond t (Ok z) (Err e)) (past-false z (fits z) refl h))

-- ---- what the text spells as an Int

-- a number as a value, where it fits
abbrev pub in_range : Option ℤ → Option Value
in_range None = None
in_range (Some n) = cond (fits n) (Some (num n)) None

last-number : (n : ℤ) (rest : List ℕ) → fits n ≡ true → small_read (ended (num n) rest) ≡ in_range (last_number rest n)
unfolding value_size_limit
last-number n [] e = sym (ap (λ (t : Bool). cond t (Some (num n)) None) e)
last-number n (b ∷ bs) e = refl

last-past : (n : ℤ) (rest : List ℕ) → fits n ≡ false → None ≡ in_range (last_number rest n)
last-past n [] e = sym (ap (λ (t : Bool). cond t (Some (num n)) None) e)
last-past n (b ∷ bs) e = refl

-- a number in front, if there is one
number-alone : (there within : Bool) (n : ℤ) (rest : List ℕ) (k l : ℕ) → fits n ≡ within
    → small_read (after (cond there (cond within (ok (num n) rest) (stop Past k)) (stop Wrong l)) (λ v r. ended v (past_blanks r)))
    ≡ in_range (cond there (last_number (past_blanks rest) n) None)
number-alone false within n rest k l e = refl
number-alone true true n rest k l e = last-number n (past_blanks rest) e
number-alone true false n rest k l e = last-past n (past_blanks rest) e

integer-read : (table : Table) (left : ℕ) (bs : List ℕ) → value_read table left integer bs ≡ number_read (past_blanks bs)
integer-read table zero bs = refl
integer-read table (suc left) bs = refl

-- an Int is read where the number that is spelled fits
pub read_text-integer : (table : Table) (bs : List ℕ) → read_text table integer bs ≡ in_range (spelled_number bs)
read_text-integer table bs =
    let run = number_run (past_blanks bs) in
    let past = past_number (past_blanks bs) in
    ap (λ o. small_read (after o (λ v r. ended v (past_blanks r)))) (integer-read table levels_below bs)
    ∙ number-alone (has_digit run) (fits (signed_digits_value 10 run)) (signed_digits_value 10 run) past (length (past_blanks bs)) (length past) refl

read-fits : {E : Type 0} (past : E) (m n : ℤ) (r : Result ℤ E) (t : Bool) → r ≡ cond t (Ok m) (Err past) → (r ≡ Ok n) ↔ (cond t (Some (num m)) None ≡ Some (num n))
read-fits past m n r true e = ((λ h. cc), (λ h. cc))
read-fits past m n r false e = ((λ h. absurd (cc)), (λ h. absurd (cc)))

read-is : {E : Type 0} (wrong past : E) (o : Option ℤ) (r : Result ℤ E) → MatchOption o (r ≡ Err wrong) (λ m. r ≡ cond (fits m) (Ok m) (Err past)) → (n : ℤ) → (r ≡ Ok n) ↔ (in_range o ≡ Some (num n))
read-is wrong past None r e n = ((λ h. absurd (cc)), (λ h. absurd (cc)))
read-is wrong past (Some m) r e n = read-fits past m n r (fits m) e

pub read_text-is : {E : Type 0} (wrong past : E) (table : Table) (bs : List ℕ) (r : Result ℤ E) (n : ℤ) → MatchOption (spelled_number bs) (r ≡ Err wrong) (λ m. r ≡ cond (fits m) (Ok m) (Err past)) → (r ≡ Ok n) ↔ (read_text table integer bs ≡ Some (num n))
read_text-is wrong past table bs r n e = subst (λ (q : Option Value). (r ≡ Ok n) ↔ (q ≡ Some (num n))) (sym (read_text-integer table bs)) (read-is wrong past (spelled_number bs) r e n)

pub ruleset fronts = (number_run-length, take-number_run, drop-number_run)
