-- Which part of the front is read, by the first byte.
use Rattle.std.proofs.Common.{◌≡◌, ℕ, ◌≤◌, Bool, true, false, eqb, List, [], ◌∷◌, length, take, get_or, Result, Ok, Err, refl, sym, ◌∙◌, ap, subst, arith}
use Rattle.std.proofs.lemmas.Bool.Decides.{nat_tests}
use Rattle.txs_values.specs.Spelling.{is_digit, is_letter, is_name_byte, run_of}
use Rattle.txs_lexer.specs.declared.fault.LexFault.{LexFault}
use Rattle.txs_lexer.specs.declared.fault.LexFault.TheVariants.{NoMemory, TooLong, NotUtf8, BadChar, OpenText, OpenComment, Number as TooLarge}
use Rattle.txs_lexer.specs.declared.front.Front.{Front}
use Rattle.txs_lexer.specs.declared.front.Front.TheVariants.{Gap}
use Rattle.txs_lexer.specs.Tokens.{is_blank, AreAll, IsName, IsNumeral}
use Rattle.txs_lexer.specs.Scan.{Gives, Stops, front_of, named_by, word_number, numbered, quoted, sign_of}
use Rattle.txs_values.proofs.Runs.{take-run}
use Rattle.txs_lexer.proofs.Runs.{run-all}
use Rattle.txs_values.proofs.Tests.{yes, no}

-- ---- the parts, by tests of the first byte

pub front-blank : (at b : ℕ) (bs : List ℕ) → is_blank b ≡ true → front_of at (b ∷ bs) ≡ Ok (Gap 1)
unfolding front_of
front-blank at b bs e = yes (is_blank b) _ _ e

pub front-letter : (at b : ℕ) (bs : List ℕ) → is_blank b ≡ false → is_letter b ≡ true
    → front_of at (b ∷ bs) ≡ Ok (named_by (word_number (run_of is_name_byte (b ∷ bs))) (run_of is_name_byte (b ∷ bs)))
unfolding front_of
front-letter at b bs n e = no (is_blank b) _ _ n ∙ yes (is_letter b) _ _ e

pub front-digit : (at b : ℕ) (bs : List ℕ) → is_blank b ≡ false → is_letter b ≡ false → is_digit b ≡ true → front_of at (b ∷ bs) ≡ numbered at (run_of is_digit (b ∷ bs))
unfolding front_of
front-digit at b bs n l e = no (is_blank b) _ _ n ∙ (no (is_letter b) _ _ l ∙ yes (is_digit b) _ _ e)

pub front-quote : (at : ℕ) (bs : List ℕ) → front_of at (34 ∷ bs) ≡ quoted at bs
unfolding front_of
front-quote at bs = refl

pub front-sign : (at b : ℕ) (bs : List ℕ) → is_blank b ≡ false → is_letter b ≡ false → is_digit b ≡ false → eqb b 34 ≡ false → front_of at (b ∷ bs) ≡ sign_of at (b ∷ bs)
unfolding front_of
front-sign at b bs n l d q = no (is_blank b) _ _ n ∙ (no (is_letter b) _ _ l ∙ (no (is_digit b) _ _ d ∙ no (eqb b 34) _ _ q))

-- ---- the same of a slice, as the code reads it

pub run-first : (p : ℕ → Bool) (rest xs : List ℕ) (n : ℕ) → n ≡ length (run_of p rest) → xs ≡ take n rest → xs ≡ run_of p rest
run-first p rest xs n e h = h ∙ (ap (λ (m : ℕ). take m rest) e ∙ take-run p rest)

pub first-letter : (at : ℕ) (rest xs : List ℕ) (n : ℕ) (r : Result Front LexFault) → 1 ≤ length rest → is_blank (get_or rest 0 0) ≡ false → is_letter (get_or rest 0 0) ≡ true
    → n ≡ length (run_of is_name_byte rest) → xs ≡ take n rest → Gives r (Ok (named_by (word_number xs) xs)) → Gives r (front_of at rest)
first-letter at [] xs n r l b e k h g = absurd (omega arith)
first-letter at (x ∷ rest) xs n r l b e k h g =
    let same = run-first is_name_byte (x ∷ rest) xs n k h in
    subst (Gives r) (ap (λ (q : List ℕ). Ok (named_by (word_number q) q)) same ∙ sym (front-letter at x rest b e)) g

pub first-digit : (at : ℕ) (rest xs : List ℕ) (n : ℕ) (r : Result Front LexFault) → 1 ≤ length rest → is_blank (get_or rest 0 0) ≡ false → is_letter (get_or rest 0 0) ≡ false → is_digit (get_or rest 0 0) ≡ true
    → n ≡ length (run_of is_digit rest) → xs ≡ take n rest → r ≡ numbered at xs → r ≡ front_of at rest
first-digit at [] xs n r l b e d k h g = absurd (omega arith)
first-digit at (x ∷ rest) xs n r l b e d k h g =
    let same = run-first is_digit (x ∷ rest) xs n k h in g ∙ (ap (numbered at) same ∙ sym (front-digit at x rest b e d))

pub run-numeral : (b : ℕ) (bs : List ℕ) → is_digit b ≡ true → IsNumeral (run_of is_digit (b ∷ bs))
run-numeral b bs e = subst IsNumeral (sym (yes (is_digit b) (b ∷ run_of is_digit bs) [] e)) (e, run-all is_digit bs)

letter-name_byte : (b : ℕ) → is_letter b ≡ true → is_name_byte b ≡ true
letter-name_byte b h = grind (arith, nat_tests)

pub run-name : (b : ℕ) (bs : List ℕ) → is_letter b ≡ true → IsName (run_of is_name_byte (b ∷ bs))
run-name b bs e = subst IsName (sym (yes (is_name_byte b) (b ∷ run_of is_name_byte bs) [] (letter-name_byte b e))) (e, run-all is_name_byte bs)

pub first-numeral : (rest xs : List ℕ) (n : ℕ) → 1 ≤ length rest → is_digit (get_or rest 0 0) ≡ true → n ≡ length (run_of is_digit rest) → xs ≡ take n rest → IsNumeral xs
first-numeral [] xs n l e k h = absurd (omega arith)
first-numeral (x ∷ rest) xs n l e k h = subst IsNumeral (sym (run-first is_digit (x ∷ rest) xs n k h)) (run-numeral x rest e)

pub first-all : (p : ℕ → Bool) (rest xs : List ℕ) (n : ℕ) → n ≡ length (run_of p rest) → xs ≡ take n rest → AreAll p xs
first-all p rest xs n k h = subst (AreAll p) (sym (run-first p rest xs n k h)) (run-all p rest)

stops-same : (fault : LexFault) (want : Result Front LexFault) → Err fault ≡ want → Stops fault (want ≡ Err fault)
stops-same NoMemory want e = tt
stops-same TooLong want e = sym e
stops-same (NotUtf8 at) want e = sym e
stops-same (BadChar at) want e = sym e
stops-same (OpenText at) want e = sym e
stops-same (OpenComment at) want e = sym e
stops-same (TooLarge at) want e = sym e

pub gives-same : (r want : Result Front LexFault) → r ≡ want → Gives r want
gives-same (Ok x) want e = sym e
gives-same (Err fault) want e = stops-same fault want e
