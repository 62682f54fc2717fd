-- What the rules say of the front is what is read there.
use Rattle.std.proofs.Common.{◌≡◌, ◌⊎◌, inl, inr, ℕ, ℤ, pos, ◌+◌, ◌^◌, ◌<◌, ◌≤◌, Bool, true, false, not, ◌&&◌, cond, eqb, eqb-true, nat_lt, List, [], ◌∷◌, ◌++◌, length, Option, Some, None, Ok, Err, refl, sym, ◌∙◌, ap, subst, append_assoc, length-append, arith}
use Rattle.std.proofs.lemmas.Bool.Decides.{nat_tests}
use Rattle.std.specs.List.{slice_get}
use Rattle.std.specs.Str.Parse.{digits_value}
use Rattle.txs_values.specs.Spelling.{is_digit, is_letter, is_name_byte, escape_of, run_of}
use Rattle.txs_lexer.specs.declared.fault.LexFault.{LexFault}
use Rattle.txs_lexer.specs.declared.fault.LexFault.TheVariants.{BadChar, OpenText, Number as TooLarge}
use Rattle.txs_lexer.specs.declared.front.Front.TheVariants.{Gap, Lexeme}
use Rattle.txs_lexer.specs.declared.token.Kind.{Kind}
use Rattle.txs_lexer.specs.declared.token.Kind.TheVariants.{Name, Word, Number, Quoted, Symbol}
use Rattle.txs_lexer.specs.Words.{words, symbols}
use Rattle.txs_lexer.specs.Tokens.{is_blank, is_in_line, AreAll, EndsRun, IsGap, blank, line_comment, block_comment, IsFirstEnd, BeginsNoComment, IsName, IsNumeral, Quotes, IsInside, escape, IsBroken, IsToken, IsLongest, Fails, bad_character, open_comment, too_large, open_text, bad_escape, BeginsNothing, IsLongestSymbol}
use Rattle.txs_lexer.specs.Scan.{word_number, named_by, numbered_by, numbered, meaning, meant, begins_with, before_end, ended_by, symbol_number, symbol_by, symbol_of, sign_of, front_of}
use Rattle.txs_lexer.proofs.Comments.{first-found, no-end}
use Rattle.txs_lexer.proofs.Fronts.{front-blank, front-letter, front-digit, front-quote, front-sign}
use Rattle.txs_lexer.proofs.Places.{place-is, no-place, words-distinct, all-at}
use Rattle.txs_lexer.proofs.Runs.{run-is}
use Rattle.txs_lexer.proofs.Sound.{quoted-at, broken-open}
use Rattle.txs_lexer.proofs.Symbols.{number-is, longest-none, begins-none, symbol-begins, begins_symbol, symbol-len}
use Rattle.txs_values.proofs.Tests.{and-both, lt-true, lt-false, not-true, if-not, yes, no}
use Rattle.txs_lexer.proofs.Texts.{Behind, closed, broken, quotes-inside, inside-append, quotes-meaning, wrong-meaning}

-- ---- bytes

letter-no_blank : (b : ℕ) → is_letter b ≡ true → is_blank b ≡ false
letter-no_blank b h = grind (arith, nat_tests)

digit-no_blank : (b : ℕ) → is_digit b ≡ true → is_blank b ≡ false
digit-no_blank b h = grind (arith, nat_tests)

digit-no_letter : (b : ℕ) → is_digit b ≡ true → is_letter b ≡ false
digit-no_letter b h = grind (arith, nat_tests)

letter-name_byte : (b : ℕ) → is_letter b ≡ true → is_name_byte b ≡ true
letter-name_byte b h = grind (arith, nat_tests)

-- ---- names and numbers

name-front : (at : ℕ) (name rest : List ℕ) (o : Option ℕ) → IsName name → EndsRun is_name_byte rest → word_number name ≡ o → front_of at (name ++ rest) ≡ Ok (named_by o name)
name-front at [] rest o n ends e = absurd n
name-front at (b ∷ bs) rest o n ends e =
    let run : run_of is_name_byte (b ∷ (bs ++ rest)) ≡ b ∷ bs = run-is is_name_byte (b ∷ bs) rest (letter-name_byte b n.0, n.1) ends in
    front-letter at b (bs ++ rest) (letter-no_blank b n.0) n.0
    ∙ (ap (λ (q : List ℕ). Ok (named_by (word_number q) q)) run ∙ ap (λ (q : Option ℕ). Ok (named_by q (b ∷ bs))) e)

pub number-front : (at : ℕ) (digits rest : List ℕ) → IsNumeral digits → EndsRun is_digit rest → front_of at (digits ++ rest) ≡ numbered at digits
number-front at [] rest n ends = absurd n
number-front at (b ∷ bs) rest n ends =
    front-digit at b (bs ++ rest) (digit-no_blank b n.0) (digit-no_letter b n.0) n.0 ∙ ap (numbered at) (run-is is_digit (b ∷ bs) rest n ends)

numbered-small : (at : ℕ) (digits : List ℕ) → digits_value 10 digits < 2 ^ 127 → numbered at digits ≡ Ok (Lexeme (Number (pos (digits_value 10 digits))) (length digits))
unfolding numbered
numbered-small at digits h = ap (numbered_by at (length digits)) (yes (nat_lt (digits_value 10 digits) (2 ^ 127)) (Some (pos (digits_value 10 digits))) None (lt-true (digits_value 10 digits) (2 ^ 127) h))

numbered-large : (at : ℕ) (digits : List ℕ) → 2 ^ 127 ≤ digits_value 10 digits → numbered at digits ≡ Err (TooLarge at)
unfolding numbered
numbered-large at digits h = ap (numbered_by at (length digits)) (no (nat_lt (digits_value 10 digits) (2 ^ 127)) (Some (pos (digits_value 10 digits))) None (lt-false (digits_value 10 digits) (2 ^ 127) h))

-- ---- words

-- each word is a name
abbrev pub are_name_bytes : List ℕ → Bool
are_name_bytes [] = true
are_name_bytes (b ∷ bs) = is_name_byte b && are_name_bytes bs

abbrev pub is_name : List ℕ → Bool
is_name [] = false
is_name (b ∷ bs) = is_letter b && are_name_bytes bs

name-bytes : (bs : List ℕ) → are_name_bytes bs ≡ true → AreAll is_name_byte bs
name-bytes [] h = tt
name-bytes (b ∷ bs) h = let both = and-both (is_name_byte b) (are_name_bytes bs) h in (both.0, name-bytes bs both.1)

name-is : (bs : List ℕ) → is_name bs ≡ true → IsName bs
name-is [] h = absurd (cc)
name-is (b ∷ bs) h = let both = and-both (is_letter b) (are_name_bytes bs) h in (both.0, name-bytes bs both.1)

pub word-name : (k : ℕ) (s : List ℕ) → slice_get words k ≡ Some s → IsName s
word-name k s h = name-is s (all-at is_name words k s refl h)

-- ---- texts

quoted-front : (at : ℕ) (ws tail : List ℕ) → IsInside ws → Behind tail → front_of at (34 ∷ (ws ++ tail)) ≡ cond (begins_with 34 tail) (meant at (length ws) (meaning ws)) (Err (OpenText at))
quoted-front at ws tail i b = front-quote at (ws ++ tail) ∙ quoted-at at ws tail i b

text-front : (at : ℕ) (text ws rest : List ℕ) → Quotes text ws → front_of at ((34 ∷ (ws ++ (34 ∷ []))) ++ rest) ≡ Ok (Lexeme (Quoted text) (length (34 ∷ (ws ++ (34 ∷ [])))))
text-front at text ws rest q =
    ap (λ (p : List ℕ). front_of at (34 ∷ p)) (append_assoc ws (34 ∷ []) rest)
    ∙ (quoted-front at ws (34 ∷ rest) (quotes-inside q) (closed rest)
    ∙ (ap (meant at (length ws)) (quotes-meaning q)
    ∙ ap (λ (n : ℕ). Ok (Lexeme (Quoted text) n)) (omega (arith, length-append ws (34 ∷ [])))))

open-front : (at : ℕ) (inside rest : List ℕ) → IsInside inside → IsBroken rest → front_of at (34 ∷ (inside ++ rest)) ≡ Err (OpenText at)
open-front at inside rest i b = quoted-front at inside rest i (broken rest b) ∙ no (begins_with 34 rest) (meant at (length inside) (meaning inside)) (Err (OpenText at)) (broken-open b)

wrong-front : (at : ℕ) (text ws : List ℕ) (c : ℕ) (more rest : List ℕ) → Quotes text ws → escape_of c ≡ None → eqb c 10 ≡ false → IsInside more
    → front_of at (34 ∷ (ws ++ (92 ∷ c ∷ (more ++ (34 ∷ rest))))) ≡ Err (BadChar (at + 1 + length ws))
wrong-front at text ws c more rest q n f i =
    let inside : IsInside (ws ++ (92 ∷ c ∷ more)) = inside-append (92 ∷ c ∷ more) (quotes-inside q) (escape c more f i) in
    ap (λ (p : List ℕ). front_of at (34 ∷ p)) (sym (append_assoc ws (92 ∷ c ∷ more) (34 ∷ rest)))
    ∙ (quoted-front at (ws ++ (92 ∷ c ∷ more)) (34 ∷ rest) inside (closed rest)
    ∙ ap (meant at (length (ws ++ (92 ∷ c ∷ more)))) (wrong-meaning c more q n))

-- ---- comments

sign-line : (at : ℕ) (bs : List ℕ) → front_of at (45 ∷ 45 ∷ bs) ≡ Ok (Gap (length (run_of is_in_line bs) + 2))
unfolding front_of sign_of
sign-line at bs = refl

sign-block : (at : ℕ) (bs : List ℕ) → front_of at (123 ∷ 45 ∷ bs) ≡ ended_by at (before_end bs)
unfolding front_of sign_of
sign-block at bs = refl

line-front : (at : ℕ) (line rest : List ℕ) → AreAll is_in_line line → EndsRun is_in_line rest → front_of at ((45 ∷ 45 ∷ line) ++ rest) ≡ Ok (Gap (length (45 ∷ 45 ∷ line)))
line-front at line rest all ends =
    sign-line at (line ++ rest) ∙ (ap (λ (q : List ℕ). Ok (Gap (length q + 2))) (run-is is_in_line line rest all ends) ∙ ap (λ (n : ℕ). Ok (Gap n)) (omega arith))

block-front : (at : ℕ) (inside rest : List ℕ) → IsFirstEnd inside rest → front_of at ((123 ∷ 45 ∷ (inside ++ (45 ∷ 125 ∷ []))) ++ rest) ≡ Ok (Gap (length (123 ∷ 45 ∷ (inside ++ (45 ∷ 125 ∷ [])))))
block-front at inside rest h =
    ap (λ (p : List ℕ). front_of at (123 ∷ 45 ∷ p)) (append_assoc inside (45 ∷ 125 ∷ []) rest)
    ∙ (sign-block at (inside ++ (45 ∷ 125 ∷ rest))
    ∙ (ap (ended_by at) (first-found inside rest h)
    ∙ ap (λ (n : ℕ). Ok (Gap n)) (omega (arith, length-append inside (45 ∷ 125 ∷ [])))))

pub gap-front : (at : ℕ) {gap rest : List ℕ} → IsGap gap rest → front_of at (gap ++ rest) ≡ Ok (Gap (length gap))
gap-front at (blank b rest e) = front-blank at b rest e
gap-front at (line_comment line rest all ends) = line-front at line rest all ends
gap-front at (block_comment inside rest h) = block-front at inside rest h

-- ---- symbols

no-line : (b c : ℕ) (bs : List ℕ) → BeginsNoComment (b ∷ c ∷ bs) → (eqb b 45 && eqb c 45) ≡ false
no-line b c bs h = if-not (eqb b 45 && eqb c 45) (λ e. let both = and-both (eqb b 45) (eqb c 45) e in h.no_line bs (ap (λ (q : ℕ). q ∷ c ∷ bs) (eqb-true b 45 both.0) ∙ ap (λ (q : ℕ). 45 ∷ q ∷ bs) (eqb-true c 45 both.1)))

no-block : (b c : ℕ) (bs : List ℕ) → BeginsNoComment (b ∷ c ∷ bs) → (eqb b 123 && eqb c 45) ≡ false
no-block b c bs h = if-not (eqb b 123 && eqb c 45) (λ e. let both = and-both (eqb b 123) (eqb c 45) e in h.no_block bs (ap (λ (q : ℕ). q ∷ c ∷ bs) (eqb-true b 123 both.0) ∙ ap (λ (q : ℕ). 123 ∷ q ∷ bs) (eqb-true c 45 both.1)))

sign-symbol : (at : ℕ) (text : List ℕ) → BeginsNoComment text → sign_of at text ≡ symbol_of at text
unfolding sign_of
sign-symbol at [] h = refl
sign-symbol at (b ∷ []) h = refl
sign-symbol at (b ∷ c ∷ bs) h = no (eqb b 45 && eqb c 45) _ _ (no-line b c bs h) ∙ no (eqb b 123 && eqb c 45) _ _ (no-block b c bs h)

by-three : (at : ℕ) (text : List ℕ) (k : ℕ) → symbol_number 3 text ≡ Some k → symbol_of at text ≡ Ok (Lexeme (Symbol k) 3)
unfolding symbol_of
by-three at text k e = ap (λ (o : Option ℕ). symbol_by o 3 (symbol_by (symbol_number 2 text) 2 (symbol_by (symbol_number 1 text) 1 (Err (BadChar at))))) e

by-two : (at : ℕ) (text : List ℕ) (k : ℕ) → symbol_number 3 text ≡ None → symbol_number 2 text ≡ Some k → symbol_of at text ≡ Ok (Lexeme (Symbol k) 2)
unfolding symbol_of
by-two at text k n e = ap (λ (o : Option ℕ). symbol_by o 3 (symbol_by (symbol_number 2 text) 2 (symbol_by (symbol_number 1 text) 1 (Err (BadChar at))))) n ∙ ap (λ (o : Option ℕ). symbol_by o 2 (symbol_by (symbol_number 1 text) 1 (Err (BadChar at)))) e

by-one : (at : ℕ) (text : List ℕ) (o : Option ℕ) → symbol_number 3 text ≡ None → symbol_number 2 text ≡ None → symbol_number 1 text ≡ o → symbol_of at text ≡ symbol_by o 1 (Err (BadChar at))
unfolding symbol_of
by-one at text k n m e = ap (λ (o : Option ℕ). symbol_by o 3 (symbol_by (symbol_number 2 text) 2 (symbol_by (symbol_number 1 text) 1 (Err (BadChar at))))) n ∙ (ap (λ (o : Option ℕ). symbol_by o 2 (symbol_by (symbol_number 1 text) 1 (Err (BadChar at)))) m ∙ ap (λ (o : Option ℕ). symbol_by o 1 (Err (BadChar at))) e)

symbol-of : (at k n : ℕ) (s rest : List ℕ) → slice_get symbols k ≡ Some s → IsLongestSymbol s rest → length s ≡ n → (n ≡ 1) ⊎ ((n ≡ 2) ⊎ (n ≡ 3)) → symbol_of at (s ++ rest) ≡ Ok (Lexeme (Symbol k) n)
symbol-of at k n s rest h longest l (inl e) =
    by-one at (s ++ rest) (Some k) (longest-none s rest 3 longest (omega arith)) (longest-none s rest 2 longest (omega arith)) (number-is k s rest 1 h (l ∙ e)) ∙ ap (λ (m : ℕ). Ok (Lexeme (Symbol k) m)) (sym e)
symbol-of at k n s rest h longest l (inr (inl e)) =
    by-two at (s ++ rest) k (longest-none s rest 3 longest (omega arith)) (number-is k s rest 2 h (l ∙ e)) ∙ ap (λ (m : ℕ). Ok (Lexeme (Symbol k) m)) (sym e)
symbol-of at k n s rest h longest l (inr (inr e)) =
    by-three at (s ++ rest) k (number-is k s rest 3 h (l ∙ e)) ∙ ap (λ (m : ℕ). Ok (Lexeme (Symbol k) m)) (sym e)

to-three : (n : ℕ) → 1 ≤ n → n ≤ 3 → (n ≡ 1) ⊎ ((n ≡ 2) ⊎ (n ≡ 3))
to-three n l h = grind arith

begins-sign : (at : ℕ) (s rest : List ℕ) → begins_symbol s ≡ true → front_of at (s ++ rest) ≡ sign_of at (s ++ rest)
begins-sign at [] rest h = absurd (cc)
begins-sign at (b ∷ bs) rest h =
    let x = and-both (not (is_blank b)) (not (is_letter b) && (not (is_digit b) && not (eqb b 34))) h in
    let y = and-both (not (is_letter b)) (not (is_digit b) && not (eqb b 34)) x.1 in
    let z = and-both (not (is_digit b)) (not (eqb b 34)) y.1 in
    front-sign at b (bs ++ rest) (not-true (is_blank b) x.0) (not-true (is_letter b) y.0) (not-true (is_digit b) z.0) (not-true (eqb b 34) z.1)

symbol-front : (at k : ℕ) (s rest : List ℕ) → slice_get symbols k ≡ Some s → BeginsNoComment (s ++ rest) → IsLongestSymbol s rest → front_of at (s ++ rest) ≡ Ok (Lexeme (Symbol k) (length s))
symbol-front at k s rest h c longest =
    let l = symbol-len k s h in
    begins-sign at s rest (symbol-begins k s h) ∙ (sign-symbol at (s ++ rest) c ∙ symbol-of at k (length s) s rest h longest refl (to-three (length s) l.0 l.1))

-- ---- tokens

pub token-front : (at : ℕ) (kind : Kind) (slice rest : List ℕ) → IsToken kind slice → IsLongest kind slice rest → front_of at (slice ++ rest) ≡ Ok (Lexeme kind (length slice))
token-front at (Name name) slice rest t l =
    name-front at slice rest None t.1 l (no-place words slice (word_number slice) refl t.2) ∙ ap (λ (q : List ℕ). Ok (Lexeme (Name q) (length slice))) (sym t.0)
token-front at (Word k) slice rest t l = name-front at slice rest (Some k) (word-name k slice t) l (place-is words slice k words-distinct t)
token-front at (Number n) slice rest t l = number-front at slice rest t.1 l ∙ (numbered-small at slice t.2 ∙ ap (λ (q : ℤ). Ok (Lexeme (Number q) (length slice))) (sym t.0))
token-front at (Quoted text) slice rest t l =
    let P : List ℕ → Type 0 = λ q. front_of at (q ++ rest) ≡ Ok (Lexeme (Quoted text) (length q)) in
    subst P (sym t.1) (text-front at text t.0 rest t.2)
token-front at (Symbol k) slice rest t l = symbol-front at k slice rest t l.0 l.1

-- ---- faults

minus-symbol : slice_get symbols 25 ≡ Some (45 ∷ [])
minus-symbol = refl

brace-symbol : slice_get symbols 40 ≡ Some (123 ∷ [])
brace-symbol = refl

nothing-comment : (b : ℕ) (bs : List ℕ) → BeginsNothing b bs → BeginsNoComment (b ∷ bs)
nothing-comment b bs h = record {
  no_line = λ rest e. h.no_symbol 25 (45 ∷ []) (45 ∷ rest) minus-symbol e;
  no_block = λ rest e. h.no_symbol 40 (123 ∷ []) (45 ∷ rest) brace-symbol e;
}

bad-front : (at b : ℕ) (bs : List ℕ) → BeginsNothing b bs → front_of at (b ∷ bs) ≡ Err (BadChar at)
bad-front at b bs h =
    front-sign at b bs h.no_blank h.no_letter h.no_digit h.no_quote
    ∙ (sign-symbol at (b ∷ bs) (nothing-comment b bs h)
    ∙ by-one at (b ∷ bs) None (begins-none (b ∷ bs) 3 h.no_symbol) (begins-none (b ∷ bs) 2 h.no_symbol) (begins-none (b ∷ bs) 1 h.no_symbol))

pub fault-front : (at : ℕ) {text : List ℕ} {fault : LexFault} → Fails at text fault → front_of at text ≡ Err fault
fault-front at (bad_character b bs h) = bad-front at b bs h
fault-front at (open_comment more h) = sign-block at more ∙ ap (ended_by at) (no-end more h)
fault-front at (too_large slice rest n ends l) = number-front at slice rest n ends ∙ numbered-large at slice l
fault-front at (open_text inside rest i b) = open-front at inside rest i b
fault-front at (bad_escape text ws c more rest q n f i) = wrong-front at text ws c more rest q n f i
