-- What is read at the front is what the rules say of it.
use Rattle.std.proofs.Common.{◌≡◌, ◌≢◌, ℕ, pos, ◌+◌, ◌^◌, ◌≤◌, Bool, true, false, ◌&&◌, cond, eqb, eqb-true, eq-eqb, nat_lt, List, [], ◌∷◌, ◌++◌, length, take, drop, Option, Some, None, Result, Ok, Err, refl, sym, ◌∙◌, ap, subst, append_assoc, length-append, arith}
use Rattle.std.proofs.Math.Seq.{drop-append_seam}
use Rattle.std.proofs.lemmas.List.{take-append-drop}
use Rattle.std.specs.List.{slice_get}
use Rattle.std.specs.Str.Parse.{digits_value}
use Rattle.txs_values.specs.Spelling.{is_digit, is_letter, is_name_byte, run_of, past_run}
use Rattle.txs_lexer.specs.declared.fault.LexFault.{LexFault}
use Rattle.txs_lexer.specs.declared.fault.LexFault.TheVariants.{BadChar, OpenText, Number as TooLarge}
use Rattle.txs_lexer.specs.declared.front.Front.{Front}
use Rattle.txs_lexer.specs.declared.front.Front.TheVariants.{Gap, Lexeme}
use Rattle.txs_lexer.specs.declared.token.Kind.{Kind}
use Rattle.txs_lexer.specs.declared.token.Kind.TheVariants.{Symbol}
use Rattle.txs_lexer.specs.Words.{words, symbols}
use Rattle.txs_lexer.specs.Tokens.{is_blank, is_in_line, EndsRun, IsGap, blank, line_comment, block_comment, BeginsNoComment, IsName, IsNumeral, IsInside, IsBroken, at_end, at_line_feed, behind_backslash, backslash_and_line_feed, IsToken, IsLongest, Fails, bad_character, open_comment, too_large, open_text, bad_escape}
use Rattle.txs_lexer.specs.Scan.{word_number, named_by, numbered_by, numbered, inside_len, meaning, meant, begins_with, quoted, before_end, ended_by, symbol_number, symbol_by, symbol_of, sign_of, front_of}
use Rattle.txs_lexer.proofs.Comments.{end-found, found-first, none-found}
use Rattle.txs_lexer.proofs.Fronts.{run-name, run-numeral}
use Rattle.txs_lexer.proofs.Places.{place-found, place-none, words-distinct}
use Rattle.txs_values.proofs.Runs.{run-parts}
use Rattle.txs_lexer.proofs.Runs.{run-all, run-ends}
use Rattle.txs_lexer.proofs.Symbols.{IsSymbolAt, number-found, number-none, symbol-len, taken-len}
use Rattle.txs_values.proofs.Tests.{and-both, both-and, true-lt, false-lt, no}
use Rattle.txs_lexer.proofs.Texts.{inside-cut, inside-is, Behind, closed, broken, Meant, inside-meant}
use Rattle.txs_lexer.proofs.Utf8.{take-seam}

-- the first n bytes are a gap
pub record GapFront (text : List ℕ) (n : ℕ) : Type 0 where
  pub gap : List ℕ
  pub rest : List ℕ
  pub parts : text ≡ gap ++ rest
  pub len : n ≡ length gap
  pub is : IsGap gap rest

-- the first n bytes are the longest token
pub record TokenFront (text : List ℕ) (kind : Kind) (n : ℕ) : Type 0 where
  pub slice : List ℕ
  pub rest : List ℕ
  pub parts : text ≡ slice ++ rest
  pub len : n ≡ length slice
  pub is : IsToken kind slice
  pub longest : IsLongest kind slice rest

abbrev pub Fits : ℕ → List ℕ → Result Front LexFault → Type 0
Fits at text (Ok (Gap n)) = GapFront text n
Fits at text (Ok (Lexeme kind n)) = TokenFront text kind n
Fits at text (Err fault) = Fails at text fault

pub fits-cond : (at : ℕ) (text : List ℕ) (t : Bool) (x y : Result Front LexFault) → (t ≡ true → Fits at text x) → (t ≡ false → Fits at text y) → Fits at text (cond t x y)
fits-cond at text true x y h k = h refl
fits-cond at text false x y h k = k refl

-- ---- names and numbers

name-fits : (at : ℕ) (text name rest : List ℕ) (o : Option ℕ) → text ≡ name ++ rest → IsName name → EndsRun is_name_byte rest → word_number name ≡ o → Fits at text (Ok (named_by o name))
name-fits at text name rest None parts n ends e = record { slice = name; rest = rest; parts = parts; len = refl; is = (refl, n, place-none words name words-distinct e); longest = ends }
name-fits at text name rest (Some k) parts n ends e = record { slice = name; rest = rest; parts = parts; len = refl; is = place-found words name k e; longest = ends }

number-fits : (at : ℕ) (text digits rest : List ℕ) (t : Bool) → text ≡ digits ++ rest → IsNumeral digits → EndsRun is_digit rest → nat_lt (digits_value 10 digits) (2 ^ 127) ≡ t
    → Fits at text (numbered_by at (length digits) (cond t (Some (pos (digits_value 10 digits))) None))
number-fits at text digits rest true parts n ends e = record { slice = digits; rest = rest; parts = parts; len = refl; is = (refl, n, true-lt (digits_value 10 digits) (2 ^ 127) e); longest = ends }
number-fits at text digits rest false parts n ends e = let P : List ℕ → Type 0 = λ q. Fails at q (TooLarge at) in subst P (sym parts) (too_large digits rest n ends (false-lt (digits_value 10 digits) (2 ^ 127) e))

numbered-fits : (at : ℕ) (text digits rest : List ℕ) → text ≡ digits ++ rest → IsNumeral digits → EndsRun is_digit rest → Fits at text (numbered at digits)
unfolding numbered
numbered-fits at text digits rest parts n ends = number-fits at text digits rest (nat_lt (digits_value 10 digits) (2 ^ 127)) parts n ends refl

-- ---- texts

pub quoted-at : (at : ℕ) (ws tail : List ℕ) → IsInside ws → Behind tail → quoted at (ws ++ tail) ≡ cond (begins_with 34 tail) (meant at (length ws) (meaning ws)) (Err (OpenText at))
unfolding quoted
quoted-at at ws tail i b =
    let n = inside-is tail i b in
    ap (λ (m : ℕ). cond (begins_with 34 (drop m (ws ++ tail))) (meant at m (meaning (take m (ws ++ tail)))) (Err (OpenText at))) n
    ∙ (ap (λ (q : List ℕ). cond (begins_with 34 q) (meant at (length ws) (meaning (take (length ws) (ws ++ tail)))) (Err (OpenText at))) (drop-append_seam ws tail)
    ∙ ap (λ (q : List ℕ). cond (begins_with 34 tail) (meant at (length ws) (meaning q)) (Err (OpenText at))) (take-seam ws tail))

wrong-parts : (front : List ℕ) (c : ℕ) (more rest : List ℕ) → (front ++ (92 ∷ c ∷ more)) ++ (34 ∷ rest) ≡ front ++ (92 ∷ c ∷ (more ++ (34 ∷ rest)))
wrong-parts front c more rest = append_assoc front (92 ∷ c ∷ more) (34 ∷ rest)

meant-fits : (at : ℕ) (ws rest : List ℕ) (r : Result (List ℕ) ℕ) → Meant ws r → Fits at (34 ∷ (ws ++ (34 ∷ rest))) (meant at (length ws) r)
meant-fits at ws rest (Ok text) h = record {
  slice = 34 ∷ (ws ++ (34 ∷ []));
  rest = rest;
  parts = ap (λ (q : List ℕ). 34 ∷ q) (sym (append_assoc ws (34 ∷ []) rest));
  len = omega (arith, length-append ws (34 ∷ []));
  is = (ws, refl, h);
  longest = tt;
}
meant-fits at ws rest (Err k) h =
    let parts : 34 ∷ (h.front ++ (92 ∷ h.byte ∷ (h.more ++ (34 ∷ rest)))) ≡ 34 ∷ (ws ++ (34 ∷ rest)) = ap (λ (q : List ℕ). 34 ∷ q) (sym (ap (λ (q : List ℕ). q ++ (34 ∷ rest)) h.parts ∙ wrong-parts h.front h.byte h.more rest)) in
    let P : List ℕ → Type 0 = λ q. Fails at q (BadChar (at + 1 + k)) in
    let Q : ℕ → Type 0 = λ n. Fails at (34 ∷ (h.front ++ (92 ∷ h.byte ∷ (h.more ++ (34 ∷ rest))))) (BadChar (at + 1 + n)) in
    subst P parts (subst Q (sym h.place) (bad_escape h.text h.front h.byte h.more rest h.right h.wrong h.no_feed h.inside))

pub broken-open : {rest : List ℕ} → IsBroken rest → begins_with 34 rest ≡ false
broken-open at_end = refl
broken-open (at_line_feed bs) = refl
broken-open behind_backslash = refl
broken-open (backslash_and_line_feed bs) = refl

cut-fits : (at : ℕ) (ws : List ℕ) {tail : List ℕ} → IsInside ws → Behind tail → Fits at (34 ∷ (ws ++ tail)) (cond (begins_with 34 tail) (meant at (length ws) (meaning ws)) (Err (OpenText at)))
cut-fits at ws i (closed rest) = meant-fits at ws rest (meaning ws) (inside-meant i)
cut-fits at ws i (broken rest h) =
    subst (Fits at (34 ∷ (ws ++ rest))) (sym (no (begins_with 34 rest) (meant at (length ws) (meaning ws)) (Err (OpenText at)) (broken-open h))) (open_text ws rest i h)

quoted-fits : (at : ℕ) (behind : List ℕ) → Fits at (34 ∷ behind) (quoted at behind)
quoted-fits at behind =
    let c = inside-cut behind in
    let ws = take (inside_len behind) behind in
    let tail = drop (inside_len behind) behind in
    let parts : ws ++ tail ≡ behind = take-append-drop (inside_len behind) behind in
    let P : List ℕ → Type 0 = λ q. Fits at (34 ∷ q) (quoted at q) in
    subst P parts (subst (Fits at (34 ∷ (ws ++ tail))) (sym (quoted-at at ws tail c.inside c.behind)) (cut-fits at ws c.inside c.behind))

-- ---- comments

line-fits : (at : ℕ) (bs : List ℕ) → Fits at (45 ∷ 45 ∷ bs) (Ok (Gap (length (run_of is_in_line bs) + 2)))
line-fits at bs = record {
  gap = 45 ∷ 45 ∷ run_of is_in_line bs;
  rest = past_run is_in_line bs;
  parts = ap (λ (q : List ℕ). 45 ∷ 45 ∷ q) (run-parts is_in_line bs);
  len = omega arith;
  is = line_comment (run_of is_in_line bs) (past_run is_in_line bs) (run-all is_in_line bs) (run-ends is_in_line bs);
}

block-fits : (at : ℕ) (bs : List ℕ) (o : Option ℕ) → before_end bs ≡ o → Fits at (123 ∷ 45 ∷ bs) (ended_by at o)
block-fits at bs None e = open_comment bs (none-found bs e)
block-fits at bs (Some n) e =
    let k = end-found bs n e in
    record {
      gap = 123 ∷ 45 ∷ (k.inside ++ (45 ∷ 125 ∷ []));
      rest = k.rest;
      parts = ap (λ (q : List ℕ). 123 ∷ 45 ∷ q) (k.parts ∙ sym (append_assoc k.inside (45 ∷ 125 ∷ []) k.rest));
      len = omega (arith, k.len, length-append k.inside (45 ∷ 125 ∷ []));
      is = block_comment k.inside k.rest (found-first k.inside k.rest n (ap before_end (sym k.parts) ∙ e) k.len);
    }

-- ---- symbols

-- none of the other beginnings
pub record IsNoOther (b : ℕ) : Type 0 where
  pub no_blank : is_blank b ≡ false
  pub no_letter : is_letter b ≡ false
  pub no_digit : is_digit b ≡ false
  pub no_quote : eqb b 34 ≡ false

-- no symbol of n bytes begins here
abbrev pub HasNone : ℕ → List ℕ → Type 0
HasNone n text = (k : ℕ) (s rest : List ℕ) → slice_get symbols k ≡ Some s → text ≡ s ++ rest → length s ≢ n

found-fits : (at : ℕ) (text : List ℕ) (n k : ℕ) → BeginsNoComment text → IsSymbolAt n text k
    → ((j : ℕ) (s rest : List ℕ) → slice_get symbols j ≡ Some s → text ≡ s ++ rest → length s ≤ n) → Fits at text (Ok (Lexeme (Symbol k) n))
found-fits at text n k c a longest =
    let parts : take n text ++ drop n text ≡ text = take-append-drop n text in
    let len : length (take n text) ≡ n = taken-len n text a.within in
    record {
      slice = take n text;
      rest = drop n text;
      parts = sym parts;
      len = sym len;
      is = a.symbol;
      longest = (subst BeginsNoComment (sym parts) c, λ j s rest h e. let short = longest j s rest h (sym parts ∙ e) in omega arith);
    }

one-fits : (at b : ℕ) (bs : List ℕ) (o : Option ℕ) → IsNoOther b → BeginsNoComment (b ∷ bs) → HasNone 3 (b ∷ bs) → HasNone 2 (b ∷ bs) → symbol_number 1 (b ∷ bs) ≡ o
    → Fits at (b ∷ bs) (symbol_by o 1 (Err (BadChar at)))
one-fits at b bs (Some k) n c three two e = found-fits at (b ∷ bs) 1 k c (number-found 1 (b ∷ bs) k e)
    (λ j s rest h p. let l = symbol-len j s h in let x = three j s rest h p in let y = two j s rest h p in omega arith)
one-fits at b bs None n c three two e =
    let one = number-none 1 (b ∷ bs) e in
    bad_character b bs (record {
      no_blank = n.no_blank;
      no_letter = n.no_letter;
      no_digit = n.no_digit;
      no_quote = n.no_quote;
      no_symbol = λ j s rest h p. let l = symbol-len j s h in let x = three j s rest h p in let y = two j s rest h p in let z = one j s rest h p in absurd (omega arith);
    })

two-fits : (at b : ℕ) (bs : List ℕ) (o : Option ℕ) → IsNoOther b → BeginsNoComment (b ∷ bs) → HasNone 3 (b ∷ bs) → symbol_number 2 (b ∷ bs) ≡ o
    → Fits at (b ∷ bs) (symbol_by o 2 (symbol_by (symbol_number 1 (b ∷ bs)) 1 (Err (BadChar at))))
two-fits at b bs (Some k) n c three e = found-fits at (b ∷ bs) 2 k c (number-found 2 (b ∷ bs) k e) (λ j s rest h p. let l = symbol-len j s h in let x = three j s rest h p in omega arith)
two-fits at b bs None n c three e = one-fits at b bs (symbol_number 1 (b ∷ bs)) n c three (number-none 2 (b ∷ bs) e) refl

three-fits : (at b : ℕ) (bs : List ℕ) (o : Option ℕ) → IsNoOther b → BeginsNoComment (b ∷ bs) → symbol_number 3 (b ∷ bs) ≡ o
    → Fits at (b ∷ bs) (symbol_by o 3 (symbol_by (symbol_number 2 (b ∷ bs)) 2 (symbol_by (symbol_number 1 (b ∷ bs)) 1 (Err (BadChar at)))))
three-fits at b bs (Some k) n c e = found-fits at (b ∷ bs) 3 k c (number-found 3 (b ∷ bs) k e) (λ j s rest h p. let l = symbol-len j s h in omega arith)
three-fits at b bs None n c e = two-fits at b bs (symbol_number 2 (b ∷ bs)) n c (number-none 3 (b ∷ bs) e) refl

symbol-fits : (at b : ℕ) (bs : List ℕ) → IsNoOther b → BeginsNoComment (b ∷ bs) → Fits at (b ∷ bs) (symbol_of at (b ∷ bs))
unfolding symbol_of
symbol-fits at b bs n c = three-fits at b bs (symbol_number 3 (b ∷ bs)) n c refl

lone-comment : (b : ℕ) → BeginsNoComment (b ∷ [])
lone-comment b = record { no_line = λ rest e. cc; no_block = λ rest e. cc }

no-pair : (b c d : ℕ) → b ≡ d → c ≡ 45 → (eqb b d && eqb c 45) ≡ false → ⊥
no-pair b c d x y h = let both = both-and (eqb b d) (eqb c 45) (eq-eqb b d x) (eq-eqb c 45 y) in absurd (cc)

pair-fits : (at b c : ℕ) (bs : List ℕ) (d : ℕ) (r : Result Front LexFault) → b ≡ d → c ≡ 45 → Fits at (d ∷ 45 ∷ bs) r → Fits at (b ∷ c ∷ bs) r
pair-fits at b c bs d r x y h = let P : List ℕ → Type 0 = λ q. Fits at q r in subst P (ap (λ (q : ℕ). q ∷ 45 ∷ bs) (sym x) ∙ ap (λ (q : ℕ). b ∷ q ∷ bs) (sym y)) h

pair-comment : (b c : ℕ) (bs : List ℕ) → (eqb b 45 && eqb c 45) ≡ false → (eqb b 123 && eqb c 45) ≡ false → BeginsNoComment (b ∷ c ∷ bs)
pair-comment b c bs l m = record {
  no_line = λ rest e. let x : b ≡ 45 = cc in let y : c ≡ 45 = cc in no-pair b c 45 x y l;
  no_block = λ rest e. let x : b ≡ 123 = cc in let y : c ≡ 45 = cc in no-pair b c 123 x y m;
}

sign-fits : (at b : ℕ) (bs : List ℕ) → IsNoOther b → Fits at (b ∷ bs) (sign_of at (b ∷ bs))
unfolding sign_of
sign-fits at b [] n = symbol-fits at b [] n (lone-comment b)
sign-fits at b (c ∷ bs) n =
    fits-cond at (b ∷ c ∷ bs) (eqb b 45 && eqb c 45) (Ok (Gap (length (run_of is_in_line bs) + 2))) _
    (λ e. let both = and-both (eqb b 45) (eqb c 45) e in pair-fits at b c bs 45 (Ok (Gap (length (run_of is_in_line bs) + 2))) (eqb-true b 45 both.0) (eqb-true c 45 both.1) (line-fits at bs))
    (λ l. fits-cond at (b ∷ c ∷ bs) (eqb b 123 && eqb c 45) (ended_by at (before_end bs)) _
    (λ e. let both = and-both (eqb b 123) (eqb c 45) e in pair-fits at b c bs 123 (ended_by at (before_end bs)) (eqb-true b 123 both.0) (eqb-true c 45 both.1) (block-fits at bs (before_end bs) refl))
    (λ m. symbol-fits at b (c ∷ bs) n (pair-comment b c bs l m)))

-- ---- the front

pub front-fits : (at b : ℕ) (bs : List ℕ) → Fits at (b ∷ bs) (front_of at (b ∷ bs))
unfolding front_of
front-fits at b bs =
    fits-cond at (b ∷ bs) (is_blank b) _ _
    (λ e. record { gap = b ∷ []; rest = bs; parts = refl; len = refl; is = blank b bs e })
    (λ n. fits-cond at (b ∷ bs) (is_letter b) _ _
    (λ e. name-fits at (b ∷ bs) (run_of is_name_byte (b ∷ bs)) (past_run is_name_byte (b ∷ bs)) (word_number (run_of is_name_byte (b ∷ bs))) (run-parts is_name_byte (b ∷ bs)) (run-name b bs e) (run-ends is_name_byte (b ∷ bs)) refl)
    (λ l. fits-cond at (b ∷ bs) (is_digit b) _ _
    (λ e. numbered-fits at (b ∷ bs) (run_of is_digit (b ∷ bs)) (past_run is_digit (b ∷ bs)) (run-parts is_digit (b ∷ bs)) (run-numeral b bs e) (run-ends is_digit (b ∷ bs)))
    (λ d. fits-cond at (b ∷ bs) (eqb b 34) _ _
    (λ e. let P : ℕ → Type 0 = λ q. Fits at (q ∷ bs) (quoted at bs) in subst P (sym (eqb-true b 34 e)) (quoted-fits at bs))
    (λ q. sign-fits at b bs (record { no_blank = n; no_letter = l; no_digit = d; no_quote = q })))))
