-- Which symbol stands in front.
use Rattle.std.proofs.Common.{◌≡◌, ◌≢◌, ℕ, ◌<◌, ◌≤◌, Bool, true, false, not, ◌&&◌, cond, eqb, nat_le, List, [], ◌∷◌, ◌++◌, length, take, drop, Option, Some, None, refl, sym, ◌∙◌, ap, length-append, arith}
use Rattle.std.proofs.lemmas.List.{take-append-drop, length-take-le}
use Rattle.std.specs.List.{slice_get, list_all}
use Rattle.txs_values.specs.Spelling.{is_digit, is_letter}
use Rattle.txs_lexer.specs.Words.{symbols}
use Rattle.txs_lexer.specs.Tokens.{is_blank, IsLongestSymbol}
use Rattle.txs_lexer.specs.Scan.{place_of, symbol_number}
use Rattle.txs_lexer.proofs.Places.{place-found, place-is, symbols-distinct, symbol-short, all-at}
use Rattle.txs_values.proofs.Tests.{and-both, true-le, le-true, yes}
use Rattle.txs_lexer.proofs.Utf8.{take-seam}

pub symbol-len : (k : ℕ) (s : List ℕ) → slice_get symbols k ≡ Some s → (1 ≤ length s) × (length s ≤ 3)
symbol-len k s h = let both = and-both (nat_le 1 (length s)) (nat_le (length s) 3) (symbol-short k s h) in (true-le 1 (length s) both.0, true-le (length s) 3 both.1)

-- the first n bytes are the symbol
pub record IsSymbolAt (n : ℕ) (text : List ℕ) (k : ℕ) : Type 0 where
  pub within : n ≤ length text
  pub symbol : slice_get symbols k ≡ Some (take n text)

number-at : (n : ℕ) (text : List ℕ) (k : ℕ) (t : Bool) → nat_le n (length text) ≡ t → cond t (place_of symbols (take n text)) None ≡ Some k → IsSymbolAt n text k
number-at n text k true e h = record { within = true-le n (length text) e; symbol = place-found symbols (take n text) k h }
number-at n text k false e h = absurd (cc)

pub number-found : (n : ℕ) (text : List ℕ) (k : ℕ) → symbol_number n text ≡ Some k → IsSymbolAt n text k
number-found n text k h = number-at n text k (nat_le n (length text)) refl h

pub number-is : (k : ℕ) (s rest : List ℕ) (n : ℕ) → slice_get symbols k ≡ Some s → length s ≡ n → symbol_number n (s ++ rest) ≡ Some k
number-is k s rest n h e =
    let long : n ≤ length (s ++ rest) = omega (arith, length-append s rest) in
    let front : take n (s ++ rest) ≡ s = ap (λ (m : ℕ). take m (s ++ rest)) (sym e) ∙ take-seam s rest in
    yes (nat_le n (length (s ++ rest))) (place_of symbols (take n (s ++ rest))) None (le-true n (length (s ++ rest)) long)
    ∙ place-is symbols (take n (s ++ rest)) k symbols-distinct (h ∙ ap Some (sym front))

pub number-none : (n : ℕ) (text : List ℕ) → symbol_number n text ≡ None → (k : ℕ) (s rest : List ℕ) → slice_get symbols k ≡ Some s → text ≡ s ++ rest → length s ≢ n
number-none n text e k s rest h parts len =
    let some : Some k ≡ None = sym (number-is k s rest n h len) ∙ (ap (symbol_number n) (sym parts) ∙ e) in
    cc

none-by : (n : ℕ) (text : List ℕ) (o : Option ℕ) → symbol_number n text ≡ o → ((k : ℕ) → IsSymbolAt n text k → ⊥) → symbol_number n text ≡ None
none-by n text None e h = e
none-by n text (Some k) e h = absurd (h k (number-found n text k e))

pub taken-len : (n : ℕ) (text : List ℕ) → n ≤ length text → length (take n text) ≡ n
taken-len n text h = length-take-le n text h

-- no longer symbol is found than the longest
pub longest-none : (s rest : List ℕ) (n : ℕ) → IsLongestSymbol s rest → length s < n → symbol_number n (s ++ rest) ≡ None
longest-none s rest n h l =
    none-by n (s ++ rest) (symbol_number n (s ++ rest)) refl
    (λ k a. let le = h k (take n (s ++ rest)) (drop n (s ++ rest)) a.symbol (sym (take-append-drop n (s ++ rest))) in absurd (omega (arith, taken-len n (s ++ rest) a.within)))

-- none is found where none begins the text
pub begins-none : (text : List ℕ) (n : ℕ) → ((k : ℕ) (s rest : List ℕ) → slice_get symbols k ≡ Some s → text ≢ s ++ rest) → symbol_number n text ≡ None
begins-none text n h = none-by n text (symbol_number n text) refl (λ k a. h k (take n text) (drop n text) a.symbol (sym (take-append-drop n text)))

-- ---- how a symbol begins

abbrev pub begins_symbol : List ℕ → Bool
begins_symbol [] = false
begins_symbol (b ∷ bs) = not (is_blank b) && (not (is_letter b) && (not (is_digit b) && not (eqb b 34)))

symbols-begin : list_all begins_symbol symbols ≡ true
symbols-begin = refl

pub symbol-begins : (k : ℕ) (s : List ℕ) → slice_get symbols k ≡ Some s → begins_symbol s ≡ true
symbol-begins k s h = all-at begins_symbol symbols k s symbols-begin h
