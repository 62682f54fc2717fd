-- How the front of a text is read, one function of the code each.
use Rattle.std.specs.Prelude.{◌≡◌, ℕ, ◌+◌, ◌^◌, ◌<◌, ◌≤◌, ℤ, pos, Bool, false, not, ◌&&◌, cond, eqb, nat_lt, nat_le, List, [], ◌∷◌, ◌++◌, IsUtf8, length, take, drop, Option, Some, None, Result, Ok, Err, bytes_eq}
use Rattle.std.specs.List.{position_from}
use Rattle.std.specs.Str.Parse.{digits_value}
use Rattle.txs_values.specs.Spelling.{is_digit, is_letter, is_name_byte, escape_of, run_of}
use Rattle.txs_lexer.specs.Tokens.{is_blank, is_in_line, is_plain}
use Rattle.txs_lexer.specs.Lexed.{Answer, Lexed}
use Rattle.txs_lexer.specs.Words.{words, symbols}
use Rattle.txs_lexer.specs.declared.fault.LexFault.{LexFault}
use Rattle.txs_lexer.specs.declared.fault.LexFault.TheVariants.{NoMemory, TooLong, NotUtf8, BadChar, OpenText, OpenComment, Number as TooLarge}
use Rattle.txs_lexer.specs.declared.front.Front.{Front}
use Rattle.txs_lexer.specs.declared.front.Front.TheVariants.{Gap, Lexeme}
use Rattle.txs_lexer.specs.declared.token.Token.{Token}
use Rattle.txs_lexer.specs.declared.token.Kind.TheVariants.{Name, Word, Number, Quoted, Symbol}

-- a fault that the text gives, or want of memory, which says nothing
abbrev pub Stops : LexFault → Type 0 → Type 0
Stops NoMemory Is = Unit {0}
Stops TooLong Is = Is
Stops (NotUtf8 at) Is = Is
Stops (BadChar at) Is = Is
Stops (OpenText at) Is = Is
Stops (OpenComment at) Is = Is
Stops (TooLarge at) Is = Is

-- what a function returned is what reading gives, unless memory ran out
abbrev pub Gives : {A : Type 0} → Result A LexFault → Result A LexFault → Type 0
Gives (Ok x) want = want ≡ Ok x
Gives (Err fault) want = Stops fault (want ≡ Err fault)

-- ---- names

-- the place of these bytes among the texts
unfoldable pub place_of : List (List ℕ) → List ℕ → Option ℕ
place_of texts bytes = position_from (λ text. bytes_eq text bytes) 0 texts

abbrev pub word_number : List ℕ → Option ℕ
word_number name = place_of words name

abbrev pub named_by : Option ℕ → List ℕ → Front
named_by None name = Lexeme (Name name) (length name)
named_by (Some k) name = Lexeme (Word k) (length name)

-- ---- numbers

-- the number of these digits, where it is in range
abbrev pub number_of : List ℕ → Option ℤ
number_of digits = cond (nat_lt (digits_value 10 digits) (2 ^ 127)) (Some (pos (digits_value 10 digits))) None

abbrev pub numbered_by : ℕ → ℕ → Option ℤ → Result Front LexFault
numbered_by at len None = Err (TooLarge at)
numbered_by at len (Some n) = Ok (Lexeme (Number n) len)

unfoldable pub numbered : ℕ → List ℕ → Result Front LexFault
numbered at digits = numbered_by at (length digits) (number_of digits)

-- ---- texts

-- how many bytes can stand inside, up to a quote or to where the text breaks off
abbrev pub inside_len : List ℕ → ℕ
inside_len [] = 0
inside_len (b ∷ []) = cond (is_plain b) 1 0
inside_len (b ∷ c ∷ bs) = cond (is_plain b) (inside_len (c ∷ bs) + 1) (cond (eqb b 92 && not (eqb c 10)) (inside_len bs + 2) 0)

abbrev pub escaped : Option ℕ → Option (ℕ × ℕ)
escaped None = None
escaped (Some b) = Some (b, 2)

-- the first character of what stands between quotes, and in how many bytes it is written
abbrev pub character : List ℕ → Option (ℕ × ℕ)
character [] = None
character (b ∷ []) = cond (eqb b 92) None (Some (b, 1))
character (b ∷ c ∷ bs) = cond (eqb b 92) (escaped (escape_of c)) (Some (b, 1))

abbrev pub with_byte : ℕ → Result (List ℕ) ℕ → Result (List ℕ) ℕ
with_byte b (Ok bs) = Ok (b ∷ bs)
with_byte b (Err at) = Err at

-- a place so much farther on
abbrev pub farther : ℕ → Result (List ℕ) ℕ → Result (List ℕ) ℕ
farther n (Ok bs) = Ok bs
farther n (Err at) = Err (n + at)

abbrev pub with_escape : Option ℕ → Result (List ℕ) ℕ → Result (List ℕ) ℕ
with_escape None read = Err 0
with_escape (Some b) read = with_byte b (farther 2 read)

-- what stands between the quotes means, or how far in the first wrong escape is
abbrev pub meaning : List ℕ → Result (List ℕ) ℕ
meaning [] = Ok []
meaning (b ∷ []) = cond (eqb b 92) (Err 0) (Ok (b ∷ []))
meaning (b ∷ c ∷ bs) = cond (eqb b 92) (with_escape (escape_of c) (meaning bs)) (with_byte b (farther 1 (meaning (c ∷ bs))))

abbrev pub meant : ℕ → ℕ → Result (List ℕ) ℕ → Result Front LexFault
meant at len (Ok text) = Ok (Lexeme (Quoted text) (len + 2))
meant at len (Err k) = Err (BadChar (at + 1 + k))

abbrev pub begins_with : ℕ → List ℕ → Bool
begins_with c [] = false
begins_with c (b ∷ bs) = eqb b c

-- a text whose opening quote stands before these bytes
unfoldable pub quoted : ℕ → List ℕ → Result Front LexFault
quoted at behind =
    cond (begins_with 34 (drop (inside_len behind) behind))
    (meant at (inside_len behind) (meaning (take (inside_len behind) behind)))
    (Err (OpenText at))

-- ---- comments and symbols

-- so many more
abbrev pub more_by : ℕ → Option ℕ → Option ℕ
more_by n None = None
more_by n (Some k) = Some (n + k)

-- how many bytes stand before the first `-}`
abbrev pub before_end : List ℕ → Option ℕ
before_end [] = None
before_end (b ∷ bs) = cond (eqb b 45 && begins_with 125 bs) (Some 0) (more_by 1 (before_end bs))

abbrev pub ended_by : ℕ → Option ℕ → Result Front LexFault
ended_by at None = Err (OpenComment at)
ended_by at (Some n) = Ok (Gap (n + 4))

-- the number of the symbol that the first n bytes are
abbrev pub symbol_number : ℕ → List ℕ → Option ℕ
symbol_number n text = cond (nat_le n (length text)) (place_of symbols (take n text)) None

abbrev pub symbol_by : Option ℕ → ℕ → Result Front LexFault → Result Front LexFault
symbol_by None n shorter = shorter
symbol_by (Some k) n shorter = Ok (Lexeme (Symbol k) n)

-- no symbol has more than three bytes
unfoldable pub symbol_of : ℕ → List ℕ → Result Front LexFault
symbol_of at text =
    symbol_by (symbol_number 3 text) 3
    (symbol_by (symbol_number 2 text) 2
    (symbol_by (symbol_number 1 text) 1
    (Err (BadChar at))))

-- a comment's start goes before a symbol
unfoldable pub sign_of : ℕ → List ℕ → Result Front LexFault
sign_of at [] = symbol_of at []
sign_of at (b ∷ []) = symbol_of at (b ∷ [])
sign_of at (b ∷ c ∷ bs) =
    cond (eqb b 45 && eqb c 45) (Ok (Gap (length (run_of is_in_line bs) + 2)))
    (cond (eqb b 123 && eqb c 45) (ended_by at (before_end bs))
    (symbol_of at (b ∷ c ∷ bs)))

-- ---- the front of a text

unfoldable pub front_of : ℕ → List ℕ → Result Front LexFault
front_of at [] = Ok (Gap 0)
front_of at (b ∷ bs) =
    cond (is_blank b) (Ok (Gap 1))
    (cond (is_letter b) (Ok (named_by (word_number (run_of is_name_byte (b ∷ bs))) (run_of is_name_byte (b ∷ bs))))
    (cond (is_digit b) (numbered at (run_of is_digit (b ∷ bs)))
    (cond (eqb b 34) (quoted at bs)
    (sign_of at (b ∷ bs)))))

-- the bytes are the rest of a text that is UTF-8
pub record IsTail (rest : List ℕ) : Type 0 where
  pub front : List ℕ
  pub utf8 : IsUtf8 (front ++ rest)

-- the text gives what a function returned, unless memory ran out
abbrev pub Reads : ℕ → List ℕ → Answer → Type 0
Reads at text (Ok ts) = Lexed at text (Ok ts)
Reads at text (Err fault) = Stops fault (Lexed at text (Err fault))

-- what stands behind tokens that were read before
abbrev pub behind : List Token → Answer → Answer
behind tokens (Ok more) = Ok (tokens ++ more)
behind tokens (Err fault) = Err fault

-- n bytes were read: whatever the rest of the text gives, behind the tokens had now, the text gives behind those had before
pub record Steps (at : ℕ) (text : List ℕ) (old new : List Token) (n : ℕ) : Type 0 where
  pub some : 0 < n
  pub within : n ≤ length text
  pub goes : (answer : Answer) → Lexed (at + n) (drop n text) answer → (more : Answer) × Lexed at text more × (behind old more ≡ behind new answer)
