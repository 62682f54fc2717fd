-- What stands at the front of a text: a blank, a comment, a token, or a fault.
use Rattle.std.specs.Prelude.{◌≡◌, ◌≢◌, ℕ, ◌+◌, ◌^◌, ◌<◌, ◌≤◌, pos, Bool, true, false, not, ◌||◌, eqb, List, [], ◌∷◌, ◌++◌, length, slice_get, Some, None}
use Rattle.std.specs.Str.Parse.{digits_value}
use Rattle.txs_values.specs.Spelling.{is_digit, is_letter, is_name_byte, escape_of}
use Rattle.txs_lexer.specs.Words.{words, symbols}
use Rattle.txs_lexer.specs.declared.fault.LexFault.{LexFault}
use Rattle.txs_lexer.specs.declared.fault.LexFault.TheVariants.{BadChar, OpenText, OpenComment, Number as TooLarge}
use Rattle.txs_lexer.specs.declared.token.Kind.{Kind}
use Rattle.txs_lexer.specs.declared.token.Kind.TheVariants.{Name, Word, Number, Quoted, Symbol}

-- ---- runs

-- each byte passes
abbrev pub AreAll : (ℕ → Bool) → List ℕ → Type 0
AreAll p [] = Unit {0}
AreAll p (b ∷ bs) = (p b ≡ true) × AreAll p bs

-- nothing stands here, or first a byte that doesn't pass
abbrev pub EndsRun : (ℕ → Bool) → List ℕ → Type 0
EndsRun p [] = Unit {0}
EndsRun p (b ∷ bs) = p b ≡ false

-- ---- blanks and comments

-- a space, a tab, a carriage return or a line feed
abbrev pub is_blank : ℕ → Bool
is_blank b = eqb b 32 || (eqb b 9 || (eqb b 13 || eqb b 10))

-- no line feed
abbrev pub is_in_line : ℕ → Bool
is_in_line b = not (eqb b 10)

-- the `-}` between the two is the first there is
abbrev pub IsFirstEnd : List ℕ → List ℕ → Type 0
IsFirstEnd inside rest = (front back : List ℕ) → inside ++ (45 ∷ 125 ∷ rest) ≡ front ++ (45 ∷ 125 ∷ back) → length inside ≤ length front

-- no `-}` is in the text
abbrev pub HasNoEnd : List ℕ → Type 0
HasNoEnd text = (front back : List ℕ) → text ≢ front ++ (45 ∷ 125 ∷ back)

-- the piece before this rest is one blank or one comment
pub data IsGap : List ℕ → List ℕ → Type 0 where
  blank : (b : ℕ) (rest : List ℕ) → is_blank b ≡ true → IsGap (b ∷ []) rest
  line_comment : (line rest : List ℕ) → AreAll is_in_line line → EndsRun is_in_line rest → IsGap (45 ∷ 45 ∷ line) rest
  block_comment : (inside rest : List ℕ) → IsFirstEnd inside rest → IsGap (123 ∷ 45 ∷ (inside ++ 45 ∷ 125 ∷ [])) rest

-- no comment begins here
pub record BeginsNoComment (text : List ℕ) : Type 0 where
  pub no_line : (rest : List ℕ) → text ≢ 45 ∷ 45 ∷ rest
  pub no_block : (rest : List ℕ) → text ≢ 123 ∷ 45 ∷ rest

-- ---- tokens

-- a letter, and then letters, digits and `_`
abbrev pub IsName : List ℕ → Type 0
IsName [] = ⊥
IsName (b ∷ bs) = (is_letter b ≡ true) × AreAll is_name_byte bs

-- one digit or more
abbrev pub IsNumeral : List ℕ → Type 0
IsNumeral [] = ⊥
IsNumeral (b ∷ bs) = (is_digit b ≡ true) × AreAll is_digit bs

-- a byte of a text that stands for itself: no quote, no backslash and no line feed
abbrev pub is_plain : ℕ → Bool
is_plain b = not (eqb b 34 || (eqb b 92 || eqb b 10))

-- a text, and how it stands between its quotes
pub data Quotes : List ℕ → List ℕ → Type 0 where
  nothing : Quotes [] []
  as_it_is : (b : ℕ) (bs ws : List ℕ) → is_plain b ≡ true → Quotes bs ws → Quotes (b ∷ bs) (b ∷ ws)
  escaped_by : (b c : ℕ) (bs ws : List ℕ) → escape_of c ≡ Some b → Quotes bs ws → Quotes (b ∷ bs) (92 ∷ c ∷ ws)

-- the slice spells the token
abbrev pub IsToken : Kind → List ℕ → Type 0
IsToken (Name name) slice = (name ≡ slice) × IsName slice × ((k : ℕ) → slice_get words k ≢ Some slice)
IsToken (Word k) slice = slice_get words k ≡ Some slice
IsToken (Number n) slice = (n ≡ pos (digits_value 10 slice)) × IsNumeral slice × (digits_value 10 slice < 2 ^ 127)
IsToken (Quoted text) slice = (ws : List ℕ) × (slice ≡ 34 ∷ (ws ++ 34 ∷ [])) × Quotes text ws
IsToken (Symbol k) slice = slice_get symbols k ≡ Some slice

-- no longer symbol begins here
abbrev pub IsLongestSymbol : List ℕ → List ℕ → Type 0
IsLongestSymbol slice rest = (k : ℕ) (other behind : List ℕ) → slice_get symbols k ≡ Some other → slice ++ rest ≡ other ++ behind → length other ≤ length slice

-- the token of this slice is the longest one before this rest
abbrev pub IsLongest : Kind → List ℕ → List ℕ → Type 0
IsLongest (Name name) slice rest = EndsRun is_name_byte rest
IsLongest (Word k) slice rest = EndsRun is_name_byte rest
IsLongest (Number n) slice rest = EndsRun is_digit rest
IsLongest (Quoted text) slice rest = Unit {0}
IsLongest (Symbol k) slice rest = BeginsNoComment (slice ++ rest) × IsLongestSymbol slice rest

-- ---- faults

-- what can stand between quotes, be its escapes right or wrong
pub data IsInside : List ℕ → Type 0 where
  empty : IsInside []
  plain : (b : ℕ) (bs : List ℕ) → is_plain b ≡ true → IsInside bs → IsInside (b ∷ bs)
  escape : (c : ℕ) (bs : List ℕ) → eqb c 10 ≡ false → IsInside bs → IsInside (92 ∷ c ∷ bs)

-- the text ends here, or its line does, also behind a backslash
pub data IsBroken : List ℕ → Type 0 where
  at_end : IsBroken []
  at_line_feed : (bs : List ℕ) → IsBroken (10 ∷ bs)
  behind_backslash : IsBroken (92 ∷ [])
  backslash_and_line_feed : (bs : List ℕ) → IsBroken (92 ∷ 10 ∷ bs)

-- none of a blank, a name, a number, a text in quotes, a symbol or a comment begins with this byte here
pub record BeginsNothing (b : ℕ) (bs : List ℕ) : Type 0 where
  pub no_blank : is_blank b ≡ false
  pub no_letter : is_letter b ≡ false
  pub no_digit : is_digit b ≡ false
  pub no_quote : eqb b 34 ≡ false
  pub no_symbol : (k : ℕ) (symbol rest : List ℕ) → slice_get symbols k ≡ Some symbol → b ∷ bs ≢ symbol ++ rest

-- the text from this place on begins with a fault
pub data Fails (at : ℕ) : List ℕ → LexFault → Type 0 where
  bad_character : (b : ℕ) (bs : List ℕ) → BeginsNothing b bs → Fails at (b ∷ bs) (BadChar at)
  open_comment : (more : List ℕ) → HasNoEnd more → Fails at (123 ∷ 45 ∷ more) (OpenComment at)
  too_large : (slice rest : List ℕ) → IsNumeral slice → EndsRun is_digit rest → 2 ^ 127 ≤ digits_value 10 slice → Fails at (slice ++ rest) (TooLarge at)
  open_text : (inside rest : List ℕ) → IsInside inside → IsBroken rest → Fails at (34 ∷ (inside ++ rest)) (OpenText at)
  bad_escape : (text ws : List ℕ) (c : ℕ) (more rest : List ℕ) → Quotes text ws → escape_of c ≡ None → eqb c 10 ≡ false → IsInside more
      → Fails at (34 ∷ (ws ++ (92 ∷ c ∷ (more ++ 34 ∷ rest)))) (BadChar (at + 1 + length ws))
