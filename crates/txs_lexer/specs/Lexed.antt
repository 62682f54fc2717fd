-- What a text gives: its tokens, or the first fault.
use Rattle.std.specs.Prelude.{ℕ, ◌+◌, ◌<◌, ◌≤◌, List, [], ◌∷◌, ◌++◌, length, drop, slice_range, Result, Ok, Err, IsUtf8}
use Rattle.std.specs.Str.{IsValidUpTo}
use Rattle.txs_lexer.specs.Tokens.{IsGap, IsToken, IsLongest, Fails}
use Rattle.txs_lexer.specs.declared.fault.LexFault.{LexFault}
use Rattle.txs_lexer.specs.declared.fault.LexFault.TheVariants.{TooLong, NotUtf8}
use Rattle.txs_lexer.specs.declared.token.Token.{Token}
use Rattle.txs_lexer.specs.declared.token.Kind.{Kind}

-- the tokens of a text, or its fault
abbrev pub Answer : Type 0
Answer = Result (List Token) LexFault

-- what stands in front of an answer
abbrev pub with_token : Token → Answer → Answer
with_token t (Ok ts) = Ok (t ∷ ts)
with_token t (Err fault) = Err fault

-- the text from this place on gives the answer
pub data Lexed : ℕ → List ℕ → Answer → Type 0 where
  nothing_left : (at : ℕ) → Lexed at [] (Ok [])
  over_gap : (at : ℕ) (gap rest : List ℕ) (answer : Answer) → IsGap gap rest → Lexed (at + length gap) rest answer → Lexed at (gap ++ rest) answer
  over_token : (at : ℕ) (kind : Kind) (slice rest : List ℕ) (answer : Answer) → IsToken kind slice → IsLongest kind slice rest
      → Lexed (at + length slice) rest answer → Lexed at (slice ++ rest) (with_token (record { kind = kind; from = at; to = at + length slice }) answer)
  at_fault : (at : ℕ) (text : List ℕ) (fault : LexFault) → Fails at text fault → Lexed at text (Err fault)

-- as many bytes as a text may have
unfoldable pub text_limit : ℕ
text_limit = 1048576

-- the text of these bytes gives the answer
pub data IsLexed (bytes : List ℕ) : Answer → Type 0 where
  too_long : text_limit < length bytes → IsLexed bytes (Err TooLong)
  not_utf8 : (at : ℕ) → length bytes ≤ text_limit → IsValidUpTo bytes at → IsLexed bytes (Err (NotUtf8 at))
  read : (answer : Answer) → length bytes ≤ text_limit → IsUtf8 bytes → Lexed 0 bytes answer → IsLexed bytes answer

-- blanks and comments lead from this text to that rest of it
pub data LeadsTo : List ℕ → List ℕ → Type 0 where
  here : (text : List ℕ) → LeadsTo text text
  over : (gap text rest : List ℕ) → IsGap gap text → LeadsTo text rest → LeadsTo (gap ++ text) rest

-- from this place on: each token is spelled by its slice of the text, and only blanks and comments stand before it and behind the last
pub data AreSlices (text : List ℕ) : ℕ → List Token → Type 0 where
  no_more : (at : ℕ) → LeadsTo (drop at text) [] → AreSlices text at []
  one_more : (at : ℕ) (t : Token) (ts : List Token) → at ≤ t.from → t.from < t.to → t.to ≤ length text → LeadsTo (drop at text) (drop t.from text)
      → IsToken t.kind (slice_range text t.from t.to) → AreSlices text t.to ts → AreSlices text at (t ∷ ts)
