-- What is answered of the tokens from one on.
use Rattle.std.specs.Prelude.{◌≡◌, ◌+◌, ◌⊎◌, ◌↔◌, ℕ, [], ◌∷◌, ◌++◌, length, drop, Result, Ok, Err}
use Rattle.txs_lexer.specs.declared.token.Token.{Token}
use Rattle.txs_syntax.specs.declared.ast.Ast.{Ast}
use Rattle.txs_syntax.specs.Grammar.{Tokens, Spells}
use Rattle.txs_syntax.specs.Places.{Longest, SpellsWithin, Within, TooDeep}
use Rattle.txs_parse_expr.specs.declared.fault.ParseFault.{ParseFault}
use Rattle.txs_parse_expr.specs.declared.fault.ParseFault.TheVariants.{Unexpected, Deep, NoMemory}

-- the place of the first token, or of the text's end
abbrev pub offset : ℕ → Tokens → ℕ
offset len [] = len
offset len (c ∷ ts) = c.from

-- p, the longest run that may begin an expression, is that expression, and the token after it has this number
pub record IsRead (tokens : Tokens) (from depth : ℕ) (tree : Ast) (next : ℕ) (p rest : Tokens) : Type 0 where
  pub longest : Longest (drop from tokens) p rest
  pub spelled : SpellsWithin depth tree p
  pub number : next ≡ from + length p

-- p, the longest run that may begin an expression, is none, and this is the place after it
pub record IsUnexpected (tokens : Tokens) (from len depth at : ℕ) (p rest : Tokens) : Type 0 where
  pub longest : Longest (drop from tokens) p rest
  pub no_tree : (tree : Ast) → Spells tree p → ⊥
  pub within : Within depth p
  pub offset : at ≡ offset len rest

-- the token c after p is the first that is too deep, and this is its place
pub record IsDeep (tokens : Tokens) (from depth at : ℕ) (p : Tokens) (c : Token) (rest : Tokens) : Type 0 where
  pub split : drop from tokens ≡ p ++ c ∷ rest
  pub deep : TooDeep depth p c
  pub offset : at ≡ c.from

-- the answer for the tokens from the one with the number `from` on, in a text of so many bytes, where the first token has this depth
abbrev pub IsAnswer : Tokens → ℕ → ℕ → ℕ → Result (Ast × ℕ) ParseFault → Type 0
IsAnswer tokens from len depth (Ok e) = (p rest : Tokens) × IsRead tokens from depth e.0 e.1 p rest
IsAnswer tokens from len depth (Err (Unexpected at)) = (p rest : Tokens) × IsUnexpected tokens from len depth at p rest
IsAnswer tokens from len depth (Err (Deep at)) = (p rest : Tokens) × (c : Token) × IsDeep tokens from depth at p c rest
IsAnswer tokens from len depth (Err NoMemory) = ⊥

-- but for want of memory, it's the answer, and no other is one
abbrev pub IsExact : Tokens → ℕ → ℕ → ℕ → Result (Ast × ℕ) ParseFault → Type 0
IsExact tokens from len depth result =
    (result ≡ Err NoMemory) ⊎ ((answer : Result (Ast × ℕ) ParseFault) → (result ≡ answer) ↔ IsAnswer tokens from len depth answer)
