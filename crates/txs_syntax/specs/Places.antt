-- How far tokens may begin an expression, and how deep they may stand.
use Rattle.std.specs.Prelude.{◌≡◌, ◌≤◌, ◌<◌, ℕ, [], ◌∷◌, ◌++◌}
use Rattle.txs_lexer.specs.declared.token.Token.{Token}
use Rattle.txs_syntax.specs.declared.ast.Ast.{Ast}
use Rattle.txs_syntax.specs.Grammar.{Tokens, Marked, tokens_of, expr, SpellsAt, Spells}

-- the tokens of some expression begin so
abbrev pub Begins : Tokens → Type 0
Begins p = (tree : Ast) × (more : Tokens) × Spells tree (p ++ more)

-- p is the longest run from the front of the tokens with which the tokens of some expression begin, and rest is what follows
pub record Longest (tokens p rest : Tokens) : Type 0 where
  pub split : tokens ≡ p ++ rest
  pub begins : Begins p
  pub no_longer : (c : Token) (more : Tokens) → rest ≡ c ∷ more → Begins (p ++ c ∷ []) → ⊥

-- the depth that no token may have
unfoldable pub depth_limit : ℕ
depth_limit = 501

-- each depth is below the limit
abbrev pub Shallow : ℕ → Marked → Type 0
Shallow limit [] = Unit {0}
Shallow limit (m ∷ us) = (m.0 < limit) × Shallow limit us

-- the tokens spell the expression from depth d on, and each of them is within the depth
abbrev pub SpellsWithin : ℕ → Ast → Tokens → Type 0
SpellsWithin d tree p = (marked : Marked) × SpellsAt expr d tree marked × (tokens_of marked ≡ p) × Shallow depth_limit marked

-- the tokens of some expression from depth d on begin with p, and each of p is within the depth
abbrev pub Within : ℕ → Tokens → Type 0
Within d p = (tree : Ast) × (before more : Marked) × SpellsAt expr d tree (before ++ more) × (tokens_of before ≡ p) × Shallow depth_limit before

-- the tokens of some expression from depth d on begin with p and c, and c is the first that is too deep
abbrev pub TooDeep : ℕ → Tokens → Token → Type 0
TooDeep d p c = (tree : Ast) × (before more : Marked) × (depth : ℕ) × SpellsAt expr d tree (before ++ (depth, c) ∷ more)
    × (tokens_of before ≡ p) × Shallow depth_limit before × (depth_limit ≤ depth)
