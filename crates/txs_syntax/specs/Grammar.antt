-- Which tokens spell which expression, and how deep each of them stands.
use Rattle.std.specs.Prelude.{◌≡◌, ℕ, suc, cond, eqb, List, [], ◌∷◌, ◌++◌, map, Option, Some, None}
use Rattle.txs_lexer.specs.declared.token.Token.{Token}
use Rattle.txs_lexer.specs.declared.token.Kind.{Kind}
use Rattle.txs_lexer.specs.declared.token.Kind.TheVariants as kind
use Rattle.txs_lexer.specs.declared.symbol.TheConstants.{EQUAL, DIFFERENT, AT_MOST, AT_LEAST, LESS, MORE, JOIN, PLUS, MINUS, TIMES, DIVIDE, REMAINDER, AND, OR, IS, OPEN, CLOSE, COMMA, SEMICOLON}
use Rattle.txs_lexer.specs.declared.word.TheConstants.{IN, NI, LET, IF, THEN, ELSE, FI}
use Rattle.txs_syntax.specs.declared.ast.Name.{Name}
use Rattle.txs_syntax.specs.declared.ast.Op.{Op}
use Rattle.txs_syntax.specs.declared.ast.Op.TheVariants as op
use Rattle.txs_syntax.specs.declared.ast.Ast.{Ast}
use Rattle.txs_syntax.specs.declared.ast.Ast.TheVariants as tree
use Rattle.txs_syntax.specs.declared.ast.Binding.{Binding}

abbrev pub Tokens : Type 0
Tokens = List Token

-- tokens, each with the depth at it
abbrev pub Marked : Type 0
Marked = List (ℕ × Token)

abbrev pub tokens_of : Marked → Tokens
tokens_of us = map (λ m. m.1) us

-- the operators of one strength, by the numbers of their symbols
abbrev pub Signs : Type 0
Signs = List (ℕ × Op)

-- \/
abbrev pub or_signs : Signs
or_signs = (OR, op.Or) ∷ []

-- /\
abbrev pub and_signs : Signs
and_signs = (AND, op.And) ∷ []

-- == <> < <= > >=
abbrev pub compare_signs : Signs
compare_signs = (EQUAL, op.Equal) ∷ (DIFFERENT, op.Different) ∷ (LESS, op.Less) ∷ (AT_MOST, op.AtMost) ∷ (MORE, op.More) ∷ (AT_LEAST, op.AtLeast) ∷ []

-- ++
abbrev pub join_signs : Signs
join_signs = (JOIN, op.Join) ∷ []

-- + -
abbrev pub sum_signs : Signs
sum_signs = (PLUS, op.Plus) ∷ (MINUS, op.Minus) ∷ []

-- * / %
abbrev pub product_signs : Signs
product_signs = (TIMES, op.Times) ∷ (DIVIDE, op.Divide) ∷ (REMAINDER, op.Remainder) ∷ []

abbrev pub look_up : Signs → ℕ → Option Op
look_up [] s = None
look_up (e ∷ signs) s = cond (eqb s e.0) (Some e.1) (look_up signs s)

abbrev pub sign_of_kind : Signs → Kind → Option Op
sign_of_kind signs (kind.Symbol s) = look_up signs s
sign_of_kind signs (kind.Word w) = None
sign_of_kind signs (kind.Name x) = None
sign_of_kind signs (kind.Number n) = None
sign_of_kind signs (kind.Quoted s) = None

-- the operator that the token is, among these
abbrev pub sign_of : Signs → Token → Option Op
sign_of signs c = sign_of_kind signs c.kind

-- the token is the symbol, or the reserved word, of this number
abbrev pub IsSymbol : ℕ → Token → Type 0
IsSymbol s c = c.kind ≡ kind.Symbol s

abbrev pub IsWord : ℕ → Token → Type 0
IsWord w c = c.kind ≡ kind.Word w

-- the lines of the grammar, from the weakest operators to the single operand
pub data Layer : Type 0 where
  expr : Layer
  conj : Layer
  cmp : Layer
  cat : Layer
  sum : Layer
  prod : Layer
  un : Layer
  prim : Layer

-- the name that the token spells, at its place
abbrev pub named : Token → List ℕ → Name
named c x = record { at = c.from; text = x }

mutual
  -- tokens that spell a tree, from depth d on
  pub data SpellsAt : Layer → ℕ → Ast → Marked → Type 0 where
    -- Expr = And [ "\/" Expr ]
    or_none : {d : ℕ} {a : Ast} {u : Marked} → SpellsAt conj d a u → SpellsAt expr d a u
    or_more : {d : ℕ} {a b : Ast} {u v : Marked} (o : Op) (c : Token) → sign_of or_signs c ≡ Some o
        → SpellsAt conj d a u → SpellsAt expr (suc d) b v → SpellsAt expr d (tree.Binary o a b) (u ++ (d, c) ∷ v)
    -- And = Cmp [ "/\" And ]
    and_none : {d : ℕ} {a : Ast} {u : Marked} → SpellsAt cmp d a u → SpellsAt conj d a u
    and_more : {d : ℕ} {a b : Ast} {u v : Marked} (o : Op) (c : Token) → sign_of and_signs c ≡ Some o
        → SpellsAt cmp d a u → SpellsAt conj (suc d) b v → SpellsAt conj d (tree.Binary o a b) (u ++ (d, c) ∷ v)
    -- Cmp = Cat [ ( "==" | "<>" | "<" | "<=" | ">" | ">=" ) Cat ]
    compare_none : {d : ℕ} {a : Ast} {u : Marked} → SpellsAt cat d a u → SpellsAt cmp d a u
    compare_two : {d : ℕ} {a b : Ast} {u v : Marked} (o : Op) (c : Token) → sign_of compare_signs c ≡ Some o
        → SpellsAt cat d a u → SpellsAt cat (suc d) b v → SpellsAt cmp d (tree.Binary o a b) (u ++ (d, c) ∷ v)
    -- Cat = Sum [ "++" Cat ]
    join_none : {d : ℕ} {a : Ast} {u : Marked} → SpellsAt sum d a u → SpellsAt cat d a u
    join_more : {d : ℕ} {a b : Ast} {u v : Marked} (o : Op) (c : Token) → sign_of join_signs c ≡ Some o
        → SpellsAt sum d a u → SpellsAt cat (suc d) b v → SpellsAt cat d (tree.Binary o a b) (u ++ (d, c) ∷ v)
    -- Sum = Prod { ( "+" | "-" ) Prod }
    sums : {d k : ℕ} {a : Ast} {u : Marked} → Sums d k a u → SpellsAt sum d a u
    -- Prod = Un { ( "*" | "/" | "%" ) Un }
    products : {d k : ℕ} {a : Ast} {u : Marked} → Products d k a u → SpellsAt prod d a u
    -- Un = "-" Un | Prim
    negated : {d : ℕ} {a : Ast} {u : Marked} (c : Token) → IsSymbol MINUS c
        → SpellsAt un (suc d) a u → SpellsAt un d (tree.Negate c.from a) ((d, c) ∷ u)
    plain : {d : ℕ} {a : Ast} {u : Marked} → SpellsAt prim d a u → SpellsAt un d a u
    -- Prim = Number | Text | Name
    number : {d : ℕ} (c : Token) (n : _) → c.kind ≡ kind.Number n → SpellsAt prim d (tree.Number c.from n) ((d, c) ∷ [])
    text : {d : ℕ} (c : Token) (s : List ℕ) → c.kind ≡ kind.Quoted s → SpellsAt prim d (tree.Text c.from s) ((d, c) ∷ [])
    name : {d : ℕ} (c : Token) (x : List ℕ) → c.kind ≡ kind.Name x → SpellsAt prim d (tree.Name (named c x)) ((d, c) ∷ [])
    --      | Name "(" [ Expr { "," Expr } ] ")"
    call_none : {d : ℕ} (c o e : Token) (x : List ℕ) → c.kind ≡ kind.Name x → IsSymbol OPEN o → IsSymbol CLOSE e
        → SpellsAt prim d (tree.Call (named c x) []) ((d, c) ∷ (d, o) ∷ (suc d, e) ∷ [])
    call_some : {d : ℕ} {es : List Ast} {u : Marked} (c o e : Token) (x : List ℕ) → c.kind ≡ kind.Name x → IsSymbol OPEN o → IsSymbol CLOSE e
        → AllAt (suc d) es u → SpellsAt prim d (tree.Call (named c x) es) ((d, c) ∷ (d, o) ∷ (u ++ (suc d, e) ∷ []))
    --      | "(" Expr ")"
    group : {d : ℕ} {a : Ast} {u : Marked} (o e : Token) → IsSymbol OPEN o → IsSymbol CLOSE e
        → SpellsAt expr (suc d) a u → SpellsAt prim d (tree.Group o.from a) ((d, o) ∷ (u ++ (suc d, e) ∷ []))
    --      | IF Expr THEN Expr ELSE Expr FI
    choose : {d : ℕ} {p a b : Ast} {u v w : Marked} (i t l f : Token) → IsWord IF i → IsWord THEN t → IsWord ELSE l → IsWord FI f
        → SpellsAt expr (suc d) p u → SpellsAt expr (suc d) a v → SpellsAt expr (suc d) b w
        → SpellsAt prim d (tree.If i.from p a b) ((d, i) ∷ (u ++ (suc d, t) ∷ (v ++ (suc d, l) ∷ (w ++ (suc d, f) ∷ []))))
    --      | LET Bind { ";" Bind } IN Expr NI
    bind : {d : ℕ} {bs : List Binding} {e : Ast} {u v : Marked} (l i n : Token) → IsWord LET l → IsWord IN i → IsWord NI n
        → BindsAt (suc d) bs u → SpellsAt expr (suc d) e v
        → SpellsAt prim d (tree.Let l.from bs e) ((d, l) ∷ (u ++ (suc d, i) ∷ (v ++ (suc d, n) ∷ [])))

  -- operands from depth d on, the last of them at depth k: each stands one deeper than the one before it
  pub data Sums : ℕ → ℕ → Ast → Marked → Type 0 where
    sum_one : {d : ℕ} {a : Ast} {u : Marked} → SpellsAt prod d a u → Sums d d a u
    sum_more : {d k : ℕ} {a b : Ast} {u v : Marked} (o : Op) (c : Token) → sign_of sum_signs c ≡ Some o
        → Sums d k a u → SpellsAt prod (suc k) b v → Sums d (suc k) (tree.Binary o a b) (u ++ (k, c) ∷ v)

  pub data Products : ℕ → ℕ → Ast → Marked → Type 0 where
    product_one : {d : ℕ} {a : Ast} {u : Marked} → SpellsAt un d a u → Products d d a u
    product_more : {d k : ℕ} {a b : Ast} {u v : Marked} (o : Op) (c : Token) → sign_of product_signs c ≡ Some o
        → Products d k a u → SpellsAt un (suc k) b v → Products d (suc k) (tree.Binary o a b) (u ++ (k, c) ∷ v)

  -- Expr { "," Expr }
  pub data AllAt : ℕ → List Ast → Marked → Type 0 where
    last : {d : ℕ} {e : Ast} {u : Marked} → SpellsAt expr d e u → AllAt d (e ∷ []) u
    more : {d : ℕ} {e : Ast} {es : List Ast} {u v : Marked} (c : Token) → IsSymbol COMMA c
        → SpellsAt expr d e u → AllAt d es v → AllAt d (e ∷ es) (u ++ (d, c) ∷ v)

  -- Bind = Name "=" Expr
  pub data BindAt : ℕ → Binding → Marked → Type 0 where
    one_bind : {d : ℕ} {e : Ast} {u : Marked} (c i : Token) (x : List ℕ) → c.kind ≡ kind.Name x → IsSymbol IS i
        → SpellsAt expr d e u → BindAt d (record { name = named c x; value = e }) ((d, c) ∷ (d, i) ∷ u)

  -- Bind { ";" Bind }
  pub data BindsAt : ℕ → List Binding → Marked → Type 0 where
    last_bind : {d : ℕ} {b : Binding} {u : Marked} → BindAt d b u → BindsAt d (b ∷ []) u
    more_binds : {d : ℕ} {b : Binding} {bs : List Binding} {u v : Marked} (c : Token) → IsSymbol SEMICOLON c
        → BindAt d b u → BindsAt d bs v → BindsAt d (b ∷ bs) (u ++ (d, c) ∷ v)

-- the tokens spell the expression
abbrev pub Spells : Ast → Tokens → Type 0
Spells tree tokens = (marked : Marked) × (tokens_of marked ≡ tokens) × SpellsAt expr 0 tree marked

-- no tokens spell two expressions
abbrev pub OneTree : Type 0
OneTree = (a b : Ast) (tokens : Tokens) → Spells a tokens → Spells b tokens → a ≡ b
