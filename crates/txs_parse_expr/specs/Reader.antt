-- How an expression is read, from the left, with one token in sight.
use Rattle.std.specs.Prelude.{ℕ, zero, suc, Bool, true, false, cond, eqb, ◌||◌, List, [], ◌∷◌, length, Option, Some, None}
use Rattle.txs_lexer.specs.declared.token.Token.{Token}
use Rattle.txs_lexer.specs.declared.token.Kind.{Kind}
use Rattle.txs_lexer.specs.declared.token.Kind.TheVariants.{Name, Word, Number, Quoted, Symbol}
use Rattle.txs_lexer.specs.declared.symbol.TheConstants.{MINUS, IS, OPEN, CLOSE, COMMA, SEMICOLON}
use Rattle.txs_lexer.specs.declared.word.TheConstants.{IN, NI, LET, IF, THEN, ELSE, FI}
use Rattle.txs_syntax.specs.declared.ast.Name as rust
use Rattle.txs_syntax.specs.declared.ast.Op.{Op}
use Rattle.txs_syntax.specs.declared.ast.Ast.{Ast}
use Rattle.txs_syntax.specs.declared.ast.Ast.TheVariants as tree
use Rattle.txs_syntax.specs.declared.ast.Binding.{Binding}
use Rattle.txs_syntax.specs.Grammar.{Tokens, Signs, sign_of, or_signs, and_signs, compare_signs, join_signs, sum_signs, product_signs, named}

-- Read, with the tokens that are left; or the tokens from the first bad one on; or those from the one that is too deep.
pub data Outcome (A : Type 0) : Type 0 where
  ok : A → Tokens → Outcome A
  bad : Tokens → Outcome A
  deep : Tokens → Outcome A

abbrev pub after : {A B : Type 0} → Outcome A → (A → Tokens → Outcome B) → Outcome B
after (ok a ts) go = go a ts
after (bad ts) go = bad ts
after (deep ts) go = deep ts

abbrev pub Reader : Type 0
Reader = Tokens → Outcome Ast

-- what is read where one more construct is open
pub record Readers : Type 0 where
  pub is_full : Bool
  pub expr : Reader
  pub conj : Reader
  pub cmp : Reader
  pub cat : Reader
  pub sum : Reader
  pub prod : Reader
  pub un : Reader
  pub sums : Ast → Reader
  pub prods : Ast → Reader

abbrev pub symbol_kind : ℕ → Kind → Bool
symbol_kind n (Symbol s) = eqb s n
symbol_kind n (Word w) = false
symbol_kind n (Name x) = false
symbol_kind n (Number i) = false
symbol_kind n (Quoted s) = false

abbrev pub is_symbol : ℕ → Token → Bool
is_symbol n c = symbol_kind n c.kind

abbrev pub word_kind : ℕ → Kind → Bool
word_kind n (Symbol s) = false
word_kind n (Word w) = eqb w n
word_kind n (Name x) = false
word_kind n (Number i) = false
word_kind n (Quoted s) = false

abbrev pub is_word : ℕ → Token → Bool
is_word n c = word_kind n c.kind

-- after such a token go on by `go`, else give `stop`
abbrev pub at_token : {B : Type 0} → (Token → Bool) → Tokens → (Token → Tokens → B) → B → B
at_token p [] go stop = stop
at_token p (c ∷ ts) go stop = cond (p c) (go c ts) stop

abbrev pub on : {B : Type 0} → (Token → Bool) → Tokens → (Tokens → B) → B → B
on p ts go stop = at_token p ts (λ c. go) stop

abbrev pub expect : {B : Type 0} → (Token → Bool) → Tokens → (Tokens → Outcome B) → Outcome B
expect p ts go = on p ts go (bad ts)

abbrev pub by_op : {B : Type 0} → Option Op → Tokens → (Op → Tokens → B) → B → B
by_op None ts go stop = stop
by_op (Some o) ts go stop = go o ts

abbrev pub on_sign : {B : Type 0} → Signs → Tokens → (Op → Tokens → B) → B → B
on_sign signs [] go stop = stop
on_sign signs (c ∷ ts) go stop = by_op (sign_of signs c) ts go stop

-- a first operand, and where one of these signs follows, a second
abbrev pub right : Signs → Reader → Reader → Reader
right signs lower again ts =
    after (lower ts) (λ a ts1. on_sign signs ts1 (λ o ts2. after (again ts2) (λ b ts3. ok (tree.Binary o a b) ts3)) (ok a ts1))

-- the operands that follow the tree so far
abbrev pub chain : Signs → Reader → (Ast → Reader) → Ast → Reader
chain signs operand again a ts = on_sign signs ts (λ o ts1. after (operand ts1) (λ b ts2. again (tree.Binary o a b) ts2)) (ok a ts)

-- items with separators between them, at most so many
abbrev pub many : {A : Type 0} → (Tokens → Outcome A) → ℕ → ℕ → Tokens → Outcome (List A)
many item separator zero ts = bad ts
many item separator (suc n) ts =
    after (item ts) (λ x ts1. on (is_symbol separator) ts1 (λ ts2. after (many item separator n ts2) (λ xs ts3. ok (x ∷ xs) ts3)) (ok (x ∷ []) ts1))

abbrev pub where_room : {B : Type 0} → Bool → Tokens → Outcome B → Outcome B
where_room is_full ts go = cond is_full (deep ts) go

module _ (within : Readers) where
  abbrev pub call_at : rust.Name → Reader
  call_at x ts =
      on (is_symbol CLOSE) ts (λ ts1. where_room within.is_full ts (ok (tree.Call x []) ts1))
      (after (many within.expr COMMA (suc (length ts)) ts) (λ es ts1. expect (is_symbol CLOSE) ts1 (λ ts2. ok (tree.Call x es) ts2)))

  abbrev pub group_at : ℕ → Reader
  group_at at ts = after (within.expr ts) (λ e ts1. expect (is_symbol CLOSE) ts1 (λ ts2. ok (tree.Group at e) ts2))

  abbrev pub if_at : ℕ → Reader
  if_at at ts =
      after (within.expr ts) (λ c ts1. expect (is_word THEN) ts1 (λ ts2.
      after (within.expr ts2) (λ a ts3. expect (is_word ELSE) ts3 (λ ts4.
      after (within.expr ts4) (λ b ts5. expect (is_word FI) ts5 (λ ts6. ok (tree.If at c a b) ts6))))))

  abbrev pub value_at : rust.Name → Tokens → Outcome Binding
  value_at x ts = expect (is_symbol IS) ts (λ ts1. after (within.expr ts1) (λ e ts2. ok (record { name = x; value = e }) ts2))

  abbrev pub bind_of : Kind → Token → Tokens → Outcome Binding
  bind_of (Name x) c ts = where_room within.is_full (c ∷ ts) (value_at (named c x) ts)
  bind_of (Symbol s) c ts = bad (c ∷ ts)
  bind_of (Word w) c ts = bad (c ∷ ts)
  bind_of (Number n) c ts = bad (c ∷ ts)
  bind_of (Quoted s) c ts = bad (c ∷ ts)

  abbrev pub bind_at : Tokens → Outcome Binding
  bind_at [] = bad []
  bind_at (c ∷ ts) = bind_of c.kind c ts

  abbrev pub let_at : ℕ → Reader
  let_at at ts =
      after (many bind_at SEMICOLON (suc (length ts)) ts) (λ bs ts1. expect (is_word IN) ts1 (λ ts2.
      after (within.expr ts2) (λ e ts3. expect (is_word NI) ts3 (λ ts4. ok (tree.Let at bs e) ts4))))

  abbrev pub prim_of : Kind → Token → Reader
  prim_of (Number n) c ts = ok (tree.Number c.from n) ts
  prim_of (Quoted s) c ts = ok (tree.Text c.from s) ts
  prim_of (Name x) c ts = on (is_symbol OPEN) ts (call_at (named c x)) (ok (tree.Name (named c x)) ts)
  prim_of (Symbol s) c ts = cond (eqb s OPEN) (group_at c.from ts) (bad (c ∷ ts))
  prim_of (Word w) c ts = cond (eqb w IF) (if_at c.from ts) (cond (eqb w LET) (let_at c.from ts) (bad (c ∷ ts)))

  abbrev pub prim_at : Reader
  prim_at [] = bad []
  prim_at (c ∷ ts) = prim_of c.kind c ts

  abbrev pub un_at : Reader
  un_at ts = at_token (is_symbol MINUS) ts (λ c ts1. after (within.un ts1) (λ a ts2. ok (tree.Negate c.from a) ts2)) (prim_at ts)

  abbrev pub prods_at : Ast → Reader
  prods_at a ts = chain product_signs within.un within.prods a ts

  abbrev pub prod_at : Reader
  prod_at ts = after (un_at ts) prods_at

  abbrev pub sums_at : Ast → Reader
  sums_at a ts = chain sum_signs within.prod within.sums a ts

  abbrev pub sum_at : Reader
  sum_at ts = after (prod_at ts) sums_at

  abbrev pub cat_at : Reader
  cat_at ts = right join_signs sum_at within.cat ts

  abbrev pub cmp_at : Reader
  cmp_at ts = right compare_signs cat_at within.cat ts

  abbrev pub conj_at : Reader
  conj_at ts = right and_signs cmp_at within.conj ts

  abbrev pub expr_at : Reader
  expr_at ts = right or_signs conj_at within.expr ts

abbrev pub kind_begins : Kind → Bool
kind_begins (Symbol s) = eqb s MINUS || eqb s OPEN
kind_begins (Word w) = eqb w LET || eqb w IF
kind_begins (Name x) = true
kind_begins (Number n) = true
kind_begins (Quoted s) = true

-- whether an expression may begin so
abbrev pub begins : Token → Bool
begins c = kind_begins c.kind

-- where no construct may be open any more
abbrev pub full_at : Reader
full_at [] = bad []
full_at (c ∷ ts) = cond (begins c) (deep (c ∷ ts)) (bad (c ∷ ts))

abbrev pub full : Readers
full = record {
  is_full = true;
  expr = full_at;
  conj = full_at;
  cmp = full_at;
  cat = full_at;
  sum = full_at;
  prod = full_at;
  un = full_at;
  sums = ok;
  prods = ok;
}

abbrev pub level : Readers → Readers
level within = record {
  is_full = false;
  expr = expr_at within;
  conj = conj_at within;
  cmp = cmp_at within;
  cat = cat_at within;
  sum = sum_at within;
  prod = prod_at within;
  un = un_at within;
  sums = sums_at within;
  prods = prods_at within;
}

-- what is read where so many constructs may still be open
abbrev pub readers : ℕ → Readers
readers zero = full
readers (suc left) = level (readers left)
