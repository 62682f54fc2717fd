-- Expressions. Slot 0 is the outermost variable around an expression, and local 0 the outermost LET in it.
-- A LET keeps its variable's name, which is printed.
use Rattle.std.specs.Prelude.{ℕ, zero, suc, ◌+◌, Bool, true, false, ◌||◌, List, [], ◌∷◌, map}
use Rattle.txs_values.specs.Value.{Value, Ty, size}

pub data Unary : Type 0 where
  negate : Unary
  negation : Unary
  to_text : Unary
  from_text : Ty → Unary
  len : Unary
  is_made_by : ℕ → Unary
  select : ℕ → ℕ → Unary

pub data Binary : Type 0 where
  plus : Binary
  minus : Binary
  times : Binary
  divide : Binary
  remainder : Binary
  concat : Binary
  differ : Binary
  less_than : Binary
  at_most : Binary
  more_than : Binary
  at_least : Binary
  char_at : Binary

mutual
  pub data Expr : Type 0 where
    val : Value → Expr
    slot : ℕ → Expr
    local : ℕ → Expr
    constant : ℕ → Expr
    one : Unary → Expr → Expr
    two : Binary → Expr → Expr → Expr
    equal : Expr → Expr → Expr
    both : Expr → Expr → Expr
    either : Expr → Expr → Expr
    choose : Expr → Expr → Expr → Expr
    apply : ℕ → Exprs → Expr
    build : ℕ → Exprs → Expr
    let_in : List ℕ → Expr → Expr → Expr

  pub data Exprs : Type 0 where
    none : Exprs
    more : Expr → Exprs → Exprs

-- an expression for each slot
abbrev pub Puts : Type 0
Puts = ℕ → Expr

-- the expression with those put for its slots
abbrev mutual
  pub put : Puts → Expr → Expr
  put f (val v) = val v
  put f (slot i) = f i
  put f (local i) = local i
  put f (constant k) = constant k
  put f (one o a) = one o (put f a)
  put f (two o a b) = two o (put f a) (put f b)
  put f (equal a b) = equal (put f a) (put f b)
  put f (both a b) = both (put f a) (put f b)
  put f (either a b) = either (put f a) (put f b)
  put f (choose c a b) = choose (put f c) (put f a) (put f b)
  put f (apply k es) = apply k (put_each f es)
  put f (build c es) = build c (put_each f es)
  put f (let_in x a b) = let_in x (put f a) (put f b)

  pub put_each : Puts → Exprs → Exprs
  put_each f none = none
  put_each f (more e es) = more (put f e) (put_each f es)

abbrev pub put_all : Puts → List Expr → List Expr
put_all f es = map (put f) es

-- the value for local 0; the others are numbered anew
abbrev pub local_at : Value → ℕ → Expr
local_at v zero = val v
local_at v (suc i) = local i

abbrev mutual
  pub with_local : Value → Expr → Expr
  with_local w (val v) = val v
  with_local w (slot i) = slot i
  with_local w (local i) = local_at w i
  with_local w (constant k) = constant k
  with_local w (one o a) = one o (with_local w a)
  with_local w (two o a b) = two o (with_local w a) (with_local w b)
  with_local w (equal a b) = equal (with_local w a) (with_local w b)
  with_local w (both a b) = both (with_local w a) (with_local w b)
  with_local w (either a b) = either (with_local w a) (with_local w b)
  with_local w (choose c a b) = choose (with_local w c) (with_local w a) (with_local w b)
  with_local w (apply k es) = apply k (each_with_local w es)
  with_local w (build c es) = build c (each_with_local w es)
  with_local w (let_in x a b) = let_in x (with_local w a) (with_local w b)

  pub each_with_local : Value → Exprs → Exprs
  each_with_local w none = none
  each_with_local w (more e es) = more (with_local w e) (each_with_local w es)

-- the values for the first slots; the slots after them are numbered anew from 0
abbrev pub filled : List Value → Puts
filled [] i = slot i
filled (v ∷ vs) zero = val v
filled (v ∷ vs) (suc i) = filled vs i

-- the slots `places` for the first slots; those after them come to stand after `size` slots
abbrev pub moved : List ℕ → ℕ → Puts
moved [] size i = slot (i + size)
moved (p ∷ places) size zero = slot p
moved (p ∷ places) size (suc i) = moved places size i

abbrev mutual
  pub has_slot : Expr → Bool
  has_slot (val v) = false
  has_slot (slot i) = true
  has_slot (local i) = false
  has_slot (constant k) = false
  has_slot (one o a) = has_slot a
  has_slot (two o a b) = has_slot a || has_slot b
  has_slot (equal a b) = has_slot a || has_slot b
  has_slot (both a b) = has_slot a || has_slot b
  has_slot (either a b) = has_slot a || has_slot b
  has_slot (choose c a b) = (has_slot c || has_slot a) || has_slot b
  has_slot (apply k es) = any_has_slot es
  has_slot (build c es) = any_has_slot es
  has_slot (let_in x a b) = has_slot a || has_slot b

  pub any_has_slot : Exprs → Bool
  any_has_slot none = false
  any_has_slot (more e es) = has_slot e || any_has_slot es

-- ---- nodes; a value counts its own size

abbrev mutual
  pub expr_nodes : Expr → ℕ
  expr_nodes (val v) = size v
  expr_nodes (slot i) = 1
  expr_nodes (local i) = 1
  expr_nodes (constant k) = 1
  expr_nodes (one o a) = 1 + expr_nodes a
  expr_nodes (two o a b) = 1 + expr_nodes a + expr_nodes b
  expr_nodes (equal a b) = 1 + expr_nodes a + expr_nodes b
  expr_nodes (both a b) = 1 + expr_nodes a + expr_nodes b
  expr_nodes (either a b) = 1 + expr_nodes a + expr_nodes b
  expr_nodes (choose c a b) = 1 + expr_nodes c + expr_nodes a + expr_nodes b
  expr_nodes (apply k es) = 1 + each_nodes es
  expr_nodes (build c es) = 1 + each_nodes es
  expr_nodes (let_in x a b) = 1 + expr_nodes a + expr_nodes b

  pub each_nodes : Exprs → ℕ
  each_nodes none = 0
  each_nodes (more e es) = expr_nodes e + each_nodes es

abbrev pub exprs_nodes : List Expr → ℕ
exprs_nodes [] = 0
exprs_nodes (e ∷ es) = expr_nodes e + exprs_nodes es
