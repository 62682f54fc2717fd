-- Values that begin alike: two numbers, two truth values, two texts, or two values of one constructor.
use Rattle.std.proofs.Common.{◌≡◌, ℕ, ℤ, Bool, List, refl}
use Rattle.txs_values.specs.Value.{Value, num, bool, text, cons, Values, Table}
use Rattle.txs_terms.specs.Eval.{are_comparable}
use Rattle.txs_guard.specs.Mentioned.{Path}
use Rattle.txs_laws.proofs.solver.Squash.{Shape, squash}

pub data BeginAlike : Value → Value → Type 0 where
  numbers : (x y : ℤ) → BeginAlike (num x) (num y)
  truths : (a b : Bool) → BeginAlike (bool a) (bool b)
  texts : (a b : List ℕ) → BeginAlike (text a) (text b)
  made : (c : ℕ) (vs ws : Values) → BeginAlike (cons c vs) (cons c ws)

-- a change that keeps how each value begins
abbrev pub KeepsHeads : (Value → Value) → Type 0
KeepsHeads f = (x : Value) → BeginAlike x (f x)

pub own_head : KeepsHeads (λ x. x)
own_head (num x) = numbers x x
own_head (bool b) = truths b b
own_head (text t) = texts t t
own_head (cons c vs) = made c vs vs

pub squashed_head : (s : Shape) (ps : List Path) → KeepsHeads (squash s ps)
squashed_head s ps (num x) = numbers _ _
squashed_head s ps (bool b) = truths _ _
squashed_head s ps (text t) = texts _ _
squashed_head s ps (cons c vs) = made c _ _

-- values are comparable as those that begin alike
pub comparable_heads : (table : Table) {x x' y y' : Value} → BeginAlike x x' → BeginAlike y y' → are_comparable table x' y' ≡ are_comparable table x y
comparable_heads table (numbers a b) (numbers c d) = refl
comparable_heads table (numbers a b) (truths c d) = refl
comparable_heads table (numbers a b) (texts c d) = refl
comparable_heads table (numbers a b) (made c vs ws) = refl
comparable_heads table (truths a b) (numbers c d) = refl
comparable_heads table (truths a b) (truths c d) = refl
comparable_heads table (truths a b) (texts c d) = refl
comparable_heads table (truths a b) (made c vs ws) = refl
comparable_heads table (texts a b) (numbers c d) = refl
comparable_heads table (texts a b) (truths c d) = refl
comparable_heads table (texts a b) (texts c d) = refl
comparable_heads table (texts a b) (made c vs ws) = refl
comparable_heads table (made e us ts) (numbers c d) = refl
comparable_heads table (made e us ts) (truths c d) = refl
comparable_heads table (made e us ts) (texts c d) = refl
comparable_heads table (made e us ts) (made c vs ws) = refl
