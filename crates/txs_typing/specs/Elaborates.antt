-- Which expression, of which type, a tree means that is needed at a type, or at none.
use Rattle.std.specs.Prelude.{◌≡◌, ℕ, ℤ, Bool, true, false, not, ◌&&◌, bytes_eq, codes, List, [], ◌∷◌, Option, Some, None}
use Rattle.txs_values.specs.Value.{Ty, integer, truth, string, named, num, text, cons, no_value, fits}
use Rattle.txs_terms.specs.Expr.{Expr, val, one, two, equal, both, either, choose, apply, build, let_in, negate, negation, to_text, from_text, len, is_made_by, select, plus, minus, times, divide, remainder, concat, differ, less_than, at_most, more_than, at_least, char_at}
use Rattle.txs_terms.specs.View.{gathered}
use Rattle.txs_syntax.specs.declared.ast.Name.{Name}
use Rattle.txs_syntax.specs.declared.ast.Op.{Op}
use Rattle.txs_syntax.specs.declared.ast.Op.TheVariants as op
use Rattle.txs_syntax.specs.declared.ast.Ast.{Ast}
use Rattle.txs_syntax.specs.declared.ast.Binding.{Binding}
use Rattle.txs_syntax.specs.declared.ast.Ast.TheVariants as tree
use Rattle.txs_syntax.specs.declared.ast.Ast.TheOpen.{Ast-F, Binding-F}
use Rattle.txs_syntax.specs.declared.ast.Ast.TheFolds.{fold-Ast}
use Rattle.txs_typing.specs.Names.{Scope, Fits, inside, meaning, called, Meaning, named_function, named_constructor, named_test, named_selector, named_not, named_to_string, named_from_string, named_len, named_at}

-- a tree of this type may stand if this one, or none, is needed
abbrev pub Suits : Scope → Option Ty → Ty → Type 0
Suits scope None t = Unit {0}
Suits scope (Some s) t = Fits scope s t

-- the operators that need both sides at one type, and give another
pub data Operator : Op → Ty → Ty → (Expr → Expr → Expr) → Type 0 where
  or_operator : Operator op.Or truth truth either
  and_operator : Operator op.And truth truth both
  less_operator : Operator op.Less integer truth (two less_than)
  at_most_operator : Operator op.AtMost integer truth (two at_most)
  more_operator : Operator op.More integer truth (two more_than)
  at_least_operator : Operator op.AtLeast integer truth (two at_least)
  join_operator : Operator op.Join string string (two concat)
  plus_operator : Operator op.Plus integer integer (two plus)
  minus_operator : Operator op.Minus integer integer (two minus)
  times_operator : Operator op.Times integer integer (two times)
  divide_operator : Operator op.Divide integer integer (two divide)
  remainder_operator : Operator op.Remainder integer integer (two remainder)

-- the operators whose sides are of equal types, whichever
pub data Comparison : Op → (Expr → Expr → Expr) → Type 0 where
  equal_comparison : Comparison op.Equal equal
  different_comparison : Comparison op.Different (two differ)

-- of a binding is known what is known of its value
abbrev pub value_step : {A : Type 0} → Binding-F A A → A
value_step b = b.value

-- what is known of a tree, by what is known of one level
abbrev pub folded : (A : Type 0) → (Ast-F A A → A) → Ast → A
folded A step = fold-Ast A A step value_step

-- one level, of whose parts this is known
abbrev pub outside_step : Ast-F Bool Bool → Bool
outside_step (Ast-F.Number at n) = false
outside_step (Ast-F.Text at s) = false
outside_step (Ast-F.Name x) = false
outside_step (Ast-F.Call x es) = bytes_eq x.text (codes "fromString")
outside_step (Ast-F.Negate at a) = false
outside_step (Ast-F.Binary o a b) = false
outside_step (Ast-F.Group at a) = a
outside_step (Ast-F.If at p a b) = a
outside_step (Ast-F.Let at bs b) = b

-- The tree can be typed from outside alone: it is a call of fromString, or a bracket around one, a LET whose body or an IF whose THEN branch is so.
abbrev pub from_outside : Ast → Bool
from_outside = folded Bool outside_step

-- the right side of a comparison is typed first
abbrev pub right_first : Ast → Ast → Bool
right_first a b = from_outside a && not (from_outside b)

-- what is called, with these arguments, if this type or none is needed, is this expression of this type
pub data Makes : Option Ty → Meaning → List Expr → Expr → Ty → Type 0 where
  function_made : (want : Option Ty) (f : ℕ) (ts : List Ty) (t : Ty) (es : List Expr) → Makes want (named_function f ts t) es (apply f (gathered es)) t
  value_made : (want : Option Ty) (c k : ℕ) → Makes want (named_constructor c k []) [] (val (cons c no_value)) (named k)
  constructor_made : (want : Option Ty) (c k : ℕ) (t : Ty) (ts : List Ty) (es : List Expr)
      → Makes want (named_constructor c k (t ∷ ts)) es (build c (gathered es)) (named k)
  test_made : (want : Option Ty) (c k : ℕ) (e : Expr) → Makes want (named_test c k) (e ∷ []) (one (is_made_by c) e) truth
  selector_made : (want : Option Ty) (c j k : ℕ) (t : Ty) (e : Expr) → Makes want (named_selector c j k t) (e ∷ []) (one (select c j) e) t
  not_made : (want : Option Ty) (e : Expr) → Makes want named_not (e ∷ []) (one negation e) truth
  to_string_made : (want : Option Ty) (e : Expr) → Makes want named_to_string (e ∷ []) (one to_text e) string
  from_string_made : (t : Ty) (e : Expr) → Makes (Some t) named_from_string (e ∷ []) (one (from_text t) e) t
  len_made : (want : Option Ty) (e : Expr) → Makes want named_len (e ∷ []) (one len e) integer
  at_made : (want : Option Ty) (e f : Expr) → Makes want named_at (e ∷ f ∷ []) (two char_at e f) string

mutual
  -- the tree, needed at a type or at none, means this expression of this type
  pub data Elaborates : Scope → Option Ty → Ast → Expr → Ty → Type 0 where
    number : {scope : Scope} {want : Option Ty} {at : ℕ} {n : ℤ} → Suits scope want integer
        → Elaborates scope want (tree.Number at n) (val (num n)) integer
    quoted : {scope : Scope} {want : Option Ty} {at : ℕ} {s : List ℕ} → Suits scope want string
        → Elaborates scope want (tree.Text at s) (val (text s)) string
    name : {scope : Scope} {want : Option Ty} {x : Name} {e : Expr} {t : Ty} → meaning scope x.text ≡ Some (e, t) → Suits scope want t
        → Elaborates scope want (tree.Name x) e t
    call : {scope : Scope} {want : Option Ty} {x : Name} (args : List Ast) {m : Meaning} {needs : List (Option Ty)} {es : List Expr} {e : Expr} {t : Ty}
        → called scope x.text ≡ Some (m, needs) → ElaboratesEach scope needs args es → Makes want m es e t → Suits scope want t
        → Elaborates scope want (tree.Call x args) e t
    negated : {scope : Scope} {want : Option Ty} {at : ℕ} (a : Ast) {e : Expr} {s : Ty} → Elaborates scope (Some integer) a e s → Suits scope want integer
        → Elaborates scope want (tree.Negate at a) (one negate e) integer
    operated : {scope : Scope} {want : Option Ty} {o : Op} (a b : Ast) {e f : Expr} {need q r t : Ty} {make : Expr → Expr → Expr} → Operator o need t make
        → Elaborates scope (Some need) a e q → Elaborates scope (Some need) b f r → Suits scope want t
        → Elaborates scope want (tree.Binary o a b) (make e f) t
    -- the left side of == and <> is typed first, and the right one is needed equal
    compared : {scope : Scope} {want : Option Ty} {o : Op} (a b : Ast) {e f : Expr} {s r : Ty} {make : Expr → Expr → Expr} → Comparison o make
        → right_first a b ≡ false → Elaborates scope None a e s → Elaborates scope (Some s) b f r → Suits scope want truth
        → Elaborates scope want (tree.Binary o a b) (make e f) truth
    -- if the left side can be typed from outside alone, it is needed equal to the right one
    compared_back : {scope : Scope} {want : Option Ty} {o : Op} (a b : Ast) {e f : Expr} {s r : Ty} {make : Expr → Expr → Expr} → Comparison o make
        → right_first a b ≡ true → Elaborates scope None b f s → Elaborates scope (Some s) a e r → Suits scope want truth
        → Elaborates scope want (tree.Binary o a b) (make e f) truth
    grouped : {scope : Scope} {want : Option Ty} {at : ℕ} (a : Ast) {e : Expr} {t : Ty} → Elaborates scope want a e t
        → Elaborates scope want (tree.Group at a) e t
    -- if a type is needed, both branches are needed at it
    chosen : {scope : Scope} {at : ℕ} (p a b : Ast) {c e f : Expr} {q r s t : Ty} → Elaborates scope (Some truth) p c q
        → Elaborates scope (Some t) a e r → Elaborates scope (Some t) b f s
        → Elaborates scope (Some t) (tree.If at p a b) (choose c e f) t
    -- if none is needed, THEN is typed first, and ELSE is needed equal
    chosen_freely : {scope : Scope} {at : ℕ} (p a b : Ast) {c e f : Expr} {q s t : Ty} → Elaborates scope (Some truth) p c q
        → Elaborates scope None a e t → Elaborates scope (Some t) b f s
        → Elaborates scope None (tree.If at p a b) (choose c e f) t
    -- the first name of a LET is seen in the bindings after it and in the body
    bound : {scope : Scope} {want : Option Ty} {at : ℕ} (b : Binding) (bs : List Binding) (c : Ast) {e f : Expr} {s t : Ty} → Elaborates scope None b.value e s
        → Elaborates (inside scope b.name.text s) want (tree.Let at bs c) f t
        → Elaborates scope want (tree.Let at (b ∷ bs) c) (let_in b.name.text e f) t
    -- after the last one stands the body
    unbound : {scope : Scope} {want : Option Ty} {at : ℕ} (c : Ast) {e : Expr} {t : Ty} → Elaborates scope want c e t
        → Elaborates scope want (tree.Let at [] c) e t

  -- each tree, needed so, means its expression
  pub data ElaboratesEach : Scope → List (Option Ty) → List Ast → List Expr → Type 0 where
    nothing : {scope : Scope} → ElaboratesEach scope [] [] []
    one_more : {scope : Scope} {want : Option Ty} {wants : List (Option Ty)} {a : Ast} {args : List Ast} {e : Expr} {es : List Expr} {t : Ty}
        → Elaborates scope want a e t → ElaboratesEach scope wants args es
        → ElaboratesEach scope (want ∷ wants) (a ∷ args) (e ∷ es)

abbrev pub all_true : List Bool → Bool
all_true [] = true
all_true (b ∷ bs) = b && all_true bs

-- one level, of whose parts this is known
abbrev pub ints_step : Ast-F Bool Bool → Bool
ints_step (Ast-F.Number at n) = fits n
ints_step (Ast-F.Text at s) = true
ints_step (Ast-F.Name x) = true
ints_step (Ast-F.Call x es) = all_true es
ints_step (Ast-F.Negate at a) = a
ints_step (Ast-F.Binary o a b) = a && b
ints_step (Ast-F.Group at a) = a
ints_step (Ast-F.If at p a b) = p && (a && b)
ints_step (Ast-F.Let at bs b) = all_true bs && b

-- the numbers of the tree are in the range of Int
abbrev pub HasInts : Ast → Type 0
HasInts tree = folded Bool ints_step tree ≡ true
