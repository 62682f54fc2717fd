-- What offends in a tree, and where; which of several offences decides.
use Rattle.std.specs.Prelude.{◌≡◌, ◌≢◌, ◌⊎◌, ◌<◌, ◌≤◌, ℕ, Bool, true, false, cond, List, [], ◌∷◌, length, Option, Some, None, slice_get}
use Rattle.txs_values.specs.Value.{Ty, integer, truth}
use Rattle.txs_terms.specs.Expr.{Expr}
use Rattle.txs_syntax.specs.declared.ast.Name.{Name}
use Rattle.txs_syntax.specs.declared.ast.Op.{Op}
use Rattle.txs_syntax.specs.declared.ast.Ast.{Ast}
use Rattle.txs_syntax.specs.declared.ast.Binding.{Binding}
use Rattle.txs_syntax.specs.declared.ast.Ast.TheVariants as tree
use Rattle.txs_syntax.specs.declared.ast.Ast.TheOpen.{Ast-F}
use Rattle.txs_typing.specs.Names.{Scope, Fits, anything, inside, meaning, called, Meaning, named_from_string}
use Rattle.txs_typing.specs.Elaborates.{folded, Operator, Comparison, right_first, Elaborates, ElaboratesEach}

-- an offence at an offset of the text
pub data Offence : Type 0 where
  twice : ℕ → Offence
  unknown : ℕ → Offence
  arity : ℕ → Offence
  mismatch : ℕ → Offence
  empty_type : ℕ → Offence
  big_type : ℕ → Offence

-- one level, whose parts start at these offsets
abbrev pub start_step : Ast-F ℕ ℕ → ℕ
start_step (Ast-F.Number at n) = at
start_step (Ast-F.Text at s) = at
start_step (Ast-F.Name x) = x.at
start_step (Ast-F.Call x es) = x.at
start_step (Ast-F.Negate at a) = at
start_step (Ast-F.Binary o a b) = a
start_step (Ast-F.Group at a) = at
start_step (Ast-F.If at p a b) = at
start_step (Ast-F.Let at bs b) = at

-- the offset of an expression's first token
abbrev pub start : Ast → ℕ
start = folded ℕ start_step

-- one level
abbrev pub keeps_need_step : Ast-F Bool Bool → Bool
keeps_need_step (Ast-F.Number at n) = true
keeps_need_step (Ast-F.Text at s) = true
keeps_need_step (Ast-F.Name x) = true
keeps_need_step (Ast-F.Call x es) = true
keeps_need_step (Ast-F.Negate at a) = true
keeps_need_step (Ast-F.Binary o a b) = true
keeps_need_step (Ast-F.Group at a) = false
keeps_need_step (Ast-F.If at p a b) = false
keeps_need_step (Ast-F.Let at bs b) = false

-- the tree keeps the need to itself: it is no bracket, IF or LET, which hand the need on to what is in them
abbrev pub KeepsNeed : Ast → Type 0
KeepsNeed a = folded Bool keeps_need_step a ≡ true

-- the side of a comparison that is typed first, and the other one
abbrev pub earlier : Ast → Ast → Ast
earlier a b = cond (right_first a b) b a

abbrev pub later : Ast → Ast → Ast
later a b = cond (right_first a b) a b

-- what is called takes another number of arguments, or nothing of this name is called
abbrev pub IsMiscalled : Scope → Name → List Ast → Type 0
IsMiscalled scope x args = (m : Meaning) (needs : List (Option Ty)) → called scope x.text ≡ Some (m, needs) → length args ≢ length needs

mutual
  -- The offence stands in the tree, needed at a type or at none. The offset `at` is that of the first token of the tree, or of the outermost brackets around it.
  pub data OffendsAt : ℕ → Scope → Option Ty → Ast → Offence → Type 0 where
    -- a name, alone or called, without a meaning there
    unknown_name : {at : ℕ} {scope : Scope} {want : Option Ty} {x : Name} → meaning scope x.text ≡ None
        → OffendsAt at scope want (tree.Name x) (unknown x.at)
    unknown_call : {at : ℕ} {scope : Scope} {want : Option Ty} {x : Name} (args : List Ast) → called scope x.text ≡ None
        → OffendsAt at scope want (tree.Call x args) (unknown x.at)
    -- a wrong number of arguments
    wrong_number : {at : ℕ} {scope : Scope} {want : Option Ty} {x : Name} (args : List Ast) {m : Meaning} {needs : List (Option Ty)}
        → called scope x.text ≡ Some (m, needs) → length args ≢ length needs
        → OffendsAt at scope want (tree.Call x args) (arity x.at)
    -- nothing offends inside, and the type is another than the needed one
    other_type : {at : ℕ} {scope : Scope} (a : Ast) {e : Expr} {s t : Ty} → KeepsNeed a → Elaborates scope None a e s → (Fits scope t s → ⊥)
        → OffendsAt at scope (Some t) a (mismatch at)
    -- fromString if no type is needed
    from_nowhere : {at : ℕ} {scope : Scope} {x : Name} (args : List Ast) {needs : List (Option Ty)} {es : List Expr}
        → called scope x.text ≡ Some (named_from_string, needs) → ElaboratesEach scope needs args es
        → OffendsAt at scope None (tree.Call x args) (mismatch at)
    -- an argument, needed as the call takes it; of a call that is an offence itself it is needed at any type
    argument : {at : ℕ} {scope : Scope} {want need : Option Ty} {x : Name} (args : List Ast) {m : Meaning} {needs : List (Option Ty)} (i : ℕ) (a : Ast) {o : Offence}
        → called scope x.text ≡ Some (m, needs) → length args ≡ length needs → slice_get args i ≡ Some a → slice_get needs i ≡ Some need
        → Offends scope need a o → OffendsAt at scope want (tree.Call x args) o
    stray_argument : {at : ℕ} {scope : Scope} {want : Option Ty} {x : Name} (args : List Ast) (i : ℕ) (a : Ast) {o : Offence}
        → IsMiscalled scope x args → slice_get args i ≡ Some a
        → Offends scope (Some (anything scope)) a o → OffendsAt at scope want (tree.Call x args) o
    negated : {at : ℕ} {scope : Scope} {want : Option Ty} {minus : ℕ} (a : Ast) {o : Offence}
        → Offends scope (Some integer) a o → OffendsAt at scope want (tree.Negate minus a) o
    -- a side of an operator
    left : {at : ℕ} {scope : Scope} {want : Option Ty} {p : Op} (a b : Ast) {o : Offence} {need t : Ty} {make : Expr → Expr → Expr} → Operator p need t make
        → Offends scope (Some need) a o → OffendsAt at scope want (tree.Binary p a b) o
    right : {at : ℕ} {scope : Scope} {want : Option Ty} {p : Op} (a b : Ast) {o : Offence} {need t : Ty} {make : Expr → Expr → Expr} → Operator p need t make
        → Offends scope (Some need) b o → OffendsAt at scope want (tree.Binary p a b) o
    -- the side of a comparison that is typed first, and the one that is needed equal to it
    earlier_side : {at : ℕ} {scope : Scope} {want : Option Ty} {p : Op} (a b : Ast) {o : Offence} {make : Expr → Expr → Expr} → Comparison p make
        → Offends scope None (earlier a b) o → OffendsAt at scope want (tree.Binary p a b) o
    later_side : {at : ℕ} {scope : Scope} {want : Option Ty} {p : Op} (a b : Ast) {o : Offence} {s : Ty} {make : Expr → Expr → Expr} → Comparison p make
        → Shows scope (earlier a b) s → Offends scope (Some s) (later a b) o → OffendsAt at scope want (tree.Binary p a b) o
    -- what is in brackets: its offset is that of the brackets
    grouped : {at : ℕ} {scope : Scope} {want : Option Ty} {bracket : ℕ} (a : Ast) {o : Offence}
        → OffendsAt at scope want a o → OffendsAt at scope want (tree.Group bracket a) o
    condition : {at : ℕ} {scope : Scope} {want : Option Ty} {i : ℕ} (p a b : Ast) {o : Offence}
        → Offends scope (Some truth) p o → OffendsAt at scope want (tree.If i p a b) o
    then_branch : {at : ℕ} {scope : Scope} {want : Option Ty} {i : ℕ} (p a b : Ast) {o : Offence}
        → Offends scope want a o → OffendsAt at scope want (tree.If i p a b) o
    else_branch : {at : ℕ} {scope : Scope} {t : Ty} {i : ℕ} (p a b : Ast) {o : Offence}
        → Offends scope (Some t) b o → OffendsAt at scope (Some t) (tree.If i p a b) o
    -- if no type is needed, ELSE is needed at the type of THEN
    else_like_then : {at : ℕ} {scope : Scope} {s : Ty} {i : ℕ} (p a b : Ast) {o : Offence}
        → Shows scope a s → Offends scope (Some s) b o → OffendsAt at scope None (tree.If i p a b) o
    -- the value of a LET's first name, what comes after it, where the name is seen, and after the last one the body
    bound_value : {at : ℕ} {scope : Scope} {want : Option Ty} {l : ℕ} (b : Binding) (bs : List Binding) (c : Ast) {o : Offence}
        → Offends scope None b.value o → OffendsAt at scope want (tree.Let l (b ∷ bs) c) o
    after_value : {at : ℕ} {scope : Scope} {want : Option Ty} {l : ℕ} (b : Binding) (bs : List Binding) (c : Ast) {o : Offence} {s : Ty}
        → Shows scope b.value s → Offends (inside scope b.name.text s) want (tree.Let l bs c) o → OffendsAt at scope want (tree.Let l (b ∷ bs) c) o
    body : {at : ℕ} {scope : Scope} {want : Option Ty} {l : ℕ} (c : Ast) {o : Offence}
        → Offends scope want c o → OffendsAt at scope want (tree.Let l [] c) o

  -- the offence stands in the tree, whose offset is that of its first token
  pub data Offends : Scope → Option Ty → Ast → Offence → Type 0 where
    stands : {at : ℕ} {scope : Scope} {want : Option Ty} {a : Ast} {o : Offence} → start a ≡ at → OffendsAt at scope want a o → Offends scope want a o

  -- the type that a tree has by itself; one with an offence inside fits everywhere
  pub data Shows : Scope → Ast → Ty → Type 0 where
    as_typed : {scope : Scope} {a : Ast} {e : Expr} {t : Ty} → Elaborates scope None a e t → Shows scope a t
    as_anything : {scope : Scope} {a : Ast} {o : Offence} → Offends scope None a o → Shows scope a (anything scope)

-- ---- which of several decides

-- the order of offences at one offset
abbrev pub rank : Offence → ℕ
rank (twice at) = 0
rank (unknown at) = 1
rank (arity at) = 2
rank (mismatch at) = 3
rank (empty_type at) = 4
rank (big_type at) = 5

abbrev pub offset : Offence → ℕ
offset (twice at) = at
offset (unknown at) = at
offset (arity at) = at
offset (mismatch at) = at
offset (empty_type at) = at
offset (big_type at) = at

-- the first stands no later than the second
abbrev pub NotAfter : Offence → Offence → Type 0
NotAfter o p = (offset o < offset p) ⊎ (offset o ≡ offset p) × (rank o ≤ rank p)

-- of the offences that stand, this one decides
pub record Decides (Stands : Offence → Type 0) (o : Offence) : Type 0 where
  pub stands : Stands o
  pub first : (p : Offence) → Stands p → NotAfter o p
