-- What each step of typing an expression gives.
use Rattle.std.specs.Prelude.{◌≡◌, ◌⊎◌, ℕ, true, false, List, [], ◌∷◌, ◌++◌, Option, Some, None, Result, Ok, Err}
use Rattle.txs_values.specs.Value.{Ty, integer, truth, string, named}
use Rattle.txs_values.specs.View.{ty_of}
use Rattle.txs_terms.specs.declared.expr.Expr as rust_expr
use Rattle.txs_terms.specs.Expr.{Expr, two, equal, both, either, plus, minus, times, divide, remainder, concat, differ, less_than, at_most, more_than, at_least}
use Rattle.txs_terms.specs.View.{expr_of, exprs_of}
use Rattle.txs_syntax.specs.declared.ast.Op.{Op}
use Rattle.txs_syntax.specs.declared.ast.Op.TheVariants as op
use Rattle.txs_syntax.specs.declared.ast.Ast.{Ast}
use Rattle.txs_typing.specs.declared.fault.TypeFault.{TypeFault}
use Rattle.txs_typing.specs.declared.fault.TypeFault.TheVariants as fault
use Rattle.txs_typing.specs.declared.typed.Typed as rust_typed
use Rattle.txs_typing.specs.Names.{Scope, Meaning, named_value, named_constant, named_function, named_constructor, named_test, named_selector, named_not, named_to_string, named_from_string, named_len, named_at, Fits, anything}
use Rattle.txs_typing.specs.Elaborates.{Suits, right_first, Makes, Elaborates, ElaboratesEach, HasInts}
use Rattle.txs_typing.specs.Offends.{Offence, Offends, Shows}
use Rattle.txs_typing.specs.Answer.{offence_of, Told}
use Rattle.txs_typing.specs.inner.Told.{Lesser}

abbrev pub Typed : Type 0
Typed = rust_typed.Typed

-- the type that an operator needs on both sides; none is needed if any two equal types may stand
abbrev pub operand : Op → Option Ty
operand op.Or = Some truth
operand op.And = Some truth
operand op.Equal = None
operand op.Different = None
operand op.Less = Some integer
operand op.AtMost = Some integer
operand op.More = Some integer
operand op.AtLeast = Some integer
operand op.Join = Some string
operand op.Plus = Some integer
operand op.Minus = Some integer
operand op.Times = Some integer
operand op.Divide = Some integer
operand op.Remainder = Some integer

-- the type of what it gives
abbrev pub outcome : Op → Ty
outcome op.Or = truth
outcome op.And = truth
outcome op.Equal = truth
outcome op.Different = truth
outcome op.Less = truth
outcome op.AtMost = truth
outcome op.More = truth
outcome op.AtLeast = truth
outcome op.Join = string
outcome op.Plus = integer
outcome op.Minus = integer
outcome op.Times = integer
outcome op.Divide = integer
outcome op.Remainder = integer

-- the expression of it
abbrev pub make : Op → Expr → Expr → Expr
make op.Or = either
make op.And = both
make op.Equal = equal
make op.Different = two differ
make op.Less = two less_than
make op.AtMost = two at_most
make op.More = two more_than
make op.AtLeast = two at_least
make op.Join = two concat
make op.Plus = two plus
make op.Minus = two minus
make op.Times = two times
make op.Divide = two divide
make op.Remainder = two remainder

-- the type that stands for a tree: its own, or if something offends in it one that fits everywhere
abbrev pub shown : Scope → Result Typed TypeFault → Ty
shown scope (Ok t) = ty_of t.ty
shown scope (Err f) = anything scope

-- the expression of this type, fitted to the needed type, if one is: it is typed so, or at this offset a mismatch
abbrev pub Fitted : Scope → Option Ty → ℕ → Ty → Result rust_expr.Expr TypeFault → Result Typed TypeFault → Type 0
Fitted scope want at t (Err f) r = r ≡ Err f
Fitted scope want at t (Ok e) (Ok x) = (x.expr ≡ e) × (ty_of x.ty ≡ t) × Suits scope want t
Fitted scope want at t (Ok e) (Err f) = (f ≡ fault.Mismatch at) × ((s : Ty) × (want ≡ Some s) × (Fits scope s t → ⊥))

-- the expression that is made of this, or its fault
abbrev pub Made : {A : Type 0} → (A → Expr) → Result A TypeFault → Result rust_expr.Expr TypeFault → Type 0
Made make (Ok x) (Ok e) = expr_of e ≡ make x
Made make (Ok x) (Err h) = h ≡ fault.NoMemory
Made make (Err f) r = r ≡ Err f

-- what is known of a result: it is so and none of these offences stands, or the fault tells which decides
abbrev pub Tells : {A : Type 0} → (A → Type 0) → (Offence → Type 0) → Result A TypeFault → Type 0
Tells Good Stands (Ok x) = Good x × ((o : Offence) → Stands o → ⊥)
Tells Good Stands (Err f) = Told f Stands

-- the tree, needed so, means it
abbrev pub Means : Scope → Option Ty → Ast → Typed → Type 0
Means scope want a t = Elaborates scope want a (expr_of t.expr) (ty_of t.ty) × HasInts a

-- the typed expression that is made of this, or its fault
abbrev pub MadeTyped : {A : Type 0} → (A → Expr × Ty) → Result A TypeFault → Result Typed TypeFault → Type 0
MadeTyped make (Ok x) (Ok t) = (expr_of t.expr, ty_of t.ty) ≡ make x
MadeTyped make (Ok x) (Err h) = h ≡ fault.NoMemory
MadeTyped make (Err f) r = r ≡ Err f

-- the type of a choice: the needed one, or that of its first branch
abbrev pub choice_type : Option Ty → Ty → Ty
choice_type None t = t
choice_type (Some s) t = s

-- of two sides, the one that is typed first and the one that is needed equal
abbrev pub InOrder : Scope → Ast → Ast → Typed × Typed → Type 0
InOrder scope a b p = Means scope None a p.0 × Means scope (Some (ty_of p.0.ty)) b p.1

abbrev pub OffendInOrder : Scope → Ast → Ast → Offence → Type 0
OffendInOrder scope a b o = Offends scope None a o ⊎ ((s : Ty) × Shows scope a s × Offends scope (Some s) b o)

-- the sides of a comparison
abbrev pub Sides : Scope → Ast → Ast → Typed × Typed → Type 0
Sides scope a b p = (right_first a b ≡ false) × InOrder scope a b p ⊎ (right_first a b ≡ true) × InOrder scope b a (p.1, p.0)

-- an argument, needed so, with an offence
abbrev pub Argues : Scope → List (Option Ty) → List Ast → Offence → Type 0
Argues scope [] [] o = ⊥
Argues scope [] (a ∷ args) o = ⊥
Argues scope (n ∷ needs) [] o = ⊥
Argues scope (n ∷ needs) (a ∷ args) o = Offends scope n a o ⊎ Argues scope needs args o

abbrev pub HaveInts : List Ast → Type 0
HaveInts [] = Unit {0}
HaveInts (a ∷ args) = HasInts a × HaveInts args

-- arguments, needed so, mean these expressions, or this fault decides among the offences in them
abbrev pub JudgesEach : Scope → List (Option Ty) → List Ast → Result (List rust_expr.Expr) TypeFault → Type 0
JudgesEach scope needs args (Ok es) = ElaboratesEach scope needs args (exprs_of es) × HaveInts args
JudgesEach scope needs args (Err f) = Told f (Argues scope needs args)

-- the expressions so far, with one more result
abbrev pub Gathers : Result (List rust_expr.Expr) TypeFault → Result Typed TypeFault → Result (List rust_expr.Expr) TypeFault → Type 0
Gathers (Ok es) (Ok t) (Ok fs) = fs ≡ es ++ t.expr ∷ []
Gathers (Ok es) (Ok t) (Err h) = h ≡ fault.NoMemory
Gathers (Ok es) (Err g) r = r ≡ Err g
Gathers (Err f) (Ok t) r = r ≡ Err f
Gathers (Err f) (Err g) (Ok fs) = ⊥
Gathers (Err f) (Err g) (Err h) = Lesser f g h

-- the type of a call, if this one or none is needed
abbrev pub call_type : Meaning → Option Ty → Option Ty
call_type (named_value b) want = None
call_type (named_constant k t) want = None
call_type (named_function f ts t) want = Some t
call_type (named_constructor c k ts) want = Some (named k)
call_type (named_test c k) want = Some truth
call_type (named_selector c j k t) want = Some t
call_type named_not want = Some truth
call_type named_to_string want = Some string
call_type named_from_string want = want
call_type named_len want = Some integer
call_type named_at want = Some string

-- wherever a call has this type, it is this expression
abbrev pub Applies : Meaning → Ty → List Expr → Expr → Type 0
Applies m t es e = (want : Option Ty) → call_type m want ≡ Some t → Makes want m es e t

-- the call is of another type than the needed one, or of none if none is needed
abbrev pub IsMismade : Scope → Option Ty → Meaning → List Expr → Type 0
IsMismade scope want m es =
    (call_type m want ≡ None)
    ⊎ ((s : Ty) × (t : Ty) × (e : Expr) × (want ≡ Some s) × (call_type m want ≡ Some t) × (Fits scope s t → ⊥) × Applies m t es e)

-- a call with the arguments that were found
abbrev pub CallsWith : Scope → Option Ty → ℕ → Meaning → Result (List rust_expr.Expr) TypeFault → Result Typed TypeFault → Type 0
CallsWith scope want at m (Ok es) (Ok t) = Makes want m (exprs_of es) (expr_of t.expr) (ty_of t.ty) × Suits scope want (ty_of t.ty)
CallsWith scope want at m (Ok es) (Err f) = (f ≡ fault.NoMemory) ⊎ (f ≡ fault.Mismatch at) × IsMismade scope want m (exprs_of es)
CallsWith scope want at m (Err f) r = r ≡ Err f

-- each argument of a call that is an offence itself is needed at any type
abbrev pub stray_needs : Scope → List Ast → List (Option Ty)
stray_needs scope [] = []
stray_needs scope (a ∷ args) = Some (anything scope) ∷ stray_needs scope args

-- the offence of the fault stands, or one of an argument
abbrev pub Strays : Scope → TypeFault → List Ast → Offence → Type 0
Strays scope f args o = (offence_of f ≡ Some o) ⊎ Argues scope (stray_needs scope args) args o

abbrev pub StraysWith : TypeFault → Result (List rust_expr.Expr) TypeFault → Result Typed TypeFault → Type 0
StraysWith g (Ok es) r = r ≡ Err g
StraysWith g (Err f) r = (h : TypeFault) × (r ≡ Err h) × Lesser g f h

-- the two, the other way round
abbrev pub Turned : Result (Typed × Typed) TypeFault → Result (Typed × Typed) TypeFault → Type 0
Turned (Ok p) r = r ≡ Ok (p.1, p.0)
Turned (Err f) r = r ≡ Err f
