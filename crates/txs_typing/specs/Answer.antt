-- What the needed type that a call is given stands for, and what its result says.
use Rattle.std.specs.Prelude.{◌≡◌, ◌≢◌, ℕ, List, [], Option, Some, None, option_map, IfSome, slice_get}
use Rattle.txs_values.specs.declared.ty.Ty as rust_ty
use Rattle.txs_values.specs.Value.{Ty, Table, Value, HasType, HaveTypes}
use Rattle.txs_terms.specs.Typed.{IsType}
use Rattle.txs_values.specs.View.{ty_of}
use Rattle.txs_terms.specs.Expr.{Expr, put, filled}
use Rattle.txs_terms.specs.Eval.{eval, got, bad, wrong}
use Rattle.txs_terms.specs.Defs.{Function, Constant, Definitions, bodies}
use Rattle.txs_typing.specs.declared.fault.TypeFault.{TypeFault}
use Rattle.txs_typing.specs.declared.fault.TypeFault.TheVariants as fault
use Rattle.txs_typing.specs.Offends.{Offence, twice, unknown, arity, mismatch, empty_type, big_type, Decides}

-- the needed type, if there is one
abbrev pub want_of : Option rust_ty.Ty → Option Ty
want_of t = option_map ty_of t

-- the type that is needed, if one is, is of the table
abbrev pub IsNeed : Table → Option Ty → Type 0
IsNeed table None = Unit {0}
IsNeed table (Some t) = IsType table t

-- the offence that a fault names
abbrev pub offence_of : TypeFault → Option Offence
offence_of (fault.Twice at) = Some (twice at)
offence_of (fault.Unknown at) = Some (unknown at)
offence_of (fault.Arity at) = Some (arity at)
offence_of (fault.Mismatch at) = Some (mismatch at)
offence_of (fault.EmptyType at) = Some (empty_type at)
offence_of (fault.BigType at) = Some (big_type at)
offence_of fault.NoMemory = None

-- of the offences that stand, the fault names the one that decides; want of memory may be told of any
abbrev pub Told : TypeFault → (Offence → Type 0) → Type 0
Told f Stands = IfSome (offence_of f) (Decides Stands)

-- evaluated with values of these types, the expression meets no value of a wrong type, and what it gives is of its type
pub record IsSafe (d : Definitions) (types : List Ty) (e : Expr) (t : Ty) : Type 0 where
  pub never_wrong : (values : List Value) → HaveTypes d.table values types → eval (bodies d) (put (filled values) e) ≢ bad wrong
  pub gives : (values : List Value) → HaveTypes d.table values types → (v : Value) (n : ℕ) → eval (bodies d) (put (filled values) e) ≡ got v n → HasType d.table v t

-- the bodies of functions and constants are so
pub record AreSafe (d : Definitions) : Type 0 where
  pub functions : (i : ℕ) (f : Function) → slice_get d.functions i ≡ Some f → IsSafe d f.takes f.body f.gives
  pub constants : (i : ℕ) (k : Constant) → slice_get d.constants i ≡ Some k → IsSafe d [] k.body k.ty
