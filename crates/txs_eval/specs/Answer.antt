-- What a result of the program says of an evaluation.
use Rattle.std.specs.Prelude.{◌≡◌, ◌≢◌, ℕ, Bool, List, [], Result, Ok, Err}
use Rattle.txs_values.specs.declared.value.Value as rust
use Rattle.txs_values.specs.Value.{Ty, Value, bool, HaveTypes}
use Rattle.txs_values.specs.View.{value_of, values_of}
use Rattle.txs_terms.specs.declared.expr.Expr as rust_expr
use Rattle.txs_terms.specs.declared.expr.Expr.TheVariants as variant
use Rattle.txs_terms.specs.declared.expr.Binding.{Binding}
use Rattle.txs_terms.specs.Expr.{Expr}
use Rattle.txs_terms.specs.Typed.{Signatures, Of, AreTyped}
use Rattle.txs_terms.specs.Under.{Environment}
use Rattle.txs_terms.specs.Defs.{Definitions, bodies}
use Rattle.txs_terms.specs.Eval.{Fault, division, range, selector, form, high, long, big, wrong, Outcome, fine, broken, Run, got, bad, Runs, gots, bads, then_run, if_true}
use Rattle.txs_eval.specs.declared.fault.EvalFault.{EvalFault}
use Rattle.txs_eval.specs.declared.fault.EvalFault.TheVariants as fault
use Rattle.txs_eval.specs.declared.fault.Stop.{Stop}
use Rattle.txs_eval.specs.declared.fault.Stop.TheVariants as stop

-- an evaluation that ends so is answered by this; want of memory may be answered to any
abbrev pub Answers : Run → Result rust.Value EvalFault → Type 0
Answers (got v n) (Ok x) = value_of x ≡ v
Answers (got v n) (Err e) = e ≡ fault.NoMemory
Answers (bad f) (Ok x) = ⊥
Answers (bad f) (Err fault.NoMemory) = Unit {0}
Answers (bad division) (Err e) = e ≡ fault.Division
Answers (bad range) (Err e) = e ≡ fault.Range
Answers (bad selector) (Err e) = e ≡ fault.Selector
Answers (bad form) (Err e) = e ≡ fault.Form
Answers (bad high) (Err e) = e ≡ fault.High
Answers (bad long) (Err e) = e ≡ fault.Long
Answers (bad big) (Err e) = e ≡ fault.Size
Answers (bad wrong) (Err e) = ⊥

-- the expression has the type by some signatures that the definitions have, if its variables have the types of these values
pub record IsTyped (d : Definitions) (values : List Value) (e : Expr) (t : Ty) : Type 0 where
  pub signatures : Signatures
  pub definitions : AreTyped (bodies d) signatures
  pub types : List Ty
  pub have : HaveTypes d.table values types
  pub typed : Of d.table signatures types [] e t

-- ---- within the crate

-- it stopped by this fault, or for want of memory
abbrev pub Stopped : {A : Type 0} → (Fault → A) → Stop → A → Type 0
Stopped go stop.Division o = o ≡ go division
Stopped go stop.Range o = o ≡ go range
Stopped go stop.Selector o = o ≡ go selector
Stopped go stop.Form o = o ≡ go form
Stopped go stop.High o = o ≡ go high
Stopped go stop.Long o = o ≡ go long
Stopped go stop.Size o = o ≡ go big
Stopped go stop.Wrong o = o ≡ go wrong
Stopped go stop.NoMemory o = Unit {0}

-- the outcome of an operator
abbrev pub Comes : Result rust.Value Stop → Outcome → Type 0
Comes (Ok x) o = o ≡ fine (value_of x)
Comes (Err e) o = Stopped broken e o

-- the end of an evaluation, with the nodes entered so far
abbrev pub Ends : Result (rust.Value × ℕ) Stop → Run → Type 0
Ends (Ok p) r = r ≡ got (value_of p.0) p.1
Ends (Err e) r = Stopped bad e r

abbrev pub EndEach : Result (List rust.Value × ℕ) Stop → Runs → Type 0
EndEach (Ok p) r = r ≡ gots (values_of p.0) p.1
EndEach (Err e) r = Stopped bads e r

-- the end of an evaluation that is to give a truth value
abbrev pub EndTruth : Result (Bool × ℕ) Stop → Run → Type 0
EndTruth (Ok p) r = r ≡ got (bool p.0) p.1
EndTruth (Err e) r = (a b : ℕ → Run) → Stopped bad e (then_run r (λ x m. if_true x (a m) (b m)))

-- the values of the slots and of the locals around an expression
abbrev pub around : List rust.Value → List rust.Value → Environment
around slots locals = record { slots = values_of slots; locals = values_of locals }

-- it is no LET
abbrev pub IsNoLet : rust_expr.Expr → Type 0
IsNoLet e = (bs : List Binding) → (body : rust_expr.Expr) → e ≢ variant.Let bs body

-- if it is a LET, it binds something
abbrev pub IsNoEmptyLet : rust_expr.Expr → Type 0
IsNoEmptyLet e = (body : rust_expr.Expr) → e ≢ variant.Let [] body
