-- Evaluation under values: a variable stands for its value in an environment, and nothing is put into the expression.
-- It looks at the types of values as `eval` does, or, *bare*, it does not.
use Rattle.std.specs.Prelude.{ℕ, zero, suc, Bool, false, true, cond, ltb, List, [], ◌∷◌, ◌++◌, Option, Some, None, slice_get}
use Rattle.txs_values.specs.Value.{Value, bool, cons, packed, same_value}
use Rattle.txs_terms.specs.Expr.{Expr, val, slot, local, constant, one, two, equal, both, either, choose, apply, build, let_in, Exprs, none, more}
use Rattle.txs_terms.specs.Eval.{Defs, Run, got, bad, Runs, gots, wrong, high, long, node_limit, checked, are_comparable, takes_one, takes_two, takes_fields, have_types, after, then_run, then_runs, cons_run, if_true, body_run, unary, binary, sized}

-- the values of the variables around an expression, and of the LETs around it in it, the outermost first
pub record Environment : Type 0 where
  pub slots : List Value
  pub locals : List Value

abbrev pub Under : Type 0
Under = Environment → Expr → ℕ → Run

-- the value of a variable
abbrev pub looked_up : Option Value → ℕ → Run
looked_up None n = bad wrong
looked_up (Some v) n = got v n

-- each in order
abbrev pub each_under : (Expr → ℕ → Run) → List Expr → ℕ → Runs
each_under ev [] n = gots [] n
each_under ev (e ∷ es) n = cons_run (ev e n) (each_under ev es)

abbrev pub operands : Exprs → List Expr
operands none = []
operands (more e es) = e ∷ operands es

abbrev pub with_variable : Environment → Value → Environment
with_variable env v = record { slots = env.slots; locals = env.locals ++ v ∷ [] }

-- a body sees its parameters alone
abbrev pub parameters : List Value → Environment
parameters vs = record { slots = vs; locals = [] }

-- what is asked of values, where it is looked at
abbrev pub passes : Bool → Bool → Bool
passes true asked = asked
passes false asked = true

module _ (looks : Bool) (defs : Defs) (ev : Under) (env : Environment) where
  -- one node, which is entered; `ev` evaluates one level below it
  abbrev pub node_by : Expr → ℕ → Run
  node_by (val v) n = got v n
  node_by (slot i) n = looked_up (slice_get env.slots i) n
  node_by (local i) n = looked_up (slice_get env.locals i) n
  node_by (constant k) n = body_run (slice_get defs.constants k) (λ e. ev (parameters []) e n)
  node_by (one o a) n =
      then_run (ev env a n) (λ x m. checked (passes looks (takes_one defs.table o x)) (after (unary defs.table o x) m))
  node_by (two o a b) n =
      then_run (ev env a n) (λ x m. then_run (ev env b m)
      (λ y k. checked (passes looks (takes_two defs.table o x y)) (after (binary o x y) k)))
  node_by (equal a b) n =
      then_run (ev env a n) (λ x m. then_run (ev env b m)
      (λ y k. checked (passes looks (are_comparable defs.table x y)) (got (bool (same_value x y)) k)))
  node_by (both a b) n = then_run (ev env a n) (λ x m. if_true x (ev env b m) (got (bool false) m))
  node_by (either a b) n = then_run (ev env a n) (λ x m. if_true x (got (bool true) m) (ev env b m))
  node_by (choose c a b) n = then_run (ev env c n) (λ x m. if_true x (ev env a m) (ev env b m))
  node_by (apply f es) n =
      then_runs (each_under (ev env) (operands es) n) (λ vs m. body_run (slice_get defs.functions f)
      (λ b. checked (passes looks (have_types defs.table vs b.takes)) (ev (parameters vs) b.body m)))
  node_by (build c es) n =
      then_runs (each_under (ev env) (operands es) n)
      (λ vs m. checked (passes looks (takes_fields defs.table c vs)) (after (sized (cons c (packed vs))) m))
  node_by (let_in x a b) n = then_run (ev env a n) (λ v. ev (with_variable env v) b)

module _ (looks : Bool) (defs : Defs) where
  -- the value of an expression under these values, when `left` more levels may be entered and `n` nodes were
  abbrev pub run_by : ℕ → Under
  run_by zero env e n = bad high
  run_by (suc left) env e n = cond (ltb n node_limit) (node_by looks defs (run_by left) env e (suc n)) (bad long)

abbrev pub run_under : Defs → ℕ → Under
run_under defs = run_by true defs

-- without a look at types
abbrev pub run_bare : Defs → ℕ → Under
run_bare defs = run_by false defs

abbrev pub node_bare : Defs → Under → Environment → Expr → ℕ → Run
node_bare defs ev = node_by false defs ev
