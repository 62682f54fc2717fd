-- Values put into an expression, against values in an environment; and a bare evaluation, against one that looks at types.
use Rattle.std.specs.Prelude.{◌≡◌, ◌≢◌, ℕ, List}
use Rattle.txs_values.specs.Value.{Value}
use Rattle.txs_terms.specs.Expr.{Expr, put, filled}
use Rattle.txs_terms.specs.Eval.{Defs, run, wrong, bad}
use Rattle.txs_terms.specs.Under.{Environment, parameters, run_under, run_bare}

-- a filled expression evaluates as the expression under those values
abbrev pub FilledIsUnder : Type 0
FilledIsUnder =
    (defs : Defs) (vs : List Value) (e : Expr) (left n : ℕ) → run defs left (put (filled vs) e) n ≡ run_under defs left (parameters vs) e n

-- where the evaluation that looks at types is not wrong, the bare one ends alike
abbrev pub BareIsUnder : Type 0
BareIsUnder =
    (defs : Defs) (left : ℕ) (env : Environment) (e : Expr) (n : ℕ) → run_under defs left env e n ≢ bad wrong
    → run_bare defs left env e n ≡ run_under defs left env e n
