-- The evaluation as a whole: the values put in, and the types.
use Rattle.std.proofs.Common.{◌≡◌, ◌≢◌, ℕ, List, [], refl, sym, ap, ◌∙◌, subst, Ok, Err}
use Rattle.txs_values.specs.declared.value.Value as rust
use Rattle.txs_values.specs.Value.{Ty, Value, HasType}
use Rattle.txs_values.specs.View.{value_of, values_of}
use Rattle.txs_terms.specs.Expr.{Expr, put, filled}
use Rattle.txs_terms.specs.Eval.{Defs, Run, run, eval, got, bad, wrong, height_limit}
use Rattle.txs_terms.specs.Typed.{Of}
use Rattle.txs_terms.specs.Under.{run_under, run_bare}
use Rattle.txs_terms.specs.Defs.{Definitions, bodies}
use Rattle.txs_terms.proofs.under.Bare.{bare_is}
use Rattle.txs_terms.proofs.under.Node.{filled_is_under}
use Rattle.txs_terms.proofs.typing.Putting.{put_typed, filled_all}
use Rattle.txs_terms.proofs.typing.Runs.{run_right, run_typed}
use Rattle.txs_eval.specs.declared.fault.EvalFault.{EvalFault}
use Rattle.txs_eval.specs.declared.fault.Stop.{Stop}
use Rattle.txs_eval.specs.declared.fault.Stop.TheVariants as stop
use Rattle.txs_eval.specs.Answer.{Answers, IsTyped, Stopped, around}

limit_is : height_limit ≡ 1000
unfolding height_limit
limit_is = refl

-- the value of the expression with the values put in is the one under them
is_under : (defs : Defs) (vs : List rust.Value) (e : Expr) → eval defs (put (filled (values_of vs)) e) ≡ run_under defs 1000 (around vs []) e 0
is_under defs vs e = ap (λ left. run defs left (put (filled (values_of vs)) e) 0) limit_is ∙ filled_is_under defs (values_of vs) e 1000 0

-- and, if it is not wrong, also the bare one
is_bare : (defs : Defs) (vs : List rust.Value) (e : Expr) → eval defs (put (filled (values_of vs)) e) ≢ bad wrong
    → eval defs (put (filled (values_of vs)) e) ≡ run_bare defs 1000 (around vs []) e 0
is_bare defs vs e h = is_under defs vs e ∙ sym (bare_is defs 1000 (around vs []) e 0 (λ w. h (is_under defs vs e ∙ w)))

closed : (d : Definitions) (vs : List Value) (e : Expr) (t : Ty) (h : IsTyped d vs e t) → Of d.table h.signatures [] [] (put (filled vs) e) t
closed d vs e t h = put_typed d.table h.signatures h.typed (filled vs) [] (filled_all d.table h.signatures vs h.types h.have)

pub never_wrong : (d : Definitions) (vs : List Value) (e : Expr) (t : Ty) → IsTyped d vs e t → eval (bodies d) (put (filled vs) e) ≢ bad wrong
never_wrong d vs e t h = run_right (bodies d) h.signatures h.definitions (put (filled vs) e) t height_limit 0 (closed d vs e t h)

-- what is well typed needs no look at types
pub eval_is : (d : Definitions) (vs : List rust.Value) (e : Expr) (t : Ty) → IsTyped d (values_of vs) e t
    → eval (bodies d) (put (filled (values_of vs)) e) ≡ run_bare (bodies d) 1000 (around vs []) e 0
eval_is d vs e t h = is_bare (bodies d) vs e (never_wrong d (values_of vs) e t h)

pub gives_typed : (d : Definitions) (vs : List Value) (e : Expr) (t : Ty) → IsTyped d vs e t
    → (v : Value) (n : ℕ) → eval (bodies d) (put (filled vs) e) ≡ got v n → HasType d.table v t
gives_typed d vs e t h v n q = run_typed (bodies d) h.signatures h.definitions (put (filled vs) e) t height_limit 0 (closed d vs e t h) v n q

-- ---- the answer

pub answered : (x : rust.Value) (n : ℕ) (r : Run) → r ≡ got (value_of x) n → Answers r (Ok x)
answered x n r q = subst (λ s. Answers s (Ok x)) (sym q) refl

pub stopped : (s : Stop) (r q : Run) → r ≡ q → Stopped bad s q → (f : EvalFault) → ((k : Run) → Stopped bad s k → Answers k (Err f)) → Answers r (Err f)
stopped s r q e h f k = k r (subst (Stopped bad s) (sym e) h)

pub stops_right : (s : Stop) (r : Run) → r ≢ bad wrong → Stopped bad s r → s ≢ stop.Wrong
stops_right s r h k e = h (subst (λ z. Stopped bad z r) e k)
