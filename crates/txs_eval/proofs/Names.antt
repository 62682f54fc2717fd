-- The bindings of a LET, one after the other.
use Rattle.std.proofs.Common.{◌≡◌, ℕ, suc, ◌+◌, ◌-◌, ◌<◌, ◌≤◌, List, [], ◌∷◌, ◌++◌, length, get_or, drop, refl, sym, ap, ◌∙◌, subst, Result, Ok, Err, IfErr, zero, arith, add-one, drop-cons}
use Rattle.std.proofs.lemmas.List.{drop_all}
use Rattle.txs_values.specs.declared.value.Value as rust
use Rattle.txs_values.specs.Value.{Value}
use Rattle.txs_values.specs.View.{value_of}
use Rattle.txs_terms.specs.declared.expr.Binding.{Binding}
use Rattle.txs_terms.specs.Expr.{Expr, let_in}
use Rattle.txs_terms.specs.Eval.{Defs, Run, got, bad, then_run}
use Rattle.txs_terms.specs.Under.{Environment, with_variable, run_bare}
use Rattle.txs_terms.specs.View.{expr_of, bounds_of, let_all}
use Rattle.txs_eval.specs.declared.fault.Stop.{Stop}
use Rattle.txs_eval.specs.declared.fault.Stop.TheVariants as stop
use Rattle.txs_eval.specs.Answer.{Stopped, around}
use Rattle.txs_eval.proofs.Steps.{run_node}
use Rattle.txs_eval.proofs.Nodes.{one_more_local}

-- a binding, once its expression has a value
pub bind_step : (d : Defs) (left : ℕ) (env : Environment) (x : List ℕ) (a b : Expr) (n m : ℕ) (v : Value) → (left ≡ 0 → ⊥) → n < 1000000
    → run_bare d (left - 1) env a (n + 1) ≡ got v m
    → run_bare d left env (let_in x a b) n ≡ run_bare d (left - 1) (with_variable env v) b m
bind_step d left env x a b n m v h l e =
    run_node d left env (let_in x a b) n h l ∙ ap (λ r. then_run r (λ w. run_bare d (left - 1) (with_variable env w) b)) e

-- where the first of two evaluations stops
run_stopped : (r : Run) (go : Value → ℕ → Run) (s : Stop) → Stopped bad s r → Stopped bad s (then_run r go)
run_stopped r go stop.Division p = rw p refl
run_stopped r go stop.Range p = rw p refl
run_stopped r go stop.Selector p = rw p refl
run_stopped r go stop.Form p = rw p refl
run_stopped r go stop.High p = rw p refl
run_stopped r go stop.Long p = rw p refl
run_stopped r go stop.Size p = rw p refl
run_stopped r go stop.Wrong p = rw p refl
run_stopped r go stop.NoMemory p = tt

pub bind_stopped : (d : Defs) (left : ℕ) (env : Environment) (x : List ℕ) (a b : Expr) (n : ℕ) (result : Result ℕ Stop) → (left ≡ 0 → ⊥) → n < 1000000
    → IfErr result (λ s. Stopped bad s (run_bare d (left - 1) env a (n + 1))) → IfErr result (λ s. Stopped bad s (run_bare d left env (let_in x a b) n))
bind_stopped d left env x a b n (Ok m) h l p = tt
bind_stopped d left env x a b n (Err s) h l p =
    subst (Stopped bad s) (sym (run_node d left env (let_in x a b) n h l))
    (run_stopped (run_bare d (left - 1) env a (n + 1)) (λ v. run_bare d (left - 1) (with_variable env v) b) s p)

pub one_less : (left i n : ℕ) → (left ≡ 0 → ⊥) → left + i ≡ n → left - 1 + (i + 1) ≡ n
one_less zero i n h e = absurd (h refl)
one_less (suc left) i n h e = omega arith

module _ (bs : List Binding) (body : Expr) where
  -- what is left of a LET after its first bindings
  abbrev pub rest_of : ℕ → Expr
  rest_of i = let_all (bounds_of (drop i bs)) body

  pub rest_is : (i : ℕ) (b : Binding) → i < length bs → b ≡ get_or bs i b → rest_of i ≡ let_in b.name (expr_of b.value) (rest_of (i + 1))
  rest_is i b h e = let q : drop i bs ≡ get_or bs i b ∷ drop (suc i) bs = drop-cons bs i b h in
      ap (λ l. let_all (bounds_of l) body) q ∙ rw (add-one, sym e) refl

  pub rest_end : (i : ℕ) → length bs ≤ i → rest_of i ≡ body
  rest_end i h = ap (λ l. let_all (bounds_of l) body) (drop_all i bs h)

  -- a binding has a value, which the rest sees
  pub names_step : (d : Defs) (slots locals after : List rust.Value) (left i n m : ℕ) (b : Binding) (v : rust.Value) → i < length bs → b ≡ get_or bs i b
      → (left ≡ 0 → ⊥) → n < 1000000 → run_bare d (left - 1) (around slots locals) (expr_of b.value) (n + 1) ≡ got (value_of v) m → after ≡ locals ++ v ∷ []
      → run_bare d left (around slots locals) (rest_of i) n ≡ run_bare d (left - 1) (around slots after) (rest_of (i + 1)) m
  names_step d slots locals after left i n m b v h q z l e p =
      ap (λ x. run_bare d left (around slots locals) x n) (rest_is i b h q)
      ∙ (bind_step d left (around slots locals) b.name (expr_of b.value) (rest_of (i + 1)) n m (value_of v) z l e
      ∙ ap (λ env. run_bare d (left - 1) env (rest_of (i + 1)) m) (one_more_local slots locals v ∙ ap (around slots) (sym p)))
