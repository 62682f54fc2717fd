-- One step of an evaluation: the limits, a body, and several expressions in turn.
use Rattle.std.proofs.Common.{◌≡◌, ℕ, zero, suc, ◌+◌, ◌-◌, ◌<◌, ◌≤◌, true, false, ltb, List, [], ◌∷◌, ◌++◌, length, get_or, drop, refl, sym, ap, arith, add-one, append_assoc, drop-cons}
use Rattle.std.proofs.lemmas.Bool.{lt-ltb, le-ltb}
use Rattle.std.proofs.lemmas.List.{append-nil, drop_all}
use Rattle.txs_values.specs.Value.{Value}
use Rattle.txs_terms.specs.declared.expr.Expr as rust_expr
use Rattle.txs_terms.specs.Expr.{Expr}
use Rattle.txs_terms.specs.Eval.{Defs, Run, got, bad, Runs, gots, bads, Fault, high, long, node_limit, with_first}
use Rattle.txs_terms.specs.Under.{Environment, each_under, node_bare, run_bare}
use Rattle.txs_terms.specs.View.{expr_of, exprs_of}

limit_is : node_limit ≡ 1000000
unfolding node_limit
limit_is = refl

pub run_high : (defs : Defs) (left : ℕ) (env : Environment) (e : Expr) (n : ℕ) → left ≡ 0 → run_bare defs left env e n ≡ bad high
run_high defs left env e n h = rw h refl

pub run_long : (defs : Defs) (left : ℕ) (env : Environment) (e : Expr) (n : ℕ) → (left ≡ 0 → ⊥) → 1000000 ≤ n → run_bare defs left env e n ≡ bad long
run_long defs zero env e n h l = absurd (h refl)
run_long defs (suc left) env e n h l = let q : ltb n node_limit ≡ false = rw limit_is (le-ltb n 1000000 l) in rw q refl

pub run_node : (defs : Defs) (left : ℕ) (env : Environment) (e : Expr) (n : ℕ) → (left ≡ 0 → ⊥) → n < 1000000
    → run_bare defs left env e n ≡ node_bare defs (run_bare defs (left - 1)) env e (n + 1)
run_node defs zero env e n h l = absurd (h refl)
run_node defs (suc left) env e n h l =
    let q : ltb n node_limit ≡ true = rw limit_is (lt-ltb n 1000000 l) in
    let a : suc left - 1 ≡ left = omega arith in
    let b : n + 1 ≡ suc n = omega arith in
    rw (q, a, b) refl

-- ---- several expressions

abbrev pub with_prefix : List Value → Runs → Runs
with_prefix vs (gots ws n) = gots (vs ++ ws) n
with_prefix vs (bads f) = bads f

no_prefix : (r : Runs) → with_prefix [] r ≡ r
no_prefix (gots ws n) = refl
no_prefix (bads f) = refl

prefix_more : (vs : List Value) (v : Value) (r : Runs) → with_prefix vs (with_first v r) ≡ with_prefix (vs ++ v ∷ []) r
prefix_more vs v (bads f) = refl
prefix_more vs v (gots ws n) = ap (λ l. gots l n) (sym (append_assoc vs (v ∷ []) ws))

module _ (ev : Expr → ℕ → Run) (xs : List rust_expr.Expr) where
  abbrev pub rest_from : ℕ → ℕ → Runs
  rest_from i n = each_under ev (exprs_of (drop i xs)) n

  pub each_begin : (n : ℕ) → each_under ev (exprs_of xs) n ≡ with_prefix [] (rest_from 0 n)
  each_begin n = sym (no_prefix (rest_from 0 n))

  pub each_step : (i : ℕ) (vs : List Value) (n m : ℕ) (v : Value) (d : rust_expr.Expr) → i < length xs
      → ev (expr_of (get_or xs i d)) n ≡ got v m
      → with_prefix vs (rest_from i n) ≡ with_prefix (vs ++ v ∷ []) (rest_from (i + 1) m)
  each_step i vs n m v d h e = rw (drop-cons xs i d h, add-one, e) (prefix_more vs v (rest_from (suc i) m))

  pub each_stop : (i : ℕ) (vs : List Value) (n : ℕ) (k : Fault) (d : rust_expr.Expr) → i < length xs
      → ev (expr_of (get_or xs i d)) n ≡ bad k → with_prefix vs (rest_from i n) ≡ bads k
  each_stop i vs n k d h e = rw (drop-cons xs i d h, e) refl

  pub each_end : (i : ℕ) (vs : List Value) (n : ℕ) → length xs ≤ i → with_prefix vs (rest_from i n) ≡ gots vs n
  each_end i vs n h = let e : drop i xs ≡ [] = drop_all i xs h in rw (e, append-nil) refl
