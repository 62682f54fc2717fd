-- One node of an evaluation with the values put in, and one under the values; and so the whole evaluation.
use Rattle.std.proofs.Common.{◌≡◌, ℕ, zero, suc, Bool, true, ltb, List, [], ◌∷◌, ◌++◌, Option, slice_get, cond, refl, sym, ap, ◌∙◌}
use Rattle.txs_values.specs.Value.{Value, bool, cons, packed, same_value}
use Rattle.txs_terms.specs.Expr.{Expr, val, slot, local, constant, one, two, equal, both, either, choose, apply, build, let_in, Exprs, none, more, put, with_local, filled}
use Rattle.txs_terms.specs.Eval.{Defs, Eval, Run, bad, long, Runs, node_limit, then_run, then_runs, cons_run, each, if_true, body_run, node, run, unary, binary, after, sized, got, checked, takes_one, takes_two, are_comparable, have_types, takes_fields}
use Rattle.txs_terms.specs.Under.{Environment, Under, looked_up, each_under, operands, parameters, node_by, run_under}
use Rattle.txs_terms.proofs.under.Seen.{local_under, seen, each_seen, seen_filled, seen_bare, local_seen}

abbrev pub environment : List Value → List Value → Environment
environment vs ws = record { slots = vs; locals = ws }

pub then_alike : (r s : Run) (f g : Value → ℕ → Run) → r ≡ s → ((v : Value) (m : ℕ) → f v m ≡ g v m) → then_run r f ≡ then_run s g
then_alike r s f g p h = λ k. then_run (p k) (λ v m. h v m k)

thens_alike : (r s : Runs) (f g : List Value → ℕ → Run) → r ≡ s → ((vs : List Value) (m : ℕ) → f vs m ≡ g vs m) → then_runs r f ≡ then_runs s g
thens_alike r s f g p h = λ k. then_runs (p k) (λ v m. h v m k)

cons_alike : (r s : Run) (f g : ℕ → Runs) → r ≡ s → ((m : ℕ) → f m ≡ g m) → cons_run r f ≡ cons_run s g
cons_alike r s f g p h = λ k. cons_run (p k) (λ m. h m k)

body_alike : {A : Type 0} (o : Option A) (f g : A → Run) → ((e : A) → f e ≡ g e) → body_run o f ≡ body_run o g
body_alike o f g h = λ k. body_run o (λ e. h e k)

checked_alike : (b : Bool) (r s : Run) → r ≡ s → checked b r ≡ checked b s
checked_alike b r s p = ap (checked b) p

if_alike : (v : Value) (a b c d : Run) → a ≡ c → b ≡ d → if_true v a b ≡ if_true v c d
if_alike v a b c d p q = λ k. if_true v (p k) (q k)

module _ (defs : Defs) (ev : Eval) (under : Under)
    (below : (vs ws : List Value) (e : Expr) (n : ℕ) → ev (seen vs ws e) n ≡ under (environment vs ws) e n) where
  slot_is : (vs : List Value) (i n : ℕ) → node defs ev (filled vs i) n ≡ looked_up (slice_get vs i) n
  slot_is [] i n = refl
  slot_is (v ∷ vs) zero n = refl
  slot_is (v ∷ vs) (suc i) n = slot_is vs i n

  local_is : (ws : List Value) (i n : ℕ) → node defs ev (local_under ws i) n ≡ looked_up (slice_get ws i) n
  local_is [] i n = refl
  local_is (w ∷ ws) zero n = refl
  local_is (w ∷ ws) (suc i) n = local_is ws i n

  each_is : (vs ws : List Value) (es : Exprs) (n : ℕ) → each ev (each_seen vs ws es) n ≡ each_under (under (environment vs ws)) (operands es) n
  each_is vs ws none n = refl
  each_is vs ws (more e es) n = cons_alike _ _ _ _ (below vs ws e n) (each_is vs ws es)

  alone_is : (e : Expr) (n : ℕ) → ev e n ≡ under (parameters []) e n
  alone_is e n = ap (λ x. ev x n) (sym (seen_bare e)) ∙ below [] [] e n

  body_is : (vs : List Value) (e : Expr) (n : ℕ) → ev (put (filled vs) e) n ≡ under (parameters vs) e n
  body_is vs e n = ap (λ x. ev x n) (sym (seen_filled vs e)) ∙ below vs [] e n

  let_is : (vs ws : List Value) (e : Expr) (v : Value) (n : ℕ) → ev (with_local v (seen vs ws e)) n ≡ under (environment vs (ws ++ v ∷ [])) e n
  let_is vs ws e v n = ap (λ x. ev x n) (local_seen v vs ws e) ∙ below vs (ws ++ v ∷ []) e n

  pub node_is : (vs ws : List Value) (e : Expr) (n : ℕ) → node defs ev (seen vs ws e) n ≡ node_by true defs under (environment vs ws) e n
  node_is vs ws (val v) n = refl
  node_is vs ws (slot i) n = slot_is vs i n
  node_is vs ws (local i) n = local_is ws i n
  node_is vs ws (constant k) n = body_alike (slice_get defs.constants k) _ _ (λ e. alone_is e n)
  node_is vs ws (one o a) n =
      ap (λ r. then_run r (λ x m. checked (takes_one defs.table o x) (after (unary defs.table o x) m))) (below vs ws a n)
  node_is vs ws (two o a b) n =
      then_alike _ _ _ _ (below vs ws a n)
      (λ x m. ap (λ r. then_run r (λ y k. checked (takes_two defs.table o x y) (after (binary o x y) k))) (below vs ws b m))
  node_is vs ws (equal a b) n =
      then_alike _ _ _ _ (below vs ws a n)
      (λ x m. ap (λ r. then_run r (λ y k. checked (are_comparable defs.table x y) (got (bool (same_value x y)) k))) (below vs ws b m))
  node_is vs ws (both a b) n = then_alike _ _ _ _ (below vs ws a n) (λ x m. if_alike x _ _ _ _ (below vs ws b m) refl)
  node_is vs ws (either a b) n = then_alike _ _ _ _ (below vs ws a n) (λ x m. if_alike x _ _ _ _ refl (below vs ws b m))
  node_is vs ws (choose c a b) n = then_alike _ _ _ _ (below vs ws c n) (λ x m. if_alike x _ _ _ _ (below vs ws a m) (below vs ws b m))
  node_is vs ws (apply f es) n =
      thens_alike _ _ _ _ (each_is vs ws es n)
      (λ us m. body_alike (slice_get defs.functions f) _ _ (λ b. checked_alike (have_types defs.table us b.takes) _ _ (body_is us b.body m)))
  node_is vs ws (build c es) n =
      ap (λ r. then_runs r (λ us m. checked (takes_fields defs.table c us) (after (sized (cons c (packed us))) m))) (each_is vs ws es n)
  node_is vs ws (let_in x a b) n = then_alike _ _ _ _ (below vs ws a n) (let_is vs ws b)

pub seen_is : (defs : Defs) (left : ℕ) (vs ws : List Value) (e : Expr) (n : ℕ)
    → run defs left (seen vs ws e) n ≡ run_under defs left (environment vs ws) e n
seen_is defs zero vs ws e n = refl
seen_is defs (suc left) vs ws e n =
    ap (λ r. cond (ltb n node_limit) r (bad long)) (node_is defs (run defs left) (run_under defs left) (seen_is defs left) vs ws e (suc n))

pub filled_is_under : (defs : Defs) (vs : List Value) (e : Expr) (left n : ℕ)
    → run defs left (put (filled vs) e) n ≡ run_under defs left (environment vs []) e n
filled_is_under defs vs e left n = ap (λ x. run defs left x n) (sym (seen_filled vs e)) ∙ seen_is defs left vs [] e n
