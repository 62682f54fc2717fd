-- Where an evaluation that looks at types is not wrong, the bare one ends alike.
use Rattle.std.specs.Prelude.{◌⊎◌, ◌≢◌}
use Rattle.std.proofs.Common.{◌≡◌, ℕ, zero, suc, Bool, true, false, cond, ltb, inl, inr, List, [], ◌∷◌, Option, Some, None, slice_get, refl, sym, ap, subst}
use Rattle.txs_values.specs.Value.{Value, num, bool, text, cons, same_value}
use Rattle.txs_terms.specs.Expr.{Expr, val, slot, local, constant, one, two, equal, both, either, choose, apply, build, let_in}
use Rattle.txs_terms.specs.Eval.{Defs, Run, got, bad, Runs, gots, bads, wrong, long, node_limit, checked, are_comparable, takes_one, takes_two, takes_fields, have_types, then_run, then_runs, with_first, cons_run, if_true, body_run}
use Rattle.txs_terms.specs.Under.{Environment, Under, each_under, operands, parameters, with_variable, passes, node_by, run_under, run_bare}

-- the first is wrong, or the second ends alike
abbrev Agree : Run → Run → Type 0
Agree r s = (r ≡ bad wrong) ⊎ (s ≡ r)

abbrev AgreeAll : Runs → Runs → Type 0
AgreeAll r s = (r ≡ bads wrong) ⊎ (s ≡ r)

then_agree : (r s : Run) (f g : Value → ℕ → Run) → Agree r s → ((v : Value) (m : ℕ) → Agree (f v m) (g v m)) → Agree (then_run r f) (then_run s g)
then_agree (bad x) s f g (inl e) h = inl e
then_agree (bad x) s f g (inr e) h = inr (ap (λ z. then_run z g) e)
then_agree (got v n) s f g (inl e) h = cc
then_agree (got v n) s f g (inr e) h = subst (λ z. Agree (f v n) (then_run z g)) (sym e) (h v n)

thens_agree : (r s : Runs) (f g : List Value → ℕ → Run) → AgreeAll r s → ((vs : List Value) (m : ℕ) → Agree (f vs m) (g vs m))
    → Agree (then_runs r f) (then_runs s g)
thens_agree (bads x) s f g (inl e) h = let q : x ≡ wrong = cc in inl (ap bad q)
thens_agree (bads x) s f g (inr e) h = inr (ap (λ z. then_runs z g) e)
thens_agree (gots vs n) s f g (inl e) h = cc
thens_agree (gots vs n) s f g (inr e) h = subst (λ z. Agree (f vs n) (then_runs z g)) (sym e) (h vs n)

first_agree : (v : Value) (r s : Runs) → AgreeAll r s → AgreeAll (with_first v r) (with_first v s)
first_agree v (bads x) s (inl e) = inl e
first_agree v (gots vs n) s (inl e) = cc
first_agree v (bads x) s (inr e) = inr (ap (with_first v) e)
first_agree v (gots vs n) s (inr e) = inr (ap (with_first v) e)

cons_agree : (r s : Run) (f g : ℕ → Runs) → Agree r s → ((m : ℕ) → AgreeAll (f m) (g m)) → AgreeAll (cons_run r f) (cons_run s g)
cons_agree (bad x) s f g (inl e) h = let q : x ≡ wrong = cc in inl (ap bads q)
cons_agree (bad x) s f g (inr e) h = inr (ap (λ z. cons_run z g) e)
cons_agree (got v n) s f g (inl e) h = cc
cons_agree (got v n) s f g (inr e) h = subst (λ z. AgreeAll (with_first v (f n)) (cons_run z g)) (sym e) (first_agree v (f n) (g n) (h n))

checked_agree : (asked : Bool) (r s : Run) → Agree r s → Agree (checked (passes true asked) r) (checked (passes false asked) s)
checked_agree true r s h = h
checked_agree false r s h = inl refl

if_agree : (x : Value) (a b c d : Run) → Agree a c → Agree b d → Agree (if_true x a b) (if_true x c d)
if_agree (num x) a b c d p q = inl refl
if_agree (bool true) a b c d p q = p
if_agree (bool false) a b c d p q = q
if_agree (text x) a b c d p q = inl refl
if_agree (cons x vs) a b c d p q = inl refl

body_agree : {A : Type 0} (o : Option A) (f g : A → Run) → ((x : A) → Agree (f x) (g x)) → Agree (body_run o f) (body_run o g)
body_agree None f g h = inl refl
body_agree (Some x) f g h = h x

limited : (b : Bool) (r s : Run) → Agree r s → Agree (cond b r (bad long)) (cond b s (bad long))
limited true r s h = h
limited false r s h = inr refl

module _ (defs : Defs) (strict bare : Under) (below : (env : Environment) (e : Expr) (n : ℕ) → Agree (strict env e n) (bare env e n)) where
  each_agree : (env : Environment) (es : List Expr) (n : ℕ) → AgreeAll (each_under (strict env) es n) (each_under (bare env) es n)
  each_agree env [] n = inr refl
  each_agree env (e ∷ es) n = cons_agree _ _ _ _ (below env e n) (each_agree env es)

  node_agree : (env : Environment) (e : Expr) (n : ℕ) → Agree (node_by true defs strict env e n) (node_by false defs bare env e n)
  node_agree env (val v) n = inr refl
  node_agree env (slot i) n = inr refl
  node_agree env (local i) n = inr refl
  node_agree env (constant k) n = body_agree (slice_get defs.constants k) _ _ (λ e. below (parameters []) e n)
  node_agree env (one o a) n =
      then_agree _ _ _ _ (below env a n) (λ x m. checked_agree (takes_one defs.table o x) _ _ (inr refl))
  node_agree env (two o a b) n =
      then_agree _ _ _ _ (below env a n)
      (λ x m. then_agree _ _ _ _ (below env b m) (λ y k. checked_agree (takes_two defs.table o x y) _ _ (inr refl)))
  node_agree env (equal a b) n =
      then_agree _ _ _ _ (below env a n)
      (λ x m. then_agree _ _ _ _ (below env b m) (λ y k. checked_agree (are_comparable defs.table x y) (got (bool (same_value x y)) k) _ (inr refl)))
  node_agree env (both a b) n = then_agree _ _ _ _ (below env a n) (λ x m. if_agree x _ (got (bool false) m) _ _ (below env b m) (inr refl))
  node_agree env (either a b) n = then_agree _ _ _ _ (below env a n) (λ x m. if_agree x (got (bool true) m) _ _ _ (inr refl) (below env b m))
  node_agree env (choose c a b) n = then_agree _ _ _ _ (below env c n) (λ x m. if_agree x _ _ _ _ (below env a m) (below env b m))
  node_agree env (apply f es) n =
      thens_agree _ _ _ _ (each_agree env (operands es) n)
      (λ vs m. body_agree (slice_get defs.functions f) _ _ (λ b. checked_agree (have_types defs.table vs b.takes) _ _ (below (parameters vs) b.body m)))
  node_agree env (build c es) n =
      thens_agree _ _ _ _ (each_agree env (operands es) n) (λ vs m. checked_agree (takes_fields defs.table c vs) _ _ (inr refl))
  node_agree env (let_in x a b) n = then_agree _ _ _ _ (below env a n) (λ v m. below (with_variable env v) b m)

run_agree : (defs : Defs) (left : ℕ) (env : Environment) (e : Expr) (n : ℕ) → Agree (run_under defs left env e n) (run_bare defs left env e n)
run_agree defs zero env e n = inr refl
run_agree defs (suc left) env e n =
    limited (ltb n node_limit) _ _ (node_agree defs (run_under defs left) (run_bare defs left) (run_agree defs left) env e (suc n))

pub bare_is : (defs : Defs) (left : ℕ) (env : Environment) (e : Expr) (n : ℕ) → run_under defs left env e n ≢ bad wrong
    → run_bare defs left env e n ≡ run_under defs left env e n
bare_is defs left env e n h = by (run_agree defs left env e n)
  where
    by : Agree (run_under defs left env e n) (run_bare defs left env e n) → run_bare defs left env e n ≡ run_under defs left env e n
    by (inl q) = absurd (h q)
    by (inr q) = q
