-- With more levels left and fewer nodes entered, an evaluation gives the same value.
use Rattle.std.proofs.Common.{◌≡◌, ℕ, zero, suc, ◌≤◌, Bool, true, false, cond, ltb, List, [], Option, Some, None, refl, sym, subst, arith}
use Rattle.std.specs.Prelude.{slice_get}
use Rattle.std.proofs.lemmas.Bool.{ltb-true, lt-ltb}
use Rattle.txs_values.specs.Value.{Value, num, bool, text, cons, packed, same_value}
use Rattle.txs_terms.specs.Expr.{Expr, val, slot, local, constant, one, two, equal, both, either, choose, apply, build, let_in, with_local, Exprs, none, more, put, filled}
use Rattle.txs_terms.specs.Eval.{Defs, Run, got, bad, long, Runs, gots, bads, Eval, then_run, then_runs, cons_run, with_first, each, Outcome, fine, broken, after, unary, binary, sized, if_true, body_run, checked, takes_one, takes_two, are_comparable, have_types, takes_fields, node, run, height_limit, node_limit, Gives, bool_true}

-- what the one gives, the other gives after no more nodes
abbrev pub Better : Run → Run → Type 0
Better r r' = (v : Value) (m : ℕ) → r ≡ got v m → (m' : ℕ) × (r' ≡ got v m') × (m' ≤ m)

abbrev BetterAll : Runs → Runs → Type 0
BetterAll r r' = (vs : List Value) (m : ℕ) → r ≡ gots vs m → (m' : ℕ) × (r' ≡ gots vs m') × (m' ≤ m)

abbrev pub BetterEval : Eval → Eval → Type 0
BetterEval ev ev' = (e : Expr) (n n' : ℕ) → n' ≤ n → Better (ev e n) (ev' e n')

got_got : (w : Value) (k k' : ℕ) → k' ≤ k → Better (got w k) (got w k')
got_got w k k' h v m e = (k', (let a = e in cc), (let q : k ≡ m = cc in omega arith))

bad_any : (f : _) (r : Run) → Better (bad f) r
bad_any f r v m e = cc

then_better : (r r' : Run) (go go' : Value → ℕ → Run) → Better r r'
    → ((w : Value) (k k' : ℕ) → k' ≤ k → Better (go w k) (go' w k')) → Better (then_run r go) (then_run r' go')
then_better (bad f) r' go go' b k v m e = cc
then_better (got w n) r' go go' b k v m e =
    let p = b w n refl in
    let q = k w n p.0 p.2 v m e in
    (q.0, rw p.1 q.1, q.2)

then_all_better : (r r' : Runs) (go go' : List Value → ℕ → Run) → BetterAll r r'
    → ((ws : List Value) (k k' : ℕ) → k' ≤ k → Better (go ws k) (go' ws k')) → Better (then_runs r go) (then_runs r' go')
then_all_better (bads f) r' go go' b k v m e = cc
then_all_better (gots ws n) r' go go' b k v m e =
    let p = b ws n refl in
    let q = k ws n p.0 p.2 v m e in
    (q.0, rw p.1 q.1, q.2)

cons_gots : (v : Value) (r r' : Runs) → BetterAll r r'
    → BetterAll (with_first v r) (with_first v r')
cons_gots v (bads f) r' b ws m e = cc
cons_gots v (gots vs n) r' b ws m e =
    let p = b vs n refl in
    (p.0, rw p.1 (let q = e in cc), (let q : n ≡ m = cc in let h = p.2 in omega arith))

cons_better : (r r' : Run) (go go' : ℕ → Runs) → Better r r' → ((k k' : ℕ) → k' ≤ k → BetterAll (go k) (go' k'))
    → BetterAll (cons_run r go) (cons_run r' go')
cons_better (bad f) r' go go' b k vs m e = cc
cons_better (got w n) r' go go' b k vs m e =
    let p = b w n refl in
    let q = cons_gots w (go n) (go' p.0) (k n p.0 p.2) vs m e in
    (q.0, rw p.1 q.1, q.2)

gots_gots : (ws : List Value) (k k' : ℕ) → k' ≤ k → BetterAll (gots ws k) (gots ws k')
gots_gots w k k' h v m e = (k', (let a = e in cc), (let q : k ≡ m = cc in omega arith))

each_better : (ev ev' : Eval) → BetterEval ev ev' → (es : Exprs) (n n' : ℕ) → n' ≤ n → BetterAll (each ev es n) (each ev' es n')
each_better ev ev' b none n n' h = gots_gots [] n n' h
each_better ev ev' b (more x es) n n' h =
    cons_better (ev x n) (ev' x n') (each ev es) (each ev' es) (b x n n' h) (λ k k' g. each_better ev ev' b es k k' g)

after_better : (o : Outcome) (k k' : ℕ) → k' ≤ k → Better (after o k) (after o k')
after_better (fine v) k k' h = got_got v k k' h
after_better (broken f) k k' h = bad_any f (bad f)

if_better : (x : Value) (a a' b b' : Run) → Better a a' → Better b b' → Better (if_true x a b) (if_true x a' b')
if_better (num x) a a' b b' p q = bad_any _ _
if_better (text x) a a' b b' p q = bad_any _ _
if_better (cons c vs) a a' b b' p q = bad_any _ _
if_better (bool true) a a' b b' p q = p
if_better (bool false) a a' b b' p q = q

checked_better : (b : Bool) (r r' : Run) → Better r r' → Better (checked b r) (checked b r')
checked_better true r r' h = h
checked_better false r r' h = bad_any _ _

-- what gives a value was as it has to be
pub checked_got : (b : Bool) (r : Run) (v : Value) (n : ℕ) → checked b r ≡ got v n → (b ≡ true) × (r ≡ got v n)
checked_got true r v n e = (refl, e)
checked_got false r v n e = cc

-- a comparison that gives True
pub compared_true : (b c : Bool) (m n : ℕ) → checked b (got (bool c) m) ≡ got (bool true) n → c ≡ true
compared_true true c m n e = cc
compared_true false c m n e = cc

body_better : {A : Type 0} (o : Option A) (go go' : A → Run) → ((e : A) → Better (go e) (go' e)) → Better (body_run o go) (body_run o go')
body_better None go go' k = bad_any _ _
body_better (Some e) go go' k = k e

node_better : (defs : Defs) (ev ev' : Eval) → BetterEval ev ev' → BetterEval (node defs ev) (node defs ev')
node_better defs ev ev' b (val v) n n' h = got_got v n n' h
node_better defs ev ev' b (slot i) n n' h = bad_any _ _
node_better defs ev ev' b (local i) n n' h = bad_any _ _
node_better defs ev ev' b (constant c) n n' h = body_better (slice_get defs.constants c) _ _ (λ e. b e n n' h)
node_better defs ev ev' b (one o x) n n' h =
    then_better (ev x n) (ev' x n') _ _ (b x n n' h) (λ w k k' g. checked_better (takes_one defs.table o w) _ _ (after_better (unary defs.table o w) k k' g))
node_better defs ev ev' b (two o x y) n n' h =
    then_better (ev x n) (ev' x n') _ _ (b x n n' h)
    (λ w k k' g. then_better (ev y k) (ev' y k') _ _ (b y k k' g)
    (λ u i i' j. checked_better (takes_two defs.table o w u) _ _ (after_better (binary o w u) i i' j)))
node_better defs ev ev' b (either x y) n n' h =
    then_better (ev x n) (ev' x n') _ _ (b x n n' h)
    (λ w k k' g. if_better w _ _ (ev y k) (ev' y k') (got_got (bool true) k k' g) (b y k k' g))
node_better defs ev ev' b (build c es) n n' h =
    then_all_better (each ev es n) (each ev' es n') _ _ (each_better ev ev' b es n n' h)
    (λ vs k k' g. checked_better (takes_fields defs.table c vs) _ _ (after_better (sized (cons c (packed vs))) k k' g))
node_better defs ev ev' b (let_in v x y) n n' h =
    then_better (ev x n) (ev' x n') _ _ (b x n n' h) (λ w k k' g. b (with_local w y) k k' g)
node_better defs ev ev' b (equal x y) n n' h =
    then_better (ev x n) (ev' x n') _ _ (b x n n' h)
    (λ w k k' g. then_better (ev y k) (ev' y k') _ _ (b y k k' g)
    (λ u i i' j. checked_better (are_comparable defs.table w u) _ _ (got_got (bool (same_value w u)) i i' j)))
node_better defs ev ev' b (both x y) n n' h =
    then_better (ev x n) (ev' x n') _ _ (b x n n' h)
    (λ w k k' g. if_better w (ev y k) (ev' y k') _ _ (b y k k' g) (got_got (bool false) k k' g))
node_better defs ev ev' b (choose c x y) n n' h =
    then_better (ev c n) (ev' c n') _ _ (b c n n' h)
    (λ w k k' g. if_better w (ev x k) (ev' x k') (ev y k) (ev' y k') (b x k k' g) (b y k k' g))
node_better defs ev ev' b (apply f es) n n' h =
    then_all_better (each ev es n) (each ev' es n') _ _ (each_better ev ev' b es n n' h)
    (λ vs k k' g. body_better (slice_get defs.functions f) _ _
    (λ f. checked_better (have_types defs.table vs f.takes) _ _ (b (put (filled vs) f.body) k k' g)))

entered : (t t' : Bool) (r r' : Run) → (t ≡ true → t' ≡ true) → Better r r' → Better (cond t r (bad long)) (cond t' r' (bad long))
entered false t' r r' i b = bad_any _ _
entered true t' r r' i b = subst (λ x. Better r (cond x r' (bad long))) (sym (i refl)) b

pub run_better : (defs : Defs) (h h' : ℕ) → h ≤ h' → BetterEval (run defs h) (run defs h')
run_better defs zero h' l e n n' g = bad_any _ _
run_better defs (suc h) zero l e n n' g = absurd (omega arith)
run_better defs (suc h) (suc h') l e n n' g =
    let l' : h ≤ h' = omega arith in
    entered (ltb n node_limit) (ltb n' node_limit) _ _ (λ t. let k = ltb-true n node_limit t in lt-ltb n' node_limit (omega arith))
    (node_better defs (run defs h) (run defs h') (run_better defs h h' l') e (suc n) (suc n') (omega arith))

-- both sides of an equation that holds give one value
pub sides_give : (defs : Defs) (a b : Expr) → Gives defs (equal a b) bool_true
    → (x : Value) × (y : Value) × Gives defs a x × Gives defs b y × (same_value x y ≡ true)
sides_give defs a b p = go height_limit refl p.1
  where
    go : (h : ℕ) → h ≡ height_limit → run defs h (equal a b) 0 ≡ got bool_true p.0
        → (x : Value) × (y : Value) × Gives defs a x × Gives defs b y × (same_value x y ≡ true)
    go h e q = two h e (entered_got h q)
      where
        entered_got : (h : ℕ) → run defs h (equal a b) 0 ≡ got bool_true p.0
            → (k : ℕ) × (h ≡ suc k) × (node defs (run defs k) (equal a b) 1 ≡ got bool_true p.0)
        entered_got zero q = cc
        entered_got (suc k) q = (k, refl, below (ltb 0 node_limit) q)
          where
            below : (t : Bool) → cond t (node defs (run defs k) (equal a b) 1) (bad long) ≡ got bool_true p.0
                → node defs (run defs k) (equal a b) 1 ≡ got bool_true p.0
            below true q = q
            below false q = cc

        two : (h : ℕ) → h ≡ height_limit → (k : ℕ) × (h ≡ suc k) × (node defs (run defs k) (equal a b) 1 ≡ got bool_true p.0)
            → (x : Value) × (y : Value) × Gives defs a x × Gives defs b y × (same_value x y ≡ true)
        two h e (k, hk, q) =
            let l : k ≤ height_limit = omega arith in
            let pa = parts_of (run defs k a 1) _ q in
            let pb = parts_of (run defs k b pa.1) _ pa.3 in
            let ga = run_better defs k height_limit l a 1 0 (omega arith) pa.0 pa.1 pa.2 in
            let gb = run_better defs k height_limit l b pa.1 0 (omega arith) pb.0 pb.1 pb.2 in
            (pa.0, pb.0, (ga.0, ga.1), (gb.0, gb.1), compared_true (are_comparable defs.table pa.0 pb.0) (same_value pa.0 pb.0) pb.1 p.0 pb.3)
          where
            parts_of : (r : Run) (go : Value → ℕ → Run) → then_run r go ≡ got bool_true p.0
                → (w : Value) × (m : ℕ) × (r ≡ got w m) × (go w m ≡ got bool_true p.0)
            parts_of (got w m) go e = (w, m, refl, e)
            parts_of (bad f) go e = cc
