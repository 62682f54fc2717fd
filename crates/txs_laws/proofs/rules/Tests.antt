-- Conjuncts and values: what an evaluation that was made says.
use Rattle.std.specs.Prelude.{Option, Some, None}
use Rattle.std.proofs.Common.{subst}
use Rattle.std.proofs.Common.{◌≡◌, ℕ, zero, suc, ◌<◌, Bool, true, false, cond, eqb, ltb, ◌||◌, List, [], ◌∷◌, ◌++◌, refl, sym, ap, ◌∙◌, arith, lit<}
use mathlib.Core.Bool.{beq}
use Rattle.std.proofs.lemmas.Bool.{or_parts, and_parts, both_ways, and_from, eqb-true, eq-eqb, lt-ltb}
use Rattle.std.proofs.lemmas.Bool.Decides.{Decides-int_eq}
use Rattle.std.specs.Cmp.Lexicographic.{bytes_decides}
use Rattle.txs_values.specs.Value.{Value, num, bool, text, cons, Values, no_value, and_value, Table, same_value, same_each}
use Rattle.txs_terms.specs.Expr.{Expr, val, slot, local, constant, one, two, equal, both, either, choose, apply, build, let_in, Exprs, none, more, Puts, put, put_each, put_all, filled, has_slot, any_has_slot}
use Rattle.txs_terms.specs.Eval.{Defs, Run, got, bad, long, eval, run, node, height_limit, node_limit, Gives, Hold, then_run, are_comparable}
use Rattle.txs_terms.specs.Rules.{AllGive, AllBind}
use Rattle.txs_laws.proofs.rules.Limits.{compared_true}
use Rattle.txs_terms.specs.Menu.{Verdict, holds, judge, and_then, with_slots, without_slots, where_some, with_value, all_values, with_front, then_bound, bound_values, Walk, walked, Item}

-- ---- one value

pub one_value : (defs : Defs) (e : Expr) (v w : Value) → Gives defs e v → Gives defs e w → v ≡ w
one_value defs e v w p q = let a = p.1 in let b = q.1 in cc

pub same_list : (defs : Defs) (es : List Expr) (vs ws : List Value) → AllGive defs es vs → AllGive defs es ws → vs ≡ ws
same_list defs [] [] [] p q = refl
same_list defs [] [] (w ∷ ws) p q = absurd q
same_list defs [] (v ∷ vs) ws p q = absurd p
same_list defs (e ∷ es) [] ws p q = absurd p
same_list defs (e ∷ es) (v ∷ vs) [] p q = absurd q
same_list defs (e ∷ es) (v ∷ vs) (w ∷ ws) p q =
    let a = one_value defs e v w p.0 q.0 in let b = same_list defs es vs ws p.1 q.1 in cc

pub beq_same : (a b : Bool) → beq a b ≡ true → a ≡ b
beq_same true true e = refl
beq_same true false e = cc
beq_same false true e = cc
beq_same false false e = refl

pub beq_refl : (a : Bool) → beq a a ≡ true
beq_refl true = refl
beq_refl false = refl

mutual
  pub same_value-true : (v w : Value) → same_value v w ≡ true → v ≡ w
  same_value-true (num x) (num y) e = ap num ((Decides-int_eq x y).0 e)
  same_value-true (bool a) (bool b) e = ap bool (beq_same a b e)
  same_value-true (text a) (text b) e = ap text ((bytes_decides a b).0 e)
  same_value-true (cons c vs) (cons d ws) e =
      let p = and_parts (eqb c d) (same_each vs ws) e in
      let q = eqb-true c d p.0 in let r = same_each-true vs ws p.1 in cc
  same_value-true (num x) (bool b) e = cc
  same_value-true (num x) (text b) e = cc
  same_value-true (num x) (cons d ws) e = cc
  same_value-true (bool a) (num y) e = cc
  same_value-true (bool a) (text b) e = cc
  same_value-true (bool a) (cons d ws) e = cc
  same_value-true (text a) (num y) e = cc
  same_value-true (text a) (bool b) e = cc
  same_value-true (text a) (cons d ws) e = cc
  same_value-true (cons c vs) (num y) e = cc
  same_value-true (cons c vs) (bool b) e = cc
  same_value-true (cons c vs) (text b) e = cc

  same_each-true : (vs ws : Values) → same_each vs ws ≡ true → vs ≡ ws
  same_each-true no_value no_value e = refl
  same_each-true no_value (and_value w ws) e = cc
  same_each-true (and_value v vs) no_value e = cc
  same_each-true (and_value v vs) (and_value w ws) e =
      let p = and_parts (same_value v w) (same_each vs ws) e in
      let q = same_value-true v w p.0 in let r = same_each-true vs ws p.1 in cc

mutual
  pub same_value_refl : (v : Value) → same_value v v ≡ true
  same_value_refl (num x) = (Decides-int_eq x x).1 refl
  same_value_refl (bool b) = beq_refl b
  same_value_refl (text bs) = (bytes_decides bs bs).1 refl
  same_value_refl (cons c vs) = and_from (eqb c c) (same_each vs vs) (eq-eqb c c refl) (same_each_refl vs)

  same_each_refl : (vs : Values) → same_each vs vs ≡ true
  same_each_refl no_value = refl
  same_each_refl (and_value v vs) = and_from (same_value v v) (same_each vs vs) (same_value_refl v) (same_each_refl vs)

pub sym_same : (x y : Value) → same_value x y ≡ same_value y x
sym_same x y = go (same_value x y) (same_value y x) refl refl
  where
    go : (a b : Bool) → same_value x y ≡ a → same_value y x ≡ b → a ≡ b
    go true true e h = refl
    go false false e h = refl
    go true false e h = let q = same_value-true x y e in absurd (both_ways _ h (ap (λ (z : Value). same_value y z) q ∙ same_value_refl y))
    go false true e h = let q = same_value-true y x h in absurd (both_ways _ e (ap (λ (z : Value). same_value x z) q ∙ same_value_refl x))

pub same_bound : (defs : Defs) (before : List Value) (es : List Expr) (vs ws : List Value) → AllBind defs before es vs → AllBind defs before es ws → vs ≡ ws
same_bound defs before [] [] [] p q = refl
same_bound defs before [] [] (w ∷ ws) p q = absurd q
same_bound defs before [] (v ∷ vs) ws p q = absurd p
same_bound defs before (e ∷ es) [] ws p q = absurd p
same_bound defs before (e ∷ es) (v ∷ vs) [] p q = absurd q
same_bound defs before (e ∷ es) (v ∷ vs) (w ∷ ws) p q =
    let a = one_value defs (put (filled before) e) v w p.0 q.0 in
    let q' = subst (λ x. AllBind defs (before ++ x ∷ []) es ws) (sym a) q.1 in
    let b = same_bound defs (before ++ v ∷ []) es vs ws p.1 q' in cc

-- an evaluation that gives a value was below the limits
pub cond_got : (b : Bool) (r : Run) (v : Value) (n : ℕ) → cond b r (bad long) ≡ got v n → r ≡ got v n
cond_got true r v n e = e
cond_got false r v n e = cc

pub val_run : (defs : Defs) (h : ℕ) (v w : Value) (m n : ℕ) → run defs h (val v) m ≡ got w n → v ≡ w
val_run defs zero v w m n e = cc
val_run defs (suc h) v w m n e = let k = cond_got (ltb m node_limit) (got v (suc m)) w n e in cc

pub then_run_from : (r : Run) (go : Value → ℕ → Run) (v : Value) (n : ℕ) → then_run r go ≡ got v n
    → (w : Value) × (m : ℕ) × (r ≡ got w m) × (go w m ≡ got v n)
then_run_from (got w m) go v n e = (w, m, refl, e)
then_run_from (bad f) go v n e = cc

equal_run : (defs : Defs) (h : ℕ) (v w : Value) (m n : ℕ) → run defs h (equal (val v) (val w)) m ≡ got (bool true) n → v ≡ w
equal_run defs zero v w m n e = cc
equal_run defs (suc h) v w m n e =
    let k = cond_got (ltb m node_limit) (node defs (run defs h) (equal (val v) (val w)) (suc m)) (bool true) n e in
    let a = then_run_from (run defs h (val v) (suc m)) _ (bool true) n k in
    let b = then_run_from (run defs h (val w) a.1) _ (bool true) n a.3 in
    let va = val_run defs h v a.0 (suc m) a.1 a.2 in
    let wb = val_run defs h w b.0 a.1 b.1 b.2 in
    let s : same_value a.0 b.0 ≡ true = compared_true (are_comparable defs.table a.0 b.0) (same_value a.0 b.0) b.1 n b.3 in
    va ∙ (same_value-true a.0 b.0 s ∙ sym wb)

pub equal_same : (defs : Defs) (v w : Value) → Gives defs (equal (val v) (val w)) (bool true) → v ≡ w
equal_same defs v w p = equal_run defs height_limit v w 0 p.0 p.1

pub height_is : height_limit ≡ suc (suc 998)
unfolding height_limit
height_is = refl

nodes_below : (n : ℕ) → n < 10 → ltb n node_limit ≡ true
unfolding node_limit
nodes_below n h = lt-ltb n 1000000 (omega arith)

comparable_refl : (table : Table) (v : Value) → are_comparable table v v ≡ true
comparable_refl table (num x) = refl
comparable_refl table (bool b) = refl
comparable_refl table (text bs) = refl
comparable_refl table (cons c vs) = rw (eq-eqb c c refl) refl

equal_at : (defs : Defs) (h : ℕ) (v : Value) → run defs (suc (suc h)) (equal (val v) (val v)) 0 ≡ got (bool true) 3
equal_at defs h v =
    rw (nodes_below 0 (lit< tt), nodes_below 1 (lit< tt), nodes_below 2 (lit< tt), comparable_refl defs.table v, same_value_refl v) refl

pub equal_holds : (defs : Defs) (v : Value) → Gives defs (equal (val v) (val v)) (bool true)
equal_holds defs v = (3, rw height_is (equal_at defs 998 v))

-- ---- conjuncts

and_then_holds : (r : Run) (rest : Verdict) → and_then r rest ≡ holds → ((n : ℕ) × (r ≡ got (bool true) n)) × (rest ≡ holds)
and_then_holds (got (bool true) n) rest e = ((n, refl), e)
and_then_holds (got (bool false) n) rest e = cc
and_then_holds (got (num x) n) rest e = cc
and_then_holds (got (text x) n) rest e = cc
and_then_holds (got (cons c vs) n) rest e = cc
and_then_holds (bad f) rest e = cc

pub judge_holds : (defs : Defs) (es : List Expr) → judge defs es ≡ holds → Hold defs es
judge_holds defs [] e = tt
judge_holds defs (x ∷ es) e =
    let p = and_then_holds (eval defs x) (judge defs es) e in
    (p.0, judge_holds defs es p.1)

pub holds_judge : (defs : Defs) (es : List Expr) → Hold defs es → judge defs es ≡ holds
holds_judge defs [] h = refl
holds_judge defs (x ∷ es) h = rw (h.0.1) (holds_judge defs es h.1)

pub Hold-append : (defs : Defs) (es gs : List Expr) → Hold defs es → Hold defs gs → Hold defs (es ++ gs)
Hold-append defs [] gs a b = b
Hold-append defs (e ∷ es) gs a b = (a.0, Hold-append defs es gs a.1 b)

pub Hold_front : (defs : Defs) (es gs : List Expr) → Hold defs (es ++ gs) → Hold defs es
Hold_front defs [] gs h = tt
Hold_front defs (e ∷ es) gs h = (h.0, Hold_front defs es gs h.1)

pub Hold_back : (defs : Defs) (es gs : List Expr) → Hold defs (es ++ gs) → Hold defs gs
Hold_back defs [] gs h = h
Hold_back defs (e ∷ es) gs h = Hold_back defs es gs h.1

-- ---- expressions without slots

mutual
  pub put_closed : (f : Puts) (e : Expr) → has_slot e ≡ false → put f e ≡ e
  put_closed f (val v) h = refl
  put_closed f (slot i) h = cc
  put_closed f (local i) h = refl
  put_closed f (constant k) h = refl
  put_closed f (one o a) h = ap (one o) (put_closed f a h)
  put_closed f (build k es) h = ap (build k) (put_closed_each f es h)
  put_closed f (either a b) h =
      let o = or_parts (has_slot a) (has_slot b) h in
      let p = put_closed f a o.0 in let q = put_closed f b o.1 in cc
  put_closed f (let_in x a b) h =
      let o = or_parts (has_slot a) (has_slot b) h in
      let p = put_closed f a o.0 in let q = put_closed f b o.1 in cc
  put_closed f (two k a b) h =
      let o = or_parts (has_slot a) (has_slot b) h in
      let p = put_closed f a o.0 in let q = put_closed f b o.1 in cc
  put_closed f (equal a b) h =
      let o = or_parts (has_slot a) (has_slot b) h in
      let p = put_closed f a o.0 in let q = put_closed f b o.1 in cc
  put_closed f (both a b) h =
      let o = or_parts (has_slot a) (has_slot b) h in
      let p = put_closed f a o.0 in let q = put_closed f b o.1 in cc
  put_closed f (choose c a b) h =
      let o = or_parts (has_slot c || has_slot a) (has_slot b) h in
      let u = or_parts (has_slot c) (has_slot a) o.0 in
      let r = put_closed f c u.0 in let p = put_closed f a u.1 in let q = put_closed f b o.1 in cc
  put_closed f (apply k es) h = ap (apply k) (put_closed_each f es h)

  pub put_closed_each : (f : Puts) (es : Exprs) → any_has_slot es ≡ false → put_each f es ≡ es
  put_closed_each f none h = refl
  put_closed_each f (more e es) h =
      let o = or_parts (has_slot e) (any_has_slot es) h in
      let p = put_closed f e o.0 in let q = put_closed_each f es o.1 in cc

-- the conjuncts with slots and those without, by cases on the first one
split_join : (defs : Defs) (f : Puts) (e : Expr) (gs : List Expr) (b : Bool) → has_slot e ≡ b
    → Hold defs (cond b (without_slots gs) (e ∷ without_slots gs)) → Hold defs (put_all f (cond b (e ∷ with_slots gs) (with_slots gs)))
    → (Hold defs (without_slots gs) → Hold defs (put_all f (with_slots gs)) → Hold defs (put_all f gs))
    → Hold defs (put_all f (e ∷ gs))
split_join defs f e gs true h a b go = (b.0, go a b.1)
split_join defs f e gs false h a b go = (rw (put_closed f e h) a.0, go a.1 b)

pub from_parts : (defs : Defs) (f : Puts) (gs : List Expr) → Hold defs (without_slots gs) → Hold defs (put_all f (with_slots gs)) → Hold defs (put_all f gs)
from_parts defs f [] a b = tt
from_parts defs f (e ∷ gs) a b = split_join defs f e gs (has_slot e) refl a b (from_parts defs f gs)

split_closed : (defs : Defs) (f : Puts) (e : Expr) (gs : List Expr) (b : Bool) → has_slot e ≡ b
    → Hold defs (put_all f (e ∷ gs)) → Hold defs (without_slots gs) → Hold defs (cond b (without_slots gs) (e ∷ without_slots gs))
split_closed defs f e gs true h a r = r
split_closed defs f e gs false h a r = (rw (put_closed f e h) at a.0, r)

pub closed_part : (defs : Defs) (f : Puts) (gs : List Expr) → Hold defs (put_all f gs) → Hold defs (without_slots gs)
closed_part defs f [] h = tt
closed_part defs f (e ∷ gs) h = split_closed defs f e gs (has_slot e) refl h (closed_part defs f gs h.1)

split_open : (defs : Defs) (f : Puts) (e : Expr) (gs : List Expr) (b : Bool)
    → Hold defs (put_all f (e ∷ gs)) → Hold defs (put_all f (with_slots gs)) → Hold defs (put_all f (cond b (e ∷ with_slots gs) (with_slots gs)))
split_open defs f e gs true a r = (a.0, r)
split_open defs f e gs false a r = r

pub open_part : (defs : Defs) (f : Puts) (gs : List Expr) → Hold defs (put_all f gs) → Hold defs (put_all f (with_slots gs))
open_part defs f [] h = tt
open_part defs f (e ∷ gs) h = split_open defs f e gs (has_slot e) h (open_part defs f gs h.1)

-- ---- values of expressions in a walk

pub some_from : {A : Type 0} (o : Option A) (go : A → Walk) (n : ℕ) (is : List Item) → where_some o go ≡ walked n is
    → (x : A) × (o ≡ Some x) × (go x ≡ walked n is)
some_from None go n is e = cc
some_from (Some x) go n is e = (x, refl, e)

with_value_from : (r : Run) (o : Option (List Value)) (ws : List Value) → with_value r o ≡ Some ws
    → (v : Value) × (vs : List Value) × ((n : ℕ) × (r ≡ got v n)) × (o ≡ Some vs) × (ws ≡ v ∷ vs)
with_value_from (bad f) o ws e = cc
with_value_from (got v n) None ws e = cc
with_value_from (got v n) (Some vs) ws e = (v, vs, (n, refl), refl, (let q = e in cc))

pub all_give : (defs : Defs) (es : List Expr) (vs : List Value) → all_values defs es ≡ Some vs → AllGive defs es vs
all_give defs [] vs e = let q : [] ≡ vs = (let p = e in cc) in subst (AllGive defs []) q tt
all_give defs (x ∷ es) vs e =
    let p = with_value_from (eval defs x) (all_values defs es) vs e in
    subst (AllGive defs (x ∷ es)) (sym p.4) (p.2, all_give defs es p.1 p.3)

front_from : (v : Value) (o : Option (List Value)) (ws : List Value) → with_front v o ≡ Some ws → (vs : List Value) × (o ≡ Some vs) × (ws ≡ v ∷ vs)
front_from v None ws e = cc
front_from v (Some vs) ws e = (vs, refl, (let q = e in cc))

bound_from : (r : Run) (go : Value → Option (List Value)) (ws : List Value) → then_bound r go ≡ Some ws
    → (v : Value) × (vs : List Value) × ((n : ℕ) × (r ≡ got v n)) × (go v ≡ Some vs) × (ws ≡ v ∷ vs)
bound_from (bad f) go ws e = cc
bound_from (got v n) go ws e = let p = front_from v (go v) ws e in (v, p.0, (n, refl), p.1, p.2)

pub all_bind : (defs : Defs) (before : List Value) (es : List Expr) (vs : List Value) → bound_values defs before es ≡ Some vs → AllBind defs before es vs
all_bind defs before [] vs e = let q : [] ≡ vs = (let p = e in cc) in subst (AllBind defs before []) q tt
all_bind defs before (x ∷ es) vs e =
    let p = bound_from (eval defs (put (filled before) x)) (λ v. bound_values defs (before ++ v ∷ []) es) vs e in
    subst (AllBind defs before (x ∷ es)) (sym p.4) (p.2, all_bind defs (before ++ p.0 ∷ []) es p.1 p.3)
