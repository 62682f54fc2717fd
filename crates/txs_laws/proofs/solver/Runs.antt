-- What a place gives at a point and at the squashed point.
use Rattle.std.proofs.Common.{◌≡◌, ℕ, zero, suc, ◌+◌, Bool, true, false, cond, eqb, ltb, inl, inr, List, [], ◌∷◌, ◌++◌, refl, sym, ap, ◌∙◌, subst, arith}
use Rattle.std.specs.Prelude.{Option, Some, None, slice_get}
use Rattle.std.proofs.lemmas.Bool.{eqb-true, cases_lt}
use Rattle.txs_values.specs.Value.{Value, num, bool, text, cons, listed, place_of, Table}
use Rattle.txs_terms.specs.Eval.{Defs, Run, got, bad, long, wrong, selector, run, eval, then_run, after, unary, broken, selected, checked, is_akin, are_akin, node_limit, height_limit}
use Rattle.txs_terms.specs.Expr.{negate, negation, to_text, from_text, len, is_made_by, select, Expr, val, slot, local, constant, one, two, equal, both, either, choose, apply, build, let_in, put, filled}
use Rattle.txs_terms.specs.Rules.{In}
use Rattle.txs_guard.specs.Atom.{value_in}
use Rattle.txs_guard.specs.Mentioned.{Path, below, paths_at}
use Rattle.txs_guard.specs.Place.{Spot, spot_of, under}
use Rattle.txs_laws.proofs.rules.Limits.{run_better, checked_got}
use Rattle.txs_laws.proofs.solver.Squash.{Shape, fields_at, squash, squash_each, along, along_push, step, follow, follow_push, map_some, field_of_squashed}
use Rattle.txs_laws.proofs.solver.Members.{squash_all}
use Rattle.txs_laws.proofs.rules.Tests.{cond_got, val_run, then_run_from}

-- ---- places

pub data IsPlace : Expr → ℕ → Path → Type 0 where
  at_slot : (i : ℕ) → IsPlace (slot i) i []
  selected_at : {e : Expr} {i : ℕ} {p : Path} (c j : ℕ) → IsPlace e i p → IsPlace (one (select c j) e) i (p ++ (c, j) ∷ [])

place_under : (e : Expr) (c j : ℕ) (o : Option Spot) (s : Spot) → ((s : Spot) → o ≡ Some s → IsPlace e s.base s.path) → under o (c, j) ≡ Some s
    → IsPlace (one (select c j) e) s.base s.path
place_under e c j None s go h = cc
place_under e c j (Some t) s go h =
    let q : record { base = t.base; path = t.path ++ (c, j) ∷ [] } ≡ s = (let x = h in cc) in
    subst (λ (z : Spot). IsPlace (one (select c j) e) z.base z.path) q (selected_at c j (go t refl))

pub place_from : (e : Expr) (s : Spot) → spot_of e ≡ Some s → IsPlace e s.base s.path
place_from (slot i) s h =
    let q : record { base = i; path = [] } ≡ s = (let x = h in cc) in subst (λ (z : Spot). IsPlace (slot i) z.base z.path) q (at_slot i)
place_from (one (select c j) e) s h = place_under e c j (spot_of e) s (place_from e) h
place_from (one negate e) s h = cc
place_from (one negation e) s h = cc
place_from (one to_text e) s h = cc
place_from (one (from_text t) e) s h = cc
place_from (one len e) s h = cc
place_from (one (is_made_by c) e) s h = cc
place_from (val v) s h = cc
place_from (local i) s h = cc
place_from (constant k) s h = cc
place_from (two o a b) s h = cc
place_from (equal a b) s h = cc
place_from (both a b) s h = cc
place_from (either a b) s h = cc
place_from (choose c a b) s h = cc
place_from (apply k es) s h = cc
place_from (build c es) s h = cc
place_from (let_in _ a b) s h = cc

-- ---- runs

abbrev pub map_run : (Value → Value) → Run → Run
map_run f (got v n) = got (f v) n
map_run f (bad x) = bad x

map_cond : (f : Value → Value) (b : Bool) (r r' : Run) → r' ≡ map_run f r → cond b r' (bad long) ≡ map_run f (cond b r (bad long))
map_cond f true r r' e = e
map_cond f false r r' e = refl

val_alike : (defs : Defs) (f : Value → Value) (v : Value) (left n : ℕ) → run defs left (val (f v)) n ≡ map_run f (run defs left (val v) n)
val_alike defs f v zero n = refl
val_alike defs f v (suc left) n = map_cond f (ltb n node_limit) (got v (suc n)) (got (f v) (suc n)) refl

slot_alike : (defs : Defs) (f : Value → Value) (i left n : ℕ) → run defs left (slot i) n ≡ map_run f (run defs left (slot i) n)
slot_alike defs f i zero n = refl
slot_alike defs f i (suc left) n = map_cond f (ltb n node_limit) (bad wrong) (bad wrong) refl

base_alike : (defs : Defs) (s : Shape) (ss : List Spot) (p : List Value) (k i m left n : ℕ) → m ≡ k + i
    → run defs left (filled (squash_all s ss k p) i) n ≡ map_run (squash s (paths_at m ss)) (run defs left (filled p i) n)
base_alike defs s ss [] k i m left n e = slot_alike defs (squash s (paths_at m ss)) i left n
base_alike defs s ss (v ∷ vs) k zero m left n e =
    let q : k ≡ m = omega arith in
    subst (λ (z : ℕ). run defs left (val (squash s (paths_at k ss) v)) n ≡ map_run (squash s (paths_at z ss)) (run defs left (val v) n)) q
    (val_alike defs (squash s (paths_at k ss)) v left n)
base_alike defs s ss (v ∷ vs) k (suc i) m left n e = base_alike defs s ss vs (suc k) i m left n (omega arith)

-- a selector on a squashed value
fetch : (s : Shape) (qs : List Path) (b : Bool) (o o' : Option Value) (f : Value → Value) (n : ℕ) → (b ≡ true → o' ≡ map_some f o)
    → after (cond b (selected o') (broken selector)) n ≡ map_run f (after (cond b (selected o) (broken selector)) n)
fetch s qs true None o' f n h = rw (h refl) refl
fetch s qs true (Some v) o' f n h = rw (h refl) refl
fetch s qs false o o' f n h = refl

-- what a selector gives
abbrev selects : Table → ℕ → ℕ → Value → ℕ → Run
selects table c j x n = checked (is_akin table c x) (after (unary table (select c j) x) n)

checked_mapped : (f : Value → Value) (b : Bool) (r r' : Run) → r' ≡ map_run f r → checked b r' ≡ map_run f (checked b r)
checked_mapped f true r r' e = e
checked_mapped f false r r' e = refl

select_alike : (table : Table) (s : Shape) (qs : List Path) (c j : ℕ) (p : Path) → In p (below c j qs) → (w : Value) (n : ℕ)
    → selects table c j (squash s qs w) n ≡ map_run (squash s (below c j qs)) (selects table c j w n)
select_alike table s qs c j p h (num x) n = refl
select_alike table s qs c j p h (bool x) n = refl
select_alike table s qs c j p h (text x) n = refl
select_alike table s qs c j p h (cons d vs) n =
    checked_mapped (squash s (below c j qs)) (are_akin table c d) _ _ (fetch s qs (eqb c d) (slice_get (listed vs) j) (slice_get (listed (squash_each s qs d 0 (fields_at (place_of s.table d)) vs)) j) (squash s (below c j qs)) n
    (λ t. let e : d ≡ c = sym (eqb-true c d t) in
    let f = field_of_squashed s qs d 0 j j (fields_at (place_of s.table d)) vs (omega arith) p (subst (λ (z : ℕ). In p (below z j qs)) (sym e) h) in
    f ∙ ap (λ (z : ℕ). map_some (squash s (below z j qs)) (slice_get (listed vs) j)) e))

then_mapped : (f g : Value → Value) (r r' : Run) (go : Value → ℕ → Run) → r' ≡ map_run f r → ((w : Value) (n : ℕ) → go (f w) n ≡ map_run g (go w n))
    → then_run r' go ≡ map_run g (then_run r go)
then_mapped f g (got v n) r' go e k = ap (λ (x : Run). then_run x go) e ∙ k v n
then_mapped f g (bad x) r' go e k = ap (λ (x : Run). then_run x go) e

mentions_front : (p : Path) (c j : ℕ) (ps : List Path) (r : Path) → In r (along (p ++ (c, j) ∷ []) ps) → In r (below c j (along p ps))
mentions_front p c j ps r h = subst (λ (z : List Path). In r z) (along_push p (c, j) ps) h

pub place_alike : (defs : Defs) (s : Shape) (ss : List Spot) (p : List Value) {e : Expr} {i : ℕ} {q : Path} → IsPlace e i q
    → (r : Path) → In r (along q (paths_at i ss)) → (left n : ℕ)
    → run defs left (put (filled (squash_all s ss 0 p)) e) n ≡ map_run (squash s (along q (paths_at i ss))) (run defs left (put (filled p) e) n)
place_alike defs s ss p (at_slot i) r h left n = base_alike defs s ss p 0 i i left n (omega arith)
place_alike defs s ss p (selected_at {e = e} {i = i} {p = q} c j h) r m zero n = refl
place_alike defs s ss p (selected_at {e = e} {i = i} {p = q} c j h) r m (suc left) n =
    let m' = mentions_front q c j (paths_at i ss) r m in
    let l = some_along q c j (paths_at i ss) r m' in
    let a = place_alike defs s ss p h l.0 l.1 left (suc n) in
    let b = then_mapped (squash s (along q (paths_at i ss))) (squash s (below c j (along q (paths_at i ss))))
    (run defs left (put (filled p) e) (suc n)) (run defs left (put (filled (squash_all s ss 0 p)) e) (suc n))
    (selects defs.table c j) a
    (λ w k. select_alike defs.table s (along q (paths_at i ss)) c j r m' w k) in
    let b' = subst (λ (z : List Path). then_run (run defs left (put (filled (squash_all s ss 0 p)) e) (suc n)) (selects defs.table c j)
    ≡ map_run (squash s z) (then_run (run defs left (put (filled p) e) (suc n)) (selects defs.table c j))) (sym (along_push q (c, j) (paths_at i ss))) b in
    map_cond (squash s (along (q ++ (c, j) ∷ []) (paths_at i ss))) (ltb n node_limit) _ _ b'
  where
    some_below : (c j : ℕ) (qs : List Path) (r : Path) → In r (below c j qs) → (x : Path) × In x qs
    some_below c j [] r h = absurd h
    some_below c j (x ∷ qs) r h = (x, inl refl)

    some_along : (q : Path) (c j : ℕ) (ps : List Path) (r : Path) → In r (below c j (along q ps)) → (x : Path) × In x (along q ps)
    some_along q c j ps r h = some_below c j (along q ps) r h

-- ---- what a place gives is what stands there

slot_gives : (defs : Defs) (left i : ℕ) (w : Value) (m n : ℕ) → run defs left (slot i) m ≡ got w n → ⊥
slot_gives defs zero i w m n e = cc
slot_gives defs (suc left) i w m n e = let k = cond_got (ltb m node_limit) (bad wrong) w n e in cc

base_gives : (defs : Defs) (p : List Value) (i left m n : ℕ) (w : Value) → run defs left (filled p i) m ≡ got w n → slice_get p i ≡ Some w
base_gives defs [] i left m n w e = absurd (slot_gives defs left i w m n e)
base_gives defs (v ∷ vs) zero left m n w e = ap Some (val_run defs left v w m n e)
base_gives defs (v ∷ vs) (suc i) left m n w e = base_gives defs vs i left m n w e

fetched : (b : Bool) (o : Option Value) (w : Value) (m n : ℕ) → after (cond b (selected o) (broken selector)) m ≡ got w n → cond b o None ≡ Some w
fetched true None w m n e = cc
fetched true (Some v) w m n e = let q : v ≡ w = cc in ap Some q
fetched false o w m n e = cc

select_gives : (table : Table) (c j : ℕ) (x w : Value) (m n : ℕ) → selects table c j x m ≡ got w n → step (c, j) (Some x) ≡ Some w
select_gives table c j (num x) w m n e = cc
select_gives table c j (bool x) w m n e = cc
select_gives table c j (text x) w m n e = cc
select_gives table c j (cons d vs) w m n e = fetched (eqb c d) (slice_get (listed vs) j) w m n (checked_got (are_akin table c d) _ w n e).1

pub place_gives : (defs : Defs) (p : List Value) {e : Expr} {i : ℕ} {q : Path} → IsPlace e i q → (left m n : ℕ) (w : Value)
    → run defs left (put (filled p) e) m ≡ got w n → follow (slice_get p i) q ≡ Some w
place_gives defs p (at_slot i) left m n w h = base_gives defs p i left m n w h
place_gives defs p (selected_at {e = e} {i = i} {p = q} c j g) zero m n w h = cc
place_gives defs p (selected_at {e = e} {i = i} {p = q} c j g) (suc left) m n w h =
    let k = cond_got (ltb m node_limit) (then_run (run defs left (put (filled p) e) (suc m)) (selects defs.table c j)) w n h in
    let t = then_run_from (run defs left (put (filled p) e) (suc m)) (selects defs.table c j) w n k in
    let f = place_gives defs p g left (suc m) t.1 t.0 t.2 in
    let s = select_gives defs.table c j t.0 w t.1 n t.3 in
    follow_push (slice_get p i) q (c, j) ∙ (ap (step (c, j)) f ∙ s)

-- ---- an expression without slots gives its value wherever it gives one

pub value_got : (r : Run) (v : Value) → value_in r ≡ Some v → (n : ℕ) × (r ≡ got v n)
value_got (got w n) v e = (n, (let q : w ≡ v = cc in ap (λ (z : Value). got z n) q))
value_got (bad f) v e = cc

pub closed_gives : (defs : Defs) (e : Expr) (v w : Value) (left m n : ℕ) → value_in (eval defs e) ≡ Some v → run defs left e m ≡ got w n → w ≡ v
closed_gives defs e v w left m n h g =
    let a = value_got (eval defs e) v h in
    elim (cases_lt left height_limit) [
      | inl l ↦ (let b = run_better defs left height_limit (omega arith) e m 0 (omega arith) w n g in let c = b.1 in let d = a.1 in cc)
      | inr l ↦ (let b = run_better defs left left (omega arith) e m 0 (omega arith) w n g in
          let d = run_better defs height_limit left l e 0 0 (omega arith) v a.0 a.1 in let c = b.1 in let f = d.1 in cc)
    ]
