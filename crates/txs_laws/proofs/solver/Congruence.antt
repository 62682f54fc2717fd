-- A conjunct ends alike at two points where its atoms do.
use Rattle.std.proofs.Common.{◌≡◌, zero, suc, Bool, true, false, cond, ltb, List, [], ◌∷◌, ◌++◌, refl, ap}
use Rattle.txs_values.specs.Value.{Value, num, bool, text, cons}
use Rattle.txs_terms.specs.Eval.{Defs, Run, got, bad, long, run, if_true, node_limit}
use Rattle.txs_terms.specs.Expr.{negate, negation, to_text, from_text, len, is_made_by, select, Expr, val, slot, local, constant, one, two, equal, both, either, choose, apply, build, let_in, put, filled}
use Rattle.txs_guard.specs.Atom.{atoms_of}
use Rattle.txs_laws.specs.Cells.{EndsAlike, EndAlike}
use Rattle.txs_terms.proofs.under.Node.{then_alike}

pub alike_front : (defs : Defs) (p q : List Value) (es gs : List Expr) → EndAlike defs p q (es ++ gs) → EndAlike defs p q es
alike_front defs p q [] gs h = tt
alike_front defs p q (e ∷ es) gs h = (h.0, alike_front defs p q es gs h.1)

pub alike_back : (defs : Defs) (p q : List Value) (es gs : List Expr) → EndAlike defs p q (es ++ gs) → EndAlike defs p q gs
alike_back defs p q [] gs h = h
alike_back defs p q (e ∷ es) gs h = alike_back defs p q es gs h.1

if_alike : (x : Value) (a a' b b' : Run) → a ≡ a' → b ≡ b' → if_true x a b ≡ if_true x a' b'
if_alike (num x) a a' b b' p q = refl
if_alike (text x) a a' b b' p q = refl
if_alike (cons c vs) a a' b b' p q = refl
if_alike (bool true) a a' b b' p q = p
if_alike (bool false) a a' b b' p q = q

pub entered : (t : Bool) (r r' : Run) → r ≡ r' → cond t r (bad long) ≡ cond t r' (bad long)
entered t r r' e = ap (λ (x : Run). cond t x (bad long)) e

pub atoms_decide : (defs : Defs) (p q : List Value) (e : Expr) → EndAlike defs p q (atoms_of e) → EndsAlike defs p q e
atoms_decide defs p q (both a b) h zero n = refl
atoms_decide defs p q (both a b) h (suc left) n =
    let ha = atoms_decide defs p q a (alike_front defs p q (atoms_of a) (atoms_of b) h) left in
    let hb = atoms_decide defs p q b (alike_back defs p q (atoms_of a) (atoms_of b) h) left in
    entered (ltb n node_limit) _ _
    (then_alike (run defs left (put (filled p) a) (suc n)) (run defs left (put (filled q) a) (suc n)) _ _ (ha (suc n))
    (λ w k. if_alike w _ _ (got (bool false) k) (got (bool false) k) (hb k) refl))
atoms_decide defs p q (either a b) h zero n = refl
atoms_decide defs p q (either a b) h (suc left) n =
    let ha = atoms_decide defs p q a (alike_front defs p q (atoms_of a) (atoms_of b) h) left in
    let hb = atoms_decide defs p q b (alike_back defs p q (atoms_of a) (atoms_of b) h) left in
    entered (ltb n node_limit) _ _
    (then_alike (run defs left (put (filled p) a) (suc n)) (run defs left (put (filled q) a) (suc n)) _ _ (ha (suc n))
    (λ w k. if_alike w (got (bool true) k) (got (bool true) k) _ _ refl (hb k)))
atoms_decide defs p q (choose c a b) h zero n = refl
atoms_decide defs p q (choose c a b) h (suc left) n =
    let rest = alike_back defs p q (atoms_of c) (atoms_of a ++ atoms_of b) h in
    let hc = atoms_decide defs p q c (alike_front defs p q (atoms_of c) (atoms_of a ++ atoms_of b) h) left in
    let ha = atoms_decide defs p q a (alike_front defs p q (atoms_of a) (atoms_of b) rest) left in
    let hb = atoms_decide defs p q b (alike_back defs p q (atoms_of a) (atoms_of b) rest) left in
    entered (ltb n node_limit) _ _
    (then_alike (run defs left (put (filled p) c) (suc n)) (run defs left (put (filled q) c) (suc n)) _ _ (hc (suc n))
    (λ w k. if_alike w _ _ _ _ (ha k) (hb k)))
atoms_decide defs p q (one negation a) h zero n = refl
atoms_decide defs p q (one negation a) h (suc left) n =
    entered (ltb n node_limit) _ _
    (then_alike (run defs left (put (filled p) a) (suc n)) (run defs left (put (filled q) a) (suc n)) _ _ (atoms_decide defs p q a h left (suc n))
    (λ w k. refl))
atoms_decide defs p q (val (bool b)) h left n = refl
atoms_decide defs p q (val (num x)) h left n = refl
atoms_decide defs p q (val (text x)) h left n = refl
atoms_decide defs p q (val (cons c vs)) h left n = refl
atoms_decide defs p q (slot i) h left n = h.0 left n
atoms_decide defs p q (local i) h left n = refl
atoms_decide defs p q (constant k) h left n = refl
atoms_decide defs p q (one negate a) h left n = h.0 left n
atoms_decide defs p q (one to_text a) h left n = h.0 left n
atoms_decide defs p q (one (from_text t) a) h left n = h.0 left n
atoms_decide defs p q (one len a) h left n = h.0 left n
atoms_decide defs p q (one (is_made_by c) a) h left n = h.0 left n
atoms_decide defs p q (one (select c j) a) h left n = h.0 left n
atoms_decide defs p q (two o a b) h left n = h.0 left n
atoms_decide defs p q (equal a b) h left n = h.0 left n
atoms_decide defs p q (apply k es) h left n = h.0 left n
atoms_decide defs p q (build c es) h left n = h.0 left n
atoms_decide defs p q (let_in _ a b) h left n = h.0 left n
