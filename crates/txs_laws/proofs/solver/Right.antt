-- A point of a Sat answer makes the query True; after Unsat none does, where the constants are in range.
use Rattle.std.proofs.Common.{◌≡◌, ℕ, zero, suc, Bool, true, false, cond, leb, inl, inr, List, [], ◌∷◌, take, refl, sym, ap, ◌∙◌, subst}
use Rattle.std.specs.Prelude.{Option, Some, None}
use Rattle.std.proofs.lemmas.Bool.{both_ways}
use Rattle.txs_values.specs.Value.{Value}
use Rattle.txs_terms.specs.Eval.{Defs, height_limit, Hold}
use Rattle.txs_terms.specs.Expr.{Expr, put_all, filled}
use Rattle.txs_terms.specs.Menu.{Verdict, holds, fails, faults, judge}
use Rattle.txs_terms.specs.Rules.{In}
use Rattle.txs_guard.specs.Answer.{solved, sat, unsat, is_holds, is_true_at, true_cells, answer_from, by_cases, cell_count, cell_limit, point_limit}
use Rattle.txs_guard.specs.Atom.{atoms_of, atoms_of_all, all_order}
use Rattle.txs_guard.specs.Bounds.{bounded_case}
use Rattle.txs_guard.specs.Candidates.{cells, order_case, order_candidates}
use Rattle.txs_guard.specs.Point.{IsPoint, IsTrueAt}
use Rattle.txs_guard.specs.Query.{Query}
use Rattle.txs_laws.specs.Answers.{SatIsTrue}
use Rattle.txs_laws.specs.Cells.{EndAlike}
use Rattle.txs_laws.proofs.solver.Atoms.{ConstantsFit}
use Rattle.txs_laws.proofs.rules.Tests.{judge_holds, holds_judge}
use Rattle.txs_laws.proofs.solver.Congruence.{atoms_decide, alike_front, alike_back}
use Rattle.txs_laws.proofs.solver.Order.{point_has_cell}
use Rattle.txs_laws.proofs.solver.Bounds.{true_point_In}

-- ---- true cells

is_holds-true : (v : Verdict) → is_holds v ≡ true → v ≡ holds
is_holds-true holds e = refl
is_holds-true fails e = cc
is_holds-true faults e = cc

true_there : (q : Query) (p : List Value) → is_true_at q p ≡ true → IsTrueAt q p
true_there q p e = judge_holds q.defs (put_all (filled p) q.conjuncts) (is_holds-true (judge q.defs (put_all (filled p) q.conjuncts)) e)

is_true : (q : Query) (p : List Value) → IsTrueAt q p → is_true_at q p ≡ true
is_true q p h = ap is_holds (holds_judge q.defs (put_all (filled p) q.conjuncts) h)

cell_true_step : (q : Query) (p c : List Value) (ps : List (List Value)) (b : Bool) → is_true_at q c ≡ b → In p (cond b (c ∷ true_cells q ps) (true_cells q ps))
    → (In p (true_cells q ps) → is_true_at q p ≡ true) → is_true_at q p ≡ true
cell_true_step q p c ps true e (inl h) go = ap (is_true_at q) h ∙ e
cell_true_step q p c ps true e (inr h) go = go h
cell_true_step q p c ps false e h go = go h

cell_true : (q : Query) (p : List Value) (ps : List (List Value)) → In p (true_cells q ps) → is_true_at q p ≡ true
cell_true q p [] h = absurd h
cell_true q p (c ∷ ps) h = cell_true_step q p c ps (is_true_at q c) refl h (cell_true q p ps)

In_true_step : (q : Query) (p c : List Value) (ps : List (List Value)) (b : Bool) → is_true_at q c ≡ b → is_true_at q p ≡ true → In p (c ∷ ps)
    → (In p ps → In p (true_cells q ps)) → In p (cond b (c ∷ true_cells q ps) (true_cells q ps))
In_true_step q p c ps true e t (inl h) go = inl h
In_true_step q p c ps false e t (inl h) go = absurd (both_ways _ e (ap (is_true_at q) (sym h) ∙ t))
In_true_step q p c ps true e t (inr h) go = inr (go h)
In_true_step q p c ps false e t (inr h) go = go h

In_true_cells : (q : Query) (p : List Value) (ps : List (List Value)) → is_true_at q p ≡ true → In p ps → In p (true_cells q ps)
In_true_cells q p [] t h = absurd h
In_true_cells q p (c ∷ ps) t h = In_true_step q p c ps (is_true_at q c) refl t h (In_true_cells q p ps t)

taken_In : {A : Type 0} (n : ℕ) (xs : List A) (x : A) → In x (take n xs) → In x xs
taken_In zero [] x h = h
taken_In (suc n) [] x h = h
taken_In zero (y ∷ xs) x h = absurd h
taken_In (suc n) (y ∷ xs) x (inl e) = inl e
taken_In (suc n) (y ∷ xs) x (inr h) = inr (taken_In n xs x h)

-- ---- Sat

pub sat_from : (ts ps : List (List Value)) (p : List Value) → answer_from ts ≡ sat ps → In p ps → In p ts
sat_from [] ps p e h = cc
sat_from (t ∷ ts) ps p e h =
    let q : take point_limit (t ∷ ts) ≡ ps = (let x = e in cc) in
    taken_In point_limit (t ∷ ts) p (subst (λ (z : List (List Value)). In p z) (sym q) h)

sat_cases : (q : Query) (cases : List (Option (List (List Value)))) (ps : List (List Value)) (p : List Value) → by_cases q cases ≡ sat ps → In p ps → is_true_at q p ≡ true
sat_cases q [] ps p e h = cc
sat_cases q (None ∷ cases) ps p e h = sat_cases q cases ps p e h
sat_cases q (Some vss ∷ cases) ps p e h = go (leb (cell_count vss) cell_limit) e (λ d. sat_cases q cases ps p d h)
  where
    go : (b : Bool) → cond b (answer_from (true_cells q (cells vss))) (by_cases q cases) ≡ sat ps → (by_cases q cases ≡ sat ps → is_true_at q p ≡ true)
        → is_true_at q p ≡ true
    go true e r = cell_true q p (cells vss) (sat_from (true_cells q (cells vss)) ps p e h)
    go false e r = r e

pub sat_is_true : SatIsTrue
sat_is_true q ps e p h = true_there q p (sat_cases q (order_case q ∷ bounded_case q ∷ []) ps p e h)

-- ---- Unsat

unsat_from : (ts : List (List Value)) (p : List Value) → answer_from ts ≡ unsat → In p ts → ⊥
unsat_from [] p e h = h
unsat_from (t ∷ ts) p e h = cc

-- a case that has a true cell does not give Unsat, whatever comes after it
unsat_case : (q : Query) (o : Option (List (List Value))) (cases : List (Option (List (List Value)))) → by_cases q (o ∷ cases) ≡ unsat
    → ((vss : List (List Value)) → o ≡ Some vss → (c : List Value) × In c (cells vss) × (is_true_at q c ≡ true)) → (by_cases q cases ≡ unsat → ⊥) → ⊥
unsat_case q None cases e f go = go e
unsat_case q (Some vss) cases e f go = by_limit (leb (cell_count vss) cell_limit) e
  where
    by_limit : (b : Bool) → cond b (answer_from (true_cells q (cells vss))) (by_cases q cases) ≡ unsat → ⊥
    by_limit true e = let c = f vss refl in unsat_from (true_cells q (cells vss)) c.0 e (In_true_cells q c.0 (cells vss) c.2 c.1)
    by_limit false e = go e

none_after : (q : Query) → by_cases q [] ≡ unsat → ⊥
none_after q e = cc

conjuncts_alike : (defs : Defs) (c p : List Value) (es : List Expr) → EndAlike defs c p (atoms_of_all es) → Hold defs (put_all (filled p) es) → Hold defs (put_all (filled c) es)
conjuncts_alike defs c p [] a h = tt
conjuncts_alike defs c p (e ∷ es) a h =
    let x = atoms_decide defs c p e (alike_front defs c p (atoms_of e) (atoms_of_all es) a) height_limit 0 in
    ((h.0.0, x ∙ h.0.1), conjuncts_alike defs c p es (alike_back defs c p (atoms_of e) (atoms_of_all es) a) h.1)

pub order_case_is : (q : Query) (vss : List (List Value)) (b : Bool) → all_order q (atoms_of_all q.conjuncts) ≡ b
    → cond b (Some (order_candidates q)) None ≡ Some vss → (all_order q (atoms_of_all q.conjuncts) ≡ true) × (order_candidates q ≡ vss)
order_case_is q vss true t e = (t, (let x = e in cc))
order_case_is q vss false t e = cc

order_cell : (q : Query) → ConstantsFit q → (p : List Value) → IsPoint q p → IsTrueAt q p → (vss : List (List Value)) → order_case q ≡ Some vss
    → (c : List Value) × In c (cells vss) × (is_true_at q c ≡ true)
order_cell q f p h t vss e =
    let o = order_case_is q vss (all_order q (atoms_of_all q.conjuncts)) refl e in
    let c = point_has_cell q o.0 f p h in
    (c.0, subst (λ (z : List (List Value)). In c.0 (cells z)) o.1 c.1, is_true q c.0 (conjuncts_alike q.defs c.0 p q.conjuncts c.2 t))

-- where the constants are in range
pub unsat_is_none_by : (q : Query) → ConstantsFit q → solved q ≡ unsat → (p : List Value) → IsPoint q p → IsTrueAt q p → ⊥
unsat_is_none_by q f e p h t =
    unsat_case q (order_case q) (bounded_case q ∷ []) e (λ vss x. order_cell q f p h t vss x)
    (λ d. unsat_case q (bounded_case q) [] d (λ vss x. (p, true_point_In q vss p x h t, is_true q p t)) (none_after q))
