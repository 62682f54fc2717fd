-- The slots of hidden channels get their values.
use Rattle.std.proofs.Common.{◌≡◌, ℕ, zero, suc, Bool, true, false, cond, eqb, ltb, not, ◌&&◌, ◌||◌, ◌⊎◌, inl, inr, List, [], ◌∷◌, Option, Some, None, refl, sym, ap, ◌∙◌, subst}
use Rattle.std.proofs.lemmas.Bool.{and_parts, eqb-true, not-true, or_left, or_right, or_cases, or_parts, ne_eqb, eq-eqb}
use Rattle.txs_values.specs.Value.{Value, Ty, Table, HaveTypes, HasType, truth}
use Rattle.txs_terms.specs.Expr.{Expr, val, slot, local, constant, one, two, equal, both, either, choose, apply, build, let_in, Puts, put, put_all, filled, has_slot}
use Rattle.txs_terms.specs.Eval.{Defs, Run, got, bad, wrong, long, eval, run, height_limit, node_limit, Gives, Hold, bool_true}
use Rattle.txs_terms.specs.Action.{has, kept}
use Rattle.txs_terms.specs.Term.{put_term, fill}
use Rattle.txs_terms.specs.Rules.{In}
use Rattle.txs_terms.specs.Menu.{Item, only, fix_by, or_else, fix_right, fix_equal, fix_of, next_fix, put_in, is_loose, Fixed, unable, fixed, unfixed, fix_value, fix_at, less, fix_all}
use Rattle.txs_laws.proofs.rules.Put.{then_put, alike, put_put_all, put_put_term}
use Rattle.txs_laws.proofs.rules.Tests.{one_value, same_value-true, put_closed}
use Rattle.txs_laws.proofs.rules.Limits.{sides_give}
use Rattle.txs_terms.specs.Typed.{Signatures, Of, AreTyped, AreGuards}
use Rattle.std.specs.Prelude.{slice_get}
use Rattle.txs_laws.proofs.typing.Facts.{Facts}
use Rattle.txs_laws.proofs.rules.Slots.{HasAt, closed_of, put_guards, guard_of, left_slot, right_slot}

-- ---- the conjunct that fixes a slot

pub record FixOf (loose : List ℕ) (g : Expr) (s : ℕ) (e : Expr) : Type 0 where
  pub free : has loose s ≡ true
  pub closed : has_slot e ≡ false
  pub form : (g ≡ equal (slot s) e) ⊎ (g ≡ equal e (slot s))

cond_fix : (b : Bool) (s s' : ℕ) (e e' : Expr) → cond {A = Option (ℕ × Expr)} b (Some (s, e)) None ≡ Some (s', e') → (b ≡ true) × (s ≡ s') × (e ≡ e')
cond_fix true s s' e e' q = (refl, ap (λ p. p.0) (some_same q), ap (λ p. p.1) (some_same q))
  where
    some_same : {p p' : ℕ × Expr} → Some p ≡ Some p' → p ≡ p'
    some_same r = cc
cond_fix false s s' e e' q = cc

fix_by_from : (loose : List ℕ) (s s' : ℕ) (e e' : Expr) → fix_by loose s e ≡ Some (s', e')
    → (has loose s' ≡ true) × (has_slot e' ≡ false) × (s ≡ s') × (e ≡ e')
fix_by_from loose s s' e e' q =
    let p = cond_fix (has loose s && not (has_slot e)) s s' e e' q in
    let a = and_parts (has loose s) (not (has_slot e)) p.0 in
    (subst (λ x. has loose x ≡ true) p.1 a.0, subst (λ x. has_slot x ≡ false) p.2 (not-true (has_slot e) a.1), p.1, p.2)

right_from : (loose : List ℕ) (a b : Expr) (s : ℕ) (e : Expr) → fix_right loose a b ≡ Some (s, e) → FixOf loose (equal a b) s e
right_from loose a (slot t) s e q =
    let p = fix_by_from loose t s a e q in
    record { free = p.0; closed = p.1; form = inr (let x = p.2 in let y = p.3 in cc) }
right_from loose a (val v) s e q = cc
right_from loose a (local j) s e q = cc
right_from loose a (constant k) s e q = cc
right_from loose a (one o x) s e q = cc
right_from loose a (two o x y) s e q = cc
right_from loose a (equal x y) s e q = cc
right_from loose a (both x y) s e q = cc
right_from loose a (either x y) s e q = cc
right_from loose a (choose c x y) s e q = cc
right_from loose a (apply f es) s e q = cc
right_from loose a (build k es) s e q = cc
right_from loose a (let_in z x y) s e q = cc

or_from_else : (o o' : Option (ℕ × Expr)) (p : ℕ × Expr) → or_else o o' ≡ Some p → (o ≡ Some p) ⊎ (o' ≡ Some p)
or_from_else None o' p q = inr q
or_from_else (Some r) o' p q = inl q

left_from : (loose : List ℕ) (t : ℕ) (b : Expr) (s : ℕ) (e : Expr) → fix_by loose t b ≡ Some (s, e) → FixOf loose (equal (slot t) b) s e
left_from loose t b s e q =
    let p = fix_by_from loose t s b e q in
    record { free = p.0; closed = p.1; form = inl (let x = p.2 in let y = p.3 in cc) }

equal_from : (loose : List ℕ) (a b : Expr) (s : ℕ) (e : Expr) → fix_equal loose a b ≡ Some (s, e) → FixOf loose (equal a b) s e
equal_from loose (slot t) b s e q =
    elim (or_from_else (fix_by loose t b) (fix_right loose (slot t) b) (s, e) q)
    [ inl p ↦ left_from loose t b s e p | inr p ↦ right_from loose (slot t) b s e p ]
equal_from loose (val v) b s e q = right_from loose (val v) b s e q
equal_from loose (local j) b s e q = right_from loose (local j) b s e q
equal_from loose (constant k) b s e q = right_from loose (constant k) b s e q
equal_from loose (one o x) b s e q = right_from loose (one o x) b s e q
equal_from loose (two o x y) b s e q = right_from loose (two o x y) b s e q
equal_from loose (equal x y) b s e q = right_from loose (equal x y) b s e q
equal_from loose (both x y) b s e q = right_from loose (both x y) b s e q
equal_from loose (either x y) b s e q = right_from loose (either x y) b s e q
equal_from loose (choose c x y) b s e q = right_from loose (choose c x y) b s e q
equal_from loose (apply f es) b s e q = right_from loose (apply f es) b s e q
equal_from loose (build k es) b s e q = right_from loose (build k es) b s e q
equal_from loose (let_in z x y) b s e q = right_from loose (let_in z x y) b s e q

fix_of_from : (loose : List ℕ) (g : Expr) (s : ℕ) (e : Expr) → fix_of loose g ≡ Some (s, e) → FixOf loose g s e
fix_of_from loose (equal a b) s e q = equal_from loose a b s e q
fix_of_from loose (val v) s e q = cc
fix_of_from loose (slot t) s e q = cc
fix_of_from loose (local j) s e q = cc
fix_of_from loose (constant k) s e q = cc
fix_of_from loose (one o x) s e q = cc
fix_of_from loose (two o x y) s e q = cc
fix_of_from loose (both x y) s e q = cc
fix_of_from loose (either x y) s e q = cc
fix_of_from loose (choose c x y) s e q = cc
fix_of_from loose (apply f es) s e q = cc
fix_of_from loose (build k es) s e q = cc
fix_of_from loose (let_in z x y) s e q = cc

next_fix_from : (loose : List ℕ) (gs : List Expr) (s : ℕ) (e : Expr) → next_fix loose gs ≡ Some (s, e)
    → (g : Expr) × In g gs × FixOf loose g s e
next_fix_from loose [] s e q = cc
next_fix_from loose (g ∷ gs) s e q =
    elim (or_from_else (fix_of loose g) (next_fix loose gs) (s, e) q) [
      | inl p ↦ (g, inl refl, fix_of_from loose g s e p)
      | inr p ↦ (let r = next_fix_from loose gs s e p in (r.0, inr r.1, r.2))
    ]

-- ---- the course of fixing

pub data Fixing (defs : Defs) (types : List Ty) : List ℕ → Item → Item → Type 0 where
  done : {i : Item} → Fixing defs types [] i i
  next : {loose : List ℕ} {i i' : Item} (s : ℕ) (e : Expr) (v : Value) (g : Expr)
      → In g i.guards → FixOf loose g s e → Gives defs e v → HasAt defs.table types s v
      → Fixing defs types (less s loose) (put_in s v i) i' → Fixing defs types loose i i'

value_from : (r : Run) (go : Value → Fixed) (i' : Item) → fix_value r go ≡ fixed i' → (v : Value) × ((n : ℕ) × (r ≡ got v n)) × (go v ≡ fixed i')
value_from (bad f) go i' e = cc
value_from (got v n) go i' e = (v, (n, refl), e)

fix_at_from : (defs : Defs) (o : Option (ℕ × Expr)) (go : ℕ → Value → Fixed) (i' : Item) → fix_at defs o go ≡ fixed i'
    → (s : ℕ) × (e : Expr) × (v : Value) × (o ≡ Some (s, e)) × Gives defs e v × (go s v ≡ fixed i')
fix_at_from defs None go i' e = cc
fix_at_from defs (Some p) go i' e = let q = value_from (eval defs p.1) (go p.0) i' e in (p.0, p.1, q.0, refl, q.1, q.2)

none_loose : (defs : Defs) (types : List Ty) (loose : List ℕ) (i i' : Item) (f : Fixed) → (is_loose loose ≡ true → f ≡ fixed i' → Fixing defs types loose i i')
    → cond (is_loose loose) f (fixed i) ≡ fixed i' → Fixing defs types loose i i'
none_loose defs types [] i i' f k e = let q : i ≡ i' = fixed_same e in subst (λ x. Fixing defs types [] i x) q done
  where
    fixed_same : {x y : Item} → fixed x ≡ fixed y → x ≡ y
    fixed_same r = cc
none_loose defs types (s ∷ ss) i i' f k e = k refl e

module _ (facts : Facts) (defs : Defs) (signatures : Signatures) (ok : AreTyped defs signatures) (types : List Ty) where
  -- the value that a conjunct fixes is of the slot's type
  fixed_typed : (loose : List ℕ) (g : Expr) (s : ℕ) (e : Expr) (v : Value) → FixOf loose g s e → Gives defs e v
      → Of defs.table signatures types [] g truth → HasAt defs.table types s v
  fixed_typed loose g s e v f ge h = by f.form
    where
      typed : (u : Ty) × (slice_get types s ≡ Some u) × Of defs.table signatures types [] e u → HasAt defs.table types s v
      typed p = (p.0, p.1, facts.run_typed defs signatures ok e p.0 height_limit 0 (closed_of p.2 f.closed) v ge.0 ge.1)

      by : (g ≡ equal (slot s) e) ⊎ (g ≡ equal e (slot s)) → HasAt defs.table types s v
      by (inl q) = typed (left_slot (subst (λ x. Of defs.table signatures types [] x truth) q h))
      by (inr q) = typed (right_slot (subst (λ x. Of defs.table signatures types [] x truth) q h))

  pub fix_all_from : (n : ℕ) (loose : List ℕ) (i i' : Item) → AreGuards defs.table signatures types i.guards → fix_all defs n loose i ≡ fixed i' → Fixing defs types loose i i'
  fix_all_from zero loose i i' h e = none_loose defs types loose i i' (unable unfixed) (λ l q. cc) e
  fix_all_from (suc n) loose i i' h e =
      none_loose defs types loose i i' _
      (λ l q.
      let p = fix_at_from defs (next_fix loose i.guards) _ i' q in
      let r = next_fix_from loose i.guards p.0 p.1 p.3 in
      let t = fixed_typed loose r.0 p.0 p.1 p.2 r.2 p.4 (guard_of defs.table signatures types r.0 i.guards r.1 h) in
      next p.0 p.1 p.2 r.0 r.1 r.2 p.4 t
      (fix_all_from n (less p.0 loose) (put_in p.0 p.2 i) i' (put_guards defs.table signatures types p.0 p.2 t i.guards h) p.5))
      e

-- ---- what holds at some values holds after it

Hold_at : (defs : Defs) (f : Puts) (g : Expr) (gs : List Expr) → In g gs → Hold defs (put_all f gs) → Gives defs (put f g) bool_true
Hold_at defs f g [] h k = absurd h
Hold_at defs f g (x ∷ gs) (inl e) k = subst (λ y. Gives defs (put f y) bool_true) (sym e) k.0
Hold_at defs f g (x ∷ gs) (inr h) k = Hold_at defs f g gs h k.1

slot_run : (defs : Defs) (h : ℕ) (s : ℕ) (v : Value) (n : ℕ) → run defs h (slot s) 0 ≡ got v n → ⊥
slot_run defs zero s v n e = cc
slot_run defs (suc h) s v n e = none (ltb 0 node_limit) e
  where
    none : (b : Bool) → cond b (bad wrong) (bad long) ≡ got v n → ⊥
    none true q = cc
    none false q = cc

val_run : (defs : Defs) (h : ℕ) (v w : Value) (n : ℕ) → run defs h (val v) 0 ≡ got w n → v ≡ w
val_run defs zero v w n e = cc
val_run defs (suc h) v w n e = same (ltb 0 node_limit) e
  where
    same : (b : Bool) → cond b (got v 1) (bad long) ≡ got w n → v ≡ w
    same true q = cc
    same false q = cc

filled_gives : (defs : Defs) (vs : List Value) (s : ℕ) (v : Value) → Gives defs (filled vs s) v → filled vs s ≡ val v
filled_gives defs [] s v g = absurd (slot_run defs height_limit s v g.0 g.1)
filled_gives defs (w ∷ vs) zero v g = ap val (val_run defs height_limit w v g.0 g.1)
filled_gives defs (w ∷ vs) (suc s) v g = filled_gives defs vs s v g

-- at values at which the conjunct holds, the slot has the value
slot_has : (defs : Defs) (vs : List Value) (loose : List ℕ) (g : Expr) (s : ℕ) (e : Expr) (v : Value) → FixOf loose g s e → Gives defs e v
    → Gives defs (put (filled vs) g) bool_true → filled vs s ≡ val v
slot_has defs vs loose g s e v f ge h = by f.form
  where
    c : put (filled vs) e ≡ e
    c = put_closed (filled vs) e f.closed

    by : (g ≡ equal (slot s) e) ⊎ (g ≡ equal e (slot s)) → filled vs s ≡ val v
    by (inl q) =
        let h' = subst (λ x. Gives defs (put (filled vs) x) bool_true) q h in
        let p = sides_give defs (filled vs s) (put (filled vs) e) h' in
        let ev = subst (λ x. Gives defs x p.1) c p.3 in
        let y = one_value defs e p.1 v ev ge in
        let x = same_value-true p.0 p.1 p.4 in
        filled_gives defs vs s p.0 p.2 ∙ ap val (x ∙ y)
    by (inr q) =
        let h' = subst (λ x. Gives defs (put (filled vs) x) bool_true) q h in
        let p = sides_give defs (put (filled vs) e) (filled vs s) h' in
        let ev = subst (λ x. Gives defs x p.0) c p.2 in
        let y = one_value defs e p.0 v ev ge in
        let x = same_value-true p.0 p.1 p.4 in
        filled_gives defs vs s p.1 p.3 ∙ ap val (sym x ∙ y)

only_first : (f : Puts) (s j : ℕ) (v : Value) (b : Bool) → eqb s j ≡ b → f s ≡ val v → put f (cond b (val v) (slot j)) ≡ f j
only_first f s j v true e h = sym h ∙ ap f (eqb-true s j e)
only_first f s j v false e h = refl

pub only_same : (f : Puts) (s : ℕ) (v : Value) → f s ≡ val v → (j : ℕ) → then_put f (only s v) j ≡ f j
only_same f s v h j = only_first f s j v (eqb s j) refl h

pub put_in-guards : (f : Puts) (s : ℕ) (v : Value) (i : Item) → f s ≡ val v → put_all f (put_in s v i).guards ≡ put_all f i.guards
put_in-guards f s v i h = put_put_all f (only s v) i.guards ∙ ap (λ g. put_all g i.guards) (alike (only_same f s v h))

pub put_in-rest : (f : Puts) (s : ℕ) (v : Value) (i : Item) → f s ≡ val v → put_term f (put_in s v i).rest ≡ put_term f i.rest
put_in-rest f s v i h = put_put_term f (only s v) i.rest ∙ ap (λ g. put_term g i.rest) (alike (only_same f s v h))

pub keeps : {defs : Defs} {types : List Ty} {loose : List ℕ} {i i' : Item} → Fixing defs types loose i i' → (vs : List Value)
    → Hold defs (put_all (filled vs) i.guards) → Hold defs (put_all (filled vs) i'.guards) × (fill vs i'.rest ≡ fill vs i.rest)
keeps done vs h = (h, refl)
keeps {defs = defs} {loose = loose} {i = i} (next s e v g m f ge ft k) vs h =
    let q = slot_has defs vs loose g s e v f ge (Hold_at defs (filled vs) g i.guards m h) in
    let p = keeps k vs (subst (Hold defs) (sym (put_in-guards (filled vs) s v i q)) h) in
    (p.0, p.1 ∙ put_in-rest (filled vs) s v i q)

-- ---- there are values for the fixed slots

set_at : List Value → ℕ → Value → List Value
set_at [] s v = []
set_at (w ∷ ws) zero v = v ∷ ws
set_at (w ∷ ws) (suc s) v = w ∷ set_at ws s v

set_typed : (table : Table) (vs : List Value) (ts : List Ty) (s : ℕ) (v : Value) → HasAt table ts s v → HaveTypes table vs ts → HaveTypes table (set_at vs s v) ts
unfolding set_at
set_typed table [] ts s v e h = h
set_typed table (w ∷ ws) [] s v e h = absurd h
set_typed table (w ∷ ws) (t ∷ ts) zero v e h = let q : e.0 ≡ t = same_type e.1 in (subst (HasType table v) q e.2, h.1)
  where
    same_type : {x y : Ty} → Some x ≡ Some y → y ≡ x
    same_type q = cc
set_typed table (w ∷ ws) (t ∷ ts) (suc s) v e h = (h.0, set_typed table ws ts s v e h.1)

set_here : (table : Table) (vs : List Value) (ts : List Ty) (s : ℕ) (v : Value) → HasAt table ts s v → HaveTypes table vs ts → filled (set_at vs s v) s ≡ val v
unfolding set_at
set_here table [] [] s v e h = let q = e.1 in cc
set_here table [] (t ∷ ts) s v e h = absurd h
set_here table (w ∷ ws) [] s v e h = absurd h
set_here table (w ∷ ws) (t ∷ ts) zero v e h = refl
set_here table (w ∷ ws) (t ∷ ts) (suc s) v e h = set_here table ws ts s v e h.1

set_other : (vs : List Value) (s j : ℕ) (v : Value) → eqb s j ≡ false → filled (set_at vs s v) j ≡ filled vs j
unfolding set_at
set_other [] s j v e = refl
set_other (w ∷ ws) zero zero v e = cc
set_other (w ∷ ws) zero (suc j) v e = refl
set_other (w ∷ ws) (suc s) zero v e = refl
set_other (w ∷ ws) (suc s) (suc j) v e = set_other ws s j v (eqb_down s j e)
  where
    eqb_down : (a b : ℕ) → eqb (suc a) (suc b) ≡ false → eqb a b ≡ false
    eqb_down a b q = ne_eqb a b (λ r. let k = eq-eqb (suc a) (suc b) (ap suc r) in absurd (cc))

-- a slot that is not loose is not loose when one fewer is
less_first : (s x j : ℕ) (xs : List ℕ) (b : Bool) → (has xs j ≡ false → has (kept (λ y. not (eqb s y)) xs) j ≡ false)
    → has (x ∷ xs) j ≡ false → has (cond b (x ∷ kept (λ y. not (eqb s y)) xs) (kept (λ y. not (eqb s y)) xs)) j ≡ false
less_first s x j xs true go h =
    let o = or_parts (eqb x j) (has xs j) h in
    or_false (eqb x j) (has (kept (λ y. not (eqb s y)) xs) j) o.0 (go o.1)
  where
    or_false : (p q : Bool) → p ≡ false → q ≡ false → (p || q) ≡ false
    or_false true q a b = cc
    or_false false q a b = b
less_first s x j xs false go h = go (or_parts (eqb x j) (has xs j) h).1

less_not : (s j : ℕ) (loose : List ℕ) → has loose j ≡ false → has (less s loose) j ≡ false
less_not s j [] h = refl
less_not s j (x ∷ xs) h = less_first s x j xs (not (eqb s x)) (less_not s j xs) h

-- the slot itself is not
less_self_first : (s x : ℕ) (xs : List ℕ) (b : Bool) → eqb s x ≡ b → has (kept (λ y. not (eqb s y)) xs) s ≡ false
    → has (cond (not b) (x ∷ kept (λ y. not (eqb s y)) xs) (kept (λ y. not (eqb s y)) xs)) s ≡ false
less_self_first s x xs true e h = h
less_self_first s x xs false e h = rw (eqb_flip s x e) h
  where
    eqb_flip : (a b : ℕ) → eqb a b ≡ false → eqb b a ≡ false
    eqb_flip a b q = ne_eqb b a (λ r. let k = eq-eqb a b (sym r) in absurd (cc))

less_self : (s : ℕ) (loose : List ℕ) → has (less s loose) s ≡ false
less_self s [] = refl
less_self s (x ∷ xs) = less_self_first s x xs (eqb s x) refl (less_self s xs)

apart_loose : (s j : ℕ) (loose : List ℕ) → has loose s ≡ true → has loose j ≡ false → eqb s j ≡ false
apart_loose s j loose a b = ne_eqb s j (λ e. let p = subst (λ x. has loose x ≡ true) e a in absurd (cc))

pub record Extended (table : Table) (types : List Ty) (loose : List ℕ) (vs : List Value) (i i' : Item) : Type 0 where
  pub values : List Value
  pub typed : HaveTypes table values types
  pub same : (j : ℕ) → has loose j ≡ false → filled values j ≡ filled vs j
  pub guards : put_all (filled values) i'.guards ≡ put_all (filled values) i.guards
  pub rest : fill values i'.rest ≡ fill values i.rest

pub extends : {defs : Defs} {types : List Ty} {loose : List ℕ} {i i' : Item} → Fixing defs types loose i i' → (vs : List Value)
    → HaveTypes defs.table vs types → Extended defs.table types loose vs i i'
extends done vs h = record { values = vs; typed = h; same = λ j l. refl; guards = refl; rest = refl }
extends {defs = defs} {types = types} {loose = loose} {i = i} (next s e v g m f ge ft k) vs h =
    let x = extends k (set_at vs s v) (set_typed defs.table vs types s v ft h) in
    let here = x.same s (less_self s loose) ∙ set_here defs.table vs types s v ft h in
    record {
      values = x.values;
      typed = x.typed;
      same = λ j l. x.same j (less_not s j loose l) ∙ set_other vs s j v (apart_loose s j loose f.free l);
      guards = x.guards ∙ put_in-guards (filled x.values) s v i here;
      rest = x.rest ∙ put_in-rest (filled x.values) s v i here;
    }

-- ---- the fixed slots are gone

-- the item reads these slots alone
pub record Reads (slots : ℕ → Bool) (i : Item) : Type 0 where
  pub guards : (f g : Puts) → ((j : ℕ) → slots j ≡ true → f j ≡ g j) → put_all f i.guards ≡ put_all g i.guards
  pub rest : (f g : Puts) → ((j : ℕ) → slots j ≡ true → f j ≡ g j) → put_term f i.rest ≡ put_term g i.rest

pub reads_all : (i : Item) → Reads (λ j. true) i
reads_all i = record {
  guards = λ f g h. ap (λ x. put_all x i.guards) (alike (λ j. h j refl));
  rest = λ f g h. ap (λ x. put_term x i.rest) (alike (λ j. h j refl));
}

only_agree : (f g : Puts) (s j : ℕ) (v : Value) (b : Bool) → (b ≡ false → f j ≡ g j) → put f (cond b (val v) (slot j)) ≡ put g (cond b (val v) (slot j))
only_agree f g s j v true h = refl
only_agree f g s j v false h = h refl

pub reads_less : (slots slots' : ℕ → Bool) (s : ℕ) (v : Value) (i : Item) → ((j : ℕ) → slots j ≡ true → eqb s j ≡ false → slots' j ≡ true)
    → Reads slots i → Reads slots' (put_in s v i)
reads_less slots slots' s v i w r = record {
  guards = λ f g h. put_put_all f (only s v) i.guards
      ∙ (r.guards (then_put f (only s v)) (then_put g (only s v)) (λ j k. only_agree f g s j v (eqb s j) (λ b. h j (w j k b)))
      ∙ sym (put_put_all g (only s v) i.guards));
  rest = λ f g h. put_put_term f (only s v) i.rest
      ∙ (r.rest (then_put f (only s v)) (then_put g (only s v)) (λ j k. only_agree f g s j v (eqb s j) (λ b. h j (w j k b)))
      ∙ sym (put_put_term g (only s v) i.rest));
}

-- one that is loose and another slot is loose still
less_keeps_first : (s x j : ℕ) (xs : List ℕ) (b : Bool) → eqb s x ≡ b → eqb s j ≡ false → has (x ∷ xs) j ≡ true
    → (has xs j ≡ true → has (kept (λ y. not (eqb s y)) xs) j ≡ true)
    → has (cond (not b) (x ∷ kept (λ y. not (eqb s y)) xs) (kept (λ y. not (eqb s y)) xs)) j ≡ true
less_keeps_first s x j xs true e n h go =
    elim (or_cases (eqb x j) (has xs j) h)
    [ inl q ↦ (let a = eqb-true s x e in let b = eqb-true x j q in let c = eq-eqb s j (a ∙ b) in absurd (cc)) | inr q ↦ go q ]
less_keeps_first s x j xs false e n h go =
    elim (or_cases (eqb x j) (has xs j) h)
    [ inl q ↦ or_left (eqb x j) _ q | inr q ↦ or_right (eqb x j) _ (go q) ]

less_keeps : (s j : ℕ) (loose : List ℕ) → eqb s j ≡ false → has loose j ≡ true → has (less s loose) j ≡ true
less_keeps s j [] n h = cc
less_keeps s j (x ∷ xs) n h = less_keeps_first s x j xs (eqb s x) refl n h (less_keeps s j xs n)

-- what was read before, without the loose slots
pub reads_fixed : {defs : Defs} {types : List Ty} {loose : List ℕ} {i i' : Item} → Fixing defs types loose i i' → (slots : ℕ → Bool)
    → Reads (λ j. slots j || has loose j) i → Reads slots i'
reads_fixed done slots r = record {
  guards = λ f g h. r.guards f g (λ j k. h j (or_none (slots j) k));
  rest = λ f g h. r.rest f g (λ j k. h j (or_none (slots j) k));
}
  where
    or_none : (b : Bool) → (b || false) ≡ true → b ≡ true
    or_none true q = refl
    or_none false q = q
reads_fixed {loose = loose} {i = i} (next s e v g m f ge ft k) slots r =
    reads_fixed k slots (reads_less (λ j. slots j || has loose j) (λ j. slots j || has (less s loose) j) s v i
    (λ j a n. elim (or_cases (slots j) (has loose j) a)
    [ inl q ↦ or_left (slots j) _ q | inr q ↦ or_right (slots j) _ (less_keeps s j loose n q) ]) r)
