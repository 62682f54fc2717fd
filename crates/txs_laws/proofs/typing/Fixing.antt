-- Under HIDE the slots of hidden channels get values of their types, and the slots that are left are numbered anew.
use Rattle.std.specs.Prelude.{Option, Some, None, slice_get}
use Rattle.std.proofs.Common.{◌≡◌, ◌<◌, ◌≤◌, ℕ, zero, suc, ◌+◌, ◌-◌, Bool, true, false, cond, not, ◌&&◌, ◌||◌, eqb, ltb, List, [], ◌∷◌, ◌++◌, length, refl, sym, ap, ◌∙◌, subst, arith, eqb-true, ltb-true, ltb-false}
use Rattle.txs_values.specs.Value.{Ty, Value, HasType, truth}
use Rattle.txs_terms.specs.Expr.{Expr, val, slot, local, constant, one, two, equal, both, either, choose, apply, build, let_in, Puts, put, put_all, has_slot}
use Rattle.txs_terms.specs.Eval.{Defs, Run, got, bad, height_limit, run}
use Rattle.txs_terms.specs.Action.{has, kept, from}
use Rattle.txs_terms.specs.Term.{put_term}
use Rattle.txs_terms.specs.Typed.{Signatures, Of, val_of, slot_of, AreTyped, AreGuards}
use Rattle.txs_terms.specs.Menu.{Item, fix_by, or_else, fix_right, fix_equal, fix_of, next_fix, only, put_in, is_loose, unable, fixed, fix_value, fix_at, less, fix_all, unfixed, position, closed_up, with_slots, loose_slots}
use Rattle.txs_laws.specs.Items.{AreItemGuards}
use Rattle.txs_terms.proofs.typing.Lists.{same_some, member_front, member_past, member_before}
use Rattle.txs_terms.proofs.typing.Putting.{Suits, put_typed}
use Rattle.txs_laws.proofs.rules.Put.{then_put, put_put, put_put_all, put_put_term, put_slots_all, put_slots_term}
use Rattle.txs_laws.proofs.typing.Terms.{Carries, put_guards}
use Rattle.txs_laws.proofs.typing.Slots.{Points, points-length, Renames, renamed_slots, without_slot}
use Rattle.txs_terms.proofs.typing.Runs.{run_well, EndsWell}
use Rattle.txs_laws.proofs.rules.Left.{left_slot}

-- ---- loose slots

less_other : (s i : ℕ) (loose : List ℕ) → eqb s i ≡ false → has (less s loose) i ≡ has loose i
less_other s i [] e = refl
less_other s i (x ∷ xs) e = by (eqb s x) refl (less_other s i xs e)
  where
    by : (b : Bool) → eqb s x ≡ b → has (less s xs) i ≡ has xs i → has (cond (not b) (x ∷ less s xs) (less s xs)) i ≡ (eqb x i || has xs i)
    by true q h =
        let k : s ≡ x = eqb-true s x q in
        let n : eqb x i ≡ false = subst (λ y. eqb y i ≡ false) k e in
        h ∙ sym (ap (λ b. b || has xs i) n)
    by false q h = ap (λ b. eqb x i || b) h

none_loose : (loose : List ℕ) → is_loose loose ≡ false → loose ≡ []
none_loose [] e = refl
none_loose (x ∷ xs) e = cc

-- ---- slots that are left

kept_in : (p : ℕ → Bool) (n k i : ℕ) → has (kept p (from k n)) i ≡ true → i < k + n
kept_in p zero k i h = cc
kept_in p (suc n) k i h = by (p k) h (kept_in p n (suc k) i)
  where
    first : (b : Bool) → eqb k i ≡ b → (b || has (kept p (from (suc k) n)) i) ≡ true → (has (kept p (from (suc k) n)) i ≡ true → i < suc k + n) → i < k + suc n
    first true q g r = let e = eqb-true k i q in omega arith
    first false q g r = let e = r g in omega arith

    by : (b : Bool) → has (cond b (k ∷ kept p (from (suc k) n)) (kept p (from (suc k) n))) i ≡ true
        → (has (kept p (from (suc k) n)) i ≡ true → i < suc k + n) → i < k + suc n
    by true g r = first (eqb k i) refl g r
    by false g r = let e = r g in omega arith

-- where a slot that is left stands
at_position : (slots : List Ty) (ps : List ℕ) (others : List Ty) (i : ℕ) (t : Ty) → Points slots ps others → has ps i ≡ true → slice_get slots i ≡ Some t
    → slice_get others (position ps i) ≡ Some t
at_position slots [] others i t h k e = cc
at_position slots (p ∷ ps) [] i t h k e = absurd h
at_position slots (p ∷ ps) (u ∷ others) i t h k e = by (eqb p i) refl k (λ g. at_position slots ps others i t h.1 g e)
  where
    by : (b : Bool) → eqb p i ≡ b → (b || has ps i) ≡ true → (has ps i ≡ true → slice_get others (position ps i) ≡ Some t)
        → slice_get (u ∷ others) (cond b 0 (suc (position ps i))) ≡ Some t
    by true q g r = sym h.0 ∙ (ap (slice_get slots) (eqb-true p i q) ∙ e)
    by false q g r = r g

pub closed_renames : (ps : List ℕ) (size : ℕ) → Renames (closed_up ps size)
closed_renames ps size i = by (ltb i size)
  where
    by : (b : Bool) → has_slot (cond b (slot (position ps i)) (slot ((i - size) + length ps))) ≡ true
    by true = refl
    by false = refl

module _ (defs : Defs) (signatures : Signatures) (typed : AreTyped defs signatures) (slots : List Ty) where
  -- a loose slot that is fixed, and an expression without slots of its type
  abbrev IfFix : List ℕ → Option (ℕ × Expr) → Type 0
  IfFix loose None = Unit {0}
  IfFix loose (Some p) = (has loose p.0 ≡ true) × (t : Ty) × (slice_get slots p.0 ≡ Some t) × Of defs.table signatures [] [] p.1 t

  or_fix : (loose : List ℕ) (o q : Option (ℕ × Expr)) → IfFix loose o → IfFix loose q → IfFix loose (or_else o q)
  or_fix loose None q h k = k
  or_fix loose (Some p) q h k = h

  slot_type : {locals : List Ty} {e : Expr} {t : Ty} → Of defs.table signatures slots locals e t → (s : ℕ) → e ≡ slot s → slice_get slots s ≡ Some t
  slot_type (val_of h) s e = cc
  slot_type (slot_of {i = i} h) s e = let q : i ≡ s = cc in ap (slice_get slots) (sym q) ∙ h
  slot_type (Of.local_of h) s e = cc
  slot_type (Of.constant_of h) s e = cc
  slot_type (Of.one_of o a) s e = cc
  slot_type (Of.two_of o a b) s e = cc
  slot_type (Of.equal_of a b) s e = cc
  slot_type (Of.both_of a b) s e = cc
  slot_type (Of.either_of a b) s e = cc
  slot_type (Of.choose_of c a b) s e = cc
  slot_type (Of.apply_of h es) s e = cc
  slot_type (Of.build_of h es) s e = cc
  slot_type (Of.let_of a b) s e = cc

  fixed_by : (loose : List ℕ) (s : ℕ) (e : Expr) (t : Ty) → Of defs.table signatures slots [] (slot s) t → Of defs.table signatures slots [] e t → IfFix loose (fix_by loose s e)
  fixed_by loose s e t h k = by (has loose s) (has_slot e) refl refl
    where
      by : (a b : Bool) → has loose s ≡ a → has_slot e ≡ b → IfFix loose (cond (a && not b) (Some (s, e)) None)
      by true true p q = tt
      by true false p q = (p, t, slot_type h s refl, without_slot defs.table signatures k [] q)
      by false b p q = tt

  right_fix : (loose : List ℕ) (e b : Expr) (t : Ty) → Of defs.table signatures slots [] e t → Of defs.table signatures slots [] b t → IfFix loose (fix_right loose e b)
  right_fix loose e (slot s) t h k = fixed_by loose s e t k h
  right_fix loose e (val v) t h k = tt
  right_fix loose e (local s) t h k = tt
  right_fix loose e (constant c) t h k = tt
  right_fix loose e (one o a) t h k = tt
  right_fix loose e (two o a b) t h k = tt
  right_fix loose e (equal a b) t h k = tt
  right_fix loose e (both a b) t h k = tt
  right_fix loose e (either a b) t h k = tt
  right_fix loose e (choose c a b) t h k = tt
  right_fix loose e (apply f es) t h k = tt
  right_fix loose e (build c es) t h k = tt
  right_fix loose e (let_in x a b) t h k = tt

  equal_fix : (loose : List ℕ) (a b : Expr) (t : Ty) → Of defs.table signatures slots [] a t → Of defs.table signatures slots [] b t → IfFix loose (fix_equal loose a b)
  equal_fix loose (slot s) b t h k = or_fix loose (fix_by loose s b) (fix_right loose (slot s) b) (fixed_by loose s b t h k) (right_fix loose (slot s) b t h k)
  equal_fix loose (val v) b t h k = right_fix loose (val v) b t h k
  equal_fix loose (local s) b t h k = right_fix loose (local s) b t h k
  equal_fix loose (constant c) b t h k = right_fix loose (constant c) b t h k
  equal_fix loose (one o a) b t h k = right_fix loose (one o a) b t h k
  equal_fix loose (two o a c) b t h k = right_fix loose (two o a c) b t h k
  equal_fix loose (equal a c) b t h k = right_fix loose (equal a c) b t h k
  equal_fix loose (both a c) b t h k = right_fix loose (both a c) b t h k
  equal_fix loose (either a c) b t h k = right_fix loose (either a c) b t h k
  equal_fix loose (choose d a c) b t h k = right_fix loose (choose d a c) b t h k
  equal_fix loose (apply f es) b t h k = right_fix loose (apply f es) b t h k
  equal_fix loose (build c es) b t h k = right_fix loose (build c es) b t h k
  equal_fix loose (let_in x a c) b t h k = right_fix loose (let_in x a c) b t h k

  one_fix : (loose : List ℕ) {locals : List Ty} {e : Expr} {t : Ty} → Of defs.table signatures slots locals e t → locals ≡ [] → IfFix loose (fix_of loose e)
  one_fix loose (val_of h) l = tt
  one_fix loose (slot_of h) l = tt
  one_fix loose (Of.local_of h) l = tt
  one_fix loose (Of.constant_of h) l = tt
  one_fix loose (Of.one_of o a) l = tt
  one_fix loose (Of.two_of o a b) l = tt
  one_fix loose (Of.equal_of {a = a} {b = b} {s = s} x y) l =
      equal_fix loose a b s (subst (λ k. Of defs.table signatures slots k a s) l x) (subst (λ k. Of defs.table signatures slots k b s) l y)
  one_fix loose (Of.both_of a b) l = tt
  one_fix loose (Of.either_of a b) l = tt
  one_fix loose (Of.choose_of c a b) l = tt
  one_fix loose (Of.apply_of h es) l = tt
  one_fix loose (Of.build_of h es) l = tt
  one_fix loose (Of.let_of a b) l = tt

  first_fix : (loose : List ℕ) (gs : List Expr) → AreGuards defs.table signatures slots gs → IfFix loose (next_fix loose gs)
  first_fix loose [] h = tt
  first_fix loose (g ∷ gs) h = or_fix loose (fix_of loose g) (next_fix loose gs) (one_fix loose h.0 refl) (first_fix loose gs h.1)

  -- ---- all loose slots get values

  -- what is put for a slot: a value of its type for each loose one, and each other slot for itself
  abbrev PutsAt : Puts → ℕ → Bool → Type 0
  PutsAt f i true = (v : Value) × (f i ≡ val v) × ((t : Ty) → slice_get slots i ≡ Some t → HasType defs.table v t)
  PutsAt f i false = f i ≡ slot i

  pub Settles : List ℕ → Puts → Type 0
  Settles loose f = (i : ℕ) → PutsAt f i (has loose i)

  abbrev pub Settled : List ℕ → Item → Item → Type 0
  Settled loose i j = (f : Puts) × Settles loose f × (j.guards ≡ put_all f i.guards) × (j.rest ≡ put_term f i.rest)

  only_suits : (s : ℕ) (v : Value) (t : Ty) → slice_get slots s ≡ Some t → HasType defs.table v t → Suits defs.table signatures (only s v) slots slots
  only_suits s v t h k i u locals e = by (eqb s i) refl
    where
      by : (b : Bool) → eqb s i ≡ b → Of defs.table signatures slots locals (cond b (val v) (slot i)) u
      by true q =
          let same : t ≡ u = same_some (sym h ∙ (ap (slice_get slots) (eqb-true s i q) ∙ e)) in val_of (subst (HasType defs.table v) same k)
      by false q = slot_of e

  and_only : (loose : List ℕ) (s : ℕ) (v : Value) (t : Ty) (f : Puts) → has loose s ≡ true → slice_get slots s ≡ Some t → HasType defs.table v t
      → Settles (less s loose) f → Settles loose (then_put f (only s v))
  unfolding Settles
  and_only loose s v t f l h k c i = by (eqb s i) refl
    where
      by : (b : Bool) → eqb s i ≡ b → PutsAt (then_put f (λ j. cond (eqb s j) (val v) (slot j))) i (has loose i)
      by true q =
          let e : s ≡ i = eqb-true s i q in
          let a : has loose i ≡ true = subst (λ j. has loose j ≡ true) e l in
          subst (PutsAt (then_put f (only s v)) i) (sym a) (
            v,
            ap (λ b. put f (cond b (val v) (slot i))) q,
            λ u g. let same : t ≡ u = same_some (sym h ∙ (ap (slice_get slots) e ∙ g)) in subst (HasType defs.table v) same k,
          )
      by false q =
          let a : has (less s loose) i ≡ has loose i = less_other s i loose q in
          let r : f i ≡ then_put f (only s v) i = ap (λ b. put f (cond b (val v) (slot i))) (sym q) in
          moved_over (has loose i) r (subst (PutsAt f i) a (c i))
        where
          moved_over : (b : Bool) → f i ≡ then_put f (only s v) i → PutsAt f i b → PutsAt (then_put f (only s v)) i b
          moved_over true r (w, g, m) = (w, sym r ∙ g, m)
          moved_over false r g = sym r ∙ g

  settled_value : (n : ℕ) (loose : List ℕ) (i j : Item) (p : ℕ × Expr) → has loose p.0 ≡ true → (t : Ty) → slice_get slots p.0 ≡ Some t
      → (r : Run) → EndsWell defs.table t r → AreGuards defs.table signatures slots i.guards
      → ((v : Value) → AreGuards defs.table signatures slots (put_in p.0 v i).guards
      → fix_all defs n (less p.0 loose) (put_in p.0 v i) ≡ fixed j → Settled (less p.0 loose) (put_in p.0 v i) j)
      → fix_value r (λ v. fix_all defs n (less p.0 loose) (put_in p.0 v i)) ≡ fixed j → Settled loose i j
  settled_value n loose i j p l t h (bad f) k g go e = cc
  settled_value n loose i j p l t h (got v m) k g go e =
      let suits : Suits defs.table signatures (only p.0 v) slots slots = only_suits p.0 v t h k in
      let r = go v (put_guards defs.table signatures (only p.0 v) slots slots suits i.guards g) e in (
        then_put r.0 (only p.0 v),
        and_only loose p.0 v t r.0 l h k r.1,
        r.2 ∙ put_put_all r.0 (only p.0 v) i.guards,
        r.3 ∙ put_put_term r.0 (only p.0 v) i.rest,
      )

  settled_at : (n : ℕ) (loose : List ℕ) (i j : Item) (o : Option (ℕ × Expr)) → IfFix loose o → AreGuards defs.table signatures slots i.guards
      → ((s : ℕ) (v : Value) → AreGuards defs.table signatures slots (put_in s v i).guards
      → fix_all defs n (less s loose) (put_in s v i) ≡ fixed j → Settled (less s loose) (put_in s v i) j)
      → fix_at defs o (λ s v. fix_all defs n (less s loose) (put_in s v i)) ≡ fixed j → Settled loose i j
  settled_at n loose i j None h g go e = cc
  settled_at n loose i j (Some p) h g go e =
      settled_value n loose i j p h.0 h.1 h.2 (run defs height_limit p.1 0) (run_well defs signatures typed height_limit p.1 0 h.1 h.3) g (go p.0) e

  settled_none : (loose : List ℕ) (i j : Item) → is_loose loose ≡ false → fixed i ≡ fixed j → Settled loose i j
  unfolding Settles
  settled_none loose i j l e =
      let q : i ≡ j = same e in (
        slot,
        (λ k. subst (λ x. PutsAt slot k (has x k)) (sym (none_loose loose l)) refl),
        ap (λ (x : Item). x.guards) (sym q) ∙ sym (put_slots_all i.guards),
        ap (λ (x : Item). x.rest) (sym q) ∙ sym (put_slots_term i.rest),
      )
    where
      same : {x y : Item} → fixed x ≡ fixed y → x ≡ y
      same p = cc

  pub settled : (n : ℕ) (loose : List ℕ) (i j : Item) → AreGuards defs.table signatures slots i.guards → fix_all defs n loose i ≡ fixed j → Settled loose i j
  settled zero loose i j g e = by (is_loose loose) refl e
    where
      by : (b : Bool) → is_loose loose ≡ b → cond b (unable unfixed) (fixed i) ≡ fixed j → Settled loose i j
      by true l q = cc
      by false l q = settled_none loose i j l q
  settled (suc n) loose i j g e =
      by (is_loose loose) refl (settled_at n loose i j (next_fix loose i.guards) (first_fix loose i.guards g) g (λ s v k. settled n (less s loose) (put_in s v i) j k)) e
    where
      by : (b : Bool) → is_loose loose ≡ b
          → (fix_at defs (next_fix loose i.guards) (λ s v. fix_all defs n (less s loose) (put_in s v i)) ≡ fixed j → Settled loose i j)
          → cond b (fix_at defs (next_fix loose i.guards) (λ s v. fix_all defs n (less s loose) (put_in s v i))) (fixed i) ≡ fixed j → Settled loose i j
      by true l go q = go q
      by false l go q = settled_none loose i j l q

  -- ---- closing up

  module _ (others : List Ty) (ps : List ℕ) (size : ℕ) (points : Points slots ps others) (same : size ≡ length slots) where
    closed_past : (later : List Ty) (i : ℕ) (t : Ty) (locals : List Ty) → size ≤ i → slice_get (slots ++ later) i ≡ Some t
        → Of defs.table signatures (others ++ later) locals (closed_up ps size i) t
    closed_past later i t locals h e = by (ltb i size) refl
      where
        by : (b : Bool) → ltb i size ≡ b → Of defs.table signatures (others ++ later) locals (cond b (slot (position ps i)) (slot ((i - size) + length ps))) t
        by true q = let l = ltb-true i size q in absurd (omega arith)
        by false q =
            let n = points-length slots ps others points in
            slot_of (member_past others later (i - size) ((i - size) + length ps) (omega arith) ∙ (sym (member_past slots later (i - size) i (omega arith)) ∙ e))

    closed_left : (later : List Ty) (i : ℕ) (t : Ty) (locals : List Ty) → i < size → has ps i ≡ true → slice_get (slots ++ later) i ≡ Some t
        → Of defs.table signatures (others ++ later) locals (closed_up ps size i) t
    closed_left later i t locals h k e = by (ltb i size) refl
      where
        by : (b : Bool) → ltb i size ≡ b → Of defs.table signatures (others ++ later) locals (cond b (slot (position ps i)) (slot ((i - size) + length ps))) t
        by true q =
            slot_of (member_front others later (position ps i) t (at_position slots ps others i t points k (member_before slots later i t (omega arith) e)))
        by false q = let l = ltb-false i size q in absurd (omega arith)

    -- fixing and closing up are one put
    pub closed_carries : (f : Puts) → Settles (loose_slots ps size) f → Carries defs.table signatures (then_put (closed_up ps size) f) slots others
    unfolding Settles
    closed_carries f c later i t locals e = by (has (loose_slots ps size) i) refl (c i)
      where
        past : (b : Bool) → ltb i size ≡ b → has (loose_slots ps size) i ≡ false → Of defs.table signatures (others ++ later) locals (closed_up ps size i) t
        past true q k = let l = ltb-true i size q in closed_left later i t locals l (left_slot ps size i l k) e
        past false q k = let l = ltb-false i size q in closed_past later i t locals (omega arith) e

        by : (b : Bool) → has (loose_slots ps size) i ≡ b → PutsAt f i b → Of defs.table signatures (others ++ later) locals (put (closed_up ps size) (f i)) t
        by true q (v, g, m) =
            let l = kept_in (λ j. not (has ps j)) size 0 i q in
            subst (λ x. Of defs.table signatures (others ++ later) locals (put (closed_up ps size) x) t) (sym g)
            (val_of (m t (member_before slots later i t (omega arith) e)))
        by false q g =
            subst (λ x. Of defs.table signatures (others ++ later) locals (put (closed_up ps size) x) t) (sym g) (past (ltb i size) refl q)

    -- the guards that keep a slot
    pub closed_guards : (f : Puts) → Suits defs.table signatures (then_put (closed_up ps size) f) slots others → (gs : List Expr)
        → AreGuards defs.table signatures slots gs → AreItemGuards defs.table signatures others (put_all (closed_up ps size) (with_slots (put_all f gs)))
    closed_guards f c [] h = tt
    closed_guards f c (g ∷ gs) h = by (has_slot (put f g)) refl (closed_guards f c gs h.1)
      where
        by : (b : Bool) → has_slot (put f g) ≡ b → AreItemGuards defs.table signatures others (put_all (closed_up ps size) (with_slots (put_all f gs)))
            → AreItemGuards defs.table signatures others (put_all (closed_up ps size) (cond b (put f g ∷ with_slots (put_all f gs)) (with_slots (put_all f gs))))
        by true q r = (
          subst (λ x. Of defs.table signatures others [] x truth) (sym (put_put (closed_up ps size) f g)) (put_typed defs.table signatures h.0 (then_put (closed_up ps size) f) others c),
          renamed_slots (closed_up ps size) (closed_renames ps size) (put f g) ∙ q,
          r,
        )
        by false q r = r
