-- Well typed expressions: without slots, with a value put for one slot, and the sides of a conjunct that fixes a slot.
use Rattle.std.proofs.Common.{◌≡◌, ℕ, Bool, true, false, cond, eqb, ◌||◌, List, [], ◌∷◌, Some, refl, sym, ap, ◌∙◌, subst, inl, inr}
use Rattle.std.specs.Prelude.{slice_get}
use Rattle.std.proofs.lemmas.Bool.{or_parts, eqb-true}
use Rattle.txs_values.specs.Value.{Value, Ty, Table, HasType, truth}
use Rattle.txs_terms.specs.Expr.{Expr, val, slot, equal, Exprs, put, put_each, put_all, has_slot, any_has_slot}
use Rattle.txs_terms.specs.Rules.{In}
use Rattle.txs_terms.specs.Typed.{Signatures, Of, val_of, slot_of, local_of, constant_of, one_of, two_of, equal_of, both_of, either_of, choose_of, apply_of, build_of, let_of, Ofs, none_of, more_of', AreGuards}
use Rattle.txs_terms.specs.Menu.{only}
use Rattle.txs_laws.specs.Items.{AreItemGuards}
use Rattle.txs_terms.proofs.typing.Lists.{same_some}

mutual
  pub closed_of : {table : Table} {signatures : Signatures} {slots locals : List Ty} {e : Expr} {t : Ty}
      → Of table signatures slots locals e t → has_slot e ≡ false → Of table signatures [] locals e t
  closed_of (val_of h) c = val_of h
  closed_of (slot_of h) c = cc
  closed_of (local_of h) c = local_of h
  closed_of (constant_of h) c = constant_of h
  closed_of (one_of o a) c = one_of o (closed_of a c)
  closed_of (two_of {a = x} {b = y} o a b) c =
      let p = or_parts (has_slot x) (has_slot y) c in two_of o (closed_of a p.0) (closed_of b p.1)
  closed_of (equal_of {a = x} {b = y} a b) c =
      let p = or_parts (has_slot x) (has_slot y) c in equal_of (closed_of a p.0) (closed_of b p.1)
  closed_of (both_of {a = x} {b = y} a b) c =
      let p = or_parts (has_slot x) (has_slot y) c in both_of (closed_of a p.0) (closed_of b p.1)
  closed_of (either_of {a = x} {b = y} a b) c =
      let p = or_parts (has_slot x) (has_slot y) c in either_of (closed_of a p.0) (closed_of b p.1)
  closed_of (choose_of {c = z} {a = x} {b = y} d a b) c =
      let p = or_parts (has_slot z || has_slot x) (has_slot y) c in
      let q = or_parts (has_slot z) (has_slot x) p.0 in
      choose_of (closed_of d q.0) (closed_of a q.1) (closed_of b p.1)
  closed_of (apply_of s es) c = apply_of s (closed_ofs es c)
  closed_of (build_of s es) c = build_of s (closed_ofs es c)
  closed_of (let_of {a = x} {b = y} a b) c =
      let p = or_parts (has_slot x) (has_slot y) c in let_of (closed_of a p.0) (closed_of b p.1)

  pub closed_ofs : {table : Table} {signatures : Signatures} {slots locals : List Ty} {es : Exprs} {ts : List Ty}
      → Ofs table signatures slots locals es ts → any_has_slot es ≡ false → Ofs table signatures [] locals es ts
  closed_ofs none_of c = none_of
  closed_ofs (more_of' {e = x} {es = xs} a as') c =
      let p = or_parts (has_slot x) (any_has_slot xs) c in more_of' (closed_of a p.0) (closed_ofs as' p.1)

-- the slot is of a type, and the value too
abbrev pub HasAt : Table → List Ty → ℕ → Value → Type 0
HasAt table slots s v = (t : Ty) × (slice_get slots s ≡ Some t) × HasType table v t

module _ (table : Table) (signatures : Signatures) (slots : List Ty) (s : ℕ) (v : Value) (h : HasAt table slots s v) where
  only_of : (locals : List Ty) (i : ℕ) (t : Ty) (b : Bool) → eqb s i ≡ b → slice_get slots i ≡ Some t
      → Of table signatures slots locals (cond b (val v) (slot i)) t
  only_of locals i t true e g =
      let q = ap (slice_get slots) (eqb-true s i e) in
      val_of (subst (HasType table v) (same_some (sym h.1 ∙ (q ∙ g))) h.2)
  only_of locals i t false e g = slot_of g

  mutual
    pub put_of : {locals : List Ty} {e : Expr} {t : Ty} → Of table signatures slots locals e t → Of table signatures slots locals (put (only s v) e) t
    put_of (val_of g) = val_of g
    put_of (slot_of {locals = locals} {i = i} {t = t} g) = only_of locals i t (eqb s i) refl g
    put_of (local_of g) = local_of g
    put_of (constant_of g) = constant_of g
    put_of (one_of o a) = one_of o (put_of a)
    put_of (two_of o a b) = two_of o (put_of a) (put_of b)
    put_of (equal_of a b) = equal_of (put_of a) (put_of b)
    put_of (both_of a b) = both_of (put_of a) (put_of b)
    put_of (either_of a b) = either_of (put_of a) (put_of b)
    put_of (choose_of c a b) = choose_of (put_of c) (put_of a) (put_of b)
    put_of (apply_of g es) = apply_of g (put_ofs es)
    put_of (build_of g es) = build_of g (put_ofs es)
    put_of (let_of a b) = let_of (put_of a) (put_of b)

    pub put_ofs : {locals : List Ty} {es : Exprs} {ts : List Ty} → Ofs table signatures slots locals es ts → Ofs table signatures slots locals (put_each (only s v) es) ts
    put_ofs none_of = none_of
    put_ofs (more_of' a as') = more_of' (put_of a) (put_ofs as')

  pub put_guards : (gs : List Expr) → AreGuards table signatures slots gs → AreGuards table signatures slots (put_all (only s v) gs)
  put_guards [] h = tt
  put_guards (g ∷ gs) h = (put_of h.0, put_guards gs h.1)

pub guard_of : (table : Table) (signatures : Signatures) (slots : List Ty) (g : Expr) (gs : List Expr)
    → In g gs → AreGuards table signatures slots gs → Of table signatures slots [] g truth
guard_of table signatures slots g [] m h = absurd m
guard_of table signatures slots g (x ∷ gs) (inl e) h = subst (λ y. Of table signatures slots [] y truth) (sym e) h.0
guard_of table signatures slots g (x ∷ gs) (inr m) h = guard_of table signatures slots g gs m h.1

pub item_guards : (table : Table) (signatures : Signatures) (slots : List Ty) (gs : List Expr)
    → AreItemGuards table signatures slots gs → AreGuards table signatures slots gs
item_guards table signatures slots [] h = tt
item_guards table signatures slots (g ∷ gs) h = (h.0, item_guards table signatures slots gs h.2)

-- a slot and what it is equal to have one type
pub left_slot : {table : Table} {signatures : Signatures} {slots : List Ty} {s : ℕ} {e : Expr}
    → Of table signatures slots [] (equal (slot s) e) truth → (t : Ty) × (slice_get slots s ≡ Some t) × Of table signatures slots [] e t
left_slot (equal_of {s = t} (slot_of g) h) = (t, g, h)

pub right_slot : {table : Table} {signatures : Signatures} {slots : List Ty} {s : ℕ} {e : Expr}
    → Of table signatures slots [] (equal e (slot s)) truth → (t : Ty) × (slice_get slots s ≡ Some t) × Of table signatures slots [] e t
right_slot (equal_of {s = t} h (slot_of g)) = (t, g, h)
