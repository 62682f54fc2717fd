-- Expressions put for the slots of a well typed one, and a value put for its first local.
use Rattle.std.specs.Prelude.{slice_get, Some}
use Rattle.std.proofs.Common.{◌≡◌, ℕ, zero, suc, List, [], ◌∷◌, ◌++◌, sym, ap, ◌∙◌, subst}
use Rattle.txs_values.specs.Value.{Ty, Value, Table, HasType, HaveTypes}
use Rattle.txs_terms.specs.Expr.{Expr, Exprs, Puts, put, put_each, filled, local_at, with_local, each_with_local}
use Rattle.txs_terms.specs.Typed.{Signatures, Of, Ofs, val_of, slot_of, local_of, constant_of, one_of, two_of, equal_of, both_of, either_of, choose_of, apply_of, build_of, let_of, none_of, more_of'}
use Rattle.txs_terms.proofs.typing.Lists.{same_some, no_member}

module _ (table : Table) (signatures : Signatures) where
  -- what is put for a slot has the slot's type
  abbrev pub Suits : Puts → List Ty → List Ty → Type 0
  Suits f slots others = (i : ℕ) (t : Ty) (locals : List Ty) → slice_get slots i ≡ Some t → Of table signatures others locals (f i) t

  mutual
    pub put_typed : {slots locals : List Ty} {e : Expr} {t : Ty} → Of table signatures slots locals e t
        → (f : Puts) (others : List Ty) → Suits f slots others → Of table signatures others locals (put f e) t
    put_typed (val_of h) f others k = val_of h
    put_typed {locals = locals} (slot_of {i = i} {t = t} h) f others k = k i t locals h
    put_typed (local_of h) f others k = local_of h
    put_typed (constant_of h) f others k = constant_of h
    put_typed (one_of o a) f others k = one_of o (put_typed a f others k)
    put_typed (two_of o a b) f others k = two_of o (put_typed a f others k) (put_typed b f others k)
    put_typed (equal_of a b) f others k = equal_of (put_typed a f others k) (put_typed b f others k)
    put_typed (both_of a b) f others k = both_of (put_typed a f others k) (put_typed b f others k)
    put_typed (either_of a b) f others k = either_of (put_typed a f others k) (put_typed b f others k)
    put_typed (choose_of c a b) f others k = choose_of (put_typed c f others k) (put_typed a f others k) (put_typed b f others k)
    put_typed (apply_of h es) f others k = apply_of h (put_each_typed es f others k)
    put_typed (build_of h es) f others k = build_of h (put_each_typed es f others k)
    put_typed (let_of a b) f others k = let_of (put_typed a f others k) (put_typed b f others k)

    pub put_each_typed : {slots locals : List Ty} {es : Exprs} {ts : List Ty} → Ofs table signatures slots locals es ts
        → (f : Puts) (others : List Ty) → Suits f slots others → Ofs table signatures others locals (put_each f es) ts
    put_each_typed none_of f others k = none_of
    put_each_typed (more_of' e es) f others k = more_of' (put_typed e f others k) (put_each_typed es f others k)

  pub filled_suits : (vs : List Value) (slots others : List Ty) → HaveTypes table vs slots → Suits (filled vs) (slots ++ others) others
  filled_suits [] [] others h i t locals e = slot_of e
  filled_suits [] (s ∷ slots) others h i t locals e = absurd h
  filled_suits (v ∷ vs) [] others h i t locals e = absurd h
  filled_suits (v ∷ vs) (s ∷ slots) others h zero t locals e = val_of (subst (HasType table v) (same_some e) h.0)
  filled_suits (v ∷ vs) (s ∷ slots) others h (suc i) t locals e = filled_suits vs slots others h.1 i t locals e

  pub filled_all : (vs : List Value) (slots : List Ty) → HaveTypes table vs slots → Suits (filled vs) slots []
  filled_all [] [] h i t locals e = absurd (no_member i t e)
  filled_all [] (s ∷ slots) h i t locals e = absurd h
  filled_all (v ∷ vs) [] h i t locals e = absurd h
  filled_all (v ∷ vs) (s ∷ slots) h zero t locals e = val_of (subst (HasType table v) (same_some e) h.0)
  filled_all (v ∷ vs) (s ∷ slots) h (suc i) t locals e = filled_all vs slots h.1 i t locals e

  -- ---- a LET's value

  local_at_typed : (w : Value) (ls : List Ty) (i : ℕ) (t r : Ty) (slots locals : List Ty) → HasType table w r → ls ≡ r ∷ locals → slice_get ls i ≡ Some t
      → Of table signatures slots locals (local_at w i) t
  local_at_typed w ls zero t r slots locals h e g =
      let q : r ≡ t = same_some (sym (ap (λ l. slice_get l 0) e) ∙ g) in val_of (subst (HasType table w) q h)
  local_at_typed w ls (suc i) t r slots locals h e g = local_of (sym (ap (λ l. slice_get l (suc i)) e) ∙ g)

  mutual
    pub local_typed : {slots ls : List Ty} {e : Expr} {t : Ty} → Of table signatures slots ls e t
        → (w : Value) (r : Ty) (locals : List Ty) → HasType table w r → ls ≡ r ∷ locals → Of table signatures slots locals (with_local w e) t
    local_typed (val_of h) w r locals k e = val_of h
    local_typed (slot_of h) w r locals k e = slot_of h
    local_typed {slots = slots} {ls = ls} (local_of {i = i} {t = t} h) w r locals k e = local_at_typed w ls i t r slots locals k e h
    local_typed (constant_of h) w r locals k e = constant_of h
    local_typed (one_of o a) w r locals k e = one_of o (local_typed a w r locals k e)
    local_typed (two_of o a b) w r locals k e = two_of o (local_typed a w r locals k e) (local_typed b w r locals k e)
    local_typed (equal_of a b) w r locals k e = equal_of (local_typed a w r locals k e) (local_typed b w r locals k e)
    local_typed (both_of a b) w r locals k e = both_of (local_typed a w r locals k e) (local_typed b w r locals k e)
    local_typed (either_of a b) w r locals k e = either_of (local_typed a w r locals k e) (local_typed b w r locals k e)
    local_typed (choose_of c a b) w r locals k e = choose_of (local_typed c w r locals k e) (local_typed a w r locals k e) (local_typed b w r locals k e)
    local_typed (apply_of h es) w r locals k e = apply_of h (each_local_typed es w r locals k e)
    local_typed (build_of h es) w r locals k e = build_of h (each_local_typed es w r locals k e)
    local_typed (let_of {s = s} a b) w r locals k e =
        let_of (local_typed a w r locals k e) (local_typed b w r (locals ++ s ∷ []) k (ap (λ l. l ++ s ∷ []) e))

    pub each_local_typed : {slots ls : List Ty} {es : Exprs} {ts : List Ty} → Ofs table signatures slots ls es ts
        → (w : Value) (r : Ty) (locals : List Ty) → HasType table w r → ls ≡ r ∷ locals → Ofs table signatures slots locals (each_with_local w es) ts
    each_local_typed none_of w r locals k e = none_of
    each_local_typed (more_of' a es) w r locals k e = more_of' (local_typed a w r locals k e) (each_local_typed es w r locals k e)
