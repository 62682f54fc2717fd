-- The constants of a well typed query are in range.
use Rattle.std.proofs.Common.{◌≡◌, ℤ, Bool, true, false, ◌||◌, cond, inl, inr, List, [], ◌∷◌, ◌++◌, refl, sym, ap, ◌∙◌, subst}
use Rattle.std.specs.Prelude.{Option, Some, None}
use Rattle.std.proofs.lemmas.Bool.{and_parts, or_parts}
use Rattle.txs_values.specs.Value.{Ty, integer, truth, string, named, Value, num, bool, text, cons, Values, no_value, and_value, Table, fields_in, place_of, HasType, has_type, has_fields, fits}
use Rattle.txs_terms.specs.Expr.{negate, negation, to_text, from_text, len, is_made_by, select, Expr, val, slot, local, constant, one, two, equal, both, either, choose, apply, build, let_in, Exprs, has_slot, any_has_slot}
use Rattle.txs_terms.specs.Eval.{eval, height_limit}
use Rattle.txs_terms.specs.Rules.{In}
use Rattle.txs_terms.specs.Typed.{Signatures, Of, Ofs, val_of, slot_of, local_of, constant_of, one_of, two_of, equal_of, both_of, either_of, choose_of, apply_of, build_of, let_of, none_of, more_of', negation_of, AreTyped, AreGuards}
use Rattle.txs_guard.specs.Query.{Query}
use Rattle.txs_guard.specs.Atom.{atoms_of, atoms_of_all, fixed_value, value_in}
use Rattle.txs_guard.specs.Mentioned.{some_list, sides_of, constants_of, constants, numbers_in, numbers_in_each}
use Rattle.txs_guard.specs.Point.{IsTypedQuery}
use Rattle.txs_laws.proofs.typing.Facts.{Facts}
use Rattle.txs_laws.proofs.rules.Lists.{In-append}
use Rattle.txs_laws.proofs.solver.Members.{In-flat}
use Rattle.txs_laws.proofs.solver.Atoms.{ConstantsFit}
use Rattle.txs_laws.proofs.solver.Runs.{value_got}

-- ---- values of a type

mutual
  pub typed_fits : (table : Table) (v : Value) (t : Ty) → has_type table v t ≡ true → (x : ℤ) → In x (numbers_in v) → fits x ≡ true
  typed_fits table (num y) integer h x (inl e) = ap fits e ∙ h
  typed_fits table (num y) integer h x (inr i) = absurd i
  typed_fits table (num y) truth h x i = cc
  typed_fits table (num y) string h x i = cc
  typed_fits table (num y) (named k) h x i = cc
  typed_fits table (bool b) t h x i = absurd i
  typed_fits table (text bs) t h x i = absurd i
  typed_fits table (cons c vs) integer h x i = cc
  typed_fits table (cons c vs) truth h x i = cc
  typed_fits table (cons c vs) string h x i = cc
  typed_fits table (cons c vs) (named k) h x i = typed_each table vs (fields_in (place_of table c) k) h x i

  typed_each : (table : Table) (vs : Values) (o : Option (List Ty)) → has_fields table vs o ≡ true → (x : ℤ) → In x (numbers_in_each vs) → fits x ≡ true
  typed_each table no_value o h x i = absurd i
  typed_each table (and_value v vs) None h x i = cc
  typed_each table (and_value v vs) (Some []) h x i = cc
  typed_each table (and_value v vs) (Some (t ∷ ts)) h x i =
      let p = and_parts (has_type table v t) (has_fields table vs (Some ts)) h in
      elim (In-append x (numbers_in v) (numbers_in_each vs) i) [ inl a ↦ typed_fits table v t p.0 x a | inr b ↦ typed_each table vs (Some ts) p.1 x b ]

module _ (table : Table) (signatures : Signatures) where
  -- ---- an expression without slots is well typed over none

  mutual
    pub closed_of : {slots locals : List Ty} {e : Expr} {t : Ty} → Of table signatures slots locals e t → has_slot e ≡ false → Of table signatures [] locals e t
    closed_of (val_of h) c = val_of h
    closed_of (slot_of h) c = cc
    closed_of (local_of h) c = local_of h
    closed_of (constant_of h) c = constant_of h
    closed_of (one_of o a) c = one_of o (closed_of a c)
    closed_of (two_of {a = x} {b = y} o a b) c =
        let p = or_parts (has_slot x) (has_slot y) c in two_of o (closed_of a p.0) (closed_of b p.1)
    closed_of (equal_of {a = x} {b = y} a b) c =
        let p = or_parts (has_slot x) (has_slot y) c in equal_of (closed_of a p.0) (closed_of b p.1)
    closed_of (both_of {a = x} {b = y} a b) c =
        let p = or_parts (has_slot x) (has_slot y) c in both_of (closed_of a p.0) (closed_of b p.1)
    closed_of (either_of {a = x} {b = y} a b) c =
        let p = or_parts (has_slot x) (has_slot y) c in either_of (closed_of a p.0) (closed_of b p.1)
    closed_of (choose_of {c = z} {a = x} {b = y} i a b) c =
        let p = or_parts (has_slot z || has_slot x) (has_slot y) c in
        let q = or_parts (has_slot z) (has_slot x) p.0 in
        choose_of (closed_of i q.0) (closed_of a q.1) (closed_of b p.1)
    closed_of (apply_of h es) c = apply_of h (closed_each es c)
    closed_of (build_of h es) c = build_of h (closed_each es c)
    closed_of (let_of {a = x} {b = y} a b) c =
        let p = or_parts (has_slot x) (has_slot y) c in let_of (closed_of a p.0) (closed_of b p.1)

    closed_each : {slots locals : List Ty} {es : Exprs} {ts : List Ty} → Ofs table signatures slots locals es ts → any_has_slot es ≡ false
        → Ofs table signatures [] locals es ts
    closed_each none_of c = none_of
    closed_each (more_of' {e = x} {es = xs} e es) c =
        let p = or_parts (has_slot x) (any_has_slot xs) c in more_of' (closed_of e p.0) (closed_each es p.1)

  -- ---- atoms and their sides

  module _ (slots : List Ty) where
    abbrev pub IsTruth : Expr → Type 0
    IsTruth e = Of table signatures slots [] e truth

    abbrev pub IsTyped : Expr → Type 0
    IsTyped e = (t : Ty) × Of table signatures slots [] e t

    two_lists : (e : Expr) (xs ys : List Expr) → In e (xs ++ ys) → (In e xs → IsTruth e) → (In e ys → IsTruth e) → IsTruth e
    two_lists e xs ys h f g = elim (In-append e xs ys h) [ inl a ↦ f a | inr b ↦ g b ]

    only : (e x : Expr) → IsTruth x → In e (x ∷ []) → IsTruth e
    only e x h (inl q) = subst IsTruth (sym q) h
    only e x h (inr i) = absurd i

    atom_typed : (e x : Expr) → IsTruth x → In e (atoms_of x) → IsTruth e
    atom_typed e (both a b) (both_of ha hb) i = two_lists e (atoms_of a) (atoms_of b) i (atom_typed e a ha) (atom_typed e b hb)
    atom_typed e (either a b) (either_of ha hb) i = two_lists e (atoms_of a) (atoms_of b) i (atom_typed e a ha) (atom_typed e b hb)
    atom_typed e (choose c a b) (choose_of hc ha hb) i =
        two_lists e (atoms_of c) (atoms_of a ++ atoms_of b) i (atom_typed e c hc)
        (λ j. two_lists e (atoms_of a) (atoms_of b) j (atom_typed e a ha) (atom_typed e b hb))
    atom_typed e (one negation a) (one_of negation_of h) i = atom_typed e a h i
    atom_typed e (val (bool b)) h i = absurd i
    atom_typed e (val (num x)) h i = only e (val (num x)) h i
    atom_typed e (val (text x)) h i = only e (val (text x)) h i
    atom_typed e (val (cons c vs)) h i = only e (val (cons c vs)) h i
    atom_typed e (slot k) h i = only e (slot k) h i
    atom_typed e (local k) h i = only e (local k) h i
    atom_typed e (constant k) h i = only e (constant k) h i
    atom_typed e (one negate a) h i = only e (one negate a) h i
    atom_typed e (one to_text a) h i = only e (one to_text a) h i
    atom_typed e (one (from_text t) a) h i = only e (one (from_text t) a) h i
    atom_typed e (one len a) h i = only e (one len a) h i
    atom_typed e (one (is_made_by c) a) h i = only e (one (is_made_by c) a) h i
    atom_typed e (one (select c j) a) h i = only e (one (select c j) a) h i
    atom_typed e (two o a b) h i = only e (two o a b) h i
    atom_typed e (equal a b) h i = only e (equal a b) h i
    atom_typed e (apply f es) h i = only e (apply f es) h i
    atom_typed e (build c es) h i = only e (build c es) h i
    atom_typed e (let_in x a b) h i = only e (let_in x a b) h i

    any_atom_typed : (e : Expr) (es : List Expr) → AreGuards table signatures slots es → In e (atoms_of_all es) → IsTruth e
    any_atom_typed e [] h i = absurd i
    any_atom_typed e (x ∷ es) h i = two_lists e (atoms_of x) (atoms_of_all es) i (atom_typed e x h.0) (any_atom_typed e es h.1)

    here : (s x : Expr) → IsTyped x → In s (x ∷ []) → IsTyped s
    here s x h (inl q) = subst IsTyped (sym q) h
    here s x h (inr i) = absurd i

    pair_typed : (s a b : Expr) → IsTyped a → IsTyped b → In s (a ∷ b ∷ []) → IsTyped s
    pair_typed s a b h k (inl q) = subst IsTyped (sym q) h
    pair_typed s a b h k (inr i) = here s b k i

    pub equal_typed : {a b : Expr} → IsTruth (equal a b) → IsTyped a × IsTyped b
    equal_typed (equal_of {s = s} a b) = ((s, a), (s, b))

    pub two_typed : {o : _} {a b : Expr} → IsTruth (two o a b) → IsTyped a × IsTyped b
    two_typed (two_of {r = r} {s = s} o a b) = ((r, a), (s, b))

    one_typed : {o : _} {a : Expr} → IsTruth (one o a) → IsTyped a
    one_typed (one_of {s = s} o a) = (s, a)

    side_typed : (s e : Expr) → IsTruth e → In s (sides_of e) → IsTyped s
    side_typed s (slot k) h i = here s (slot k) (truth, h) i
    side_typed s (one (select c j) a) h i = here s (one (select c j) a) (truth, h) i
    side_typed s (one (is_made_by c) a) h i = here s a (one_typed h) i
    side_typed s (equal a b) h i = let p = equal_typed h in pair_typed s a b p.0 p.1 i
    side_typed s (two o a b) h i = let p = two_typed h in pair_typed s a b p.0 p.1 i
    side_typed s (one negate a) h i = absurd i
    side_typed s (one negation a) h i = absurd i
    side_typed s (one to_text a) h i = absurd i
    side_typed s (one (from_text t) a) h i = absurd i
    side_typed s (one len a) h i = absurd i
    side_typed s (val v) h i = absurd i
    side_typed s (local k) h i = absurd i
    side_typed s (constant k) h i = absurd i
    side_typed s (both a b) h i = absurd i
    side_typed s (either a b) h i = absurd i
    side_typed s (choose c a b) h i = absurd i
    side_typed s (apply f es) h i = absurd i
    side_typed s (build c es) h i = absurd i
    side_typed s (let_in x a b) h i = absurd i

-- ---- the constants of a query

-- the value of a well typed side without slots is of the side's type
pub fixed_typed : Facts → (q : Query) (signatures : Signatures) → AreTyped q.defs signatures → (slots : List Ty) (a : Expr) (v : Value) (t : Ty)
    → Of q.defs.table signatures slots [] a t → fixed_value q a ≡ Some v → HasType q.defs.table v t
fixed_typed facts q signatures typed slots a v t h e = go (has_slot a) refl e
  where
    go : (b : Bool) → has_slot a ≡ b → cond b None (value_in (eval q.defs a)) ≡ Some v → HasType q.defs.table v t
    go true c x = cc
    go false c x =
        let r = value_got (eval q.defs a) v x in
        facts.run_typed q.defs signatures typed a t height_limit 0 (closed_of q.defs.table signatures h c) v r.0 r.1

listed_some : {A : Type 0} (x : A) (o : Option A) → In x (some_list o) → o ≡ Some x
listed_some x None h = absurd h
listed_some x (Some y) (inl e) = ap Some (sym e)
listed_some x (Some y) (inr h) = absurd h

pub constants_fit : Facts → (q : Query) → IsTypedQuery q → ConstantsFit q
constants_fit facts q t x h =
    let v = In-flat numbers_in x (constants q) h in
    let e = In-flat (constants_of q) v.0 (atoms_of_all q.conjuncts) v.1 in
    let a = In-flat (λ b. some_list (fixed_value q b)) v.0 (sides_of e.0) e.2 in
    let ef = any_atom_typed q.defs.table t.signatures q.slots e.0 q.conjuncts t.conjuncts e.1 in
    let s = side_typed q.defs.table t.signatures q.slots a.0 e.0 ef a.1 in
    typed_fits q.defs.table v.0 s.0 (fixed_typed facts q t.signatures t.defs q.slots a.0 v.0 s.0 s.1 (listed_some v.0 (fixed_value q a.0) a.2)) x v.2
