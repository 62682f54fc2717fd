-- Slots moved to places of the same types, and expressions that have slots or have none.
use Rattle.std.specs.Prelude.{Some, slice_get}
use Rattle.std.proofs.Common.{◌≡◌, ℕ, zero, suc, ◌+◌, Bool, true, false, cond, ◌||◌, eqb, List, [], ◌∷◌, ◌++◌, length, refl, sym, ap, ◌∙◌, subst, arith, eqb-true, length-append}
use Rattle.std.proofs.lemmas.Bool.{or_parts, or_from}
use Rattle.txs_values.specs.Value.{Ty, Table}
use Rattle.txs_terms.specs.Expr.{Expr, val, slot, local, constant, one, two, equal, both, either, choose, apply, build, let_in, Exprs, none, more, Puts, put, put_each, put_all, moved, has_slot, any_has_slot}
use Rattle.txs_terms.specs.Action.{Channels, has, Scope, types_on, types_over, arity, from}
use Rattle.txs_terms.specs.Typed.{Signatures, Of, Ofs, val_of, slot_of, local_of, constant_of, one_of, two_of, equal_of, both_of, either_of, choose_of, apply_of, build_of, let_of, none_of, more_of', AreGuards}
use Rattle.txs_terms.specs.Menu.{width, start, places}
use Rattle.txs_laws.specs.Items.{AreItemGuards}
use Rattle.txs_terms.proofs.typing.Lists.{joined_again, no_member, member_front, member_past}
use Rattle.txs_terms.proofs.typing.Putting.{put_typed, Suits}
use Rattle.txs_laws.proofs.typing.Terms.{Carries}
use Rattle.txs_laws.proofs.rules.Places.{Within}

-- ---- places with types

-- at each of these places stands its type
abbrev pub Points : List Ty → List ℕ → List Ty → Type 0
Points others [] [] = Unit {0}
Points others [] (t ∷ ts) = ⊥
Points others (p ∷ ps) [] = ⊥
Points others (p ∷ ps) (t ∷ ts) = (slice_get others p ≡ Some t) × Points others ps ts

pub points-length : (others : List Ty) (ps : List ℕ) (ts : List Ty) → Points others ps ts → length ps ≡ length ts
points-length others [] [] h = refl
points-length others [] (t ∷ ts) h = absurd h
points-length others (p ∷ ps) [] h = absurd h
points-length others (p ∷ ps) (t ∷ ts) h = ap suc (points-length others ps ts h.1)

points_joined : (others : List Ty) (ps qs : List ℕ) (ts us : List Ty) → Points others ps ts → Points others qs us → Points others (ps ++ qs) (ts ++ us)
points_joined others [] qs [] us h k = k
points_joined others [] qs (t ∷ ts) us h k = absurd h
points_joined others (p ∷ ps) qs [] us h k = absurd h
points_joined others (p ∷ ps) qs (t ∷ ts) us h k = (h.0, points_joined others ps qs ts us h.1 k)

points_from : (us ts vs : List Ty) (i : ℕ) → i ≡ length us → Points (us ++ (ts ++ vs)) (from i (length ts)) ts
points_from us [] vs i e = tt
points_from us (t ∷ ts) vs i e = (
  member_past us (t ∷ (ts ++ vs)) 0 i (omega arith),
  subst (λ l. Points l (from (suc i) (length ts)) ts) (joined_again us (t ∷ []) (ts ++ vs))
      (points_from (us ++ t ∷ []) ts vs (suc i) (let q = length-append us (t ∷ []) in omega arith)),
)

points_on : (scope : Scope) (all : Channels) (c i : ℕ) (past : List Ty) → has all c ≡ true → i ≡ length past + start scope all c
    → Points (past ++ types_over scope all) (from i (arity scope c)) (types_on scope c)
points_on scope [] c i past h e = cc
points_on scope (x ∷ xs) c i past h e = by (eqb x c) refl h e (λ k q. points_on scope xs c i (past ++ types_on scope x) k q)
  where
    by : (b : Bool) → eqb x c ≡ b → (b || has xs c) ≡ true → i ≡ length past + cond b 0 (arity scope x + start scope xs c)
        → (has xs c ≡ true → i ≡ length (past ++ types_on scope x) + start scope xs c
        → Points ((past ++ types_on scope x) ++ types_over scope xs) (from i (arity scope c)) (types_on scope c))
        → Points (past ++ (types_on scope x ++ types_over scope xs)) (from i (arity scope c)) (types_on scope c)
    by true q k f go =
        subst (λ y. Points (past ++ (types_on scope x ++ types_over scope xs)) (from i (arity scope y)) (types_on scope y)) (eqb-true x c q)
        (points_from past (types_on scope x) (types_over scope xs) i (omega arith))
    by false q k f go =
        subst (λ l. Points l (from i (arity scope c)) (types_on scope c)) (joined_again past (types_on scope x) (types_over scope xs))
        (go k (let y = length-append past (types_on scope x) in omega arith))

-- the slots of a channel of an item have its types
pub points_channel : (scope : Scope) (all : Channels) (c : ℕ) → has all c ≡ true
    → Points (types_over scope all) (from (start scope all c) (arity scope c)) (types_on scope c)
points_channel scope all c h = points_on scope all c (start scope all c) [] h (omega arith)

pub points_places : (scope : Scope) (all cs : Channels) → Within cs all → Points (types_over scope all) (places scope all cs) (types_over scope cs)
points_places scope all [] h = tt
points_places scope all (c ∷ cs) h =
    points_joined (types_over scope all) (from (start scope all c) (arity scope c)) (places scope all cs) (types_on scope c) (types_over scope cs)
    (points_channel scope all c h.0) (points_places scope all cs h.1)

pub width_types : (scope : Scope) (cs : Channels) → width scope cs ≡ length (types_over scope cs)
width_types scope [] = refl
width_types scope (c ∷ cs) =
    let q = width_types scope cs in let l = length-append (types_on scope c) (types_over scope cs) in omega arith

-- ---- slots of slots

-- each slot becomes a slot
abbrev pub Renames : Puts → Type 0
Renames f = (i : ℕ) → has_slot (f i) ≡ true

pub moved_renames : (ps : List ℕ) (size : ℕ) → Renames (moved ps size)
moved_renames [] size i = refl
moved_renames (p ∷ ps) size zero = refl
moved_renames (p ∷ ps) size (suc i) = moved_renames ps size i

same_or : (a b c d : Bool) → a ≡ c → b ≡ d → (a || b) ≡ (c || d)
same_or a b c d e f = cc

mutual
  pub renamed_slots : (f : Puts) → Renames f → (e : Expr) → has_slot (put f e) ≡ has_slot e
  renamed_slots f r (val v) = refl
  renamed_slots f r (slot i) = r i
  renamed_slots f r (local i) = refl
  renamed_slots f r (constant k) = refl
  renamed_slots f r (one o a) = renamed_slots f r a
  renamed_slots f r (two o a b) = same_or _ _ _ _ (renamed_slots f r a) (renamed_slots f r b)
  renamed_slots f r (equal a b) = same_or _ _ _ _ (renamed_slots f r a) (renamed_slots f r b)
  renamed_slots f r (both a b) = same_or _ _ _ _ (renamed_slots f r a) (renamed_slots f r b)
  renamed_slots f r (either a b) = same_or _ _ _ _ (renamed_slots f r a) (renamed_slots f r b)
  renamed_slots f r (choose c a b) = same_or _ _ _ _ (same_or _ _ _ _ (renamed_slots f r c) (renamed_slots f r a)) (renamed_slots f r b)
  renamed_slots f r (apply k es) = renamed_each f r es
  renamed_slots f r (build k es) = renamed_each f r es
  renamed_slots f r (let_in x a b) = same_or _ _ _ _ (renamed_slots f r a) (renamed_slots f r b)

  renamed_each : (f : Puts) → Renames f → (es : Exprs) → any_has_slot (put_each f es) ≡ any_has_slot es
  renamed_each f r none = refl
  renamed_each f r (more e es) = same_or _ _ _ _ (renamed_slots f r e) (renamed_each f r es)

module _ (table : Table) (signatures : Signatures) where
  pub moved_carries : (ps : List ℕ) (size : ℕ) (slots others : List Ty) → Points others ps slots → size ≡ length others
      → Carries table signatures (moved ps size) slots others
  moved_carries [] size [] others h e later i t locals q = slot_of (member_past others later i (i + size) (omega arith) ∙ q)
  moved_carries [] size (s ∷ slots) others h e later i t locals q = absurd h
  moved_carries (p ∷ ps) size [] others h e later i t locals q = absurd h
  moved_carries (p ∷ ps) size (s ∷ slots) others h e later zero t locals q = slot_of (member_front others later p t (h.0 ∙ q))
  moved_carries (p ∷ ps) size (s ∷ slots) others h e later (suc i) t locals q = moved_carries ps size slots others h.1 e later i t locals q

  pub item_guards_joined : (slots : List Ty) (gs hs : List Expr) → AreItemGuards table signatures slots gs → AreItemGuards table signatures slots hs
      → AreItemGuards table signatures slots (gs ++ hs)
  item_guards_joined slots [] hs h k = k
  item_guards_joined slots (g ∷ gs) hs h k = (h.0, h.1, item_guards_joined slots gs hs h.2 k)

  pub item_guards_put : (f : Puts) (slots others : List Ty) → Renames f → Suits table signatures f slots others → (gs : List Expr)
      → AreItemGuards table signatures slots gs → AreItemGuards table signatures others (put_all f gs)
  item_guards_put f slots others r c [] h = tt
  item_guards_put f slots others r c (g ∷ gs) h = (put_typed table signatures h.0 f others c, renamed_slots f r g ∙ h.1, item_guards_put f slots others r c gs h.2)

  pub plain_guards : (slots : List Ty) (gs : List Expr) → AreItemGuards table signatures slots gs → AreGuards table signatures slots gs
  plain_guards slots [] h = tt
  plain_guards slots (g ∷ gs) h = (h.0, plain_guards slots gs h.2)

  -- ---- no slots

  mutual
    -- an expression without slots has its type over any others
    pub without_slot : {slots locals : List Ty} {e : Expr} {t : Ty} → Of table signatures slots locals e t
        → (others : List Ty) → has_slot e ≡ false → Of table signatures others locals e t
    without_slot (val_of h) others k = val_of h
    without_slot (slot_of h) others k = cc
    without_slot (local_of h) others k = local_of h
    without_slot (constant_of h) others k = constant_of h
    without_slot (one_of o a) others k = one_of o (without_slot a others k)
    without_slot (two_of o a b) others k = let p = or_parts _ _ k in two_of o (without_slot a others p.0) (without_slot b others p.1)
    without_slot (equal_of a b) others k = let p = or_parts _ _ k in equal_of (without_slot a others p.0) (without_slot b others p.1)
    without_slot (both_of a b) others k = let p = or_parts _ _ k in both_of (without_slot a others p.0) (without_slot b others p.1)
    without_slot (either_of a b) others k = let p = or_parts _ _ k in either_of (without_slot a others p.0) (without_slot b others p.1)
    without_slot (choose_of c a b) others k =
        let p = or_parts _ _ k in let q = or_parts _ _ p.0 in
        choose_of (without_slot c others q.0) (without_slot a others q.1) (without_slot b others p.1)
    without_slot (apply_of h es) others k = apply_of h (without_slots_each es others k)
    without_slot (build_of h es) others k = build_of h (without_slots_each es others k)
    without_slot (let_of a b) others k = let p = or_parts _ _ k in let_of (without_slot a others p.0) (without_slot b others p.1)

    without_slots_each : {slots locals : List Ty} {es : Exprs} {ts : List Ty} → Ofs table signatures slots locals es ts
        → (others : List Ty) → any_has_slot es ≡ false → Ofs table signatures others locals es ts
    without_slots_each none_of others k = none_of
    without_slots_each (more_of' e es) others k = let p = or_parts _ _ k in more_of' (without_slot e others p.0) (without_slots_each es others p.1)

  mutual
    -- over no slots there is none in it
    pub closed_slot : {slots locals : List Ty} {e : Expr} {t : Ty} → Of table signatures slots locals e t → slots ≡ [] → has_slot e ≡ false
    closed_slot (val_of h) e = refl
    closed_slot (slot_of {i = i} {t = t} h) e = absurd (no_member i t (ap (λ l. slice_get l i) (sym e) ∙ h))
    closed_slot (local_of h) e = refl
    closed_slot (constant_of h) e = refl
    closed_slot (one_of o a) e = closed_slot a e
    closed_slot (two_of o a b) e = or_from _ _ (closed_slot a e) (closed_slot b e)
    closed_slot (equal_of a b) e = or_from _ _ (closed_slot a e) (closed_slot b e)
    closed_slot (both_of a b) e = or_from _ _ (closed_slot a e) (closed_slot b e)
    closed_slot (either_of a b) e = or_from _ _ (closed_slot a e) (closed_slot b e)
    closed_slot (choose_of c a b) e = or_from _ _ (or_from _ _ (closed_slot c e) (closed_slot a e)) (closed_slot b e)
    closed_slot (apply_of h es) e = closed_each es e
    closed_slot (build_of h es) e = closed_each es e
    closed_slot (let_of a b) e = or_from _ _ (closed_slot a e) (closed_slot b e)

    closed_each : {slots locals : List Ty} {es : Exprs} {ts : List Ty} → Ofs table signatures slots locals es ts → slots ≡ [] → any_has_slot es ≡ false
    closed_each none_of e = refl
    closed_each (more_of' x es) e = or_from _ _ (closed_slot x e) (closed_each es e)

  -- so no guard of an item has all its slots gone
  pub no_guards : (gs : List Expr) → AreItemGuards table signatures [] gs → gs ≡ []
  no_guards [] h = refl
  no_guards (g ∷ gs) h = let p = closed_slot h.0 refl in let q = h.1 in cc
