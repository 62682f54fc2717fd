-- Operators over lists of well typed items: prefix, parallel, enable, disable and interrupt.
use Rattle.std.specs.Prelude.{Option, Some, None, slice_get}
use Rattle.std.proofs.Common.{◌≡◌, ℕ, suc, Bool, true, false, cond, List, [], ◌∷◌, ◌++◌, map, length, refl, sym, ap, ◌∙◌, subst, inl, inr}
use Rattle.txs_values.specs.Value.{Ty, Value, Table, HaveTypes}
use Rattle.txs_terms.specs.Expr.{Expr, Puts, put_all, moved, has_slot}
use Rattle.txs_terms.specs.Eval.{Defs, Run, got, bad, height_limit, run}
use Rattle.txs_terms.specs.Action.{Channels, Scope, types_on, types_over, union, joins, none_in, from, in_order, Ascending}
use Rattle.txs_terms.specs.Term.{Name, Position, give, take, Offer, Term, disable, interrupt, put_term}
use Rattle.txs_terms.specs.Rules.{offered}
use Rattle.txs_terms.specs.Typed.{Signatures, val_of, slot_of, equal_of, AreTyped, AreGuards, FitPositions, FitOffers, AllBelow, OfTerm}
use Rattle.txs_terms.specs.Menu.{Kind, on, within, ending, Item, with_slots, gather, fixed_by, fixes, both_lists, all_fixes, prefix_item, width, start, places, size_of, beside, goes_alone, alone, left_of, right_of, among, join_on, same_values, join_ends, join_kinds, join, par_items, pass_kind, pass, wrap_kind, disabled, interrupted, back_kind, back_to}
use Rattle.txs_laws.proofs.rules.Parallel.{same_values-true}
use Rattle.txs_laws.proofs.typing.Sides.{sides_map, some_left, some_right, some_whole, Sides}
use Rattle.txs_laws.specs.Items.{AreItemGuards, IsItem, AreItems}
use Rattle.txs_terms.proofs.typing.Runs.{run_well, EndsWell}
use Rattle.txs_laws.proofs.typing.Terms.{Carries, carries_more, carries_here, put_term_typed, fill_typed}
use Rattle.txs_laws.proofs.rules.Places.{Within}
use Rattle.txs_laws.proofs.rules.Channels.{within_left, within_right, within_order}
use Rattle.txs_laws.proofs.typing.Channels.{union_below}
use Rattle.txs_laws.proofs.typing.Slots.{Points, points_channel, points_places, width_types, moved_renames, moved_carries, item_guards_joined, item_guards_put}

module _ (table : Table) (signatures : Signatures) (scope : Scope) where
  -- ---- lists of items

  pub items_joined : (exit_types : List Ty) (is js : List Item) → AreItems table signatures scope exit_types is → AreItems table signatures scope exit_types js
      → AreItems table signatures scope exit_types (is ++ js)
  items_joined exit_types [] js h k = k
  items_joined exit_types (i ∷ is) js h k = (h.0, items_joined exit_types is js h.1 k)

  abbrev pub IsItemOf : List Ty → Item → Type 0
  IsItemOf exit_types i = IsItem table signatures scope exit_types i.kind i.guards i.rest

  pub items_map : (es exit_types : List Ty) (f : Item → Item) → ((i : Item) → IsItemOf es i → IsItemOf exit_types (f i)) → (is : List Item)
      → AreItems table signatures scope es is → AreItems table signatures scope exit_types (map f is)
  items_map es exit_types f g [] h = tt
  items_map es exit_types f g (i ∷ is) h = (g i h.0, items_map es exit_types f g is h.1)

  pub items_gather : (es exit_types : List Ty) (f : Item → List Item) → ((i : Item) → IsItemOf es i → AreItems table signatures scope exit_types (f i)) → (is : List Item)
      → AreItems table signatures scope es is → AreItems table signatures scope exit_types (gather f is)
  items_gather es exit_types f g [] h = tt
  items_gather es exit_types f g (i ∷ is) h = items_joined exit_types (f i) (gather f is) (g i h.0) (items_gather es exit_types f g is h.1)

  -- ---- a term beside an item

  abbrev slots_of : Kind → List Ty
  slots_of (on cs) = types_over scope cs
  slots_of within = []
  slots_of (ending vs) = []

  beside_carries : (k : Kind) → Carries table signatures (moved [] (size_of scope k)) [] (slots_of k)
  beside_carries (on cs) = moved_carries table signatures [] (width scope cs) [] (types_over scope cs) tt (width_types scope cs)
  beside_carries within = moved_carries table signatures [] 0 [] [] tt refl
  beside_carries (ending vs) = moved_carries table signatures [] 0 [] [] tt refl

  beside_typed : (exit_types : List Ty) (k : Kind) (t : Term) → OfTerm table signatures scope [] exit_types t → OfTerm table signatures scope (slots_of k) exit_types (beside scope k t)
  beside_typed exit_types k t h = put_term_typed table signatures t (moved [] (size_of scope k)) scope [] (slots_of k) exit_types (beside_carries k) h

  -- a term with slots of its own
  beside_more : (ts exit_types : List Ty) (k : Kind) (t : Term) → OfTerm table signatures scope ts exit_types t
      → OfTerm table signatures scope (slots_of k ++ ts) exit_types (beside scope k t)
  beside_more ts exit_types k t h =
      put_term_typed table signatures t (moved [] (size_of scope k)) scope ts (slots_of k ++ ts) exit_types
      (carries_more table signatures (moved [] (size_of scope k)) [] (slots_of k) ts (beside_carries k)) h

  -- ---- parallel

  abbrev Is : List Ty → Term → List Ty → Type 0
  Is slots t ts = OfTerm table signatures scope slots ts t

  abbrev Of_kind : Kind → Item → List Ty → Type 0
  Of_kind k i ts = IsItem table signatures scope ts k i.guards i.rest

  abbrev Of_item : Item → List Ty → Type 0
  Of_item i ts = IsItemOf ts i

  abbrev Of_items : List Item → List Ty → Type 0
  Of_items is ts = AreItems table signatures scope ts is

  -- what is made of each item of a side
  gather_left : (B : List Ty → Type 0) (exit_types : List Ty) (f : Item → List Item)
      → ((i : Item) → Sides (Of_item i) B exit_types → AreItems table signatures scope exit_types (f i))
      → (is : List Item) → Sides (Of_items is) B exit_types → AreItems table signatures scope exit_types (gather f is)
  gather_left B exit_types f go [] s = tt
  gather_left B exit_types f go (i ∷ is) s =
      items_joined exit_types (f i) (gather f is)
      (go i (sides_map (Of_items (i ∷ is)) B (Of_item i) B (λ ts k. k.0) (λ ts k. k) exit_types s))
      (gather_left B exit_types f go is (sides_map (Of_items (i ∷ is)) B (Of_items is) B (λ ts k. k.1) (λ ts k. k) exit_types s))

  gather_right : (A : List Ty → Type 0) (exit_types : List Ty) (f : Item → List Item)
      → ((i : Item) → Sides A (Of_item i) exit_types → AreItems table signatures scope exit_types (f i))
      → (is : List Item) → Sides A (Of_items is) exit_types → AreItems table signatures scope exit_types (gather f is)
  gather_right A exit_types f go [] s = tt
  gather_right A exit_types f go (i ∷ is) s =
      items_joined exit_types (f i) (gather f is)
      (go i (sides_map A (Of_items (i ∷ is)) A (Of_item i) (λ ts k. k) (λ ts k. k.0) exit_types s))
      (gather_right A exit_types f go is (sides_map A (Of_items (i ∷ is)) A (Of_items is) (λ ts k. k) (λ ts k. k.1) exit_types s))

  module _ (gates : Channels) (below : AllBelow (length scope) gates) (ascend : Ascending gates) (exit_types : List Ty) where
    left_typed : (b : Term) → (i : Item) → Sides (Of_item i) (Is [] b) exit_types
        → AreItems table signatures scope exit_types (alone gates (left_of scope gates b) i)
    left_typed b i s = by i.kind s
      where
        if_alone : (cs : Channels) (c : Bool) → Sides (Of_kind (on cs) i) (Is [] b) exit_types
            → AreItems table signatures scope exit_types (cond c (record { kind = on cs; guards = i.guards; rest = left_of scope gates b (on cs) i.rest } ∷ []) [])
        if_alone cs true q =
            let l = some_left (Of_kind (on cs) i) (Is [] b) exit_types q in (
              (
                (l.1).0,
                (l.1).1,
                (
                  below,
                  ascend,
                  sides_map (Of_kind (on cs) i) (Is [] b) (Is (types_over scope cs) i.rest) (Is (types_over scope cs) (beside scope (on cs) b))
                      (λ ts k. k.2) (λ ts k. beside_typed ts (on cs) b k) exit_types q,
                ),
              ),
              tt,
            )
        if_alone cs false q = tt

        by : (k : Kind) → Sides (Of_kind k i) (Is [] b) exit_types
            → AreItems table signatures scope exit_types (cond (goes_alone gates k) (record { kind = k; guards = i.guards; rest = left_of scope gates b k i.rest } ∷ []) [])
        by (on cs) q = if_alone cs (none_in gates cs) q
        by within q =
            let l = some_left (Of_kind within i) (Is [] b) exit_types q in (
              (
                (l.1).0,
                (
                  below,
                  ascend,
                  sides_map (Of_kind within i) (Is [] b) (Is [] i.rest) (Is [] (beside scope within b))
                      (λ ts k. k.1) (λ ts k. beside_typed ts within b k) exit_types q,
                ),
              ),
              tt,
            )
        by (ending vs) q = tt

    right_typed : (a : Term) → (i : Item) → Sides (Is [] a) (Of_item i) exit_types
        → AreItems table signatures scope exit_types (alone gates (right_of scope gates a) i)
    right_typed a i s = by i.kind s
      where
        if_alone : (cs : Channels) (c : Bool) → Sides (Is [] a) (Of_kind (on cs) i) exit_types
            → AreItems table signatures scope exit_types (cond c (record { kind = on cs; guards = i.guards; rest = right_of scope gates a (on cs) i.rest } ∷ []) [])
        if_alone cs true q =
            let l = some_right (Is [] a) (Of_kind (on cs) i) exit_types q in (
              (
                (l.1).0,
                (l.1).1,
                (
                  below,
                  ascend,
                  sides_map (Is [] a) (Of_kind (on cs) i) (Is (types_over scope cs) (beside scope (on cs) a)) (Is (types_over scope cs) i.rest)
                      (λ ts k. beside_typed ts (on cs) a k) (λ ts k. k.2) exit_types q,
                ),
              ),
              tt,
            )
        if_alone cs false q = tt

        by : (k : Kind) → Sides (Is [] a) (Of_kind k i) exit_types
            → AreItems table signatures scope exit_types (cond (goes_alone gates k) (record { kind = k; guards = i.guards; rest = right_of scope gates a k i.rest } ∷ []) [])
        by (on cs) q = if_alone cs (none_in gates cs) q
        by within q =
            let l = some_right (Is [] a) (Of_kind within i) exit_types q in (
              (
                (l.1).0,
                (
                  below,
                  ascend,
                  sides_map (Is [] a) (Of_kind within i) (Is [] (beside scope within a)) (Is [] i.rest)
                      (λ ts k. beside_typed ts within a k) (λ ts k. k.1) exit_types q,
                ),
              ),
              tt,
            )
        by (ending vs) q = tt

    among_carries : (all cs : Channels) → Within cs all → Carries table signatures (among scope all cs) (types_over scope cs) (types_over scope all)
    among_carries all cs h =
        moved_carries table signatures (places scope all cs) (width scope all) (types_over scope cs) (types_over scope all) (points_places scope all cs h) (width_types scope all)

    among_guards : (all cs : Channels) → Within cs all → (gs : List Expr) → AreItemGuards table signatures (types_over scope cs) gs
        → AreItemGuards table signatures (types_over scope all) (put_all (among scope all cs) gs)
    among_guards all cs h gs k =
        item_guards_put table signatures (among scope all cs) (types_over scope cs) (types_over scope all) (moved_renames (places scope all cs) (width scope all))
        (carries_here table signatures (among scope all cs) (types_over scope cs) (types_over scope all) (among_carries all cs h)) gs k

    among_term : (all cs : Channels) → Within cs all → (t : Term) (ts : List Ty) → OfTerm table signatures scope (types_over scope cs) ts t
        → OfTerm table signatures scope (types_over scope all) ts (put_term (among scope all cs) t)
    among_term all cs h t ts k = put_term_typed table signatures t (among scope all cs) scope (types_over scope cs) (types_over scope all) ts (among_carries all cs h) k

    both_typed : (xs ys : Channels) (i j : Item) → Sides (Of_kind (on xs) i) (Of_kind (on ys) j) exit_types
        → IsItemOf exit_types (join_on scope gates (union xs ys) xs ys i j)
    both_typed xs ys i j q =
        let l = within_left xs ys in let r = within_right xs ys in
        let h = some_left (Of_kind (on xs) i) (Of_kind (on ys) j) exit_types q in
        let k = some_right (Of_kind (on xs) i) (Of_kind (on ys) j) exit_types q in (
          union_below (length scope) xs ys (h.1).0 (k.1).0,
          item_guards_joined table signatures (types_over scope (union xs ys)) (put_all (among scope (union xs ys) xs) i.guards) (put_all (among scope (union xs ys) ys) j.guards)
              (among_guards (union xs ys) xs l i.guards (h.1).1) (among_guards (union xs ys) ys r j.guards (k.1).1),
          (
            below,
            ascend,
            sides_map (Of_kind (on xs) i) (Of_kind (on ys) j)
                (Is (types_over scope (union xs ys)) (put_term (among scope (union xs ys) xs) i.rest)) (Is (types_over scope (union xs ys)) (put_term (among scope (union xs ys) ys) j.rest))
                (λ ts f. among_term (union xs ys) xs l i.rest ts f.2) (λ ts f. among_term (union xs ys) ys r j.rest ts f.2) exit_types q,
          ),
        )

    if_joined : (c : Bool) (i : Item) → (c ≡ true → IsItemOf exit_types i) → AreItems table signatures scope exit_types (cond c (i ∷ []) [])
    if_joined true i h = (h refl, tt)
    if_joined false i h = tt

    no_more : (gs hs : List Expr) → gs ≡ [] → hs ≡ [] → gs ++ hs ≡ []
    no_more gs hs e f = ap (λ l. l ++ hs) e ∙ f

    exit_typed : (vs ws : List Value) (i j : Item) → Sides (Of_kind (ending vs) i) (Of_kind (ending ws) j) exit_types → vs ≡ ws → HaveTypes table vs exit_types
    exit_typed vs ws i j q e =
        elim (some_whole (Of_kind (ending vs) i) (Of_kind (ending ws) j) exit_types q) [ inl k ↦ k.1 | inr k ↦ subst (λ us. HaveTypes table us exit_types) (sym e) k.1 ]

    ends_typed : (vs ws : List Value) (i j : Item) → Sides (Of_kind (ending vs) i) (Of_kind (ending ws) j) exit_types → same_values vs ws ≡ true
        → IsItemOf exit_types (join_ends vs i j)
    ends_typed vs ws i j q e =
        let h = some_left (Of_kind (ending vs) i) (Of_kind (ending ws) j) exit_types q in
        let k = some_right (Of_kind (ending vs) i) (Of_kind (ending ws) j) exit_types q in
        (no_more i.guards j.guards (h.1).0 (k.1).0, exit_typed vs ws i j q (same_values-true vs ws e), tt)

    kinds_typed : (k l : Kind) (i j : Item) → Sides (Of_kind k i) (Of_kind l j) exit_types
        → AreItems table signatures scope exit_types (join_kinds scope gates k l i j)
    kinds_typed (on xs) (on ys) i j q = if_joined (joins gates xs ys) (join_on scope gates (union xs ys) xs ys i j) (λ e. both_typed xs ys i j q)
    kinds_typed (on xs) within i j q = tt
    kinds_typed (on xs) (ending ws) i j q = tt
    kinds_typed within l i j q = tt
    kinds_typed (ending vs) (on ys) i j q = tt
    kinds_typed (ending vs) within i j q = tt
    kinds_typed (ending vs) (ending ws) i j q = if_joined (same_values vs ws) (join_ends vs i j) (ends_typed vs ws i j q)

    pub par_typed : (a b : Term) (is js : List Item) → Sides (λ ts. Is [] a ts × Of_items is ts) (λ ts. Is [] b ts × Of_items js ts) exit_types
        → AreItems table signatures scope exit_types (par_items scope gates a b is js)
    par_typed a b is js q =
        let L : List Ty → Type 0 = λ ts. Is [] a ts × Of_items is ts in
        let R : List Ty → Type 0 = λ ts. Is [] b ts × Of_items js ts in
        let first = gather_left (Is [] b) exit_types (alone gates (left_of scope gates b)) (left_typed b) is
        (sides_map L R (Of_items is) (Is [] b) (λ ts k. k.1) (λ ts k. k.0) exit_types q) in
        let second = gather_right (Is [] a) exit_types (alone gates (right_of scope gates a)) (right_typed a) js
        (sides_map L R (Is [] a) (Of_items js) (λ ts k. k.0) (λ ts k. k.1) exit_types q) in
        let third = gather_left (Of_items js) exit_types (λ i. gather (join scope gates i) js)
        (λ i s. gather_right (Of_item i) exit_types (join scope gates i) (λ j r. kinds_typed i.kind j.kind i j r) js s) is
        (sides_map L R (Of_items is) (Of_items js) (λ ts k. k.1) (λ ts k. k.1) exit_types q) in
        items_joined exit_types (gather (alone gates (left_of scope gates b)) is)
        (gather (alone gates (right_of scope gates a)) js ++ gather (λ i. gather (join scope gates i) js) is) first
        (items_joined exit_types (gather (alone gates (right_of scope gates a)) js) (gather (λ i. gather (join scope gates i) js) is) second third)

  -- ---- enable, disable and interrupt

  pub pass_typed : (ts exit_types : List Ty) (xs : List Name) (b : Term) → length xs ≡ length ts → OfTerm table signatures scope ts exit_types b
      → (i : Item) → IsItemOf ts i → IsItemOf exit_types (pass scope xs b i)
  pass_typed ts exit_types xs b l h i k = by i.kind k
    where
      by : (c : Kind) → IsItem table signatures scope ts c i.guards i.rest → IsItemOf exit_types (pass_kind scope xs b c i)
      by (on cs) q = (q.0, q.1, (ts, l, q.2, beside_more ts exit_types (on cs) b h))
      by within q = (q.0, (ts, l, q.1, beside_more ts exit_types within b h))
      by (ending vs) q = (q.0, fill_typed table signatures scope ts exit_types vs b q.1 h)

  pub disabled_typed : (exit_types : List Ty) (b : Term) → OfTerm table signatures scope [] exit_types b → (i : Item) → IsItemOf exit_types i
      → IsItemOf exit_types (disabled scope b i)
  disabled_typed exit_types b h i k = by i.kind k
    where
      by : (c : Kind) → IsItem table signatures scope exit_types c i.guards i.rest → IsItemOf exit_types (wrap_kind scope (λ t. disable t (beside scope c b)) c i)
      by (on cs) q = (q.0, q.1, (q.2, beside_typed exit_types (on cs) b h))
      by within q = (q.0, (q.1, beside_typed exit_types within b h))
      by (ending vs) q = (q.0, q.1, tt)

  pub interrupted_typed : (exit_types : List Ty) (b : Term) → OfTerm table signatures scope [] [] b → (i : Item) → IsItemOf exit_types i
      → IsItemOf exit_types (interrupted scope b i)
  interrupted_typed exit_types b h i k = by i.kind k
    where
      by : (c : Kind) → IsItem table signatures scope exit_types c i.guards i.rest → IsItemOf exit_types (wrap_kind scope (λ t. interrupt t (beside scope c b)) c i)
      by (on cs) q = (q.0, q.1, (q.2, beside_typed [] (on cs) b h))
      by within q = (q.0, (q.1, beside_typed [] within b h))
      by (ending vs) q = (q.0, q.1, tt)

  pub back_typed : (exit_types : List Ty) (t : Term) → OfTerm table signatures scope [] exit_types t → (i : Item) → IsItemOf [] i
      → IsItemOf exit_types (back_to scope t i)
  back_typed exit_types t h i k = by i.kind k
    where
      by : (c : Kind) → IsItem table signatures scope [] c i.guards i.rest → IsItemOf exit_types (back_kind scope t c i)
      by (on cs) q = (q.0, q.1, ([], refl, q.2, beside_more [] exit_types (on cs) t h))
      by within q = (q.0, ([], refl, q.1, beside_more [] exit_types within t h))
      by (ending vs) q = (q.0, h)

  -- ---- prefix

  pub with_slots_typed : (slots : List Ty) (gs : List Expr) → AreGuards table signatures slots gs → AreItemGuards table signatures slots (with_slots gs)
  with_slots_typed slots [] h = tt
  with_slots_typed slots (g ∷ gs) h = by (has_slot g) refl (with_slots_typed slots gs h.1)
    where
      by : (b : Bool) → has_slot g ≡ b → AreItemGuards table signatures slots (with_slots gs) → AreItemGuards table signatures slots (cond b (g ∷ with_slots gs) (with_slots gs))
      by true e r = (h.0, e, r)
      by false e r = r

module _ (defs : Defs) (signatures : Signatures) (typed : AreTyped defs signatures) (scope : Scope) where
  abbrev IfGuards : List Ty → Option (List Expr) → Type 0
  IfGuards slots None = Unit {0}
  IfGuards slots (Some gs) = AreItemGuards defs.table signatures slots gs

  fixed_typed : (slots : List Ty) (i : ℕ) (t : Ty) (r : Run) (o : Option (List Expr)) → slice_get slots i ≡ Some t → EndsWell defs.table t r → IfGuards slots o
      → IfGuards slots (fixed_by i r o)
  fixed_typed slots i t (bad f) o e h k = tt
  fixed_typed slots i t (got v n) None e h k = tt
  fixed_typed slots i t (got v n) (Some gs) e h k = (equal_of (slot_of e) (val_of h), refl, k)

  fixes_typed : (slots : List Ty) (ps : List Position) (ts : List Ty) (i : ℕ) → FitPositions defs.table signatures [] ps ts → Points slots (from i (length ts)) ts
      → IfGuards slots (fixes defs i ps)
  fixes_typed slots [] ts i h p = tt
  fixes_typed slots (give e ∷ ps) [] i h p = absurd h
  fixes_typed slots (take x ∷ ps) [] i h p = absurd h
  fixes_typed slots (give e ∷ ps) (t ∷ ts) i h p =
      fixed_typed slots i t (run defs height_limit e 0) (fixes defs (suc i) ps) p.0 (run_well defs signatures typed height_limit e 0 t h.0) (fixes_typed slots ps ts (suc i) h.1 p.1)
  fixes_typed slots (take x ∷ ps) (t ∷ ts) i h p = fixes_typed slots ps ts (suc i) h p.1

  both_guards : (slots : List Ty) (o q : Option (List Expr)) → IfGuards slots o → IfGuards slots q → IfGuards slots (both_lists o q)
  both_guards slots None q h k = tt
  both_guards slots (Some gs) None h k = tt
  both_guards slots (Some gs) (Some hs) h k = item_guards_joined defs.table signatures slots gs hs h k

  all_fixes_typed : (cs : Channels) (os : List Offer) → FitOffers defs.table signatures scope [] os → Within (offered os) cs
      → IfGuards (types_over scope cs) (all_fixes defs scope cs os)
  all_fixes_typed cs [] h w = tt
  all_fixes_typed cs (o ∷ os) h w =
      both_guards (types_over scope cs) (fixes defs (start scope cs o.channel) o.positions) (all_fixes defs scope cs os)
      (fixes_typed (types_over scope cs) o.positions (types_on scope o.channel) (start scope cs o.channel) h.1 (points_channel scope cs o.channel w.0))
      (all_fixes_typed cs os h.2 w.1)

  all_below : (os : List Offer) → FitOffers defs.table signatures scope [] os → AllBelow (length scope) (offered os)
  all_below [] h = tt
  all_below (o ∷ os) h = (h.0, all_below os h.2)

  pub prefix_typed : (exit_types : List Ty) (os : List Offer) (gs : List Expr) (t : Term) (fixed : List Expr) → FitOffers defs.table signatures scope [] os
      → AreGuards defs.table signatures (types_over scope (offered os)) gs → OfTerm defs.table signatures scope (types_over scope (offered os)) exit_types t
      → all_fixes defs scope (in_order (offered os)) os ≡ Some fixed
      → IsItemOf defs.table signatures scope exit_types (prefix_item scope (in_order (offered os)) (places scope (in_order (offered os)) (offered os)) fixed gs t)
  prefix_typed exit_types os gs t fixed h g k e =
      let cs : Channels = in_order (offered os) in
      let w : Within (offered os) cs = within_order (offered os) in
      let from_slots : List Ty = types_over scope (offered os) in
      let to_slots : List Ty = types_over scope cs in
      let f : Puts = moved (places scope cs (offered os)) (width scope cs) in
      let c : Carries defs.table signatures f from_slots to_slots =
      moved_carries defs.table signatures (places scope cs (offered os)) (width scope cs) from_slots to_slots (points_places scope cs (offered os) w) (width_types scope cs) in (
        union_below (length scope) (offered os) [] (all_below os h) tt,
        item_guards_joined defs.table signatures to_slots fixed (put_all f (with_slots gs)) (subst (IfGuards to_slots) e (all_fixes_typed cs os h w))
            (item_guards_put defs.table signatures f from_slots to_slots (moved_renames (places scope cs (offered os)) (width scope cs))
            (carries_here defs.table signatures f from_slots to_slots c) (with_slots gs) (with_slots_typed defs.table signatures scope from_slots gs g)),
        put_term_typed defs.table signatures t f scope from_slots to_slots exit_types c k,
      )
