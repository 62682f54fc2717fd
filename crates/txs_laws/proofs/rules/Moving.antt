-- A set that is moved by an action is what its members become by it.
use Rattle.std.proofs.Common.{◌≡◌, eqb, Bool, true, false, inl, inr, List, [], ◌∷◌, ◌++◌, Option, Some, None, refl, sym, ap, ◌∙◌, subst}
use Rattle.std.proofs.lemmas.Bool.{and_parts, and_from, eqb-true, eq-eqb}
use Rattle.txs_terms.specs.Expr.{put_all, filled}
use Rattle.txs_terms.specs.Eval.{Defs}
use Rattle.txs_terms.specs.Action.{Action, act, Channels, channels, values, same_channels, Scope, IsAction}
use Rattle.txs_terms.specs.Term.{Term, fill}
use Rattle.txs_terms.specs.Rules.{In, Model, Step}
use Rattle.txs_terms.specs.Menu.{Kind, on, within, ending, Item, Verdict, holds, fails, faults, judge}
use Rattle.txs_terms.specs.Close.{rest_if, Adds, moved_by, is_on, and_terms, moved_items, Moves, MovesTo, moves_to}
use Rattle.txs_laws.specs.Menus.{Does}
use Rattle.txs_laws.specs.Sets.{AllWellTyped, MovedIsStepped}
use Rattle.txs_laws.proofs.typing.Facts.{Facts}
use Rattle.txs_laws.proofs.rules.Tests.{judge_holds, holds_judge}
use Rattle.txs_laws.proofs.rules.Lists.{In_front, In_back, In-append}
use Rattle.txs_laws.proofs.rules.Meaning.{PrefixesOffer, menu_is_rules}
use Rattle.txs_laws.proofs.rules.Closing.{In-adds, In_adds_new}

same_channels-true : (xs ys : Channels) → same_channels xs ys ≡ true → xs ≡ ys
same_channels-true [] [] e = refl
same_channels-true [] (y ∷ ys) e = cc
same_channels-true (x ∷ xs) [] e = cc
same_channels-true (x ∷ xs) (y ∷ ys) e =
    let p = and_parts (eqb x y) (same_channels xs ys) e in
    let a = eqb-true x y p.0 in let b = same_channels-true xs ys p.1 in cc

same_channels_refl : (xs : Channels) → same_channels xs xs ≡ true
same_channels_refl [] = refl
same_channels_refl (x ∷ xs) = and_from (eqb x x) (same_channels xs xs) (eq-eqb x x refl) (same_channels_refl xs)

is_on-true : (cs : Channels) (k : Kind) → is_on cs k ≡ true → on cs ≡ k
is_on-true cs (on ds) e = ap on (same_channels-true cs ds e)
is_on-true cs within e = cc
is_on-true cs (ending vs) e = cc

-- ---- the items that move

some_terms : {xs ys : List Term} → Some xs ≡ Some ys → ys ≡ xs
some_terms e = cc

rest_from : (v : Verdict) (t : Term) (us : List Term) → rest_if v t ≡ Some us → (u : Term) → In u us → (v ≡ holds) × (u ≡ t)
rest_from holds t us e u h = elim (subst (In u) (some_terms e) h) [ inl q ↦ (refl, q) | inr x ↦ absurd x ]
rest_from fails t us e u h = absurd (subst (In u) (some_terms e) h)
rest_from faults t us e u h = cc

rest_to : (v : Verdict) (t : Term) (us : List Term) → rest_if v t ≡ Some us → v ≡ holds → In t us
rest_to holds t us e q = subst (In t) (sym (some_terms e)) (inl refl)
rest_to fails t us e q = cc
rest_to faults t us e q = cc

and_terms_from : (o o' : Option (List Term)) (us : List Term) → and_terms o o' ≡ Some us
    → (xs : List Term) × (ys : List Term) × (o ≡ Some xs) × (o' ≡ Some ys) × (us ≡ xs ++ ys)
and_terms_from None o' us e = cc
and_terms_from (Some xs) None us e = cc
and_terms_from (Some xs) (Some ys) us e = (xs, ys, refl, refl, some_terms e)

module _ (defs : Defs) (a : Action) where
  In-moved_by : (b : Bool) (i : Item) (us : List Term) → moved_by defs a b i ≡ Some us → (u : Term) → In u us
      → (b ≡ true) × (judge defs (put_all (filled (values a)) i.guards) ≡ holds) × (u ≡ fill (values a) i.rest)
  In-moved_by true i us e u h = let p = rest_from _ (fill (values a) i.rest) us e u h in (refl, p.0, p.1)
  In-moved_by false i us e u h = absurd (subst (In u) (some_terms e) h)

  In-moved_items : (is : List Item) (us : List Term) → moved_items defs a is ≡ Some us → (u : Term) → In u us
      → (i : Item) × In i is × (on (channels a) ≡ i.kind) × (judge defs (put_all (filled (values a)) i.guards) ≡ holds) × (u ≡ fill (values a) i.rest)
  In-moved_items [] us e u h = absurd (subst (In u) (some_terms e) h)
  In-moved_items (i ∷ is) us e u h =
      let s = and_terms_from (moved_by defs a (is_on (channels a) i.kind) i) (moved_items defs a is) us e in
      elim (In-append u s.0 s.1 (subst (In u) s.4 h)) [
        | inl x ↦ (let p = In-moved_by (is_on (channels a) i.kind) i s.0 s.2 u x in (i, inl refl, is_on-true (channels a) i.kind p.0, p.1, p.2))
        | inr y ↦ (let p = In-moved_items is s.1 s.3 u y in (p.0, inr p.1, p.2, p.3, p.4))
      ]

  In_moved_by : (b : Bool) (i : Item) (us : List Term) → moved_by defs a b i ≡ Some us → b ≡ true
      → judge defs (put_all (filled (values a)) i.guards) ≡ holds → In (fill (values a) i.rest) us
  In_moved_by true i us e b h = rest_to _ (fill (values a) i.rest) us e h
  In_moved_by false i us e b h = cc

  In_moved_items : (i : Item) (is : List Item) (us : List Term) → moved_items defs a is ≡ Some us → In i is → on (channels a) ≡ i.kind
      → judge defs (put_all (filled (values a)) i.guards) ≡ holds → In (fill (values a) i.rest) us
  In_moved_items i [] us e m k h = absurd m
  In_moved_items i (j ∷ is) us e (inl q) k h =
      let s = and_terms_from (moved_by defs a (is_on (channels a) j.kind) j) (moved_items defs a is) us e in
      let b : is_on (channels a) j.kind ≡ true = subst (λ x. is_on (channels a) x ≡ true) (k ∙ ap (λ x. x.kind) q) (same_channels_refl (channels a)) in
      let h' = subst (λ x. judge defs (put_all (filled (values a)) x.guards) ≡ holds) q h in
      let at_first = In_moved_by (is_on (channels a) j.kind) j s.0 s.2 b h' in
      subst (In (fill (values a) i.rest)) (sym s.4)
      (In_front (fill (values a) i.rest) s.0 s.1 (subst (λ x. In (fill (values a) x.rest) s.0) (sym q) at_first))
  In_moved_items i (j ∷ is) us e (inr m) k h =
      let s = and_terms_from (moved_by defs a (is_on (channels a) j.kind) j) (moved_items defs a is) us e in
      subst (In (fill (values a) i.rest)) (sym s.4) (In_back (fill (values a) i.rest) s.0 s.1 (In_moved_items i is s.1 s.3 m k h))

module _ (facts : Facts) (some_offers : PrefixesOffer) (model : Model) (scope : Scope) (a : Action) (ok : IsAction model.defs.table scope a) where
  moves_steps : (set us : List Term) → AllWellTyped model scope set → Moves model scope a set (Some us) → (u : Term) → In u us
      → (s : Term) × In s set × Step model scope s (act a) u
  moves_steps [] us well w u h = absurd (subst (In u) (some_terms (sym w)) h)
  moves_steps (t ∷ set) us well w u h =
      let s = and_terms_from (moved_items model.defs a w.1) w.2 us (sym w.5) in
      elim (In-append u s.0 s.1 (subst (In u) s.4 h)) [
        | inl p ↦ (let q = In-moved_items model.defs a w.1 s.0 s.2 u p in
            let law = menu_is_rules facts some_offers model scope t w.0 w.1 (well t (inl refl)) w.3 in
            let d : Does model scope q.0 (act a) = record { kind = q.2; typed = ok; holds = judge_holds model.defs _ q.3 } in
            (t, inl refl, subst (λ x. Step model scope t (act a) x) (sym q.4) (law.0 q.0 (act a) q.1 d)))
        | inr p ↦ (let r = moves_steps set s.1 (λ x m. well x (inr m)) (subst (Moves model scope a set) s.3 w.4) u p in (r.0, inr r.1, r.2))
      ]

  steps_moves : (set us : List Term) → AllWellTyped model scope set → Moves model scope a set (Some us) → (s u : Term) → In s set
      → Step model scope s (act a) u → In u us
  steps_moves [] us well w s u h k = absurd h
  steps_moves (t ∷ set) us well w s u (inl e) k =
      let p = and_terms_from (moved_items model.defs a w.1) w.2 us (sym w.5) in
      let law = menu_is_rules facts some_offers model scope t w.0 w.1 (well t (inl refl)) w.3 in
      let f = law.1 (act a) u (subst (λ x. Step model scope x (act a) u) e k) in
      let m = In_moved_items model.defs a f.item w.1 p.0 p.2 f.listed f.does.kind (holds_judge model.defs _ f.does.holds) in
      subst (In u) (sym p.4) (In_front u p.0 p.1 (subst (λ x. In x p.0) f.rest m))
  steps_moves (t ∷ set) us well w s u (inr h) k =
      let p = and_terms_from (moved_items model.defs a w.1) w.2 us (sym w.5) in
      subst (In u) (sym p.4)
      (In_back u p.0 p.1 (steps_moves set p.1 (λ x m. well x (inr m)) (subst (Moves model scope a set) p.3 w.4) s u h k))

moved_from : (model : Model) (scope : Scope) (a : Action) (set more : List Term) → MovesTo model scope a set (Some more)
    → (us : List Term) × Moves model scope a set (Some us) × Adds [] us more
moved_from model scope a set more (moves_to us m w d) = (us, w, d)

no_old : (us more : List Term) → Adds [] us more → (t : Term) → In t more → In t us
no_old us more d t h = elim (In-adds us [] more d t h) [ inl x ↦ absurd x | inr x ↦ x ]

pub moved_is_stepped : Facts → PrefixesOffer → MovedIsStepped
moved_is_stepped facts some_offers model scope a set more well ok k t' =
    let p = moved_from model scope a set more k in (
      λ h. moves_steps facts some_offers model scope a ok set p.0 well p.1 t' (no_old p.0 more p.2 t' h),
      λ q. In_adds_new p.0 [] more p.2 t' (steps_moves facts some_offers model scope a ok set p.0 well p.1 q.0 t' q.1 q.2),
    )
