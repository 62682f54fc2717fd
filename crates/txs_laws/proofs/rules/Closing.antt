-- A closed set is what internal steps reach from the set.
use Rattle.std.proofs.Common.{◌≡◌, ℕ, ◌⊎◌, inl, inr, List, [], ◌∷◌, ◌++◌, refl, sym, ◌∙◌, subst}
use Rattle.txs_terms.specs.Expr.{put_all, filled}
use Rattle.txs_terms.specs.Eval.{Hold}
use Rattle.txs_terms.specs.Action.{Label, inner, Scope}
use Rattle.txs_terms.specs.Term.{Term}
use Rattle.txs_terms.specs.Rules.{In, Model, Step}
use Rattle.txs_terms.specs.After.{Inners, here, onward}
use Rattle.txs_terms.specs.Typed.{WellTyped}
use Rattle.txs_terms.specs.Menu.{Kind, on, within, ending, Item, menu, walked, path_limit}
use Rattle.txs_terms.specs.Close.{inner_rest, inner_rests, Targets, Adds, Closing, closed, Closes, large, member_faults, done, next}
use Rattle.txs_laws.specs.Items.{IsItem}
use Rattle.txs_laws.specs.Menus.{Does}
use Rattle.txs_laws.specs.Sets.{AllWellTyped, ClosedIsReached}
use Rattle.txs_laws.proofs.typing.Facts.{Facts}
use Rattle.txs_laws.proofs.rules.Put.{put_slots_term}
use Rattle.txs_laws.proofs.rules.Lists.{In_front, In_back, In-append}
use Rattle.txs_laws.proofs.rules.Hide.{item_of}
use Rattle.txs_laws.proofs.rules.Meaning.{PrefixesOffer, menu_is_rules}

-- ---- well typed members

pub step_well : (facts : Facts) (model : Model) (scope : Scope) (t t' : Term) (l : Label) → WellTyped model scope t → Step model scope t l t' → WellTyped model scope t'
step_well facts model scope t t' l w s = record {
  signatures = w.signatures;
  exit_types = w.exit_types;
  definitions = w.definitions;
  channels = w.channels;
  term = (facts.step_typed model w.signatures w.definitions scope w.exit_types t t' l w.term s).1;
}

-- ---- internal items

In-inner_rest : (k : Kind) (t u : Term) → In u (inner_rest k t) → (k ≡ within) × (u ≡ t)
In-inner_rest (on cs) t u h = absurd h
In-inner_rest within t u (inl e) = (refl, e)
In-inner_rest within t u (inr h) = absurd h
In-inner_rest (ending vs) t u h = absurd h

In-inner_rests : (is : List Item) (u : Term) → In u (inner_rests is) → (i : Item) × In i is × (i.kind ≡ within) × (u ≡ i.rest)
In-inner_rests [] u h = absurd h
In-inner_rests (i ∷ is) u h =
    elim (In-append u (inner_rest i.kind i.rest) (inner_rests is) h) [
      | inl a ↦ (let p = In-inner_rest i.kind i.rest u a in (i, inl refl, p.0, p.1))
      | inr b ↦ (let p = In-inner_rests is u b in (p.0, inr p.1, p.2, p.3))
    ]

In_inner_rest : (k : Kind) (t : Term) → k ≡ within → In t (inner_rest k t)
In_inner_rest (on cs) t e = cc
In_inner_rest within t e = inl refl
In_inner_rest (ending vs) t e = cc

In_inner_rests : (i : Item) (is : List Item) → In i is → i.kind ≡ within → In i.rest (inner_rests is)
In_inner_rests i [] m k = absurd m
In_inner_rests i (j ∷ is) (inl e) k =
    subst (λ x. In x.rest (inner_rests (j ∷ is))) (sym e)
    (In_front j.rest (inner_rest j.kind j.rest) (inner_rests is) (In_inner_rest j.kind j.rest (subst (λ x. x.kind ≡ within) e k)))
In_inner_rests i (j ∷ is) (inr m) k = In_back i.rest (inner_rest j.kind j.rest) (inner_rests is) (In_inner_rests i is m k)

-- ---- a set with more terms

pub In-adds : (us set more : List Term) → Adds set us more → (t : Term) → In t more → In t set ⊎ In t us
In-adds [] set more a t h = inl (subst (In t) a h)
In-adds (u ∷ us) set more (inl a) t h = elim (In-adds us set more a.1 t h) [ inl p ↦ inl p | inr p ↦ inr (inr p) ]
In-adds (u ∷ us) set more (inr a) t h =
    elim (In-adds us (set ++ u ∷ []) more a.1 t h) [
      | inl p ↦ elim (In-append t set (u ∷ []) p) [ inl q ↦ inl q | inr q ↦ elim q [ inl e ↦ inr (inl e) | inr x ↦ absurd x ] ]
      | inr p ↦ inr (inr p)
    ]

In_adds_old : (us set more : List Term) → Adds set us more → (t : Term) → In t set → In t more
In_adds_old [] set more a t h = subst (In t) (sym a) h
In_adds_old (u ∷ us) set more (inl a) t h = In_adds_old us set more a.1 t h
In_adds_old (u ∷ us) set more (inr a) t h = In_adds_old us (set ++ u ∷ []) more a.1 t (In_front t set (u ∷ []) h)

pub In_adds_new : (us set more : List Term) → Adds set us more → (t : Term) → In t us → In t more
In_adds_new [] set more a t h = absurd h
In_adds_new (u ∷ us) set more (inl a) t (inl e) = In_adds_old us set more a.1 t (subst (λ x. In x set) (sym e) a.0)
In_adds_new (u ∷ us) set more (inl a) t (inr h) = In_adds_new us set more a.1 t h
In_adds_new (u ∷ us) set more (inr a) t (inl e) = In_adds_old us (set ++ u ∷ []) more a.1 t (In_back t set (u ∷ []) (inl e))
In_adds_new (u ∷ us) set more (inr a) t (inr h) = In_adds_new us (set ++ u ∷ []) more a.1 t h

-- ---- closing

module _ (facts : Facts) (some_offers : PrefixesOffer) (model : Model) (scope : Scope) where
  -- an internal item has no guards
  inner_does : (t : Term) (n : ℕ) (items : List Item) (i : Item) → WellTyped model scope t → menu model scope t ≡ walked n items → In i items
      → i.kind ≡ within → Does model scope i inner
  inner_does t n items i w e m k =
      let items_typed = facts.walk_typed model w.signatures w.definitions path_limit scope w.exit_types t 0 n items w.term e in
      let p = subst (λ x. IsItem model.defs.table w.signatures scope w.exit_types x i.guards i.rest) k
      (item_of model.defs.table w.signatures scope w.exit_types i items m items_typed) in
      record { kind = sym k; typed = tt; holds = subst (λ gs. Hold model.defs (put_all (filled []) gs)) (sym p.0) tt }

  target_steps : (set us : List Term) (nodes : ℕ) → AllWellTyped model scope set → Targets model scope set us nodes → (u : Term) → In u us
      → (s : Term) × In s set × Step model scope s inner u
  target_steps [] us nodes well w u h = absurd (subst (In u) w.0 h)
  target_steps (t ∷ set) us nodes well w u h =
      elim (In-append u (inner_rests w.1) w.2 (subst (In u) w.6 h)) [
        | inl p ↦ (let q = In-inner_rests w.1 u p in
            let wt = well t (inl refl) in
            let law = menu_is_rules facts some_offers model scope t w.0 w.1 wt w.4 in
            let d = inner_does t w.0 w.1 q.0 wt w.4 q.1 q.2 in
            (t, inl refl, subst (λ x. Step model scope t inner x) (put_slots_term q.0.rest ∙ sym q.3) (law.0 q.0 inner q.1 d)))
        | inr p ↦ (let r = target_steps set w.2 w.3 (λ x m. well x (inr m)) w.5 u p in (r.0, inr r.1, r.2))
      ]

  step_targets : (set us : List Term) (nodes : ℕ) → AllWellTyped model scope set → Targets model scope set us nodes → (s u : Term) → In s set
      → Step model scope s inner u → In u us
  step_targets [] us nodes well w s u h k = absurd h
  step_targets (t ∷ set) us nodes well w s u (inl e) k =
      let law = menu_is_rules facts some_offers model scope t w.0 w.1 (well t (inl refl)) w.4 in
      let f = law.1 inner u (subst (λ x. Step model scope x inner u) e k) in
      let m = In_inner_rests f.item w.1 f.listed (sym f.does.kind) in
      let r : f.item.rest ≡ u = sym (put_slots_term f.item.rest) ∙ f.rest in
      subst (In u) (sym w.6) (In_front u (inner_rests w.1) w.2 (subst (λ x. In x (inner_rests w.1)) r m))
  step_targets (t ∷ set) us nodes well w s u (inr h) k =
      subst (In u) (sym w.6) (In_back u (inner_rests w.1) w.2 (step_targets set w.2 w.3 (λ x m. well x (inr m)) w.5 s u h k))

  -- a set that is closed by one step is closed by all
  stays : (set us : List Term) (nodes : ℕ) → AllWellTyped model scope set → Targets model scope set us nodes → Adds set us set
      → {s t : Term} → In s set → Inners model scope s t → In t set
  stays set us nodes well w a h here = h
  stays set us nodes well w a h (onward {t' = t'} k n) =
      stays set us nodes well w a (In_adds_new us set set a t' (step_targets set us nodes well w _ t' h k)) n

  more_well : (set us more : List Term) (nodes : ℕ) → AllWellTyped model scope set → Targets model scope set us nodes → Adds set us more
      → AllWellTyped model scope more
  more_well set us more nodes well w a t h =
      elim (In-adds us set more a t h) [
        | inl p ↦ well t p
        | inr p ↦ (let q = target_steps set us nodes well w t p in step_well facts model scope q.0 t inner (well q.0 q.1) q.2)
      ]

  reached : {level : ℕ} {set : List Term} {r : Closing} → Closes model scope level set r → AllWellTyped model scope set → (c : List Term) → r ≡ closed c
      → (t : Term) → In t c → (s : Term) × In s set × Inners model scope s t
  reached (large l) well c e t h = cc
  reached (member_faults l s) well c e t h = cc
  reached (done {set = set} us nodes l w n a) well c e t h =
      let q : c ≡ set = cc in (t, subst (In t) q h, here)
  reached (next {set = set} us more nodes l w n a d k) well c e t h =
      let r = reached k (more_well set us more nodes well w a) c e t h in
      elim (In-adds us set more a r.0 r.1) [
        | inl p ↦ (r.0, p, r.2)
        | inr p ↦ (let q = target_steps set us nodes well w r.0 p in (q.0, q.1, onward q.2 r.2))
      ]

  reaches : {level : ℕ} {set : List Term} {r : Closing} → Closes model scope level set r → AllWellTyped model scope set → (c : List Term) → r ≡ closed c
      → (s t : Term) → In s set → Inners model scope s t → In t c
  reaches (large l) well c e s t h n = cc
  reaches (member_faults l k) well c e s t h n = cc
  reaches (done {set = set} us nodes l w k a) well c e s t h n =
      let q : set ≡ c = cc in subst (In t) q (stays set us nodes well w a h n)
  reaches (next {set = set} us more nodes l w k a d j) well c e s t h n =
      reaches j (more_well set us more nodes well w a) c e s t (In_adds_old us set more a s h) n

pub closed_is_reached : Facts → PrefixesOffer → ClosedIsReached
closed_is_reached facts some_offers model scope level set c well k t =
    (reached facts some_offers model scope k well c refl t, λ p. reaches facts some_offers model scope k well c refl p.0 t p.1 p.2)
