-- The menu of a prefix with offers.
use Rattle.std.specs.Prelude.{Option, Some, None}
use Rattle.std.proofs.Common.{◌≡◌, ℕ, suc, true, false, inl, inr, List, [], ◌∷◌, ◌++◌, length, refl, sym, ap, ◌∙◌, subst}
use Rattle.txs_values.specs.Value.{Value, Table, Ty}
use Rattle.txs_terms.specs.Expr.{Expr, val, slot, equal, put, put_all, filled, moved}
use Rattle.txs_terms.specs.Eval.{Defs, Run, got, bad, eval, Gives, Hold, bool_true}
use Rattle.txs_terms.specs.Action.{Action, Label, act, inner, ends, Channels, channels, values, values_on, values_over, has, Scope, arity, types_on, IsTyped, IsAction, from, is_empty, in_order}
use Rattle.txs_terms.specs.Term.{Position, give, take, Offer, Term, prefix, fill}
use Rattle.txs_terms.specs.Rules.{Model, Meets, MeetAll, offered, Step, offers}
use Rattle.txs_terms.specs.Menu.{on, Item, Walk, walked, width, start, places, judge, fails, with_slots, without_slots, where_some, fixed_by, fixes, both_lists, all_fixes, prefix_item, prefix_walk}
use Rattle.txs_laws.specs.Menus.{given, Does, IsSound, Found, IsComplete}
use Rattle.txs_laws.proofs.rules.Put.{Picked, fill_moved, fill_all_moved, put_all-append}
use Rattle.txs_laws.proofs.rules.Tests.{one_value, equal_same, equal_holds, judge_holds, holds_judge, Hold-append, Hold_front, Hold_back, from_parts, closed_part, open_part, some_from}
use Rattle.txs_laws.proofs.rules.Places.{width-values, over_channels, on_channel, Within}
use Rattle.txs_laws.proofs.rules.Lists.{walked_items, where_holds_from}
use Rattle.txs_laws.proofs.rules.Channels.{within_order, ascending_order, some_order}
use Rattle.txs_laws.proofs.rules.Sequential.{Means, no_items, one_item}
use Rattle.txs_terms.specs.Typed.{Signatures, FitPositions, FitOffers}

-- what `fixes` makes: one conjunct for each `!`
abbrev FixList : Defs → ℕ → List Position → List Expr → Type 0
FixList defs i [] [] = Unit {0}
FixList defs i [] (g ∷ gs) = ⊥
FixList defs i (take x ∷ ps) gs = FixList defs (suc i) ps gs
FixList defs i (give e ∷ ps) [] = ⊥
FixList defs i (give e ∷ ps) (g ∷ gs) =
    ((v : Value) × Gives defs e v × (g ≡ equal (slot i) (val v))) × FixList defs (suc i) ps gs

fixed_by_from : (i : ℕ) (r : Run) (o : Option (List Expr)) (hs : List Expr) → fixed_by i r o ≡ Some hs
    → (v : Value) × (gs : List Expr) × ((n : ℕ) × (r ≡ got v n)) × (o ≡ Some gs) × (hs ≡ equal (slot i) (val v) ∷ gs)
fixed_by_from i (bad f) o hs e = cc
fixed_by_from i (got v n) None hs e = cc
fixed_by_from i (got v n) (Some gs) hs e = (v, gs, (n, refl), refl, (let q = e in cc))

fix_list : (defs : Defs) (i : ℕ) (ps : List Position) (gs : List Expr) → fixes defs i ps ≡ Some gs → FixList defs i ps gs
fix_list defs i [] gs e = let q : [] ≡ gs = (let p = e in cc) in subst (FixList defs i []) q tt
fix_list defs i (take x ∷ ps) gs e = fix_list defs (suc i) ps gs e
fix_list defs i (give x ∷ ps) gs e =
    let p = fixed_by_from i (eval defs x) (fixes defs (suc i) ps) gs e in
    subst (FixList defs i (give x ∷ ps)) (sym p.4) ((p.0, p.2, refl), fix_list defs (suc i) ps p.1 p.3)

abbrev AllFixes : Defs → Scope → Channels → List Offer → List Expr → Type 0
AllFixes defs scope cs [] gs = gs ≡ []
AllFixes defs scope cs (o ∷ os) gs =
    (g1 : List Expr) × (g2 : List Expr) × (gs ≡ g1 ++ g2)
    × FixList defs (start scope cs o.channel) o.positions g1 × AllFixes defs scope cs os g2

both_from : (o o' : Option (List Expr)) (ks : List Expr) → both_lists o o' ≡ Some ks
    → (gs : List Expr) × (hs : List Expr) × (o ≡ Some gs) × (o' ≡ Some hs) × (ks ≡ gs ++ hs)
both_from None o' ks e = cc
both_from (Some gs) None ks e = cc
both_from (Some gs) (Some hs) ks e = (gs, hs, refl, refl, (let q = e in cc))

all_fix_lists : (defs : Defs) (scope : Scope) (cs : Channels) (os : List Offer) (gs : List Expr) → all_fixes defs scope cs os ≡ Some gs → AllFixes defs scope cs os gs
all_fix_lists defs scope cs [] gs e = (let q = e in cc)
all_fix_lists defs scope cs (o ∷ os) gs e =
    let p = both_from (fixes defs (start scope cs o.channel) o.positions) (all_fixes defs scope cs os) gs e in
    (p.0, p.1, p.4, fix_list defs (start scope cs o.channel) o.positions p.0 p.2, all_fix_lists defs scope cs os p.1 p.3)

all_fixes_from : (defs : Defs) (scope : Scope) (cs : Channels) (os : List Offer) (go : List Expr → Walk) (n : ℕ) (is : List Item)
    → where_some (all_fixes defs scope cs os) go ≡ walked n is → (gs : List Expr) × AllFixes defs scope cs os gs × (go gs ≡ walked n is)
all_fixes_from defs scope cs os go n is e =
    let p = some_from (all_fixes defs scope cs os) go n is e in (p.0, all_fix_lists defs scope cs os p.0 p.1, p.2)

-- at its slot each `!` has its value
meet_one : (defs : Defs) (vs : List Value) (i : ℕ) (ps : List Position) (gs : List Expr) (ws : List Value)
    → FixList defs i ps gs → Picked vs (from i (length ps)) ws → Hold defs (put_all (filled vs) gs) → Meets defs ps ws
meet_one defs vs i [] [] [] f p h = tt
meet_one defs vs i [] [] (w ∷ ws) f p h = absurd p
meet_one defs vs i [] (g ∷ gs) ws f p h = absurd f
meet_one defs vs i (take x ∷ ps) gs [] f p h = absurd p
meet_one defs vs i (take x ∷ ps) gs (w ∷ ws) f p h = meet_one defs vs (suc i) ps gs ws f p.1 h
meet_one defs vs i (give e ∷ ps) [] ws f p h = absurd f
meet_one defs vs i (give e ∷ ps) (g ∷ gs) [] f p h = absurd p
meet_one defs vs i (give e ∷ ps) (g ∷ gs) (w ∷ ws) f p h =
    let at_slot = subst (λ x. Gives defs (put (filled vs) x) bool_true) f.0.2 h.0 in
    let at_value = subst (λ x. Gives defs (equal x (val f.0.0)) bool_true) p.0 at_slot in
    let same = equal_same defs w f.0.0 at_value in
    (subst (Gives defs e) (sym same) f.0.1, meet_one defs vs (suc i) ps gs ws f.1 p.1 h.1)

fix_one : (defs : Defs) (vs : List Value) (i : ℕ) (ps : List Position) (gs : List Expr) (ws : List Value)
    → FixList defs i ps gs → Picked vs (from i (length ps)) ws → Meets defs ps ws → Hold defs (put_all (filled vs) gs)
fix_one defs vs i [] [] ws f p m = tt
fix_one defs vs i [] (g ∷ gs) ws f p m = absurd f
fix_one defs vs i (take x ∷ ps) gs [] f p m = absurd p
fix_one defs vs i (take x ∷ ps) gs (w ∷ ws) f p m = fix_one defs vs (suc i) ps gs ws f p.1 m
fix_one defs vs i (give e ∷ ps) [] ws f p m = absurd f
fix_one defs vs i (give e ∷ ps) (g ∷ gs) [] f p m = absurd p
fix_one defs vs i (give e ∷ ps) (g ∷ gs) (w ∷ ws) f p m =
    let same = one_value defs e w f.0.0 m.0 f.0.1 in
    let here = subst (λ v. Gives defs (equal (val w) (val v)) bool_true) same (equal_holds defs w) in
    let at_slot = subst (λ x. Gives defs (equal x (val f.0.0)) bool_true) (sym p.0) here in
    (subst (λ x. Gives defs (put (filled vs) x) bool_true) (sym f.0.2) at_slot, fix_one defs vs (suc i) ps gs ws f.1 p.1 m.1)

at_offer : (table : Table) → (scope : Scope) (a : Action) (o : Offer) → IsTyped table scope a → has (channels a) o.channel ≡ true
    → length o.positions ≡ arity scope o.channel
    → Picked (values a) (from (start scope (channels a) o.channel) (length o.positions)) (values_on a o.channel)
at_offer table scope a o t h n =
    subst (λ k. Picked (values a) (from (start scope (channels a) o.channel) k) (values_on a o.channel)) (sym n)
    (on_channel table scope a o.channel t h)

-- as many positions as the channel has types
abbrev HaveArity : Scope → List Offer → Type 0
HaveArity scope [] = Unit {0}
HaveArity scope (o ∷ os) = (length o.positions ≡ arity scope o.channel) × HaveArity scope os

fit_length : (table : Table) (signatures : Signatures) (slots : List Ty) (ps : List Position) (ts : List Ty)
    → FitPositions table signatures slots ps ts → length ps ≡ length ts
fit_length table signatures slots [] [] f = refl
fit_length table signatures slots [] (t ∷ ts) f = absurd f
fit_length table signatures slots (give e ∷ ps) [] f = absurd f
fit_length table signatures slots (take x ∷ ps) [] f = absurd f
fit_length table signatures slots (give e ∷ ps) (t ∷ ts) f = ap suc (fit_length table signatures slots ps ts f.1)
fit_length table signatures slots (take x ∷ ps) (t ∷ ts) f = ap suc (fit_length table signatures slots ps ts f)

have_arity : (table : Table) (signatures : Signatures) (scope : Scope) (slots : List Ty) (os : List Offer)
    → FitOffers table signatures scope slots os → HaveArity scope os
have_arity table signatures scope slots [] f = tt
have_arity table signatures scope slots (o ∷ os) f =
    (fit_length table signatures slots o.positions (types_on scope o.channel) f.1, have_arity table signatures scope slots os f.2)

meet_all : (defs : Defs) (scope : Scope) (a : Action) (os : List Offer) (gs : List Expr) → IsTyped defs.table scope a
    → Within (offered os) (channels a) → HaveArity scope os → AllFixes defs scope (channels a) os gs
    → Hold defs (put_all (filled (values a)) gs) → MeetAll defs os a
meet_all defs scope a [] gs t h w f k = tt
meet_all defs scope a (o ∷ os) gs t h w f k =
    let k' = subst (λ xs. Hold defs (put_all (filled (values a)) xs)) f.2 k in
    let both = subst (Hold defs) (put_all-append (filled (values a)) f.0 f.1) k' in
    let first = Hold_front defs (put_all (filled (values a)) f.0) (put_all (filled (values a)) f.1) both in
    let others = Hold_back defs (put_all (filled (values a)) f.0) (put_all (filled (values a)) f.1) both in (
      meet_one defs (values a) (start scope (channels a) o.channel) o.positions f.0 (values_on a o.channel) f.3
          (at_offer defs.table scope a o t h.0 w.0) first,
      meet_all defs scope a os f.1 t h.1 w.1 f.4 others,
    )

fix_all : (defs : Defs) (scope : Scope) (a : Action) (os : List Offer) (gs : List Expr) → IsTyped defs.table scope a
    → Within (offered os) (channels a) → HaveArity scope os → AllFixes defs scope (channels a) os gs
    → MeetAll defs os a → Hold defs (put_all (filled (values a)) gs)
fix_all defs scope a [] gs t h w f m = subst (λ xs. Hold defs (put_all (filled (values a)) xs)) (sym f) tt
fix_all defs scope a (o ∷ os) gs t h w f m =
    let first = fix_one defs (values a) (start scope (channels a) o.channel) o.positions f.0 (values_on a o.channel) f.3
    (at_offer defs.table scope a o t h.0 w.0) m.0 in
    let others = fix_all defs scope a os f.1 t h.1 w.1 f.4 m.1 in
    let both = Hold-append defs (put_all (filled (values a)) f.0) (put_all (filled (values a)) f.1) first others in
    let k' = subst (Hold defs) (sym (put_all-append (filled (values a)) f.0 f.1)) both in
    subst (λ xs. Hold defs (put_all (filled (values a)) xs)) (sym f.2) k'

module _ (model : Model) (scope : Scope) (os : List Offer) (gs : List Expr) (t : Term) where
  abbrev item_at : Channels → List Expr → Item
  item_at cs fixed = prefix_item scope cs (places scope cs (offered os)) fixed gs t

  -- at an action's own channels
  sound_at : (a : Action) (fixed : List Expr) → channels a ≡ in_order (offered os) → HaveArity scope os
      → AllFixes model.defs scope (channels a) os fixed → Hold model.defs (without_slots gs) → IsAction model.defs.table scope a
      → Hold model.defs (put_all (filled (values a)) (item_at (channels a) fixed).guards)
      → Step model scope (prefix os gs t) (act a) (fill (values a) (item_at (channels a) fixed).rest)
  sound_at a fixed e w f c ok h =
      let ty = ok.typed in
      let f' = filled (values a) in
      let win : Within (offered os) (channels a) = subst (Within (offered os)) (sym e) (within_order (offered os)) in
      let size = width-values model.defs.table scope a ty in
      let picked = over_channels model.defs.table scope a (offered os) ty win in
      let ps = places scope (channels a) (offered os) in
      let opens = put_all (moved ps (width scope (channels a))) (with_slots gs) in
      let both = subst (Hold model.defs) (put_all-append f' fixed opens) h in
      let first = Hold_front model.defs (put_all f' fixed) (put_all f' opens) both in
      let others = Hold_back model.defs (put_all f' fixed) (put_all f' opens) both in
      let others' = subst (Hold model.defs) (fill_all_moved (values a) ps (values_over a (offered os)) _ size picked (with_slots gs)) others in
      let all = from_parts model.defs (filled (values_over a (offered os))) gs c others' in
      let m = meet_all model.defs scope a os fixed ty win w f first in
      subst (λ r. Step model scope (prefix os gs t) (act a) r)
      (sym (fill_moved (values a) ps (values_over a (offered os)) _ size picked t)) (offers a e ok m all)

  on_inj : {xs ys : Channels} → on xs ≡ on ys → xs ≡ ys
  on_inj e = cc

  sound_by : (cs : Channels) (fixed : List Expr) → cs ≡ in_order (offered os) → HaveArity scope os
      → AllFixes model.defs scope cs os fixed → Hold model.defs (without_slots gs)
      → (l : Label) → Does model scope (item_at cs fixed) l → Step model scope (prefix os gs t) l (fill (given l) (item_at cs fixed).rest)
  sound_by cs fixed e w f c (act a) d =
      let k = on_inj d.kind in
      subst (λ xs. Step model scope (prefix os gs t) (act a) (fill (values a) (item_at xs fixed).rest)) k
      (sound_at a fixed (k ∙ e) w (subst (λ xs. AllFixes model.defs scope xs os fixed) (sym k) f) c d.typed
      (subst (λ xs. Hold model.defs (put_all (filled (values a)) (item_at xs fixed).guards)) (sym k) d.holds))
  sound_by cs fixed e w f c inner d = let k = d.kind in cc
  sound_by cs fixed e w f c (ends vs) d = let k = d.kind in cc

  prefix_sound : (cs : Channels) (fixed : List Expr) → cs ≡ in_order (offered os) → HaveArity scope os
      → AllFixes model.defs scope cs os fixed → Hold model.defs (without_slots gs)
      → IsSound model scope (prefix os gs t) (item_at cs fixed ∷ [])
  prefix_sound cs fixed e w f c i l (inr h) d = absurd h
  prefix_sound cs fixed e w f c i l (inl q) d =
      subst (λ j. Step model scope (prefix os gs t) l (fill (given l) j.rest)) (sym q)
      (sound_by cs fixed e w f c l (subst (λ j. Does model scope j l) q d))

  -- the action has the item's form
  found_at : (a : Action) (fixed : List Expr) → channels a ≡ in_order (offered os) → HaveArity scope os
      → AllFixes model.defs scope (channels a) os fixed → IsAction model.defs.table scope a → MeetAll model.defs os a
      → Hold model.defs (put_all (filled (values_over a (offered os))) gs)
      → Found model scope (item_at (channels a) fixed ∷ []) (act a) (fill (values_over a (offered os)) t)
  found_at a fixed e w f ok m h =
      let ty = ok.typed in
      let f' = filled (values a) in
      let win : Within (offered os) (channels a) = subst (Within (offered os)) (sym e) (within_order (offered os)) in
      let size = width-values model.defs.table scope a ty in
      let picked = over_channels model.defs.table scope a (offered os) ty win in
      let ps = places scope (channels a) (offered os) in
      let opens = put_all (moved ps (width scope (channels a))) (with_slots gs) in
      let first = fix_all model.defs scope a os fixed ty win w f m in
      let others = open_part model.defs (filled (values_over a (offered os))) gs h in
      let others' = subst (Hold model.defs) (sym (fill_all_moved (values a) ps (values_over a (offered os)) _ size picked (with_slots gs))) others in
      let both = Hold-append model.defs (put_all f' fixed) (put_all f' opens) first others' in
      record {
        item = item_at (channels a) fixed;
        listed = inl refl;
        does = record { kind = refl; typed = ok; holds = subst (Hold model.defs) (sym (put_all-append f' fixed opens)) both };
        rest = fill_moved (values a) ps (values_over a (offered os)) _ size picked t;
      }

  prefix_complete : (cs : Channels) (fixed : List Expr) → cs ≡ in_order (offered os) → HaveArity scope os
      → AllFixes model.defs scope cs os fixed → IsComplete model scope (prefix os gs t) (item_at cs fixed ∷ [])
  prefix_complete cs fixed e w f l t' (offers a ca ty m h) =
      let k : channels a ≡ cs = ca ∙ sym e in
      subst (λ xs. Found model scope (item_at xs fixed ∷ []) (act a) (fill (values_over a (offered os)) t)) k
      (found_at a fixed ca w (subst (λ xs. AllFixes model.defs scope xs os fixed) (sym k) f) ty m h)

  no_step : judge model.defs (without_slots gs) ≡ fails → IsComplete model scope (prefix os gs t) []
  no_step e l t' (offers a ca ty m h) =
      let k = holds_judge model.defs (without_slots gs) (closed_part model.defs (filled (values_over a (offered os))) gs h) in absurd (cc)

  arity_means : (n k : ℕ) (is : List Item) → HaveArity scope os → is_empty (offered os) ≡ false
      → prefix_walk model.defs scope (in_order (offered os)) os gs t n ≡ walked k is → Means model scope (prefix os gs t) is
  arity_means n k is w some e =
      let p = all_fixes_from model.defs scope (in_order (offered os)) os _ k is e in
      elim (where_holds_from (judge model.defs (without_slots gs)) n _ k is p.2) [
        | inl q ↦ subst (Means model scope (prefix os gs t)) (walked_items n k _ is q.1) (
          prefix_sound (in_order (offered os)) p.0 refl w p.1 (judge_holds model.defs (without_slots gs) q.0),
          prefix_complete (in_order (offered os)) p.0 refl w p.1,
          one_item (item_at (in_order (offered os)) p.0) (ascending_order (offered os), some_order (offered os) some),
        )
        | inr q ↦ subst (Means model scope (prefix os gs t)) (sym q.1) ((λ i l h d. absurd h), no_step q.0, no_items)
      ]

  pub prefix_means : (signatures : Signatures) (n k : ℕ) (is : List Item) → FitOffers model.defs.table signatures scope [] os
      → is_empty (offered os) ≡ false → prefix_walk model.defs scope (in_order (offered os)) os gs t n ≡ walked k is
      → Means model scope (prefix os gs t) is
  prefix_means signatures n k is f some e = arity_means n k is (have_arity model.defs.table signatures scope [] os f) some e
