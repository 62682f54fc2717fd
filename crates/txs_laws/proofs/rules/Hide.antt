-- The menu of a hide.
use Rattle.std.proofs.Common.{◌≡◌, ℕ, zero, suc, ◌≤◌, Bool, true, false, cond, eqb, ltb, ◌||◌, ◌⊎◌, inl, inr, List, [], ◌∷◌, ◌++◌, length, refl, sym, ap, ◌∙◌, subst, arith}
use Rattle.std.proofs.lemmas.Bool.{eqb-true, ltb-true, ltb-false, eq-eqb, or_left}
use Rattle.txs_values.specs.Value.{Value, Ty, Table, HaveTypes}
use Rattle.txs_terms.specs.Expr.{put_all, filled}
use Rattle.txs_terms.specs.Eval.{Defs, Hold}
use Rattle.txs_terms.specs.Action.{Action, Label, act, inner, ends, Channels, channels, values, values_on, values_over, part_of, has, is_empty, Ascending, Scope, types_on, IsTyped, IsAction, types_over}
use Rattle.txs_terms.specs.Term.{Term, stop, hide, fill}
use Rattle.txs_terms.specs.Rules.{In, Model, visible, Step, shown, hidden, hide_inner, hide_ends}
use Rattle.txs_terms.specs.Menu.{Kind, on, within, ending, Item, walked, Verdict, holds, fails, faults, judge, without_slots, width, places, Fixed, unable, fixed, fix_all, shown_kind, strip, Hidden, bad_item, left_with, strip_by, strip_fixed, loose_slots, hide_on, hide_kind, and_hidden, hide_all, hidden_walk}
use Rattle.txs_laws.specs.Menus.{given, Does, IsSound, IsComplete}
use Rattle.txs_laws.proofs.rules.Put.{Picked}
use Rattle.txs_laws.proofs.rules.Tests.{judge_holds, holds_judge, from_parts, closed_part, open_part}
use Rattle.txs_laws.proofs.rules.Places.{Within, width-values, over_channels, typed_on, typed_part, channels_part, values_part}
use Rattle.txs_laws.proofs.rules.Lists.{In_front, In_back, In-append, walked_items}
use Rattle.txs_laws.proofs.rules.Channels.{ascending_kept, within_cons, within_self}
use Rattle.txs_laws.proofs.rules.Sequential.{Means, InOrder}
use Rattle.txs_laws.proofs.rules.Fix.{fix_all_from, keeps, extends}
use Rattle.txs_values.specs.Default.{default_of}
use Rattle.txs_terms.specs.Typed.{Signatures, AreTypes, AreScope, IsTable, AreTyped, AreGuards}
use Rattle.txs_laws.specs.Items.{IsItem, AreItems}
use Rattle.txs_laws.proofs.typing.Facts.{Facts}
use Rattle.txs_laws.proofs.rules.Slots.{item_guards}
use Rattle.txs_laws.proofs.rules.Left.{shown_fast, fixed_reads, left_guards, left_rest}
use Rattle.txs_laws.proofs.rules.Rows.{part_whole, typed_row, from_row, Picked_along, same_picked, same_parts}
use Rattle.txs_laws.proofs.typing.Terms.{types_front}

-- ---- the channels of a scope within another

-- all of these channels are below
abbrev AreVisible : ℕ → Channels → Type 0
AreVisible d [] = Unit {0}
AreVisible d (c ∷ cs) = (ltb c d ≡ true) × AreVisible d cs

visible_first : (d c : ℕ) (cs : Channels) (b : Bool) → ltb c d ≡ b → AreVisible d (visible d cs) → AreVisible d (cond b (c ∷ visible d cs) (visible d cs))
visible_first d c cs true e h = (e, h)
visible_first d c cs false e h = h

visible_below : (d : ℕ) (cs : Channels) → AreVisible d (visible d cs)
visible_below d [] = tt
visible_below d (c ∷ cs) = visible_first d c cs (ltb c d) refl (visible_below d cs)

visible_within_first : (d c : ℕ) (cs : Channels) (b : Bool) → Within (visible d cs) (c ∷ cs) → Within (cond b (c ∷ visible d cs) (visible d cs)) (c ∷ cs)
visible_within_first d c cs true h = (or_left (eqb c c) (has cs c) (eq-eqb c c refl), h)
visible_within_first d c cs false h = h

visible_within : (d : ℕ) (cs : Channels) → Within (visible d cs) cs
visible_within d [] = tt
visible_within d (c ∷ cs) = visible_within_first d c cs (ltb c d) (within_cons c (visible d cs) cs (visible_within d cs))

typed_down : (table : Table) (scope hs : Scope) (x : Action) (cs : Channels) → AreVisible (length scope) cs → IsTyped table (scope ++ hs) (part_of x cs) → IsTyped table scope (part_of x cs)
typed_down table scope hs x [] b t = tt
typed_down table scope hs x (c ∷ cs) b t =
    (subst (HaveTypes table (values_on x c)) (types_front scope hs c (ltb-true c (length scope) b.0)) t.0, typed_down table scope hs x cs b.1 t.1)

-- ---- the results for each item

pub item_of : (table : Table) (signatures : Signatures) (scope : Scope) (exit_types : List Ty) (i : Item) (is : List Item) → In i is
    → AreItems table signatures scope exit_types is → IsItem table signatures scope exit_types i.kind i.guards i.rest
item_of table signatures scope exit_types i [] m w = absurd m
item_of table signatures scope exit_types i (j ∷ is) (inl e) w =
    subst (λ x. IsItem table signatures scope exit_types x.kind x.guards x.rest) (sym e) w.0
item_of table signatures scope exit_types i (j ∷ is) (inr m) w = item_of table signatures scope exit_types i is m w.1

and_from_hidden : (h h' : Hidden) (js : List Item) → and_hidden h h' ≡ left_with js
    → (xs : List Item) × (ys : List Item) × (h ≡ left_with xs) × (h' ≡ left_with ys) × (js ≡ xs ++ ys)
and_from_hidden (bad_item s) h' js e = cc
and_from_hidden (left_with xs) (bad_item s) js e = cc
and_from_hidden (left_with xs) (left_with ys) js e = (xs, ys, refl, refl, (let q = e in cc))

hidden_from : (h : Hidden) (n m : ℕ) (is : List Item) → hidden_walk n h ≡ walked m is → h ≡ left_with is
hidden_from (bad_item s) n m is e = cc
hidden_from (left_with js) n m is e = ap left_with (walked_items n m js is e)

strip_from : (v : Verdict) (z : Item) (zs : List Item) → strip_by v z ≡ left_with zs → ((v ≡ holds) × (zs ≡ z ∷ [])) ⊎ ((v ≡ fails) × (zs ≡ []))
strip_from holds z zs e = inl (refl, (let q = e in cc))
strip_from fails z zs e = inr (refl, (let q = e in cc))
strip_from faults z zs e = cc

fixed_from : (defs : Defs) (hs : Scope) (cs : Channels) (ps : List ℕ) (size : ℕ) (f : Fixed) (zs : List Item) → strip_fixed defs hs cs ps size f ≡ left_with zs
    → (i' : Item) × (f ≡ fixed i') × (strip_by (judge defs (without_slots i'.guards)) (strip hs cs ps size i') ≡ left_with zs)
fixed_from defs hs cs ps size (unable s) zs e = cc
fixed_from defs hs cs ps size (fixed i') zs e = (i', refl, e)

module _ (model : Model) (scope hs : Scope) where
  abbrev all : Scope
  all = scope ++ hs

  abbrev d : ℕ
  d = length scope

  result_of : (is js : List Item) → hide_all model.defs scope hs is ≡ left_with js → (i : Item) → In i is
      → (zs : List Item) × (hide_kind model.defs scope hs i.kind i ≡ left_with zs) × ((z : Item) → In z zs → In z js)
  result_of [] js e i h = absurd h
  result_of (x ∷ is) js e i (inl q) =
      let p = and_from_hidden (hide_kind model.defs scope hs x.kind x) _ js e in (
        p.0,
        subst (λ y. hide_kind model.defs scope hs y.kind y ≡ left_with p.0) (sym q) p.2,
        λ z m. subst (In z) (sym p.4) (In_front z p.0 p.1 m),
      )
  result_of (x ∷ is) js e i (inr h) =
      let p = and_from_hidden (hide_kind model.defs scope hs x.kind x) _ js e in
      let r = result_of is p.1 p.3 i h in
      (r.0, r.1, λ z m. subst (In z) (sym p.4) (In_back z p.0 p.1 (r.2 z m)))

  came_from : (is js : List Item) → hide_all model.defs scope hs is ≡ left_with js → (z : Item) → In z js
      → (i : Item) × (zs : List Item) × In i is × (hide_kind model.defs scope hs i.kind i ≡ left_with zs) × In z zs
  came_from [] js e z h = absurd (subst (In z) (no_more e) h)
    where
      no_more : {xs ys : List Item} → left_with xs ≡ left_with ys → ys ≡ xs
      no_more q = cc
  came_from (x ∷ is) js e z h =
      let p = and_from_hidden (hide_kind model.defs scope hs x.kind x) _ js e in
      elim (In-append z p.0 p.1 (subst (In z) p.4 h)) [
        | inl m ↦ (x, p.0, inl refl, p.2, m)
        | inr m ↦ (let r = came_from is p.1 p.3 z m in (r.0, r.1, inr r.2, r.3, r.4))
      ]

  -- ---- each step is such an item

  kept_item : (facts : Facts) (signatures : Signatures) (ok : AreTyped model.defs signatures) (x : Action) (t' : Term) (i : Item) (zs : List Item)
      → AreGuards model.defs.table signatures (types_over all (channels x)) i.guards → IsAction model.defs.table all x → Hold model.defs (put_all (filled (values x)) i.guards)
      → fill (values x) i.rest ≡ t' → hide_on model.defs all hs (channels x) (visible d (channels x)) i ≡ left_with zs
      → (z : Item) × In z zs × (z.kind ≡ shown_kind (visible d (channels x)))
      × Hold model.defs (put_all (filled (values_over x (visible d (channels x)))) z.guards)
      × (fill (values_over x (visible d (channels x))) z.rest ≡ hide hs t')
  kept_item facts signatures typed x t' i zs gs ok h r e =
      let cs = channels x in
      let vis = visible d cs in
      let ps = places all cs vis in
      let size = width all cs in
      let p = fixed_from model.defs hs vis ps size _ zs e in
      let i' = p.0 in
      let fx = fix_all_from facts model.defs signatures typed (types_over all cs) _ (loose_slots ps size) i i' gs p.1 in
      let k = keeps fx (values x) h in
      let n = width-values model.defs.table all x ok.typed in
      let pk = over_channels model.defs.table all x vis ok.typed (visible_within d cs) in
      let rd = fixed_reads (loose_slots ps size) fx in
      let c = closed_part model.defs (filled (values x)) i'.guards k.0 in
      let o = open_part model.defs (filled (values x)) i'.guards k.0 in
      let lg = left_guards (values x) ps (values_over x vis) size n pk i' rd in
      let lr = left_rest (values x) ps (values_over x vis) size n pk i' rd in
      elim (strip_from (judge model.defs (without_slots i'.guards)) (strip hs vis ps size i') zs p.2) [
        | inl q ↦ (
          strip hs vis ps size i',
          subst (In (strip hs vis ps size i')) (sym q.1) (inl refl),
          refl,
          subst (Hold model.defs) (sym lg) o,
          ap (hide hs) (lr ∙ (k.1 ∙ r)),
        )
        | inr q ↦ (let j = holds_judge model.defs (without_slots i'.guards) c in absurd (no_verdict (sym j ∙ q.0)))
      ]
    where
      no_verdict : holds ≡ fails → ⊥
      no_verdict w = cc

  shown_is : (cs : Channels) → is_empty cs ≡ false → on cs ≡ shown_kind cs
  shown_is [] e = cc
  shown_is (c ∷ cs) e = refl

  hidden_is : (x : Action) (cs : Channels) → is_empty cs ≡ true → (within ≡ shown_kind cs) × (values_over x cs ≡ [])
  hidden_is x [] e = (refl, refl)
  hidden_is x (c ∷ cs) e = cc

  by_kind : (i : Item) (k : Kind) (zs : List Item) → k ≡ i.kind → hide_kind model.defs scope hs i.kind i ≡ left_with zs → hide_kind model.defs scope hs k i ≡ left_with zs
  by_kind i k zs e h = subst (λ q. hide_kind model.defs scope hs q i ≡ left_with zs) (sym e) h

  -- the guards of an item on these channels
  guards_on : (signatures : Signatures) (exit_types : List Ty) (x : Action) (i : Item) (is : List Item) → In i is
      → AreItems model.defs.table signatures all exit_types is → on (channels x) ≡ i.kind
      → AreGuards model.defs.table signatures (types_over all (channels x)) i.guards
  guards_on signatures exit_types x i is m w e =
      let p = subst (λ k. IsItem model.defs.table signatures all exit_types k i.guards i.rest) (sym e) (item_of model.defs.table signatures all exit_types i is m w) in
      item_guards model.defs.table signatures (types_over all (channels x)) i.guards p.1

  hide_complete : (facts : Facts) (signatures : Signatures) (ok : AreTyped model.defs signatures) (exit_types : List Ty) (t : Term) (is js : List Item)
      → AreItems model.defs.table signatures all exit_types is → IsComplete model all t is → hide_all model.defs scope hs is ≡ left_with js → IsComplete model scope (hide hs t) js
  hide_complete facts signatures ok exit_types t is js w c e l t' (shown {t' = t1} x v s) =
      let f = c (act x) t1 s in
      let p = result_of is js e f.item f.listed in
      let vis = visible d (channels x) in
      let q = kept_item facts signatures ok x t1 f.item p.0 (guards_on signatures exit_types x f.item is f.listed w f.does.kind) f.does.typed f.does.holds f.rest (by_kind f.item (on (channels x)) p.0 f.does.kind p.1) in
      record {
        item = q.0;
        listed = p.2 q.0 q.1;
        does = record {
          kind = ap on (channels_part x vis) ∙ (shown_is vis v ∙ sym q.2);
          typed = record {
            some = subst (λ cs. is_empty cs ≡ false) (sym (channels_part x vis)) v;
            typed = typed_down model.defs.table scope hs x vis (visible_below d (channels x)) (typed_part model.defs.table all x vis f.does.typed.typed (visible_within d (channels x)));
            ascending = subst Ascending (sym (channels_part x vis)) (ascending_kept (λ c. ltb c d) (channels x) f.does.typed.ascending);
          };
          holds = subst (λ ws. Hold model.defs (put_all (filled ws) q.0.guards)) (sym (values_part x vis)) q.3;
        };
        rest = subst (λ ws. fill ws q.0.rest ≡ hide hs t1) (sym (values_part x vis)) q.4;
      }
  hide_complete facts signatures ok exit_types t is js w c e l t' (hidden {t' = t1} x v s) =
      let f = c (act x) t1 s in
      let p = result_of is js e f.item f.listed in
      let vis = visible d (channels x) in
      let q = kept_item facts signatures ok x t1 f.item p.0 (guards_on signatures exit_types x f.item is f.listed w f.does.kind) f.does.typed f.does.holds f.rest (by_kind f.item (on (channels x)) p.0 f.does.kind p.1) in
      let o = hidden_is x vis v in
      record {
        item = q.0;
        listed = p.2 q.0 q.1;
        does = record {
          kind = o.0 ∙ sym q.2;
          typed = tt;
          holds = subst (λ ws. Hold model.defs (put_all (filled ws) q.0.guards)) o.1 q.3;
        };
        rest = subst (λ ws. fill ws q.0.rest ≡ hide hs t1) o.1 q.4;
      }
  hide_complete facts signatures ok exit_types t is js w c e l t' (hide_inner {t' = t1} s) =
      let f = c inner t1 s in
      let p = result_of is js e f.item f.listed in
      let r = by_kind f.item within p.0 f.does.kind p.1 in
      let i = f.item in
      let z : Item = record { kind = within; guards = i.guards; rest = hide hs i.rest } in
      record {
        item = z;
        listed = p.2 z (subst (In z) (same_left r) (inl refl));
        does = record { kind = refl; typed = tt; holds = f.does.holds };
        rest = ap (hide hs) f.rest;
      }
    where
      same_left : {xs ys : List Item} → left_with xs ≡ left_with ys → xs ≡ ys
      same_left q = cc
  hide_complete facts signatures ok exit_types t is js w c e l t' (hide_ends {t' = t1} {vs = vs} s) =
      let f = c (ends vs) t1 s in
      let p = result_of is js e f.item f.listed in
      let r = by_kind f.item (ending vs) p.0 f.does.kind p.1 in
      let i = f.item in
      let z : Item = record { kind = ending vs; guards = i.guards; rest = stop } in
      record {
        item = z;
        listed = p.2 z (subst (In z) (same_left r) (inl refl));
        does = record { kind = refl; typed = tt; holds = f.does.holds };
        rest = refl;
      }
    where
      same_left : {xs ys : List Item} → left_with xs ≡ left_with ys → xs ≡ ys
      same_left q = cc

-- ---- each such item is a step

types_known_at : (table : Table) (hs : Scope) (c : ℕ) → AreScope table hs → AreTypes table (types_on hs c)
types_known_at table [] c h = tt
types_known_at table (ts ∷ hs) zero h = h.0
types_known_at table (ts ∷ hs) (suc c) h = types_known_at table hs c h.1

types_later : (table : Table) (scope hs : Scope) (c : ℕ) → length scope ≤ c → AreScope table hs → AreTypes table (types_on (scope ++ hs) c)
types_later table [] hs c l h = types_known_at table hs c h
types_later table (ts ∷ scope) hs zero l h = absurd (omega arith)
types_later table (ts ∷ scope) hs (suc c) l h = types_later table scope hs c (let k : length scope ≤ c = omega arith in k) h

module _ (facts : Facts) (model : Model) (scope hs : Scope) (known : IsTable model.defs.table) (types_known : AreScope model.defs.table hs) where
  abbrev everything : Scope
  everything = scope ++ hs

  abbrev level' : ℕ
  level' = length scope

  abbrev defaults : List Ty → List Value
  defaults [] = []
  defaults (t ∷ ts) = default_of model.defs.table t ∷ defaults ts

  typed_defaults : (ts : List Ty) → AreTypes model.defs.table ts → HaveTypes model.defs.table (defaults ts) ts
  typed_defaults [] h = tt
  typed_defaults (t ∷ ts) h = (facts.default_typed model.defs.table known t h.0, typed_defaults ts h.1)

  -- an action on these channels with the values of y where they are shown
  abbrev begun_on : Action → ℕ → List Value
  begun_on y c = cond (ltb c level') (values_on y c) (defaults (types_on everything c))

  abbrev begun : Action → Channels → Action
  begun y [] = []
  begun y (c ∷ cs) = record { channel = c; values = begun_on y c } ∷ begun y cs

  channels_begun : (y : Action) (cs : Channels) → channels (begun y cs) ≡ cs
  channels_begun y [] = refl
  channels_begun y (c ∷ cs) = ap (λ xs. c ∷ xs) (channels_begun y cs)

  begun_typed_on : (y : Action) (c : ℕ) (b : Bool) → ltb c level' ≡ b → IsTyped model.defs.table scope y → (b ≡ true → has (channels y) c ≡ true)
      → HaveTypes model.defs.table (cond b (values_on y c) (defaults (types_on everything c))) (types_on everything c)
  begun_typed_on y c true e t h =
      subst (HaveTypes model.defs.table (values_on y c)) (sym (types_front scope hs c (ltb-true c level' e))) (typed_on model.defs.table scope y c t (h refl))
  begun_typed_on y c false e t h =
      typed_defaults (types_on everything c) (types_later model.defs.table scope hs c (ltb-false c level' e) types_known)

  visible_has : (c : ℕ) (cs ys : Channels) (b : Bool) → ltb c level' ≡ b → Within (cond b (c ∷ visible level' cs) (visible level' cs)) ys
      → (ltb c level' ≡ true → has ys c ≡ true) × Within (visible level' cs) ys
  visible_has c cs ys true e w = ((λ q. w.0), w.1)
  visible_has c cs ys false e w = ((λ q. cc), w)

  begun_typed : (y : Action) (cs : Channels) → IsTyped model.defs.table scope y → Within (visible level' cs) (channels y) → IsTyped model.defs.table everything (begun y cs)
  begun_typed y [] t w = tt
  begun_typed y (c ∷ cs) t w =
      let p = visible_has c cs (channels y) (ltb c level') refl w in
      (begun_typed_on y c (ltb c level') refl t p.0, begun_typed y cs t p.1)

  begun_first : (y : Action) (x c : ℕ) (cs : Channels) (b : Bool) → eqb x c ≡ b → (has cs c ≡ true → values_on (begun y cs) c ≡ begun_on y c)
      → (b || has cs c) ≡ true → cond b (begun_on y x) (values_on (begun y cs) c) ≡ begun_on y c
  begun_first y x c cs true e go h = ap (begun_on y) (eqb-true x c e)
  begun_first y x c cs false e go h = go h

  values_on_begun : (y : Action) (cs : Channels) (c : ℕ) → has cs c ≡ true → values_on (begun y cs) c ≡ begun_on y c
  values_on_begun y [] c h = cc
  values_on_begun y (x ∷ cs) c h = begun_first y x c cs (eqb x c) refl (values_on_begun y cs c) h

  part_begun : (y : Action) (cs own : Channels) → Within own cs → AreVisible level' own → part_of (begun y cs) own ≡ part_of y own
  part_begun y cs [] w b = refl
  part_begun y cs (c ∷ own) w b =
      let v : values_on (begun y cs) c ≡ values_on y c = values_on_begun y cs c w.0 ∙ shown_values c b.0 in
      let r = part_begun y cs own w.1 b.1 in
      cc
    where
      shown_values : (c : ℕ) → ltb c level' ≡ true → begun_on y c ≡ values_on y c
      shown_values c q = by (ltb c level') q
        where
          by : (b : Bool) → b ≡ true → cond b (values_on y c) (defaults (types_on everything c)) ≡ values_on y c
          by true e = refl
          by false e = cc

only_one : (v : Verdict) (z z' : Item) (zs : List Item) → ((v ≡ holds) × (zs ≡ z' ∷ [])) ⊎ ((v ≡ fails) × (zs ≡ [])) → In z zs → (v ≡ holds) × (z ≡ z')
only_one v z z' zs (inl a) m = elim (subst (In z) a.1 m) [ inl b ↦ (a.0, b) | inr b ↦ absurd b ]
only_one v z z' zs (inr a) m = absurd (subst (In z) a.1 m)

module _ (facts : Facts) (model : Model) (signatures : Signatures) (ok : AreTyped model.defs signatures) (scope hs : Scope)
    (types_known : AreScope model.defs.table hs) (t : Term) where
  -- the step below for what is shown of it
  pub record Below (i : Item) (y : Action) (z : Item) : Type 0 where
    whole_action : Action
    part : part_of whole_action (visible (length scope) (channels whole_action)) ≡ y
    target : Term
    taken : Step model (scope ++ hs) t (act whole_action) target
    becomes : fill (values y) z.rest ≡ hide hs target

  step_below : (i z : Item) (cs : Channels) (y : Action) (is zs : List Item) → IsSound model (scope ++ hs) t is → In i is → i.kind ≡ on cs → InOrder (on cs)
      → AreGuards model.defs.table signatures (types_over (scope ++ hs) cs) i.guards
      → hide_on model.defs (scope ++ hs) hs cs (visible (length scope) cs) i ≡ left_with zs → In z zs
      → channels y ≡ visible (length scope) cs → IsTyped model.defs.table scope y → Ascending (channels y) → Hold model.defs (put_all (filled (values y)) z.guards)
      → Below i y z
  step_below i z cs y is zs st m ki asc gs e mz cy ty ay h =
      let big = scope ++ hs in
      let vis = visible (length scope) cs in
      let ps = places big cs vis in
      let size = width big cs in
      let loose = loose_slots ps size in
      let p = fixed_from model.defs hs vis ps size _ zs e in
      let i' = p.0 in
      let fx = fix_all_from facts model.defs signatures ok (types_over big cs) _ loose i i' gs p.1 in
      let x0 = begun facts model scope hs ok.table types_known y cs in
      let c0 : channels x0 ≡ cs = channels_begun facts model scope hs ok.table types_known y cs in
      let wy : Within vis (channels y) = subst (Within vis) (sym cy) (within_self vis) in
      let t0 : IsTyped model.defs.table big x0 = begun_typed facts model scope hs ok.table types_known y cs ty wy in
      let row0 : HaveTypes model.defs.table (values x0) (types_over big cs) = subst (λ k. HaveTypes model.defs.table (values x0) (types_over big k)) c0 (typed_row model.defs.table big x0 t0) in
      let ext = extends fx (values x0) row0 in
      let ax = from_row model.defs.table big cs ext.values ext.typed in
      let x = ax.0 in
      let w0 : Within vis (channels x0) = subst (Within vis) (sym c0) (visible_within (length scope) cs) in
      let wx : Within vis (channels x) = subst (Within vis) (sym ax.1) (visible_within (length scope) cs) in
      let pk0 : Picked (values x0) ps (values_over x0 vis) = subst (λ k. Picked (values x0) (places big k vis) (values_over x0 vis)) c0 (over_channels model.defs.table big x0 vis t0 w0) in
      let pkx : Picked (values x) ps (values_over x vis) = subst (λ k. Picked (values x) (places big k vis) (values_over x vis)) ax.1 (over_channels model.defs.table big x vis ax.3 wx) in
      let pk1 : Picked ext.values ps (values_over x0 vis) = Picked_along (values x0) ext.values ps _ (λ j q. ext.same j (shown_fast ps size j q)) pk0 in
      let pk2 : Picked ext.values ps (values_over x vis) = subst (λ vs. Picked vs ps (values_over x vis)) ax.2 pkx in
      let over : values_over x vis ≡ values_over x0 vis = same_picked ext.values ps _ _ pk2 pk1 in
      let part0 : part_of x0 vis ≡ y =
      part_begun facts model scope hs ok.table types_known y cs vis (visible_within (length scope) cs) (visible_below (length scope) cs)
      ∙ (ap (part_of y) (sym cy) ∙ part_whole y ay) in
      let part : part_of x vis ≡ y = same_parts model.defs.table big x x0 vis ax.3 t0 wx w0 over ∙ part0 in
      let yv : values_over x vis ≡ values y = sym (values_part x vis) ∙ ap values part in
      let pky : Picked ext.values ps (values y) = subst (Picked ext.values ps) yv pk2 in
      let n : size ≡ length ext.values = subst (λ k. width big k ≡ length ext.values) ax.1 (width-values model.defs.table big x ax.3 ∙ ap length ax.2) in
      let rd = fixed_reads loose fx in
      let lg = left_guards ext.values ps (values y) size n pky i' rd in
      let lr = left_rest ext.values ps (values y) size n pky i' rd in
      let v = strip_from (judge model.defs (without_slots i'.guards)) (strip hs vis ps size i') zs p.2 in
      let q : (judge model.defs (without_slots i'.guards) ≡ holds) × (z ≡ strip hs vis ps size i') = only_one (judge model.defs (without_slots i'.guards)) z (strip hs vis ps size i') zs v mz in
      let hz = subst (λ k. Hold model.defs (put_all (filled (values y)) k.guards)) q.1 h in
      let open_holds = subst (Hold model.defs) lg hz in
      let all_hold = from_parts model.defs (filled ext.values) i'.guards (judge_holds model.defs (without_slots i'.guards) q.0) open_holds in
      let i_holds = subst (Hold model.defs) ext.guards all_hold in
      let di : Does model big i (act x) = record {
        kind = ap on ax.1 ∙ sym ki;
        typed = record {
          some = subst (λ k. is_empty k ≡ false) (sym ax.1) asc.1;
          typed = ax.3;
          ascending = subst Ascending (sym ax.1) asc.0;
        };
        holds = subst (λ vs. Hold model.defs (put_all (filled vs) i.guards)) (sym ax.2) i_holds;
      } in
      record {
        whole_action = x;
        part = subst (λ k. part_of x (visible (length scope) k) ≡ y) (sym ax.1) part;
        target = fill (values x) i.rest;
        taken = st i (act x) m di;
        becomes = subst (λ k. fill (values y) k.rest ≡ hide hs (fill (values x) i.rest)) (sym q.1)
            (ap (hide hs) (lr ∙ (ext.rest ∙ ap (λ vs. fill vs i.rest) (sym ax.2))));
      }

  not_empty : (cs : Channels) (ys : Channels) → on ys ≡ shown_kind cs → (is_empty cs ≡ false) × (ys ≡ cs)
  not_empty [] ys e = cc
  not_empty (c ∷ cs) ys e = (refl, (let q = e in cc))

  empty : (cs : Channels) → within ≡ shown_kind cs → (is_empty cs ≡ true) × ([] ≡ cs)
  empty [] e = (refl, refl)
  empty (c ∷ cs) e = cc

  never_ends : (cs : Channels) (vs : List Value) → ending vs ≡ shown_kind cs → ⊥
  never_ends [] vs e = cc
  never_ends (c ∷ cs) vs e = cc

  abbrev depth : ℕ
  depth = length scope

  -- the kind of what is left
  left_kind : (defs : Defs) (cs : Channels) (i z : Item) (zs : List Item) → hide_on defs (scope ++ hs) hs cs (visible depth cs) i ≡ left_with zs → In z zs
      → z.kind ≡ shown_kind (visible depth cs)
  left_kind defs cs i z zs e m =
      let vis = visible depth cs in
      let ps = places (scope ++ hs) cs vis in
      let size = width (scope ++ hs) cs in
      let loose = loose_slots ps size in
      let f = fix_all defs (length loose) loose i in
      let p = fixed_from defs hs vis ps size f zs e in
      let v = strip_from (judge defs (without_slots p.0.guards)) (strip hs vis ps size p.0) zs p.2 in
      ap (λ k. k.kind) (only_one (judge defs (without_slots p.0.guards)) z (strip hs vis ps size p.0) zs v m).1

  -- the same visible channels
  below_channels : (i z : Item) (cs : Channels) (y : Action) (b : Below i y z) → channels y ≡ visible depth cs
      → visible depth (channels b.whole_action) ≡ visible depth cs
  below_channels i z cs y b c = sym (channels_part b.whole_action (visible depth (channels b.whole_action))) ∙ (ap channels b.part ∙ c)

  hide_by : (i z : Item) (cs : Channels) (is zs : List Item) → IsSound model (scope ++ hs) t is → In i is → i.kind ≡ on cs → InOrder (on cs)
      → AreGuards model.defs.table signatures (types_over (scope ++ hs) cs) i.guards
      → hide_on model.defs (scope ++ hs) hs cs (visible depth cs) i ≡ left_with zs → In z zs → z.kind ≡ shown_kind (visible depth cs)
      → (l : Label) → Does model scope z l → Step model scope (hide hs t) l (fill (given l) z.rest)
  hide_by i z cs is zs st m ki asc gs e mz kz (act y) x =
      let n = not_empty (visible depth cs) (channels y) (x.kind ∙ kz) in
      let b = step_below i z cs y is zs st m ki asc gs e mz n.1 x.typed.typed x.typed.ascending x.holds in
      let v = below_channels i z cs y b n.1 in
      let s = shown b.whole_action (subst (λ k. is_empty k ≡ false) (sym v) n.0) b.taken in
      subst (λ k. Step model scope (hide hs t) (act y) k) (sym b.becomes)
      (subst (λ k. Step model scope (hide hs t) (act k) (hide hs b.target)) b.part s)
  hide_by i z cs is zs st m ki asc gs e mz kz inner x =
      let n = empty (visible depth cs) (x.kind ∙ kz) in
      let b = step_below i z cs [] is zs st m ki asc gs e mz n.1 tt tt x.holds in
      let v = below_channels i z cs [] b n.1 in
      let s = hidden b.whole_action (subst (λ k. is_empty k ≡ true) (sym v) n.0) b.taken in
      subst (λ k. Step model scope (hide hs t) inner k) (sym b.becomes) s
  hide_by i z cs is zs st m ki asc gs e mz kz (ends vs) x = absurd (never_ends (visible depth cs) vs (x.kind ∙ kz))

  same_left : {xs ys : List Item} → left_with xs ≡ left_with ys → ys ≡ xs
  same_left q = cc

  hide_within : (i z : Item) (is : List Item) → IsSound model (scope ++ hs) t is → In i is → i.kind ≡ within
      → z ≡ record { kind = within; guards = i.guards; rest = hide hs i.rest } → (l : Label) → Does model scope z l → Step model scope (hide hs t) l (fill (given l) z.rest)
  hide_within i z is st m ki q (act y) x = let a = x.kind ∙ ap (λ k. k.kind) q in cc
  hide_within i z is st m ki q inner x =
      let di : Does model (scope ++ hs) i inner = record { kind = sym ki; typed = tt; holds = subst (λ k. Hold model.defs (put_all (filled []) k.guards)) q x.holds } in
      subst (λ k. Step model scope (hide hs t) inner (fill [] k.rest)) (sym q) (hide_inner (st i inner m di))
  hide_within i z is st m ki q (ends vs) x = let a = x.kind ∙ ap (λ k. k.kind) q in cc

  hide_ending : (i z : Item) (ws : List Value) (is : List Item) → IsSound model (scope ++ hs) t is → In i is → i.kind ≡ ending ws
      → z ≡ record { kind = ending ws; guards = i.guards; rest = stop } → (l : Label) → Does model scope z l → Step model scope (hide hs t) l (fill (given l) z.rest)
  hide_ending i z ws is st m ki q (act y) x = let a = x.kind ∙ ap (λ k. k.kind) q in cc
  hide_ending i z ws is st m ki q inner x = let a = x.kind ∙ ap (λ k. k.kind) q in cc
  hide_ending i z ws is st m ki q (ends vs) x =
      let k = x.kind ∙ ap (λ k. k.kind) q in
      let di : Does model (scope ++ hs) i (ends vs) = record { kind = k ∙ sym ki; typed = tt; holds = subst (λ k. Hold model.defs (put_all (filled []) k.guards)) q x.holds } in
      subst (λ k. Step model scope (hide hs t) (ends vs) (fill [] k.rest)) (sym q) (hide_ends (st i (ends vs) m di))

  by_each : (exit_types : List Ty) (k : Kind) (i z : Item) (is zs : List Item) → i.kind ≡ k → IsItem model.defs.table signatures (scope ++ hs) exit_types k i.guards i.rest → Means model (scope ++ hs) t is → In i is
      → hide_kind model.defs scope hs k i ≡ left_with zs → In z zs → (l : Label) → Does model scope z l → Step model scope (hide hs t) l (fill (given l) z.rest)
  by_each exit_types (on cs) i z is zs ki w mt m e mz l x =
      hide_by i z cs is zs mt.0 m ki (subst InOrder ki (mt.2 i m)) (item_guards model.defs.table signatures (types_over (scope ++ hs) cs) i.guards w.1) e mz (left_kind model.defs cs i z zs e mz) l x
  by_each exit_types within i z is zs ki w mt m e mz l x =
      elim (subst (In z) (same_left e) mz) [ inl q ↦ hide_within i z is mt.0 m ki q l x | inr q ↦ absurd q ]
  by_each exit_types (ending ws) i z is zs ki w mt m e mz l x =
      elim (subst (In z) (same_left e) mz) [ inl q ↦ hide_ending i z ws is mt.0 m ki q l x | inr q ↦ absurd q ]

  order_each : (k : Kind) (i z : Item) (zs : List Item) → InOrder k → hide_kind model.defs scope hs k i ≡ left_with zs → In z zs → InOrder z.kind
  order_each (on cs) i z zs o e mz = subst InOrder (sym (left_kind model.defs cs i z zs e mz)) (order_shown (visible depth cs) (ascending_kept (λ c. ltb c depth) cs o.0))
    where
      order_shown : (ys : Channels) → Ascending ys → InOrder (shown_kind ys)
      order_shown [] a = tt
      order_shown (y ∷ ys) a = (a, refl)
  order_each within i z zs o e mz =
      elim (subst (In z) (same_left e) mz) [ inl q ↦ subst (λ k. InOrder k.kind) (sym q) tt | inr q ↦ absurd q ]
  order_each (ending ws) i z zs o e mz =
      elim (subst (In z) (same_left e) mz) [ inl q ↦ subst (λ k. InOrder k.kind) (sym q) tt | inr q ↦ absurd q ]

  pub hide_means : (exit_types : List Ty) (is js : List Item) (n m : ℕ) → Means model (scope ++ hs) t is
      → AreItems model.defs.table signatures (scope ++ hs) exit_types is
      → hidden_walk n (hide_all model.defs scope hs is) ≡ walked m js → Means model scope (hide hs t) js
  hide_means exit_types is js n m mt w e =
      let h = hidden_from (hide_all model.defs scope hs is) n m js e in (
        (λ z l mz x.
            let r = came_from model scope hs is js h z mz in
            by_each exit_types r.0.kind r.0 z is r.1 refl (item_of model.defs.table signatures (scope ++ hs) exit_types r.0 is r.2 w) mt r.2 r.3 r.4 l x),
        hide_complete model scope hs facts signatures ok exit_types t is js w mt.1 h,
        λ z mz. let r = came_from model scope hs is js h z mz in order_each r.0.kind r.0 z r.1 (mt.2 r.0 r.2) r.3 r.4,
      )
