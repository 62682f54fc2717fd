-- The menu of a parallel.
use Rattle.std.proofs.Common.{◌≡◌, Bool, true, false, cond, ◌⊎◌, inl, inr, List, [], ◌∷◌, length, refl, sym, ap, ◌∙◌, subst}
use Rattle.std.proofs.lemmas.Bool.{and_parts, and_from}
use Rattle.txs_values.specs.Value.{Value, Table, same_value}
use Rattle.txs_terms.specs.Expr.{Expr, put_all, filled}
use Rattle.txs_terms.specs.Eval.{Hold}
use Rattle.txs_terms.specs.Action.{Action, Label, act, inner, ends, Channels, channels, values, values_over, part_of, joins, union, Scope, Ascending, IsTyped, IsAction, is_empty}
use Rattle.txs_terms.specs.Term.{Term, stop, par, fill, put_term}
use Rattle.txs_terms.specs.Rules.{In, Model, Step, left_alone, right_alone, left_inner, right_inner, joined, both_end}
use Rattle.txs_terms.specs.Menu.{Kind, on, within, ending, Item, size_of, beside, goes_alone, wrapped, alone, left_of, right_of, among, join_on, join_ends, same_values, join_kinds, join, gather, par_items}
use Rattle.txs_laws.specs.Menus.{kind_of, given, IsLabel, Does, IsSound, Found, IsComplete}
use Rattle.txs_laws.proofs.rules.Put.{fill_moved, fill_all_moved, put_all-append, fill_beside}
use Rattle.txs_laws.proofs.rules.Tests.{Hold-append, Hold_front, Hold_back, same_value-true, same_value_refl}
use Rattle.txs_laws.proofs.rules.Places.{width-values, over_channels, typed_part, channels_part, values_part, Within}
use Rattle.txs_laws.proofs.rules.Lists.{In-append, In-gather, In_gathered}
use Rattle.txs_laws.proofs.rules.Channels.{within_left, within_right, ascending_union, some_union}
use Rattle.txs_laws.proofs.rules.Sequential.{Means, InOrder, AllInOrder, more_items, found_front, found_back}

-- an item has as many slots as there are values
pub size-given : (table : Table) (scope : Scope) (l : Label) → IsLabel table scope l → size_of scope (kind_of l) ≡ length (given l)
size-given table scope (act a) t = width-values table scope a t.typed
size-given table scope inner t = refl
size-given table scope (ends vs) t = refl

pub fill_by : (table : Table) (scope : Scope) (l : Label) (k : Kind) → kind_of l ≡ k → IsLabel table scope l → (t : Term) → fill (given l) (beside scope k t) ≡ t
fill_by table scope l k e ty t =
    subst (λ x. fill (given l) (beside scope x t) ≡ t) e (fill_beside (given l) (size_of scope (kind_of l)) (size-given table scope l ty) t)

-- ---- one side alone

In-alone : (gates : Channels) (wrap : Kind → Term → Term) (i z : Item) (b : Bool)
    → In z (cond b (wrapped wrap i ∷ []) []) → (b ≡ true) × (z ≡ wrapped wrap i)
In-alone gates wrap i z true (inl e) = (refl, e)
In-alone gates wrap i z true (inr h) = absurd h
In-alone gates wrap i z false h = absurd h

In_alone : (gates : Channels) (wrap : Kind → Term → Term) (i : Item) (b : Bool) → b ≡ true → In (wrapped wrap i) (cond b (wrapped wrap i ∷ []) [])
In_alone gates wrap i true e = inl refl
In_alone gates wrap i false e = cc

unwrapped : (model : Model) (scope : Scope) (wrap : Kind → Term → Term) (i : Item) (l : Label) → Does model scope (wrapped wrap i) l → Does model scope i l
unwrapped model scope wrap i l d = record { kind = d.kind; typed = d.typed; holds = d.holds }

wrapped_does : (model : Model) (scope : Scope) (wrap : Kind → Term → Term) (i : Item) (l : Label) → Does model scope i l → Does model scope (wrapped wrap i) l
wrapped_does model scope wrap i l d = record { kind = d.kind; typed = d.typed; holds = d.holds }

module _ (model : Model) (scope : Scope) (gates : Channels) (a b : Term) where
  go_left : (l : Label) (a' : Term) → goes_alone gates (kind_of l) ≡ true → Step model scope a l a' → Step model scope (par gates a b) l (par gates a' b)
  go_left (act x) a' g s = left_alone g s
  go_left inner a' g s = left_inner s
  go_left (ends vs) a' g s = cc

  go_right : (l : Label) (b' : Term) → goes_alone gates (kind_of l) ≡ true → Step model scope b l b' → Step model scope (par gates a b) l (par gates a b')
  go_right (act x) b' g s = right_alone g s
  go_right inner b' g s = right_inner s
  go_right (ends vs) b' g s = cc

  left_sound : (is : List Item) → IsSound model scope a is → IsSound model scope (par gates a b) (gather (alone gates (left_of scope gates b)) is)
  left_sound is sa z l h d =
      let p = In-gather (alone gates (left_of scope gates b)) z is h in
      let i = p.0 in
      let q = In-alone gates (left_of scope gates b) i z (goes_alone gates i.kind) p.2 in
      let di = unwrapped model scope (left_of scope gates b) i l (subst (λ x. Does model scope x l) q.1 d) in
      let g : goes_alone gates (kind_of l) ≡ true = subst (λ k. goes_alone gates k ≡ true) (sym di.kind) q.0 in
      let s = go_left l (fill (given l) i.rest) g (sa i l p.1 di) in
      let r = fill_by model.defs.table scope l i.kind di.kind di.typed b in
      subst (λ x. Step model scope (par gates a b) l (fill (given l) x.rest)) (sym q.1)
      (subst (λ x. Step model scope (par gates a b) l (par gates (fill (given l) i.rest) x)) (sym r) s)

  right_sound : (js : List Item) → IsSound model scope b js → IsSound model scope (par gates a b) (gather (alone gates (right_of scope gates a)) js)
  right_sound js sb z l h d =
      let p = In-gather (alone gates (right_of scope gates a)) z js h in
      let i = p.0 in
      let q = In-alone gates (right_of scope gates a) i z (goes_alone gates i.kind) p.2 in
      let di = unwrapped model scope (right_of scope gates a) i l (subst (λ x. Does model scope x l) q.1 d) in
      let g : goes_alone gates (kind_of l) ≡ true = subst (λ k. goes_alone gates k ≡ true) (sym di.kind) q.0 in
      let s = go_right l (fill (given l) i.rest) g (sb i l p.1 di) in
      let r = fill_by model.defs.table scope l i.kind di.kind di.typed a in
      subst (λ x. Step model scope (par gates a b) l (fill (given l) x.rest)) (sym q.1)
      (subst (λ x. Step model scope (par gates a b) l (par gates x (fill (given l) i.rest))) (sym r) s)

  found_left : (is : List Item) (l : Label) (a' : Term) → goes_alone gates (kind_of l) ≡ true → Found model scope is l a'
      → Found model scope (gather (alone gates (left_of scope gates b)) is) l (par gates a' b)
  found_left is l a' g f =
      let i = f.item in
      let e : goes_alone gates i.kind ≡ true = subst (λ k. goes_alone gates k ≡ true) f.does.kind g in
      let r = fill_by model.defs.table scope l i.kind f.does.kind f.does.typed b in
      let q = f.rest in
      record {
        item = wrapped (left_of scope gates b) i;
        listed = In_gathered (alone gates (left_of scope gates b)) _ i is f.listed (In_alone gates (left_of scope gates b) i (goes_alone gates i.kind) e);
        does = wrapped_does model scope (left_of scope gates b) i l f.does;
        rest = cc;
      }

  found_right : (js : List Item) (l : Label) (b' : Term) → goes_alone gates (kind_of l) ≡ true → Found model scope js l b'
      → Found model scope (gather (alone gates (right_of scope gates a)) js) l (par gates a b')
  found_right js l b' g f =
      let i = f.item in
      let e : goes_alone gates i.kind ≡ true = subst (λ k. goes_alone gates k ≡ true) f.does.kind g in
      let r = fill_by model.defs.table scope l i.kind f.does.kind f.does.typed a in
      let q = f.rest in
      record {
        item = wrapped (right_of scope gates a) i;
        listed = In_gathered (alone gates (right_of scope gates a)) _ i js f.listed (In_alone gates (right_of scope gates a) i (goes_alone gates i.kind) e);
        does = wrapped_does model scope (right_of scope gates a) i l f.does;
        rest = cc;
      }

alone_order : (model : Model) (scope : Scope) (gates : Channels) (wrap : Kind → Term → Term) (is : List Item) → AllInOrder is → AllInOrder (gather (alone gates wrap) is)
alone_order model scope gates wrap is o z h =
    let p = In-gather (alone gates wrap) z is h in
    let q = In-alone gates wrap p.0 z (goes_alone gates p.0.kind) p.2 in
    subst (λ x. InOrder x.kind) (sym q.1) (o p.0 p.1)

-- ---- both sides together

pub same_values-true : (vs ws : List Value) → same_values vs ws ≡ true → vs ≡ ws
same_values-true [] [] e = refl
same_values-true [] (w ∷ ws) e = cc
same_values-true (v ∷ vs) [] e = cc
same_values-true (v ∷ vs) (w ∷ ws) e =
    let p = and_parts (same_value v w) (same_values vs ws) e in
    let a = same_value-true v w p.0 in let b = same_values-true vs ws p.1 in cc

same_values_refl : (vs : List Value) → same_values vs vs ≡ true
same_values_refl [] = refl
same_values_refl (v ∷ vs) = and_from (same_value v v) (same_values vs vs) (same_value_refl v) (same_values_refl vs)

record Joined (scope : Scope) (gates : Channels) (k k' : Kind) (i j z : Item) : Type 0 where
  xs : Channels
  ys : Channels
  left : k ≡ on xs
  right : k' ≡ on ys
  joins' : joins gates xs ys ≡ true
  is : z ≡ join_on scope gates (union xs ys) xs ys i j

record Ended (k k' : Kind) (i j z : Item) : Type 0 where
  vs : List Value
  left : k ≡ ending vs
  right : k' ≡ ending vs
  is : z ≡ join_ends vs i j

cond_joined : (scope : Scope) (gates : Channels) (xs ys : Channels) (i j z : Item) (b : Bool) → joins gates xs ys ≡ b
    → In z (cond b (join_on scope gates (union xs ys) xs ys i j ∷ []) []) → Joined scope gates (on xs) (on ys) i j z
cond_joined scope gates xs ys i j z true e (inl q) = record { xs = xs; ys = ys; left = refl; right = refl; joins' = e; is = q }
cond_joined scope gates xs ys i j z true e (inr h) = absurd h
cond_joined scope gates xs ys i j z false e h = absurd h

cond_ended : (vs ws : List Value) (i j z : Item) (b : Bool) → same_values vs ws ≡ b
    → In z (cond b (join_ends vs i j ∷ []) []) → Ended (ending vs) (ending ws) i j z
cond_ended vs ws i j z true e (inl q) = record { vs = vs; left = refl; right = ap ending (sym (same_values-true vs ws e)); is = q }
cond_ended vs ws i j z true e (inr h) = absurd h
cond_ended vs ws i j z false e h = absurd h

In-join : (scope : Scope) (gates : Channels) (k k' : Kind) (i j z : Item) → In z (join_kinds scope gates k k' i j)
    → Joined scope gates k k' i j z ⊎ Ended k k' i j z
In-join scope gates (on xs) (on ys) i j z h = inl (cond_joined scope gates xs ys i j z (joins gates xs ys) refl h)
In-join scope gates (on xs) within i j z h = absurd h
In-join scope gates (on xs) (ending ws) i j z h = absurd h
In-join scope gates within k i j z h = absurd h
In-join scope gates (ending vs) (on ys) i j z h = absurd h
In-join scope gates (ending vs) within i j z h = absurd h
In-join scope gates (ending vs) (ending ws) i j z h = inr (cond_ended vs ws i j z (same_values vs ws) refl h)

In_joined : (scope : Scope) (gates : Channels) (xs ys : Channels) (i j : Item) (b : Bool) → b ≡ true
    → In (join_on scope gates (union xs ys) xs ys i j) (cond b (join_on scope gates (union xs ys) xs ys i j ∷ []) [])
In_joined scope gates xs ys i j true e = inl refl
In_joined scope gates xs ys i j false e = cc

In_ended : (vs : List Value) (i j : Item) (b : Bool) → b ≡ true → In (join_ends vs i j) (cond b (join_ends vs i j ∷ []) [])
In_ended vs i j true e = inl refl
In_ended vs i j false e = cc

module _ (model : Model) (scope : Scope) where
  -- what an item on some of the channels of an action does
  part_holds : (x : Action) (xs : Channels) (gs : List Expr) → IsTyped model.defs.table scope x → Within xs (channels x)
      → Hold model.defs (put_all (filled (values x)) (put_all (among scope (channels x) xs) gs))
      → Hold model.defs (put_all (filled (values (part_of x xs))) gs)
  part_holds x xs gs ty w h =
      subst (λ vs. Hold model.defs (put_all (filled vs) gs)) (sym (values_part x xs))
      (subst (Hold model.defs) (fill_all_moved (values x) _ (values_over x xs) _ (width-values model.defs.table scope x ty) (over_channels model.defs.table scope x xs ty w) gs) h)

  holds_part : (x : Action) (xs : Channels) (gs : List Expr) → IsTyped model.defs.table scope x → Within xs (channels x)
      → Hold model.defs (put_all (filled (values (part_of x xs))) gs)
      → Hold model.defs (put_all (filled (values x)) (put_all (among scope (channels x) xs) gs))
  holds_part x xs gs ty w h =
      subst (Hold model.defs) (sym (fill_all_moved (values x) _ (values_over x xs) _ (width-values model.defs.table scope x ty) (over_channels model.defs.table scope x xs ty w) gs))
      (subst (λ vs. Hold model.defs (put_all (filled vs) gs)) (values_part x xs) h)

  part_rest : (x : Action) (xs : Channels) (t : Term) → IsTyped model.defs.table scope x → Within xs (channels x)
      → fill (values x) (put_term (among scope (channels x) xs) t) ≡ fill (values (part_of x xs)) t
  part_rest x xs t ty w =
      fill_moved (values x) _ (values_over x xs) _ (width-values model.defs.table scope x ty) (over_channels model.defs.table scope x xs ty w) t
      ∙ ap (λ vs. fill vs t) (sym (values_part x xs))

  part_does : (x : Action) (xs : Channels) (i : Item) → i.kind ≡ on xs → InOrder (on xs) → IsTyped model.defs.table scope x → Within xs (channels x)
      → Hold model.defs (put_all (filled (values x)) (put_all (among scope (channels x) xs) i.guards))
      → Does model scope i (act (part_of x xs))
  part_does x xs i k o ty w h = record {
    kind = ap on (channels_part x xs) ∙ sym k;
    typed = record {
      some = subst (λ cs. is_empty cs ≡ false) (sym (channels_part x xs)) o.1;
      typed = typed_part model.defs.table scope x xs ty w;
      ascending = subst Ascending (sym (channels_part x xs)) o.0;
    };
    holds = part_holds x xs i.guards ty w h;
  }

  module _ (gates : Channels) (a b : Term) where
    join_act : (x : Action) (xs ys : Channels) (i j : Item) (is js : List Item) → IsSound model scope a is → IsSound model scope b js
        → AllInOrder is → AllInOrder js → In i is → In j js → i.kind ≡ on xs → j.kind ≡ on ys → joins gates xs ys ≡ true → channels x ≡ union xs ys
        → Does model scope (join_on scope gates (channels x) xs ys i j) (act x)
        → Step model scope (par gates a b) (act x) (fill (values x) (join_on scope gates (channels x) xs ys i j).rest)
    join_act x xs ys i j is js sa sb oa ob hi hj ki kj jn c d =
        let f = filled (values x) in
        let gi = put_all (among scope (channels x) xs) i.guards in
        let gj = put_all (among scope (channels x) ys) j.guards in
        let both = subst (Hold model.defs) (put_all-append f gi gj) d.holds in
        let wx : Within xs (channels x) = subst (Within xs) (sym c) (within_left xs ys) in
        let wy : Within ys (channels x) = subst (Within ys) (sym c) (within_right xs ys) in
        let di = part_does x xs i ki (subst InOrder ki (oa i hi)) d.typed.typed wx (Hold_front model.defs (put_all f gi) (put_all f gj) both) in
        let dj = part_does x ys j kj (subst InOrder kj (ob j hj)) d.typed.typed wy (Hold_back model.defs (put_all f gi) (put_all f gj) both) in
        let s = joined {gates = gates} x xs ys jn c d.typed (sa i (act (part_of x xs)) hi di) (sb j (act (part_of x ys)) hj dj) in
        let ri = part_rest x xs i.rest d.typed.typed wx in
        let rj = part_rest x ys j.rest d.typed.typed wy in
        let r : par gates (fill (values (part_of x xs)) i.rest) (fill (values (part_of x ys)) j.rest)
        ≡ fill (values x) (join_on scope gates (channels x) xs ys i j).rest = cc in
        subst (λ t. Step model scope (par gates a b) (act x) t) r s

    join_by : (xs ys : Channels) (i j : Item) (is js : List Item) → IsSound model scope a is → IsSound model scope b js
        → AllInOrder is → AllInOrder js → In i is → In j js → i.kind ≡ on xs → j.kind ≡ on ys → joins gates xs ys ≡ true
        → (l : Label) → Does model scope (join_on scope gates (union xs ys) xs ys i j) l
        → Step model scope (par gates a b) l (fill (given l) (join_on scope gates (union xs ys) xs ys i j).rest)
    join_by xs ys i j is js sa sb oa ob hi hj ki kj jn (act x) d =
        let c : channels x ≡ union xs ys = (let k = d.kind in cc) in
        subst (λ cs. Step model scope (par gates a b) (act x) (fill (values x) (join_on scope gates cs xs ys i j).rest)) c
        (join_act x xs ys i j is js sa sb oa ob hi hj ki kj jn c (subst (λ cs. Does model scope (join_on scope gates cs xs ys i j) (act x)) (sym c) d))
    join_by xs ys i j is js sa sb oa ob hi hj ki kj jn inner d = let k = d.kind in cc
    join_by xs ys i j is js sa sb oa ob hi hj ki kj jn (ends vs) d = let k = d.kind in cc

    ends_by : (vs : List Value) (i j : Item) (is js : List Item) → IsSound model scope a is → IsSound model scope b js
        → In i is → In j js → i.kind ≡ ending vs → j.kind ≡ ending vs
        → (l : Label) → Does model scope (join_ends vs i j) l → Step model scope (par gates a b) l (fill (given l) stop)
    ends_by vs i j is js sa sb hi hj ki kj (act x) d = let k = d.kind in cc
    ends_by vs i j is js sa sb hi hj ki kj inner d = let k = d.kind in cc
    ends_by vs i j is js sa sb hi hj ki kj (ends ws) d =
        let k = d.kind in
        let both = subst (Hold model.defs) (put_all-append (filled []) i.guards j.guards) d.holds in
        let di : Does model scope i (ends ws) = record { kind = k ∙ sym ki; typed = tt; holds = Hold_front model.defs (put_all (filled []) i.guards) (put_all (filled []) j.guards) both } in
        let dj : Does model scope j (ends ws) = record { kind = k ∙ sym kj; typed = tt; holds = Hold_back model.defs (put_all (filled []) i.guards) (put_all (filled []) j.guards) both } in
        both_end (sa i (ends ws) hi di) (sb j (ends ws) hj dj)

    join_sound : (is js : List Item) → IsSound model scope a is → IsSound model scope b js → AllInOrder is → AllInOrder js
        → IsSound model scope (par gates a b) (gather (λ i. gather (join scope gates i) js) is)
    join_sound is js sa sb oa ob z l h d =
        let p = In-gather (λ i. gather (join scope gates i) js) z is h in
        let q = In-gather (join scope gates p.0) z js p.2 in
        let i = p.0 in let j = q.0 in
        elim (In-join scope gates i.kind j.kind i j z q.2) [
          | inl c ↦ subst (λ x. Step model scope (par gates a b) l (fill (given l) x.rest)) (sym c.is)
              (join_by c.xs c.ys i j is js sa sb oa ob p.1 q.1 c.left c.right c.joins' l (subst (λ x. Does model scope x l) c.is d))
          | inr c ↦ subst (λ x. Step model scope (par gates a b) l (fill (given l) x.rest)) (sym c.is)
              (ends_by c.vs i j is js sa sb p.1 q.1 c.left c.right l (subst (λ x. Does model scope x l) c.is d))
        ]

    -- ---- every step is such an item

    found_at : (x : Action) (xs ys : Channels) (i j : Item) (a' b' : Term) → channels x ≡ union xs ys → IsAction model.defs.table scope x
        → Does model scope i (act (part_of x xs)) → Does model scope j (act (part_of x ys))
        → fill (values (part_of x xs)) i.rest ≡ a' → fill (values (part_of x ys)) j.rest ≡ b'
        → Does model scope (join_on scope gates (channels x) xs ys i j) (act x)
        × (fill (values x) (join_on scope gates (channels x) xs ys i j).rest ≡ par gates a' b')
    found_at x xs ys i j a' b' c ok di dj ri rj =
        let ty = ok.typed in
        let f = filled (values x) in
        let gi = put_all (among scope (channels x) xs) i.guards in
        let gj = put_all (among scope (channels x) ys) j.guards in
        let wx : Within xs (channels x) = subst (Within xs) (sym c) (within_left xs ys) in
        let wy : Within ys (channels x) = subst (Within ys) (sym c) (within_right xs ys) in
        let hi = holds_part x xs i.guards ty wx di.holds in
        let hj = holds_part x ys j.guards ty wy dj.holds in
        let both = Hold-append model.defs (put_all f gi) (put_all f gj) hi hj in
        let pi = part_rest x xs i.rest ty wx in
        let pj = part_rest x ys j.rest ty wy in
        (record { kind = refl; typed = ok; holds = subst (Hold model.defs) (sym (put_all-append f gi gj)) both }, cc)

    found_joined : (x : Action) (xs ys : Channels) (is js : List Item) (a' b' : Term) → joins gates xs ys ≡ true → channels x ≡ union xs ys
        → IsAction model.defs.table scope x → Found model scope is (act (part_of x xs)) a' → Found model scope js (act (part_of x ys)) b'
        → Found model scope (gather (λ i. gather (join scope gates i) js) is) (act x) (par gates a' b')
    found_joined x xs ys is js a' b' jn c ty fi fj =
        let i = fi.item in let j = fj.item in
        let ki : on xs ≡ i.kind = ap on (sym (channels_part x xs)) ∙ fi.does.kind in
        let kj : on ys ≡ j.kind = ap on (sym (channels_part x ys)) ∙ fj.does.kind in
        let z = join_on scope gates (union xs ys) xs ys i j in
        let at_pair = In_joined scope gates xs ys i j (joins gates xs ys) jn in
        let at_left = subst (λ k. In z (join_kinds scope gates k (on ys) i j)) ki at_pair in
        let at_both = subst (λ k. In z (join_kinds scope gates i.kind k i j)) kj at_left in
        let w = found_at x xs ys i j a' b' c ty fi.does fj.does fi.rest fj.rest in
        record {
          item = z;
          listed = In_gathered (λ i. gather (join scope gates i) js) z i is fi.listed (In_gathered (join scope gates i) z j js fj.listed at_both);
          does = subst (λ cs. Does model scope (join_on scope gates cs xs ys i j) (act x)) c w.0;
          rest = subst (λ cs. fill (values x) (join_on scope gates cs xs ys i j).rest ≡ par gates a' b') c w.1;
        }

    found_ended : (vs : List Value) (is js : List Item) (a' b' : Term) → Found model scope is (ends vs) a' → Found model scope js (ends vs) b'
        → Found model scope (gather (λ i. gather (join scope gates i) js) is) (ends vs) stop
    found_ended vs is js a' b' fi fj =
        let i = fi.item in let j = fj.item in
        let z = join_ends vs i j in
        let at_pair : In z (join_kinds scope gates (ending vs) (ending vs) i j) = In_ended vs i j (same_values vs vs) (same_values_refl vs) in
        let at_left = subst (λ k. In z (join_kinds scope gates k (ending vs) i j)) fi.does.kind at_pair in
        let at_both = subst (λ k. In z (join_kinds scope gates i.kind k i j)) fj.does.kind at_left in
        let both = Hold-append model.defs (put_all (filled []) i.guards) (put_all (filled []) j.guards) fi.does.holds fj.does.holds in
        record {
          item = z;
          listed = In_gathered (λ i. gather (join scope gates i) js) z i is fi.listed (In_gathered (join scope gates i) z j js fj.listed at_both);
          does = record { kind = refl; typed = tt; holds = subst (Hold model.defs) (sym (put_all-append (filled []) i.guards j.guards)) both };
          rest = refl;
        }

    par_complete : (is js : List Item) → IsComplete model scope a is → IsComplete model scope b js
        → IsComplete model scope (par gates a b) (par_items scope gates a b is js)
    par_complete is js ca cb l t' (left_alone {a' = a'} {x = x} g s) = found_front model scope _ _ l t' (found_left model scope gates a b is (act x) a' g (ca (act x) a' s))
    par_complete is js ca cb l t' (right_alone {b' = b'} {x = x} g s) =
        found_back model scope _ _ l t' (found_front model scope _ _ l t' (found_right model scope gates a b js (act x) b' g (cb (act x) b' s)))
    par_complete is js ca cb l t' (left_inner {a' = a'} s) = found_front model scope _ _ l t' (found_left model scope gates a b is inner a' refl (ca inner a' s))
    par_complete is js ca cb l t' (right_inner {b' = b'} s) =
        found_back model scope _ _ l t' (found_front model scope _ _ l t' (found_right model scope gates a b js inner b' refl (cb inner b' s)))
    par_complete is js ca cb l t' (joined {a' = a'} {b' = b'} x xs ys jn c ty sa sb) =
        found_back model scope _ _ l t' (found_back model scope _ _ l t' (found_joined x xs ys is js a' b' jn c ty (ca (act (part_of x xs)) a' sa) (cb (act (part_of x ys)) b' sb)))
    par_complete is js ca cb l t' (both_end {a' = a'} {b' = b'} {vs = vs} sa sb) =
        found_back model scope _ _ l t' (found_back model scope _ _ l t' (found_ended vs is js a' b' (ca (ends vs) a' sa) (cb (ends vs) b' sb)))

    par_sound : (is js : List Item) → IsSound model scope a is → IsSound model scope b js → AllInOrder is → AllInOrder js
        → IsSound model scope (par gates a b) (par_items scope gates a b is js)
    par_sound is js sa sb oa ob z l h d =
        elim (In-append z (gather (alone gates (left_of scope gates b)) is) _ h) [
          | inl p ↦ left_sound model scope gates a b is sa z l p d
          | inr p ↦ elim (In-append z (gather (alone gates (right_of scope gates a)) js) _ p)
              [ inl q ↦ right_sound model scope gates a b js sb z l q d | inr q ↦ join_sound is js sa sb oa ob z l q d ]
        ]

    order_by : (k k' : Kind) (i j z : Item) → InOrder k' → Joined scope gates k k' i j z ⊎ Ended k k' i j z → InOrder z.kind
    order_by k k' i j z o (inl c) =
        let p = subst InOrder c.right o in
        subst (λ x. InOrder x.kind) (sym c.is) (ascending_union c.xs c.ys p.0, some_union c.xs c.ys p.1)
    order_by k k' i j z o (inr c) = subst (λ x. InOrder x.kind) (sym c.is) tt

    join_order : (is js : List Item) → AllInOrder is → AllInOrder js → AllInOrder (gather (λ i. gather (join scope gates i) js) is)
    join_order is js oa ob z h =
        let p = In-gather (λ i. gather (join scope gates i) js) z is h in
        let q = In-gather (join scope gates p.0) z js p.2 in
        order_by p.0.kind q.0.kind p.0 q.0 z (ob q.0 q.1) (In-join scope gates p.0.kind q.0.kind p.0 q.0 z q.2)

    pub par_means : (is js : List Item) → Means model scope a is → Means model scope b js
        → Means model scope (par gates a b) (par_items scope gates a b is js)
    par_means is js ma mb = (
      par_sound is js ma.0 mb.0 ma.2 mb.2,
      par_complete is js ma.1 mb.1,
      more_items _ _ (alone_order model scope gates (left_of scope gates b) is ma.2)
          (more_items _ _ (alone_order model scope gates (right_of scope gates a) js mb.2) (join_order is js ma.2 mb.2)),
    )
