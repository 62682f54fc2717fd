-- The menu of an enable.
use Rattle.std.proofs.Common.{◌≡◌, List, [], map, refl, sym, ◌∙◌, subst}
use Rattle.txs_terms.specs.Action.{Label, act, inner, ends, channels, values, Scope}
use Rattle.txs_terms.specs.Term.{Term, enable, fill, Name}
use Rattle.txs_terms.specs.Rules.{In, Model, Step, before, before_inner, passes}
use Rattle.txs_terms.specs.Menu.{Kind, on, within, ending, Item, pass_kind, pass}
use Rattle.txs_laws.specs.Menus.{kind_of, given, Does, IsSound, Found, IsComplete}
use Rattle.txs_laws.proofs.rules.Put.{put_slots_term}
use Rattle.txs_laws.proofs.rules.Lists.{In-map, In_mapped}
use Rattle.txs_laws.proofs.rules.Parallel.{fill_by}
use Rattle.txs_laws.proofs.rules.Sequential.{Means, InOrder, AllInOrder}

module _ (model : Model) (scope : Scope) (a : Term) (xs : List Name) (b : Term) where
  go_on : (k : Kind) (i : Item) (l : Label) (is : List Item) → IsSound model scope a is → In i is → i.kind ≡ k
      → Does model scope (pass_kind scope xs b k i) l → Step model scope (enable a xs b) l (fill (given l) (pass_kind scope xs b k i).rest)
  go_on (on cs) i (act x) is sa h e d =
      let di : Does model scope i (act x) = record { kind = d.kind ∙ sym e; typed = d.typed; holds = d.holds } in
      let r = fill_by model.defs.table scope (act x) (on cs) d.kind d.typed b in
      subst (λ t. Step model scope (enable a xs b) (act x) (enable (fill (values x) i.rest) xs t)) (sym r) (before (sa i (act x) h di))
  go_on (on cs) i inner is sa h e d = let k = d.kind in cc
  go_on (on cs) i (ends vs) is sa h e d = let k = d.kind in cc
  go_on within i (act x) is sa h e d = let k = d.kind in cc
  go_on within i inner is sa h e d =
      let di : Does model scope i inner = record { kind = d.kind ∙ sym e; typed = d.typed; holds = d.holds } in
      let r = fill_by model.defs.table scope inner within d.kind d.typed b in
      subst (λ t. Step model scope (enable a xs b) inner (enable (fill [] i.rest) xs t)) (sym r) (before_inner (sa i inner h di))
  go_on within i (ends vs) is sa h e d = let k = d.kind in cc
  go_on (ending vs) i (act x) is sa h e d = let k = d.kind in cc
  go_on (ending vs) i inner is sa h e d =
      let di : Does model scope i (ends vs) = record { kind = sym e; typed = tt; holds = d.holds } in
      subst (λ t. Step model scope (enable a xs b) inner t) (sym (put_slots_term (fill vs b))) (passes vs (sa i (ends vs) h di))
  go_on (ending vs) i (ends ws) is sa h e d = let k = d.kind in cc

  enable_sound : (is : List Item) → IsSound model scope a is → IsSound model scope (enable a xs b) (map (pass scope xs b) is)
  enable_sound is sa z l h d =
      let p = In-map (pass scope xs b) z is h in
      let i = p.0 in
      subst (λ x. Step model scope (enable a xs b) l (fill (given l) x.rest)) (sym p.2)
      (go_on i.kind i l is sa p.1 refl (subst (λ x. Does model scope x l) p.2 d))

  -- the item of a step of the left side, where its kind is known
  found_by : (is : List Item) (l l' : Label) (a' t' : Term) (f : Found model scope is l a') → (k : Kind) → kind_of l ≡ k
      → Does model scope (pass_kind scope xs b k f.item) l' → fill (given l') (pass_kind scope xs b k f.item).rest ≡ t'
      → Found model scope (map (pass scope xs b) is) l' t'
  found_by is l l' a' t' f k e d r =
      let q : f.item.kind ≡ k = sym f.does.kind ∙ e in
      record {
        item = pass scope xs b f.item;
        listed = In_mapped (pass scope xs b) f.item is f.listed;
        does = subst (λ k. Does model scope (pass_kind scope xs b k f.item) l') (sym q) d;
        rest = subst (λ k. fill (given l') (pass_kind scope xs b k f.item).rest ≡ t') (sym q) r;
      }

  enable_complete : (is : List Item) → IsComplete model scope a is → IsComplete model scope (enable a xs b) (map (pass scope xs b) is)
  enable_complete is ca l t' (before {a' = a'} {x = x} s) =
      let f = ca (act x) a' s in
      let r = fill_by model.defs.table scope (act x) (on (channels x)) refl f.does.typed b in
      let q = f.rest in
      found_by is (act x) (act x) a' t' f (on (channels x)) refl (record { kind = refl; typed = f.does.typed; holds = f.does.holds }) (cc)
  enable_complete is ca l t' (before_inner {a' = a'} s) =
      let f = ca inner a' s in
      let r = fill_by model.defs.table scope inner within refl tt b in
      let q = f.rest in
      found_by is inner inner a' t' f within refl (record { kind = refl; typed = tt; holds = f.does.holds }) (cc)
  enable_complete is ca l t' (passes {a' = a'} vs s) =
      let f = ca (ends vs) a' s in
      found_by is (ends vs) inner a' t' f (ending vs) refl (record { kind = refl; typed = tt; holds = f.does.holds }) (put_slots_term (fill vs b))

  passed_order : (k : Kind) (i : Item) → InOrder k → InOrder (pass_kind scope xs b k i).kind
  passed_order (on cs) i o = o
  passed_order within i o = tt
  passed_order (ending vs) i o = tt

  enable_order : (is : List Item) → AllInOrder is → AllInOrder (map (pass scope xs b) is)
  enable_order is o z h =
      let p = In-map (pass scope xs b) z is h in
      subst (λ x. InOrder x.kind) (sym p.2) (passed_order p.0.kind p.0 (o p.0 p.1))

  pub enable_means : (is : List Item) → Means model scope a is → Means model scope (enable a xs b) (map (pass scope xs b) is)
  enable_means is m = (enable_sound is m.0, enable_complete is m.1, enable_order is m.2)
