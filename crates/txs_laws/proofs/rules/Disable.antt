-- The menus of a disable and of an interrupt.
use Rattle.std.proofs.Common.{◌≡◌, inl, inr, List, [], ◌++◌, map, refl, sym, ap, ◌∙◌, subst}
use Rattle.txs_values.specs.Value.{Value}
use Rattle.txs_terms.specs.Action.{Label, act, inner, ends, channels, values, Scope}
use Rattle.txs_terms.specs.Term.{Term, stop, enable, disable, interrupt, fill}
use Rattle.txs_terms.specs.Rules.{In, Model, Step, left_goes_on, left_inner_on, left_ends, takes_over, undisturbed, undisturbed_inner, undisturbed_ends, interrupts, interrupts_inner, returns}
use Rattle.txs_terms.specs.Menu.{Kind, on, within, ending, Item, beside, wrap_kind, disabled, interrupted, back_kind, back_to}
use Rattle.txs_laws.specs.Menus.{kind_of, given, Does, IsSound, Found, IsComplete}
use Rattle.txs_laws.proofs.rules.Put.{put_slots_term}
use Rattle.txs_laws.proofs.rules.Lists.{In-map, In_mapped, In-append}
use Rattle.txs_laws.proofs.rules.Parallel.{fill_by}
use Rattle.txs_laws.proofs.rules.Sequential.{Means, InOrder, AllInOrder, more_items, found_front, found_back}

module _ (model : Model) (scope : Scope) where
  -- items that are made from those of one side, each by its kind
  mapped_order : (f : Item → Item) (is : List Item) → ((i : Item) → InOrder i.kind → InOrder (f i).kind) → AllInOrder is → AllInOrder (map f is)
  mapped_order f is k o z h = let p = In-map f z is h in subst (λ x. InOrder x.kind) (sym p.2) (k p.0 (o p.0 p.1))

  mapped_sound : (t : Term) (f : Item → Item) (is : List Item) → ((i : Item) (l : Label) → In i is → Does model scope (f i) l → Step model scope t l (fill (given l) (f i).rest))
      → IsSound model scope t (map f is)
  mapped_sound t f is k z l h d =
      let p = In-map f z is h in
      subst (λ x. Step model scope t l (fill (given l) x.rest)) (sym p.2) (k p.0 l p.1 (subst (λ x. Does model scope x l) p.2 d))

  wrap_order : (wrap : Term → Term) (k : Kind) (i : Item) → InOrder k → InOrder (wrap_kind scope wrap k i).kind
  wrap_order wrap (on cs) i o = o
  wrap_order wrap within i o = tt
  wrap_order wrap (ending vs) i o = tt

  -- a step of one side, under a term that keeps the other beside it
  module _ (a : Term) (is : List Item) (whole : Term) (under : Kind → Term → Term) (over : Term → Term)
      (goes : (l : Label) (a' : Term) → ((vs : List Value) → l ≡ ends vs → ⊥) → Step model scope a l a' → Step model scope whole l (over a'))
      (stops : (vs : List Value) (a' : Term) → Step model scope a (ends vs) a' → Step model scope whole (ends vs) stop)
      (filled_under : (l : Label) (k : Kind) → kind_of l ≡ k → (i : Item) → Does model scope i l → fill (given l) (under k i.rest) ≡ over (fill (given l) i.rest)) where
    wrap_sound : IsSound model scope a is → (k : Kind) (i : Item) (l : Label) → In i is → i.kind ≡ k
        → Does model scope (wrap_kind scope (under k) k i) l → Step model scope whole l (fill (given l) (wrap_kind scope (under k) k i).rest)
    wrap_sound sa (on cs) i (act x) h e d =
        let di : Does model scope i (act x) = record { kind = d.kind ∙ sym e; typed = d.typed; holds = d.holds } in
        subst (λ t. Step model scope whole (act x) t) (sym (filled_under (act x) (on cs) d.kind i di)) (goes (act x) _ (λ vs q. cc) (sa i (act x) h di))
    wrap_sound sa (on cs) i inner h e d = let k = d.kind in cc
    wrap_sound sa (on cs) i (ends vs) h e d = let k = d.kind in cc
    wrap_sound sa within i (act x) h e d = let k = d.kind in cc
    wrap_sound sa within i inner h e d =
        let di : Does model scope i inner = record { kind = d.kind ∙ sym e; typed = d.typed; holds = d.holds } in
        subst (λ t. Step model scope whole inner t) (sym (filled_under inner within d.kind i di)) (goes inner _ (λ vs q. cc) (sa i inner h di))
    wrap_sound sa within i (ends vs) h e d = let k = d.kind in cc
    wrap_sound sa (ending vs) i (act x) h e d = let k = d.kind in cc
    wrap_sound sa (ending vs) i inner h e d = let k = d.kind in cc
    wrap_sound sa (ending vs) i (ends ws) h e d =
        let di : Does model scope i (ends ws) = record { kind = d.kind ∙ sym e; typed = tt; holds = d.holds } in
        stops ws _ (sa i (ends ws) h di)

    found_on : (l : Label) (a' : Term) (k : Kind) → kind_of l ≡ k → ((vs : List Value) → l ≡ ends vs → ⊥) → (f : Found model scope is l a')
        → Does model scope (wrap_kind scope (under k) k f.item) l × (fill (given l) (wrap_kind scope (under k) k f.item).rest ≡ over a')
    found_on (act x) a' (on cs) e n f =
        (record { kind = e; typed = f.does.typed; holds = f.does.holds }, filled_under (act x) (on cs) e f.item f.does ∙ ap over f.rest)
    found_on (act x) a' within e n f = cc
    found_on (act x) a' (ending vs) e n f = cc
    found_on inner a' (on cs) e n f = cc
    found_on inner a' within e n f =
        (record { kind = e; typed = tt; holds = f.does.holds }, filled_under inner within e f.item f.does ∙ ap over f.rest)
    found_on inner a' (ending vs) e n f = cc
    found_on (ends vs) a' k e n f = absurd (n vs refl)

    found_stop : (vs : List Value) (a' : Term) (k : Kind) → ending vs ≡ k → (f : Found model scope is (ends vs) a')
        → Does model scope (wrap_kind scope (under k) k f.item) (ends vs) × (fill [] (wrap_kind scope (under k) k f.item).rest ≡ stop)
    found_stop vs a' (on cs) e f = cc
    found_stop vs a' within e f = cc
    found_stop vs a' (ending ws) e f = (record { kind = e; typed = tt; holds = f.does.holds }, refl)

    pub wrap_items_sound : IsSound model scope a is → IsSound model scope whole (map (λ i. wrap_kind scope (under i.kind) i.kind i) is)
    wrap_items_sound sa = mapped_sound whole (λ i. wrap_kind scope (under i.kind) i.kind i) is (λ i l h d. wrap_sound sa i.kind i l h refl d)

    pub wrap_items_order : AllInOrder is → AllInOrder (map (λ i. wrap_kind scope (under i.kind) i.kind i) is)
    wrap_items_order o = mapped_order (λ i. wrap_kind scope (under i.kind) i.kind i) is (λ i q. wrap_order (under i.kind) i.kind i q) o

    pub wrap_found : (l : Label) (a' : Term) → ((vs : List Value) → l ≡ ends vs → ⊥) → Found model scope is l a'
        → Found model scope (map (λ i. wrap_kind scope (under i.kind) i.kind i) is) l (over a')
    wrap_found l a' n f =
        let p = found_on l a' f.item.kind f.does.kind n f in
        record { item = _; listed = In_mapped (λ i. wrap_kind scope (under i.kind) i.kind i) f.item is f.listed; does = p.0; rest = p.1 }

    pub wrap_stopped : (vs : List Value) (a' : Term) → Found model scope is (ends vs) a'
        → Found model scope (map (λ i. wrap_kind scope (under i.kind) i.kind i) is) (ends vs) stop
    wrap_stopped vs a' f =
        let p = found_stop vs a' f.item.kind f.does.kind f in
        record { item = _; listed = In_mapped (λ i. wrap_kind scope (under i.kind) i.kind i) f.item is f.listed; does = p.0; rest = p.1 }

  -- ---- disable

  module _ (a b : Term) where
    abbrev under_disable : Kind → Term → Term
    under_disable k t = disable t (beside scope k b)

    goes_disable : (l : Label) (a' : Term) → ((vs : List Value) → l ≡ ends vs → ⊥) → Step model scope a l a' → Step model scope (disable a b) l (disable a' b)
    goes_disable (act x) a' n s = left_goes_on s
    goes_disable inner a' n s = left_inner_on s
    goes_disable (ends vs) a' n s = absurd (n vs refl)

    stops_disable : (vs : List Value) (a' : Term) → Step model scope a (ends vs) a' → Step model scope (disable a b) (ends vs) stop
    stops_disable vs a' s = left_ends s

    filled_disable : (l : Label) (k : Kind) → kind_of l ≡ k → (i : Item) → Does model scope i l
        → fill (given l) (under_disable k i.rest) ≡ disable (fill (given l) i.rest) b
    filled_disable l k e i d = let r = fill_by model.defs.table scope l k e d.typed b in cc

    disable_complete : (is js : List Item) → IsComplete model scope a is → IsComplete model scope b js
        → IsComplete model scope (disable a b) (map (disabled scope b) is ++ js)
    disable_complete is js ca cb l t' (left_goes_on {a' = a'} {x = x} s) =
        found_front model scope _ js l t' (wrap_found a is (disable a b) under_disable (λ t. disable t b) goes_disable stops_disable filled_disable (act x) a' (λ vs q. cc) (ca (act x) a' s))
    disable_complete is js ca cb l t' (left_inner_on {a' = a'} s) =
        found_front model scope _ js l t' (wrap_found a is (disable a b) under_disable (λ t. disable t b) goes_disable stops_disable filled_disable inner a' (λ vs q. cc) (ca inner a' s))
    disable_complete is js ca cb l t' (left_ends {a' = a'} {vs = vs} s) =
        found_front model scope _ js l t' (wrap_stopped a is (disable a b) under_disable (λ t. disable t b) goes_disable stops_disable filled_disable vs a' (ca (ends vs) a' s))
    disable_complete is js ca cb l t' (takes_over s) = found_back model scope _ js l t' (cb l t' s)

    disable_sound : (is js : List Item) → IsSound model scope a is → IsSound model scope b js
        → IsSound model scope (disable a b) (map (disabled scope b) is ++ js)
    disable_sound is js sa sb z l h d =
        elim (In-append z (map (disabled scope b) is) js h) [
          | inl p ↦ wrap_items_sound a is (disable a b) under_disable (λ t. disable t b) goes_disable stops_disable filled_disable sa z l p d
          | inr p ↦ takes_over (sb z l p d)
        ]

    pub disable_means : (is js : List Item) → Means model scope a is → Means model scope b js
        → Means model scope (disable a b) (map (disabled scope b) is ++ js)
    disable_means is js ma mb = (
      disable_sound is js ma.0 mb.0,
      disable_complete is js ma.1 mb.1,
      more_items _ js (wrap_items_order a is (disable a b) under_disable (λ t. disable t b) goes_disable stops_disable filled_disable ma.2) mb.2,
    )

    -- ---- interrupt

    abbrev under_interrupt : Kind → Term → Term
    under_interrupt k t = interrupt t (beside scope k b)

    goes_interrupt : (l : Label) (a' : Term) → ((vs : List Value) → l ≡ ends vs → ⊥) → Step model scope a l a' → Step model scope (interrupt a b) l (interrupt a' b)
    goes_interrupt (act x) a' n s = undisturbed s
    goes_interrupt inner a' n s = undisturbed_inner s
    goes_interrupt (ends vs) a' n s = absurd (n vs refl)

    stops_interrupt : (vs : List Value) (a' : Term) → Step model scope a (ends vs) a' → Step model scope (interrupt a b) (ends vs) stop
    stops_interrupt vs a' s = undisturbed_ends s

    filled_interrupt : (l : Label) (k : Kind) → kind_of l ≡ k → (i : Item) → Does model scope i l
        → fill (given l) (under_interrupt k i.rest) ≡ interrupt (fill (given l) i.rest) b
    filled_interrupt l k e i d = let r = fill_by model.defs.table scope l k e d.typed b in cc

    back_sound : (k : Kind) (i : Item) (l : Label) (js : List Item) → IsSound model scope b js → In i js → i.kind ≡ k
        → Does model scope (back_kind scope (interrupt a b) k i) l → Step model scope (interrupt a b) l (fill (given l) (back_kind scope (interrupt a b) k i).rest)
    back_sound (on cs) i (act x) js sb h e d =
        let di : Does model scope i (act x) = record { kind = d.kind ∙ sym e; typed = d.typed; holds = d.holds } in
        let r = fill_by model.defs.table scope (act x) (on cs) d.kind d.typed (interrupt a b) in
        subst (λ t. Step model scope (interrupt a b) (act x) (enable (fill (values x) i.rest) [] t)) (sym r) (interrupts (sb i (act x) h di))
    back_sound (on cs) i inner js sb h e d = let k = d.kind in cc
    back_sound (on cs) i (ends vs) js sb h e d = let k = d.kind in cc
    back_sound within i (act x) js sb h e d = let k = d.kind in cc
    back_sound within i inner js sb h e d =
        let di : Does model scope i inner = record { kind = d.kind ∙ sym e; typed = d.typed; holds = d.holds } in
        let r = fill_by model.defs.table scope inner within d.kind d.typed (interrupt a b) in
        subst (λ t. Step model scope (interrupt a b) inner (enable (fill [] i.rest) [] t)) (sym r) (interrupts_inner (sb i inner h di))
    back_sound within i (ends vs) js sb h e d = let k = d.kind in cc
    back_sound (ending vs) i (act x) js sb h e d = let k = d.kind in cc
    back_sound (ending vs) i inner js sb h e d =
        let di : Does model scope i (ends vs) = record { kind = sym e; typed = tt; holds = d.holds } in
        subst (λ t. Step model scope (interrupt a b) inner t) (sym (put_slots_term (interrupt a b))) (returns (sb i (ends vs) h di))
    back_sound (ending vs) i (ends ws) js sb h e d = let k = d.kind in cc

    back_order : (k : Kind) (i : Item) → InOrder k → InOrder (back_kind scope (interrupt a b) k i).kind
    back_order (on cs) i o = o
    back_order within i o = tt
    back_order (ending vs) i o = tt

    -- the item of a step of the right side, where its kind is known
    back_found : (js : List Item) (l l' : Label) (b' t' : Term) (f : Found model scope js l b') → (k : Kind) → kind_of l ≡ k
        → Does model scope (back_kind scope (interrupt a b) k f.item) l' → fill (given l') (back_kind scope (interrupt a b) k f.item).rest ≡ t'
        → Found model scope (map (back_to scope (interrupt a b)) js) l' t'
    back_found js l l' b' t' f k e d r =
        let q : f.item.kind ≡ k = sym f.does.kind ∙ e in
        record {
          item = back_to scope (interrupt a b) f.item;
          listed = In_mapped (back_to scope (interrupt a b)) f.item js f.listed;
          does = subst (λ k. Does model scope (back_kind scope (interrupt a b) k f.item) l') (sym q) d;
          rest = subst (λ k. fill (given l') (back_kind scope (interrupt a b) k f.item).rest ≡ t') (sym q) r;
        }

    interrupt_complete : (is js : List Item) → IsComplete model scope a is → IsComplete model scope b js
        → IsComplete model scope (interrupt a b) (map (interrupted scope b) is ++ map (back_to scope (interrupt a b)) js)
    interrupt_complete is js ca cb l t' (undisturbed {a' = a'} {x = x} s) =
        found_front model scope _ _ l t' (wrap_found a is (interrupt a b) under_interrupt (λ t. interrupt t b) goes_interrupt stops_interrupt filled_interrupt (act x) a' (λ vs q. cc) (ca (act x) a' s))
    interrupt_complete is js ca cb l t' (undisturbed_inner {a' = a'} s) =
        found_front model scope _ _ l t' (wrap_found a is (interrupt a b) under_interrupt (λ t. interrupt t b) goes_interrupt stops_interrupt filled_interrupt inner a' (λ vs q. cc) (ca inner a' s))
    interrupt_complete is js ca cb l t' (undisturbed_ends {a' = a'} {vs = vs} s) =
        found_front model scope _ _ l t' (wrap_stopped a is (interrupt a b) under_interrupt (λ t. interrupt t b) goes_interrupt stops_interrupt filled_interrupt vs a' (ca (ends vs) a' s))
    interrupt_complete is js ca cb l t' (interrupts {b' = b'} {x = x} s) =
        let f = cb (act x) b' s in
        let r = fill_by model.defs.table scope (act x) (on (channels x)) refl f.does.typed (interrupt a b) in
        let q = f.rest in
        found_back model scope _ _ l t' (back_found js (act x) (act x) b' t' f (on (channels x)) refl (record { kind = refl; typed = f.does.typed; holds = f.does.holds }) (cc))
    interrupt_complete is js ca cb l t' (interrupts_inner {b' = b'} s) =
        let f = cb inner b' s in
        let r = fill_by model.defs.table scope inner within refl tt (interrupt a b) in
        let q = f.rest in
        found_back model scope _ _ l t' (back_found js inner inner b' t' f within refl (record { kind = refl; typed = tt; holds = f.does.holds }) (cc))
    interrupt_complete is js ca cb l t' (returns {b' = b'} {vs = vs} s) =
        let f = cb (ends vs) b' s in
        found_back model scope _ _ l t' (back_found js (ends vs) inner b' t' f (ending vs) refl (record { kind = refl; typed = tt; holds = f.does.holds }) (put_slots_term (interrupt a b)))

    interrupt_sound : (is js : List Item) → IsSound model scope a is → IsSound model scope b js
        → IsSound model scope (interrupt a b) (map (interrupted scope b) is ++ map (back_to scope (interrupt a b)) js)
    interrupt_sound is js sa sb z l h d =
        elim (In-append z (map (interrupted scope b) is) _ h) [
          | inl p ↦ wrap_items_sound a is (interrupt a b) under_interrupt (λ t. interrupt t b) goes_interrupt stops_interrupt filled_interrupt sa z l p d
          | inr p ↦ mapped_sound (interrupt a b) (back_to scope (interrupt a b)) js (λ i m k x. back_sound i.kind i m js sb k refl x) z l p d
        ]

    pub interrupt_means : (is js : List Item) → Means model scope a is → Means model scope b js
        → Means model scope (interrupt a b) (map (interrupted scope b) is ++ map (back_to scope (interrupt a b)) js)
    interrupt_means is js ma mb = (
      interrupt_sound is js ma.0 mb.0,
      interrupt_complete is js ma.1 mb.1,
      more_items _ _ (wrap_items_order a is (interrupt a b) under_interrupt (λ t. interrupt t b) goes_interrupt stops_interrupt filled_interrupt ma.2)
          (mapped_order (back_to scope (interrupt a b)) js (λ i o. back_order i.kind i o) mb.2),
    )
