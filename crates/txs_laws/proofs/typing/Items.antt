-- The items of the walk of a well typed term are well typed.
use Rattle.std.specs.Prelude.{Option, Some, None, slice_get}
use Rattle.std.proofs.Common.{◌≡◌, ℕ, zero, suc, ◌+◌, Bool, true, false, cond, ltb, inl, inr, List, [], ◌∷◌, ◌++◌, map, length, refl, sym, ap, ◌∙◌, subst}
use Rattle.txs_values.specs.Value.{Ty, Table}
use Rattle.txs_terms.specs.Expr.{Expr, put_all}
use Rattle.txs_terms.specs.Eval.{Defs}
use Rattle.txs_terms.specs.Action.{Channels, Scope, types_on, types_over, in_order, Ascending}
use Rattle.txs_terms.specs.Term.{Offer, Term, stop, exits, prefix, step, guard, choice, par, enable, disable, interrupt, hide, call, bind, machine, hit, miss, put_term, fill, instance, channels_bound, Move, Automaton, move_term}
use Rattle.txs_terms.specs.Rules.{Model, In, HasMove, offered, visible}
use Rattle.txs_terms.specs.Typed.{Signatures, AreTyped, AllBelow, AreScope, OfTerm, IsTypedModel}
use Rattle.txs_terms.specs.Menu.{Kind, on, within, ending, Item, Verdict, holds, fails, faults, Walk, faulted, walked, wide, path_limit, walk_limit, channel_limit, then_walk, too_many, capped, where_holds, where_some, all_values, bound_values, places, width, par_items, pass, disabled, interrupted, back_to, closed_up, fix_all, Fixed, unable, fixed, with_slots, strip, shown_kind, Hidden, bad_item, left_with, strip_by, strip_fixed, loose_slots, hide_kind, and_hidden, hide_all, hidden_walk, body_walk, Walks, prefix_level, step_level, move_level, each_move, state_walk, machine_walk, level, walk, judge, without_slots, all_fixes}
use Rattle.txs_laws.proofs.typing.Sides.{sides_map, Sides}
use Rattle.txs_laws.specs.Items.{AreItemGuards, IsItem, AreItems, ItemsAreTyped}
use Rattle.txs_terms.proofs.typing.Lists.{same_some}
use Rattle.txs_laws.proofs.rules.Put.{then_put, put_put_term}
use Rattle.txs_terms.proofs.typing.Runs.{values_typed, bound_typed}
use Rattle.txs_laws.proofs.typing.Terms.{Carries, carries_here, put_term_typed, fill_typed, instance_typed, types_front}
use Rattle.txs_laws.proofs.typing.Channels.{within_kept, visible_below}
use Rattle.txs_laws.proofs.typing.Slots.{Points, points_places, width_types, no_guards, plain_guards}
use Rattle.txs_laws.proofs.typing.Fixing.{Settled, settled, closed_carries, closed_guards}
use Rattle.txs_laws.proofs.typing.Walks.{items_joined, items_map, IsItemOf, par_typed, pass_typed, disabled_typed, interrupted_typed, back_typed, prefix_typed}

-- ---- hide

types_shown : (scope hs : Scope) (cs : Channels) → AllBelow (length scope) cs → types_over (scope ++ hs) cs ≡ types_over scope cs
types_shown scope hs [] h = refl
types_shown scope hs (c ∷ cs) h =
    ap (λ l. l ++ types_over (scope ++ hs) cs) (types_front scope hs c h.0) ∙ ap (λ l. types_on scope c ++ l) (types_shown scope hs cs h.1)

module _ (defs : Defs) (signatures : Signatures) (typed : AreTyped defs signatures) (scope hs : Scope) (known : AreScope defs.table hs) (exit_types : List Ty) where
  abbrev IfItems : Hidden → Type 0
  IfItems (bad_item s) = Unit {0}
  IfItems (left_with is) = AreItems defs.table signatures scope exit_types is

  shown_typed : (shown : Channels) (gs : List Expr) (t : Term) → AllBelow (length scope) shown → AreItemGuards defs.table signatures (types_over scope shown) gs
      → OfTerm defs.table signatures (scope ++ hs) (types_over scope shown) exit_types t
      → IsItem defs.table signatures scope exit_types (shown_kind shown) gs (hide hs t)
  shown_typed [] gs t b g h = (no_guards defs.table signatures gs g, (known, h))
  shown_typed (c ∷ cs) gs t b g h = (b, g, (known, h))

  stripped : (cs : Channels) (i j : Item) → AreItemGuards defs.table signatures (types_over (scope ++ hs) cs) i.guards
      → OfTerm defs.table signatures (scope ++ hs) (types_over (scope ++ hs) cs) exit_types i.rest
      → Settled defs signatures typed (types_over (scope ++ hs) cs) (loose_slots (places (scope ++ hs) cs (visible (length scope) cs)) (width (scope ++ hs) cs)) i j
      → IsItemOf defs.table signatures scope exit_types
      (strip hs (visible (length scope) cs) (places (scope ++ hs) cs (visible (length scope) cs)) (width (scope ++ hs) cs) j)
  stripped cs i j g h s =
      let all : Scope = scope ++ hs in
      let shown : Channels = visible (length scope) cs in
      let below : AllBelow (length scope) shown = visible_below (length scope) cs in
      let slots : List Ty = types_over all cs in
      let others : List Ty = types_over scope shown in
      let ps : List ℕ = places all cs shown in
      let size : ℕ = width all cs in
      let same : types_over all shown ≡ others = types_shown scope hs shown below in
      let points : Points slots ps others = subst (Points slots ps) same (points_places all cs shown (within_kept (λ c. ltb c (length scope)) cs)) in
      let c : Carries defs.table signatures (then_put (closed_up ps size) s.0) slots others =
      closed_carries defs signatures typed slots others ps size points (width_types all cs) s.0 s.1 in
      shown_typed shown (put_all (closed_up ps size) (with_slots j.guards)) (put_term (closed_up ps size) j.rest) below
      (subst (λ x. AreItemGuards defs.table signatures others (put_all (closed_up ps size) (with_slots x))) (sym s.2)
      (closed_guards defs signatures typed slots others ps size points (width_types all cs) s.0
      (carries_here defs.table signatures (then_put (closed_up ps size) s.0) slots others c) i.guards (plain_guards defs.table signatures slots i.guards g)))
      (subst (λ x. OfTerm defs.table signatures all others exit_types (put_term (closed_up ps size) x)) (sym s.3)
      (subst (OfTerm defs.table signatures all others exit_types) (sym (put_put_term (closed_up ps size) s.0 i.rest))
      (put_term_typed defs.table signatures i.rest (then_put (closed_up ps size) s.0) all slots others exit_types c h)))

  by_verdict : (v : Verdict) (i : Item) → IsItemOf defs.table signatures scope exit_types i → IfItems (strip_by v i)
  by_verdict holds i h = (h, tt)
  by_verdict fails i h = tt
  by_verdict faults i h = tt

  if_fixed : (shown : Channels) (ps : List ℕ) (size : ℕ) (r : Fixed)
      → ((j : Item) → r ≡ fixed j → IsItemOf defs.table signatures scope exit_types (strip hs shown ps size j)) → IfItems (strip_fixed defs hs shown ps size r)
  if_fixed shown ps size (unable s) h = tt
  if_fixed shown ps size (fixed j) h = by_verdict (judge defs (without_slots j.guards)) (strip hs shown ps size j) (h j refl)

  hidden_kind : (k : Kind) (i : Item) → IsItem defs.table signatures (scope ++ hs) exit_types k i.guards i.rest → IfItems (hide_kind defs scope hs k i)
  hidden_kind (on cs) i h =
      let slots : List Ty = types_over (scope ++ hs) cs in
      let loose : List ℕ = loose_slots (places (scope ++ hs) cs (visible (length scope) cs)) (width (scope ++ hs) cs) in
      if_fixed (visible (length scope) cs) (places (scope ++ hs) cs (visible (length scope) cs)) (width (scope ++ hs) cs)
      (fix_all defs (length loose) loose i)
      (λ j e. stripped cs i j h.1 h.2 (settled defs signatures typed slots (length loose) loose i j (plain_guards defs.table signatures slots i.guards h.1) e))
  hidden_kind within i h = ((h.0, (known, h.1)), tt)
  hidden_kind (ending vs) i h = ((h.0, h.1, tt), tt)

  and_items : (x y : Hidden) → IfItems x → IfItems y → IfItems (and_hidden x y)
  and_items (bad_item s) y h k = tt
  and_items (left_with is) (bad_item s) h k = tt
  and_items (left_with is) (left_with js) h k = items_joined defs.table signatures scope exit_types is js h k

  pub hidden_items : (is : List Item) → AreItems defs.table signatures (scope ++ hs) exit_types is → IfItems (hide_all defs scope hs is)
  hidden_items [] h = tt
  hidden_items (i ∷ is) h = and_items (hide_kind defs scope hs i.kind i) (hide_all defs scope hs is) (hidden_kind i.kind i h.0) (hidden_items is h.1)

-- ---- the walk

module _ (table : Table) (signatures : Signatures) where
  abbrev WalksWell : Scope → List Ty → Walk → Type 0
  WalksWell scope exit_types (faulted s) = Unit {0}
  WalksWell scope exit_types (walked n is) = AreItems table signatures scope exit_types is

  then_well : (inside outside : Scope) (es exit_types : List Ty) (w : Walk) (go : ℕ → List Item → Walk) → WalksWell inside es w
      → ((n : ℕ) (is : List Item) → AreItems table signatures inside es is → WalksWell outside exit_types (go n is)) → WalksWell outside exit_types (then_walk w go)
  then_well inside outside es exit_types (faulted s) go h k = tt
  then_well inside outside es exit_types (walked n is) go h k = k n is h

  capped_well : (scope : Scope) (exit_types : List Ty) (n : ℕ) (is : List Item) → AreItems table signatures scope exit_types is → WalksWell scope exit_types (capped n is)
  capped_well scope exit_types n is h = by (too_many is)
    where
      by : (b : Bool) → WalksWell scope exit_types (cond b (faulted wide) (walked n is))
      by true = tt
      by false = h

  limited : (scope : Scope) (exit_types : List Ty) (b : Bool) (w : Walk) → WalksWell scope exit_types w → WalksWell scope exit_types (cond b w (faulted wide))
  limited scope exit_types true w h = h
  limited scope exit_types false w h = tt

  holds_well : (scope : Scope) (exit_types : List Ty) (v : Verdict) (n : ℕ) (w : Walk) → WalksWell scope exit_types w → WalksWell scope exit_types (where_holds v n w)
  holds_well scope exit_types holds n w h = h
  holds_well scope exit_types fails n w h = tt
  holds_well scope exit_types faults n w h = tt

  some_well : {A : Type 0} (scope : Scope) (exit_types : List Ty) (o : Option A) (go : A → Walk) → ((x : A) → o ≡ Some x → WalksWell scope exit_types (go x))
      → WalksWell scope exit_types (where_some o go)
  some_well scope exit_types None go h = tt
  some_well scope exit_types (Some x) go h = h x refl

  body_well : (scope : Scope) (exit_types : List Ty) (o : Option Term) (depth n : ℕ) (go : Term → Walk) → ((t : Term) → o ≡ Some t → WalksWell scope exit_types (go t))
      → WalksWell scope exit_types (body_walk o depth n go)
  body_well scope exit_types None depth n go h = tt
  body_well scope exit_types (Some t) depth n go h = by (ltb channel_limit (depth + channels_bound t))
    where
      by : (b : Bool) → WalksWell scope exit_types (cond b (faulted wide) (go t))
      by true = tt
      by false = h t refl

  hidden_well : (scope : Scope) (exit_types : List Ty) (n : ℕ) (x : Hidden) → ((is : List Item) → x ≡ left_with is → AreItems table signatures scope exit_types is)
      → WalksWell scope exit_types (hidden_walk n x)
  hidden_well scope exit_types n (bad_item s) h = tt
  hidden_well scope exit_types n (left_with is) h = h is refl

module _ (model : Model) (signatures : Signatures) (typed : IsTypedModel model signatures) where
  abbrev Well : Scope → List Ty → Walk → Type 0
  Well scope exit_types w = WalksWell model.defs.table signatures scope exit_types w

  abbrev IsOk : Scope → List Ty → Term → Type 0
  IsOk scope exit_types t = OfTerm model.defs.table signatures scope [] exit_types t

  prefix_well : (scope : Scope) (exit_types : List Ty) (os : List Offer) (gs : List Expr) (t : Term) (n : ℕ) → IsOk scope exit_types (prefix os gs t)
      → Well scope exit_types (prefix_level model scope os gs t n)
  prefix_well scope exit_types os gs t n h =
      some_well model.defs.table signatures scope exit_types (all_fixes model.defs scope (in_order (offered os)) os) _
      (λ fixes e. holds_well model.defs.table signatures scope exit_types (judge model.defs (without_slots gs)) n _
      (prefix_typed model.defs signatures typed.defs scope exit_types os gs t fixes h.0 h.1 h.2 e, tt))

  step_well : (scope : Scope) (exit_types : List Ty) (gs : List Expr) (t : Term) (n : ℕ) → IsOk scope exit_types (step gs t)
      → Well scope exit_types (step_level model gs t n)
  step_well scope exit_types gs t n h = holds_well model.defs.table signatures scope exit_types (judge model.defs gs) n _ ((refl, h.1), tt)

  move_well : (scope : Scope) (exit_types : List Ty) (t : Term) (n : ℕ) → IsOk scope exit_types t → Well scope exit_types (move_level model scope t n)
  move_well scope exit_types (prefix os gs t) n h = prefix_well scope exit_types os gs t n h
  move_well scope exit_types (step gs t) n h = step_well scope exit_types gs t n h
  move_well scope exit_types stop n h = tt
  move_well scope exit_types (exits es) n h = tt
  move_well scope exit_types (guard gs t) n h = tt
  move_well scope exit_types (choice a b) n h = tt
  move_well scope exit_types (par gates a b) n h = tt
  move_well scope exit_types (enable a xs b) n h = tt
  move_well scope exit_types (disable a b) n h = tt
  move_well scope exit_types (interrupt a b) n h = tt
  move_well scope exit_types (hide hs t) n h = tt
  move_well scope exit_types (call p cs es) n h = tt
  move_well scope exit_types (bind xs es t) n h = tt
  move_well scope exit_types (machine k cs es q) n h = tt
  move_well scope exit_types hit n h = tt
  move_well scope exit_types miss n h = tt

  joined_well : (scope : Scope) (exit_types : List Ty) (w : Walk) (next : ℕ → Walk) → Well scope exit_types w → ((n : ℕ) → Well scope exit_types (next n))
      → Well scope exit_types (then_walk w (λ m is. then_walk (next m) (λ k js. walked k (is ++ js))))
  joined_well scope exit_types w next h k =
      then_well model.defs.table signatures scope scope exit_types exit_types w _ h
      (λ m is p. then_well model.defs.table signatures scope scope exit_types exit_types (next m) _ (k m)
      (λ i js q. items_joined model.defs.table signatures scope exit_types is js p q))

  each_well : (scope : Scope) (exit_types : List Ty) (go : Move → Walk) (ms : List Move) (n : ℕ) → ((m : Move) → In m ms → Well scope exit_types (go m))
      → Well scope exit_types (each_move go ms n)
  each_well scope exit_types go [] n h = tt
  each_well scope exit_types go (m ∷ ms) n h =
      then_well model.defs.table signatures scope scope exit_types exit_types (go m) _ (h m (inl refl))
      (λ i is p. then_well model.defs.table signatures scope scope exit_types exit_types (each_move go ms n) _ (each_well scope exit_types go ms n (λ x k. h x (inr k)))
      (λ j js q. items_joined model.defs.table signatures scope exit_types is js p q))

  state_well : (scope : Scope) (exit_types : List Ty) (o : Option (List Move)) (n : ℕ) (go : Move → Walk)
      → ((ms : List Move) → o ≡ Some ms → (m : Move) → In m ms → Well scope exit_types (go m)) → Well scope exit_types (state_walk o n go)
  state_well scope exit_types None n go h = tt
  state_well scope exit_types (Some ms) n go h = each_well scope exit_types go ms n (h ms refl)

  machine_well : (scope : Scope) (exit_types : List Ty) (k q n : ℕ) (o : Option Automaton) (go : Channels → Move → Walk) → slice_get model.automata k ≡ o
      → ((formals : Channels) (m : Move) → HasMove model k q formals m → Well scope exit_types (go formals m)) → Well scope exit_types (machine_walk o q n go)
  machine_well scope exit_types k q n None go e h = tt
  machine_well scope exit_types k q n (Some a) go e h =
      state_well scope exit_types (slice_get a.states q) n (go a.formals)
      (λ ms f m i. h a.formals m (record { states = a.states; moves = ms; automaton = e; state = f; listed = i }))

  abbrev AllWell : Walks → Type 0
  AllWell go = (scope : Scope) (exit_types : List Ty) (t : Term) (n : ℕ) → IsOk scope exit_types t → Well scope exit_types (go scope t n)

  sides_well : (scope : Scope) (gates : Channels) → AllBelow (length scope) gates → Ascending gates → (exit_types : List Ty) (a b : Term) (is : List Item) (z : Walk)
      → Sides (λ ts. IsOk scope ts a × AreItems model.defs.table signatures scope ts is) (λ ts. IsOk scope ts b × Well scope ts z) exit_types
      → Well scope exit_types (then_walk z (λ k js. walked k (par_items scope gates a b is js)))
  sides_well scope gates l g exit_types a b is (faulted f) s = tt
  sides_well scope gates l g exit_types a b is (walked m js) s = par_typed model.defs.table signatures scope gates l g exit_types a b is js s

  par_well : (go : Walks) (scope : Scope) (gates : Channels) → AllBelow (length scope) gates → Ascending gates → (exit_types : List Ty) (a b : Term) (z : Walk)
      → Sides (λ ts. IsOk scope ts a × Well scope ts z) (λ ts. IsOk scope ts b × ((m : ℕ) → Well scope ts (go scope b m))) exit_types
      → Well scope exit_types (then_walk z (λ m is. then_walk (go scope b m) (λ k js. walked k (par_items scope gates a b is js))))
  par_well go scope gates l g exit_types a b (faulted f) s = tt
  par_well go scope gates l g exit_types a b (walked m is) s =
      sides_well scope gates l g exit_types a b is (go scope b m)
      (sides_map (λ ts. IsOk scope ts a × Well scope ts (walked m is)) (λ ts. IsOk scope ts b × ((n : ℕ) → Well scope ts (go scope b n)))
      (λ ts. IsOk scope ts a × AreItems model.defs.table signatures scope ts is) (λ ts. IsOk scope ts b × Well scope ts (go scope b m))
      (λ ts k. k) (λ ts k. (k.0, k.1 m)) exit_types s)

  level_well : (go : Walks) → AllWell go → AllWell (level model go)
  level_well go w scope exit_types stop n h = tt
  level_well go w scope exit_types (exits es) n h =
      some_well model.defs.table signatures scope exit_types (all_values model.defs es) _
      (λ vs e. ((refl, values_typed model.defs signatures typed.defs es exit_types h vs e, tt), tt))
  level_well go w scope exit_types (prefix os gs t) n h = prefix_well scope exit_types os gs t n h
  level_well go w scope exit_types (step gs t) n h = step_well scope exit_types gs t n h
  level_well go w scope exit_types (guard gs t) n h =
      holds_well model.defs.table signatures scope exit_types (judge model.defs gs) n (go scope t n) (w scope exit_types t n h.1)
  level_well go w scope exit_types (choice a b) n h =
      joined_well scope exit_types (go scope a n) (go scope b) (w scope exit_types a n h.0) (λ m. w scope exit_types b m h.1)
  level_well go w scope exit_types (par gates a b) n h =
      par_well go scope gates h.0 h.1 exit_types a b (go scope a n)
      (sides_map (λ ts. IsOk scope ts a) (λ ts. IsOk scope ts b)
      (λ ts. IsOk scope ts a × Well scope ts (go scope a n)) (λ ts. IsOk scope ts b × ((m : ℕ) → Well scope ts (go scope b m)))
      (λ ts k. (k, w scope ts a n k)) (λ ts k. (k, λ m. w scope ts b m k)) exit_types h.2)
  level_well go w scope exit_types (enable a xs b) n h =
      then_well model.defs.table signatures scope scope h.0 exit_types (go scope a n) _ (w scope h.0 a n h.2)
      (λ m is p. items_map model.defs.table signatures scope h.0 exit_types (pass scope xs b)
      (pass_typed model.defs.table signatures scope h.0 exit_types xs b h.1 h.3) is p)
  level_well go w scope exit_types (disable a b) n h =
      then_well model.defs.table signatures scope scope exit_types exit_types (go scope a n) _ (w scope exit_types a n h.0)
      (λ m is p. then_well model.defs.table signatures scope scope exit_types exit_types (go scope b m) _ (w scope exit_types b m h.1)
      (λ i js q. items_joined model.defs.table signatures scope exit_types (map (disabled scope b) is) js
      (items_map model.defs.table signatures scope exit_types exit_types (disabled scope b) (disabled_typed model.defs.table signatures scope exit_types b h.1) is p) q))
  level_well go w scope exit_types (interrupt a b) n h =
      then_well model.defs.table signatures scope scope exit_types exit_types (go scope a n) _ (w scope exit_types a n h.0)
      (λ m is p. then_well model.defs.table signatures scope scope [] exit_types (go scope b m) _ (w scope [] b m h.1)
      (λ i js q. items_joined model.defs.table signatures scope exit_types (map (interrupted scope b) is) (map (back_to scope (interrupt a b)) js)
      (items_map model.defs.table signatures scope exit_types exit_types (interrupted scope b) (interrupted_typed model.defs.table signatures scope exit_types b h.1) is p)
      (items_map model.defs.table signatures scope [] exit_types (back_to scope (interrupt a b)) (back_typed model.defs.table signatures scope exit_types (interrupt a b) h) js q)))
  level_well go w scope exit_types (hide hs t) n h =
      then_well model.defs.table signatures (scope ++ hs) scope exit_types exit_types (go (scope ++ hs) t n) _ (w (scope ++ hs) exit_types t n h.1)
      (λ m is p. hidden_well model.defs.table signatures scope exit_types m (hide_all model.defs scope hs is)
      (λ js e. subst (IfItems model.defs signatures typed.defs scope hs h.0 exit_types) e (hidden_items model.defs signatures typed.defs scope hs h.0 exit_types is p)))
  level_well go w scope exit_types (call p cs es) n h =
      let b = typed.bodies p h.0 h.1 in
      some_well model.defs.table signatures scope exit_types (all_values model.defs es) _
      (λ vs e. body_well model.defs.table signatures scope exit_types (slice_get model.bodies p) (length scope) n _
      (λ body f. w scope exit_types (instance cs vs (length scope) body) n
      (instance_typed model.defs.table signatures (h.0).formals scope (h.0).takes exit_types cs vs body h.2
      (values_typed model.defs signatures typed.defs es (h.0).takes h.3 vs e)
      (subst (OfTerm model.defs.table signatures (h.0).formals (h.0).takes exit_types) (same_some (sym b.1 ∙ f)) (b.2 exit_types h.4)))))
  level_well go w scope exit_types (bind xs es t) n h =
      some_well model.defs.table signatures scope exit_types (bound_values model.defs [] es) _
      (λ vs e. w scope exit_types (fill vs t) n
      (fill_typed model.defs.table signatures scope h.0 exit_types vs t (bound_typed model.defs signatures typed.defs es h.0 h.2 vs e) h.3))
  level_well go w scope exit_types (machine k cs es q) n h =
      some_well model.defs.table signatures scope exit_types (all_values model.defs es) _
      (λ vs e. machine_well scope exit_types k q n (slice_get model.automata k) _ refl
      (λ formals m a. move_well scope exit_types (instance cs vs (length scope) (move_term k formals m)) n
      (instance_typed model.defs.table signatures (h.0).formals scope (h.0).holds exit_types cs vs (move_term k formals m) h.2
      (values_typed model.defs signatures typed.defs es (h.0).holds h.3 vs e) (typed.transitions k h.0 q formals m h.1 a exit_types))))
  level_well go w scope exit_types hit n h = tt
  level_well go w scope exit_types miss n h = tt

  walk_well : (left : ℕ) → AllWell (walk model left)
  walk_well zero scope exit_types t n h = tt
  walk_well (suc left) scope exit_types t n h =
      limited model.defs.table signatures scope exit_types (ltb n walk_limit) (then_walk (level model (walk model left) scope t (suc n)) capped)
      (then_well model.defs.table signatures scope scope exit_types exit_types (level model (walk model left) scope t (suc n)) capped
      (level_well (walk model left) (walk_well left) scope exit_types t (suc n) h) (capped_well model.defs.table signatures scope exit_types))

  pub walk_typed : (left : ℕ) (scope : Scope) (exit_types : List Ty) (t : Term) (n m : ℕ) (items : List Item)
      → OfTerm model.defs.table signatures scope [] exit_types t → walk model left scope t n ≡ walked m items
      → AreItems model.defs.table signatures scope exit_types items
  walk_typed left scope exit_types t n m items h e = subst (Well scope exit_types) e (walk_well left scope exit_types t n h)

pub items_are_typed : ItemsAreTyped
items_are_typed model signatures scope exit_types t n items typed h e = walk_typed model signatures typed path_limit scope exit_types t 0 n items h e
