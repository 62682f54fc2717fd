-- The items of a term without a menu fault are its steps.
use Rattle.std.proofs.Common.{◌≡◌, ℕ, zero, suc, ◌+◌, inl, inr, ltb, List, [], ◌∷◌, ◌++◌, length, Option, Some, None, refl, sym, ap, ◌∙◌, subst, false}
use Rattle.std.specs.Prelude.{slice_get}
use Rattle.txs_values.specs.Value.{Value, Ty, Table}
use Rattle.txs_terms.specs.Expr.{Expr}
use Rattle.txs_terms.specs.Action.{Channels, Label, Scope, is_empty}
use Rattle.txs_terms.specs.Term.{Term, stop, exits, prefix, step, guard, choice, par, enable, disable, interrupt, hide, call, bind, machine, hit, miss, fill, instance, channels_bound, Move, offering, silent, Automaton, move_term, Name, Offer}
use Rattle.txs_terms.specs.Rules.{In, Model, AllGive, HasMove, Step, unfold', binds, moves, AllBind, offered}
use Rattle.txs_terms.specs.Menu.{Item, Walk, walked, Walks, level, walk, capped, body_walk, move_level, each_move, state_walk, machine_walk, walk_limit, path_limit, channel_limit, all_values, bound_values}
use Rattle.txs_laws.specs.Menus.{given, Does, Found, IsSound, IsComplete, MenuIsRules}
use Rattle.txs_laws.proofs.rules.Tests.{some_from, all_give, all_bind, same_list, same_bound}
use Rattle.txs_laws.proofs.rules.Lists.{In-append, then_walk_from, walked_items, capped_items, entered, not_wide}
use Rattle.txs_laws.proofs.rules.Sequential.{Means, no_items, more_items, found_front, found_back, AllInOrder, stop_means, exit_means, step_means, guard_means, choice_means}
use Rattle.txs_laws.proofs.rules.Prefix.{prefix_means}
use Rattle.txs_laws.proofs.rules.Parallel.{par_means}
use Rattle.txs_laws.proofs.rules.Enable.{enable_means}
use Rattle.txs_laws.proofs.rules.Hide.{hide_means}
use Rattle.txs_laws.proofs.rules.Disable.{disable_means, interrupt_means}
use Rattle.txs_terms.specs.Typed.{Signatures, OfTerm, IsTypedModel}
use Rattle.txs_laws.specs.Items.{AreItems}
use Rattle.txs_laws.proofs.typing.Facts.{Facts}

-- a prefix that is well typed has an offer
abbrev pub PrefixesOffer : Type 0
PrefixesOffer =
    (table : Table) (signatures : Signatures) (scope : Scope) (slots exit_types : List Ty) (os : List Offer) (gs : List Expr) (t : Term)
    → OfTerm table signatures scope slots exit_types (prefix os gs t) → is_empty (offered os) ≡ false

-- ---- calls

module _ (model : Model) (scope : Scope) (p : ℕ) (cs : Channels) (es : List Expr) where
  call_complete : (vs : List Value) (body : Term) (is : List Item) → AllGive model.defs es vs → slice_get model.bodies p ≡ Some body
      → IsComplete model scope (instance cs vs (length scope) body) is → IsComplete model scope (call p cs es) is
  call_complete vs body is g o c l t' (unfold' ws body' o' g' s) =
      let same = same_list model.defs es ws vs g' g in
      let b : body' ≡ body = cc in
      c l t' (subst (λ x. Step model scope (instance cs x (length scope) body) l t') same
      (subst (λ x. Step model scope (instance cs ws (length scope) x) l t') b s))

  no_body : IsSound model scope (call p cs es) [] × (slice_get model.bodies p ≡ None → IsComplete model scope (call p cs es) [])
  no_body = (λ i l h d. absurd h, none)
    where
      none : slice_get model.bodies p ≡ None → IsComplete model scope (call p cs es) []
      none o l t' (unfold' ws body' o' g' s) = cc

  body_means : (vs : List Value) (go : Term → Walk) (n m : ℕ) (is : List Item) (o : Option Term) → slice_get model.bodies p ≡ o
      → AllGive model.defs es vs → body_walk o (length scope) n go ≡ walked m is
      → ((body : Term) → slice_get model.bodies p ≡ Some body → go body ≡ walked m is → Means model scope (instance cs vs (length scope) body) is)
      → Means model scope (call p cs es) is
  body_means vs go n m is None o g e k = subst (Means model scope (call p cs es)) (walked_items n m [] is e) (no_body.0, no_body.1 o, no_items)
  body_means vs go n m is (Some body) o g e k =
      let q = k body o (not_wide (ltb channel_limit (length scope + channels_bound body)) (go body) m is e) in
      (λ i l h d. unfold' vs body o g (q.0 i l h d), call_complete vs body is g o q.1, q.2)

-- ---- LET

module _ (model : Model) (scope : Scope) (xs : List Name) (es : List Expr) (t : Term) where
  bind_complete : (vs : List Value) (is : List Item) → AllBind model.defs [] es vs → IsComplete model scope (fill vs t) is → IsComplete model scope (bind xs es t) is
  bind_complete vs is g c l t' (binds ws g' s) =
      let same = same_bound model.defs [] es ws vs g' g in
      c l t' (subst (λ x. Step model scope (fill x t) l t') same s)

  bind_means : (vs : List Value) (is : List Item) → AllBind model.defs [] es vs → Means model scope (fill vs t) is → Means model scope (bind xs es t) is
  bind_means vs is g m = ((λ i l h d. binds vs g (m.0 i l h d)), bind_complete vs is g m.1, m.2)

-- ---- automata

none_hit : (model : Model) (scope : Scope) → Means model scope hit []
none_hit model scope = (λ i l h d. absurd h, λ l t' s. elim s [ ], no_items)

none_miss : (model : Model) (scope : Scope) → Means model scope miss []
none_miss model scope = (λ i l h d. absurd h, λ l t' s. elim s [ ], no_items)

module _ (some_offers : PrefixesOffer) (model : Model) (scope : Scope) (k : ℕ) (cs : Channels) (es : List Expr) (vs : List Value) where
  abbrev at_move : Channels → Move → Term
  at_move formals m = instance cs vs (length scope) (move_term k formals m)

  move_means : (signatures : Signatures) (exit_types : List Ty) (formals : Channels) (m : Move) (n w : ℕ) (is : List Item)
      → OfTerm model.defs.table signatures scope [] exit_types (at_move formals m) → move_level model scope (at_move formals m) n ≡ walked w is
      → Means model scope (at_move formals m) is
  move_means signatures exit_types formals (offering os gs us q) n w is o e =
      prefix_means model scope _ _ _ signatures n w is o.0 (some_offers model.defs.table signatures scope [] exit_types _ _ (instance cs vs (length scope) (machine k formals us q)) o) e
  move_means signatures exit_types formals (silent gs us q) n w is o e = step_means model scope _ _ n w is e

  -- the items of some transitions are what these do
  abbrev MovesMean : Channels → List Move → List Item → Type 0
  MovesMean formals ms is =
      ((i : Item) (l : Label) → In i is → Does model scope i l → (m : Move) × In m ms × Step model scope (at_move formals m) l (fill (given l) i.rest))
      × ((m : Move) (l : Label) (t' : Term) → In m ms → Step model scope (at_move formals m) l t' → Found model scope is l t')
      × AllInOrder is

  moves_mean : (signatures : Signatures) (exit_types : List Ty) (formals : Channels) (ms : List Move) (n w : ℕ) (is : List Item)
      → ((m : Move) → In m ms → OfTerm model.defs.table signatures scope [] exit_types (at_move formals m))
      → each_move (λ m. move_level model scope (at_move formals m) n) ms n ≡ walked w is → MovesMean formals ms is
  moves_mean signatures exit_types formals [] n w is o e =
      subst (MovesMean formals []) (walked_items n w [] is e) ((λ i l h d. absurd h), (λ m l t' h s. absurd h), no_items)
  moves_mean signatures exit_types formals (m ∷ ms) n w is o e =
      let p = then_walk_from (move_level model scope (at_move formals m) n) _ w is e in
      let q = then_walk_from (each_move (λ m. move_level model scope (at_move formals m) n) ms n) _ w is p.3 in
      let a = move_means signatures exit_types formals m n p.0 p.1 (o m (inl refl)) p.2 in
      let b = moves_mean signatures exit_types formals ms n q.0 q.1 (λ k h. o k (inr h)) q.2 in
      subst (MovesMean formals (m ∷ ms)) (walked_items n w _ is q.3) (
        (λ i l h d. elim (In-append i p.1 q.1 h)
            [ inl x ↦ (m, inl refl, a.0 i l x d) | inr x ↦ (let r = b.0 i l x d in (r.0, inr r.1, r.2)) ]),
        (λ m' l t' h s. elim h [
          | inl x ↦ found_front model scope p.1 q.1 l t' (a.1 l t' (subst (λ y. Step model scope (at_move formals y) l t') x s))
          | inr x ↦ found_back model scope p.1 q.1 l t' (b.1 m' l t' x s)
        ]),
        more_items p.1 q.1 a.2 b.2,
      )

module _ (some_offers : PrefixesOffer) (model : Model) (scope : Scope) (k : ℕ) (cs : Channels) (es : List Expr) (q : ℕ) where
  machine_complete : (vs : List Value) (formals : Channels) (states : List (List Move)) (ms : List Move) (is : List Item)
      → slice_get model.automata k ≡ Some (record { formals = formals; states = states }) → slice_get states q ≡ Some ms → AllGive model.defs es vs
      → ((m : Move) (l : Label) (t' : Term) → In m ms → Step model scope (at_move some_offers model scope k cs es vs formals m) l t' → Found model scope is l t')
      → IsComplete model scope (machine k cs es q) is
  machine_complete vs formals states ms is a b g c l t' (moves ws formals' m h g' s) =
      let same = same_list model.defs es ws vs g' g in
      let p = h.automaton in
      let o = same_machine (sym p ∙ a) in
      let r = h.state in
      let u : h.moves ≡ ms = same_moves (sym r ∙ (ap (λ x. slice_get x q) o.1 ∙ b)) in
      c m l t' (subst (In m) u h.listed)
      (subst (λ x. Step model scope (instance cs x (length scope) (move_term k formals m)) l t') same
      (subst (λ x. Step model scope (instance cs ws (length scope) (move_term k x m)) l t') o.0 s))
    where
      same_machine : {x y : Automaton} → Some x ≡ Some y → (x.formals ≡ y.formals) × (x.states ≡ y.states)
      same_machine e = (cc, cc)

      same_moves : {x y : List Move} → Some x ≡ Some y → x ≡ y
      same_moves e = cc

  nothing : ((formals : Channels) (m : Move) → HasMove model k q formals m → ⊥) → Means model scope (machine k cs es q) []
  nothing h = ((λ i l m d. absurd m), none, no_items)
    where
      none : IsComplete model scope (machine k cs es q) []
      none l t' (moves ws formals m x g s) = absurd (h formals m x)

  no_automaton : slice_get model.automata k ≡ None → (formals : Channels) (m : Move) → HasMove model k q formals m → ⊥
  no_automaton e formals m h = let a = h.automaton in cc

  no_state : (formals : Channels) (states : List (List Move)) → slice_get model.automata k ≡ Some (record { formals = formals; states = states }) → slice_get states q ≡ None
      → (formals' : Channels) (m : Move) → HasMove model k q formals' m → ⊥
  no_state formals states a e formals' m h =
      let p = same_states (sym h.automaton ∙ a) in
      let r = h.state in
      let u = sym r ∙ (ap (λ x. slice_get x q) p ∙ e) in cc
    where
      same_states : {x y : Automaton} → Some x ≡ Some y → x.states ≡ y.states
      same_states e = cc

  state_means : (signatures : Signatures) (exit_types : List Ty) (vs : List Value) (formals : Channels) (states : List (List Move)) (n w : ℕ) (is : List Item) (o : Option (List Move))
      → slice_get model.automata k ≡ Some (record { formals = formals; states = states }) → slice_get states q ≡ o → AllGive model.defs es vs
      → ((formals : Channels) (m : Move) → HasMove model k q formals m → OfTerm model.defs.table signatures scope [] exit_types (at_move some_offers model scope k cs es vs formals m))
      → state_walk o n (λ m. move_level model scope (at_move some_offers model scope k cs es vs formals m) n) ≡ walked w is → Means model scope (machine k cs es q) is
  state_means signatures exit_types vs formals states n w is None a b g o e =
      subst (Means model scope (machine k cs es q)) (walked_items n w [] is e) (nothing (no_state formals states a b))
  state_means signatures exit_types vs formals states n w is (Some ms) a b g o e =
      let r = moves_mean some_offers model scope k cs es vs signatures exit_types formals ms n w is
      (λ m h. o formals m (record { states = states; moves = ms; automaton = a; state = b; listed = h })) e in (
        (λ i l h d. let p = r.0 i l h d in
            moves vs formals p.0 (record { states = states; moves = ms; automaton = a; state = b; listed = p.1 }) g p.2),
        machine_complete vs formals states ms is a b g r.1,
        r.2,
      )

  machine_means : (signatures : Signatures) (exit_types : List Ty) (vs : List Value) (n w : ℕ) (is : List Item) (o : Option Automaton) → slice_get model.automata k ≡ o → AllGive model.defs es vs
      → ((formals : Channels) (m : Move) → HasMove model k q formals m → OfTerm model.defs.table signatures scope [] exit_types (at_move some_offers model scope k cs es vs formals m))
      → machine_walk o q n (λ formals m. move_level model scope (at_move some_offers model scope k cs es vs formals m) n) ≡ walked w is
      → Means model scope (machine k cs es q) is
  machine_means signatures exit_types vs n w is None a g o e = subst (Means model scope (machine k cs es q)) (walked_items n w [] is e) (nothing (no_automaton a))
  machine_means signatures exit_types vs n w is (Some x) a g o e =
      state_means signatures exit_types vs x.formals x.states n w is (slice_get x.states q) a refl g o e

some_term : {x y : Term} → Some x ≡ Some y → x ≡ y
some_term e = cc

-- each side of a well typed parallel is well typed
par_left : (table : Table) (signatures : Signatures) (scope : Scope) (exit_types : List Ty) (gates : Channels) (a b : Term)
    → OfTerm table signatures scope [] exit_types (par gates a b) → (ts : List Ty) × OfTerm table signatures scope [] ts a
par_left table signatures scope exit_types gates a b (l, g, inl p) = (exit_types, p.0)
par_left table signatures scope exit_types gates a b (l, g, inr (inl p)) = p.0
par_left table signatures scope exit_types gates a b (l, g, inr (inr p)) = (exit_types, p.0 exit_types)

par_right : (table : Table) (signatures : Signatures) (scope : Scope) (exit_types : List Ty) (gates : Channels) (a b : Term)
    → OfTerm table signatures scope [] exit_types (par gates a b) → (ts : List Ty) × OfTerm table signatures scope [] ts b
par_right table signatures scope exit_types gates a b (l, g, inl p) = (exit_types, p.1)
par_right table signatures scope exit_types gates a b (l, g, inr (inl p)) = (exit_types, p.1 exit_types)
par_right table signatures scope exit_types gates a b (l, g, inr (inr p)) = p.1

module _ (facts : Facts) (some_offers : PrefixesOffer) (model : Model) (signatures : Signatures) (typed : IsTypedModel model signatures) where
  abbrev AllMean : Walks → Type 0
  AllMean go =
      (scope : Scope) (exit_types : List Ty) (t : Term) (n m : ℕ) (is : List Item)
      → OfTerm model.defs.table signatures scope [] exit_types t → go scope t n ≡ walked m is → Means model scope t is

  abbrev AllTyped : Walks → Type 0
  AllTyped go =
      (scope : Scope) (exit_types : List Ty) (t : Term) (n m : ℕ) (is : List Item)
      → OfTerm model.defs.table signatures scope [] exit_types t → go scope t n ≡ walked m is → AreItems model.defs.table signatures scope exit_types is

  -- the body of a call is well typed
  body_typed : (scope : Scope) (exit_types : List Ty) (p : ℕ) (cs : Channels) (es : List Expr) (vs : List Value) (body : Term)
      → OfTerm model.defs.table signatures scope [] exit_types (call p cs es) → all_values model.defs es ≡ Some vs → slice_get model.bodies p ≡ Some body
      → OfTerm model.defs.table signatures scope [] exit_types (instance cs vs (length scope) body)
  body_typed scope exit_types p cs es vs body o g e =
      let b = typed.bodies p o.0 o.1 in
      let same = some_term (sym b.1 ∙ e) in
      let w = facts.values_typed model.defs signatures typed.defs es o.0.takes o.3 vs g in
      facts.instance_typed model.defs.table signatures o.0.formals scope o.0.takes exit_types cs vs body o.2 w
      (subst (λ x. OfTerm model.defs.table signatures o.0.formals o.0.takes exit_types x) same (b.2 exit_types o.4))

  -- so is a transition
  move_typed : (scope : Scope) (exit_types : List Ty) (k : ℕ) (cs : Channels) (es : List Expr) (q : ℕ) (vs : List Value)
      → OfTerm model.defs.table signatures scope [] exit_types (machine k cs es q) → all_values model.defs es ≡ Some vs
      → (formals : Channels) (m : Move) → HasMove model k q formals m
      → OfTerm model.defs.table signatures scope [] exit_types (instance cs vs (length scope) (move_term k formals m))
  move_typed scope exit_types k cs es q vs o g formals m h =
      let w = facts.values_typed model.defs signatures typed.defs es o.0.holds o.3 vs g in
      facts.instance_typed model.defs.table signatures o.0.formals scope o.0.holds exit_types cs vs (move_term k formals m) o.2 w
      (typed.transitions k o.0 q formals m o.1 h exit_types)

  level_means : (go : Walks) → AllMean go → AllTyped go → AllMean (level model go)
  level_means go k w scope exit_types stop n m is o e = subst (Means model scope stop) (walked_items n m [] is e) (stop_means model scope)
  level_means go k w scope exit_types (exits es) n m is o e =
      let p = some_from (all_values model.defs es) _ m is e in
      subst (Means model scope (exits es)) (walked_items n m _ is p.2) (exit_means model scope es p.0 (all_give model.defs es p.0 p.1))
  level_means go k w scope exit_types (prefix os gs t) n m is o e =
      prefix_means model scope os gs t signatures n m is o.0 (some_offers model.defs.table signatures scope [] exit_types os gs t o) e
  level_means go k w scope exit_types (step gs t) n m is o e = step_means model scope gs t n m is e
  level_means go k w scope exit_types (guard gs t) n m is o e = guard_means model scope gs t n m is (go scope t n) e (k scope exit_types t n m is o.1)
  level_means go k w scope exit_types (choice a b) n m is o e =
      let p = then_walk_from (go scope a n) _ m is e in
      let q = then_walk_from (go scope b p.0) _ m is p.3 in
      subst (Means model scope (choice a b)) (walked_items q.0 m _ is q.3)
      (choice_means model scope a b p.1 q.1 (k scope exit_types a n p.0 p.1 o.0 p.2) (k scope exit_types b p.0 q.0 q.1 o.1 q.2))
  level_means go k w scope exit_types (par gates a b) n m is o e =
      let p = then_walk_from (go scope a n) _ m is e in
      let q = then_walk_from (go scope b p.0) _ m is p.3 in
      subst (Means model scope (par gates a b)) (walked_items q.0 m _ is q.3)
      (let l = par_left model.defs.table signatures scope exit_types gates a b o in
      let r = par_right model.defs.table signatures scope exit_types gates a b o in
      par_means model scope gates a b p.1 q.1 (k scope l.0 a n p.0 p.1 l.1 p.2) (k scope r.0 b p.0 q.0 q.1 r.1 q.2))
  level_means go k w scope exit_types (enable a xs b) n m is o e =
      let p = then_walk_from (go scope a n) _ m is e in
      subst (Means model scope (enable a xs b)) (walked_items p.0 m _ is p.3)
      (enable_means model scope a xs b p.1 (k scope o.0 a n p.0 p.1 o.2 p.2))
  level_means go k w scope exit_types (disable a b) n m is o e =
      let p = then_walk_from (go scope a n) _ m is e in
      let q = then_walk_from (go scope b p.0) _ m is p.3 in
      subst (Means model scope (disable a b)) (walked_items q.0 m _ is q.3)
      (disable_means model scope a b p.1 q.1 (k scope exit_types a n p.0 p.1 o.0 p.2) (k scope exit_types b p.0 q.0 q.1 o.1 q.2))
  level_means go k w scope exit_types (interrupt a b) n m is o e =
      let p = then_walk_from (go scope a n) _ m is e in
      let q = then_walk_from (go scope b p.0) _ m is p.3 in
      subst (Means model scope (interrupt a b)) (walked_items q.0 m _ is q.3)
      (interrupt_means model scope a b p.1 q.1 (k scope exit_types a n p.0 p.1 o.0 p.2) (k scope [] b p.0 q.0 q.1 o.1 q.2))
  level_means go k w scope exit_types (hide hs t) n m is o e =
      let p = then_walk_from (go (scope ++ hs) t n) _ m is e in
      hide_means facts model signatures typed.defs scope hs o.0 t exit_types p.1 is p.0 m
      (k (scope ++ hs) exit_types t n p.0 p.1 o.1 p.2) (w (scope ++ hs) exit_types t n p.0 p.1 o.1 p.2) p.3
  level_means go k w scope exit_types (call p cs es) n m is o e =
      let v = some_from (all_values model.defs es) _ m is e in
      body_means model scope p cs es v.0 _ n m is (slice_get model.bodies p) refl (all_give model.defs es v.0 v.1) v.2
      (λ body b q. k scope exit_types (instance cs v.0 (length scope) body) n m is (body_typed scope exit_types p cs es v.0 body o v.1 b) q)
  level_means go k w scope exit_types (bind xs es t) n m is o e =
      let v = some_from (bound_values model.defs [] es) _ m is e in
      let h = facts.bound_typed model.defs signatures typed.defs es o.0 o.2 v.0 v.1 in
      bind_means model scope xs es t v.0 is (all_bind model.defs [] es v.0 v.1)
      (k scope exit_types (fill v.0 t) n m is (facts.fill_typed model.defs.table signatures scope o.0 exit_types v.0 t h o.3) v.2)
  level_means go k w scope exit_types (machine j cs es q) n m is o e =
      let v = some_from (all_values model.defs es) _ m is e in
      machine_means some_offers model scope j cs es q signatures exit_types v.0 n m is (slice_get model.automata j) refl (all_give model.defs es v.0 v.1)
      (move_typed scope exit_types j cs es q v.0 o v.1) v.2
  level_means go k w scope exit_types hit n m is o e = subst (Means model scope hit) (walked_items n m [] is e) (none_hit model scope)
  level_means go k w scope exit_types miss n m is o e = subst (Means model scope miss) (walked_items n m [] is e) (none_miss model scope)

  pub walk_means : (left : ℕ) → AllMean (walk model left)
  walk_means zero scope exit_types t n m is o e = cc
  walk_means (suc left) scope exit_types t n m is o e =
      let q = then_walk_from (level model (walk model left) scope t (suc n)) capped m is (entered (ltb n walk_limit) _ m is e) in
      subst (Means model scope t) (capped_items q.0 m q.1 is q.3)
      (level_means (walk model left) (walk_means left) (λ s x u i j js. facts.walk_typed model signatures typed left s x u i j js)
      scope exit_types t (suc n) q.0 q.1 o q.2)

pub menu_is_rules : Facts → PrefixesOffer → MenuIsRules
menu_is_rules facts some_offers model scope t n items w e =
    let m = walk_means facts some_offers model w.signatures w.definitions path_limit scope w.exit_types t 0 n items w.term e in (m.0, m.1)

pub prefixes_offer : PrefixesOffer
prefixes_offer table signatures scope slots exit_types os gs t o = o.3
