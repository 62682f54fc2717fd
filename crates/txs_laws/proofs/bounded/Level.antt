-- A term whose paths are short has the same menu, however many nodes more a path may have.
use Rattle.std.proofs.Common.{◌≡◌, ◌<◌, ◌≤◌, ℕ, zero, suc, ◌+◌, ◌*◌, max, ltb, cond, length, List, [], ◌++◌, Option, Some, None, slice_get, map, refl, sym, ap, subst, ◌∙◌, arith, mul-le-mul_right, suc-add}
use Rattle.txs_values.specs.Value.{Value}
use Rattle.txs_terms.specs.Action.{Scope}
use Rattle.txs_terms.specs.Term.{Term, stop, exits, prefix, step, guard, choice, par, enable, disable, interrupt, hide, call, bind, machine, hit, miss, fill, instance, channels_bound}
use Rattle.txs_terms.specs.Expr.{filled}
use Rattle.txs_terms.specs.Rules.{Model}
use Rattle.txs_terms.specs.Menu.{Item, Walk, faulted, wide, walked, Walks, walk_limit, channel_limit, then_walk, where_some, where_holds, judge, all_values, bound_values, body_walk, par_items, pass, disabled, interrupted, back_to, hidden_walk, hide_all, capped, level, walk}
use Rattle.txs_laws.specs.Paths.{calls_of, path_nodes, AllCallsBelow, IsRanked, PathsAreBounded}
use Rattle.txs_laws.proofs.bounded.Instance.{calls_put, calls_of_instance, path_put, path_of_instance, calls_in_left, calls_in_right, some_node}

then_alike : (w v : Walk) (f g : ℕ → List Item → Walk) → w ≡ v → ((n : ℕ) (is : List Item) → f n is ≡ g n is) → then_walk w f ≡ then_walk v g
then_alike w v f g p h = λ k. then_walk (p k) (λ n is. h n is k)

some_alike : {A : Type 0} (o : Option A) (f g : A → Walk) → ((x : A) → f x ≡ g x) → where_some o f ≡ where_some o g
some_alike o f g h = λ k. where_some o (λ x. h x k)

-- a call of lower rank leaves room for the longest path of a body
room : (most low r left : ℕ) → low < r → 1 + r * most ≤ suc left → most + low * most ≤ left
room most low r left h l = let p : suc low * most ≤ r * most = mul-le-mul_right most h in omega (arith, p)

module _ (model : Model) (rank : ℕ → ℕ) (most left : ℕ) (ranked : IsRanked model rank most) (go go' : Walks)
    (below : (r : ℕ) (scope : Scope) (t : Term) (n : ℕ) → AllCallsBelow rank r (calls_of t) → path_nodes t + r * most ≤ left → go scope t n ≡ go' scope t n) where
  both_alike : (r : ℕ) (scope : Scope) (a b : Term) (n : ℕ) (f : ℕ → List Item → ℕ → List Item → Walk) → AllCallsBelow rank r (calls_of a ++ calls_of b)
      → (1 + max (path_nodes a) (path_nodes b)) + r * most ≤ suc left
      → then_walk (go scope a n) (λ m is. then_walk (go scope b m) (f m is)) ≡ then_walk (go' scope a n) (λ m is. then_walk (go' scope b m) (f m is))
  both_alike r scope a b n f h l =
      then_alike _ _ _ _ (below r scope a n (calls_in_left rank r (calls_of a) (calls_of b) h) (omega arith))
      (λ m is. then_alike _ _ _ _ (below r scope b m (calls_in_right rank r (calls_of a) (calls_of b) h) (omega arith)) (λ k js. refl))

  body_alike : (r : ℕ) (scope : Scope) (p : ℕ) (n : ℕ) (t : Term) (body : Term) → slice_get model.bodies p ≡ Some body → rank p < r → 1 + r * most ≤ suc left
      → calls_of t ≡ calls_of body → path_nodes t ≡ path_nodes body → go scope t n ≡ go' scope t n
  body_alike r scope p n t body e low l same_calls same_path =
      let short : path_nodes body ≤ most = ranked.short p body e in
      let fits : most + rank p * most ≤ left = room most (rank p) r left low l in
      below (rank p) scope t n (subst (AllCallsBelow rank (rank p)) (sym same_calls) (ranked.lower p body e)) (omega arith)

  level_alike : (r : ℕ) (scope : Scope) (t : Term) (n : ℕ) → AllCallsBelow rank r (calls_of t) → path_nodes t + r * most ≤ suc left
      → level model go scope t n ≡ level model go' scope t n
  level_alike r scope stop n h l = refl
  level_alike r scope (exits es) n h l = refl
  level_alike r scope (prefix os gs t) n h l = refl
  level_alike r scope (step gs t) n h l = refl
  level_alike r scope (guard gs t) n h l = ap (where_holds (judge model.defs gs) n) (below r scope t n h (omega arith))
  level_alike r scope (choice a b) n h l = both_alike r scope a b n (λ m is k js. walked k (is ++ js)) h l
  level_alike r scope (par gates a b) n h l = both_alike r scope a b n (λ m is k js. walked k (par_items scope gates a b is js)) h l
  level_alike r scope (enable a xs b) n h l =
      ap (λ w. then_walk w (λ m is. walked m (map (pass scope xs b) is))) (below r scope a n h (omega arith))
  level_alike r scope (disable a b) n h l = both_alike r scope a b n (λ m is k js. walked k (map (disabled scope b) is ++ js)) h l
  level_alike r scope (interrupt a b) n h l =
      both_alike r scope a b n (λ m is k js. walked k (map (interrupted scope b) is ++ map (back_to scope (interrupt a b)) js)) h l
  level_alike r scope (hide hs t) n h l =
      ap (λ w. then_walk w (λ m is. hidden_walk m (hide_all model.defs scope hs is))) (below r (scope ++ hs) t n h (omega arith))
  level_alike r scope (call p cs es) n h l = some_alike (all_values model.defs es) _ _ (λ vs. by vs (slice_get model.bodies p) refl)
    where
      by : (vs : List Value) (o : Option Term) → slice_get model.bodies p ≡ o
          → body_walk o (length scope) n (λ body. go scope (instance cs vs (length scope) body) n)
          ≡ body_walk o (length scope) n (λ body. go' scope (instance cs vs (length scope) body) n)
      by vs None e = refl
      by vs (Some body) e =
          ap (λ w. cond (ltb channel_limit (length scope + channels_bound body)) (faulted wide) w)
          (body_alike r scope p n (instance cs vs (length scope) body) body e h.0 l
          (calls_of_instance cs vs (length scope) body) (path_of_instance cs vs (length scope) body))
  level_alike r scope (bind xs es t) n h l =
      some_alike (bound_values model.defs [] es) _ _
      (λ vs. below r scope (fill vs t) n (subst (AllCallsBelow rank r) (sym (calls_put (filled vs) t)) h) (subst (λ k. k + r * most ≤ left) (sym (path_put (filled vs) t)) (omega arith)))
  level_alike r scope (machine k cs es q) n h l = refl
  level_alike r scope hit n h l = refl
  level_alike r scope miss n h l = refl

walk_alike : (model : Model) (rank : ℕ → ℕ) (most : ℕ) → IsRanked model rank most → (left more r : ℕ) (scope : Scope) (t : Term) (n : ℕ)
    → AllCallsBelow rank r (calls_of t) → path_nodes t + r * most ≤ left → walk model (left + more) scope t n ≡ walk model left scope t n
walk_alike model rank most ranked zero more r scope t n h l = absurd (omega (arith, some_node t))
walk_alike model rank most ranked (suc left) more r scope t n h l =
    ap (λ k. walk model k scope t n) (suc-add left more)
    ∙ ap (λ w. cond (ltb n walk_limit) (then_walk w capped) (faulted wide))
    (level_alike model rank most left ranked (walk model (left + more)) (walk model left)
    (λ s sc u m hs ls. walk_alike model rank most ranked left more s sc u m hs ls) r scope t (suc n) h l)

pub paths_are_bounded : PathsAreBounded
paths_are_bounded model rank most r scope t n left more ranked h l = walk_alike model rank most ranked left more r scope t n h l
