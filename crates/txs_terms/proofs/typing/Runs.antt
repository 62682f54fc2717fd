-- A well typed expression ends with a value of its type, or with a fault that it may have.
use Rattle.std.specs.Prelude.{Option, Some, slice_get}
use Rattle.std.proofs.Common.{◌≡◌, ◌≢◌, ℕ, zero, suc, Bool, true, false, cond, ltb, List, [], ◌∷◌, ◌++◌, refl, sym, ap, ◌∙◌, subst}
use Rattle.txs_values.specs.Value.{Ty, truth, named, Value, num, bool, text, cons, packed, Table, field_types, has_fields, same_value, HasType, HaveTypes}
use Rattle.txs_terms.specs.Expr.{Expr, Exprs, put, filled, with_local}
use Rattle.txs_terms.specs.Eval.{Defs, wrong, long, Run, got, bad, Runs, gots, bads, Eval, Outcome, fine, broken, sized, unary, binary, after, then_run, then_runs, with_first, cons_run, each, if_true, body_run, node, run, node_limit, height_limit, checked, takes_one, takes_two, are_comparable, takes_fields, have_types}
use Rattle.txs_terms.specs.Typed.{Signatures, Of, Ofs, val_of, slot_of, local_of, constant_of, one_of, two_of, equal_of, both_of, either_of, choose_of, apply_of, build_of, let_of, none_of, more_of', AreTyped, OfEach, OfBindings}
use Rattle.txs_terms.specs.Menu.{all_values, bound_values, with_value, then_bound, with_front}
use Rattle.txs_terms.proofs.typing.Lists.{no_member, same_some, have_joined}
use Rattle.txs_terms.proofs.typing.Numbers.{fields_same}
use Rattle.txs_terms.proofs.typing.Putting.{put_typed, filled_all, local_typed}
use Rattle.txs_terms.proofs.typing.Outcomes.{IsRight, IsFine, packed_typed, sized_fine, unary_fine, binary_fine}
use Rattle.txs_terms.proofs.typing.Checks.{comparable_typed, takes_one_typed, takes_two_typed, takes_fields_typed}

module _ (table : Table) where
  abbrev pub EndsWell : Ty → Run → Type 0
  EndsWell t (got v n) = HasType table v t
  EndsWell t (bad f) = IsRight f

  abbrev EndWell : List Ty → Runs → Type 0
  EndWell ts (gots vs n) = HaveTypes table vs ts
  EndWell ts (bads f) = IsRight f

  after_well : (t : Ty) (o : Outcome) (n : ℕ) → IsFine table t o → EndsWell t (after o n)
  after_well t (fine v) n h = h
  after_well t (broken f) n h = h

  then_well : (s t : Ty) (r : Run) (go : Value → ℕ → Run) → EndsWell s r → ((v : Value) (n : ℕ) → HasType table v s → EndsWell t (go v n))
      → EndsWell t (then_run r go)
  then_well s t (got v n) go h k = k v n h
  then_well s t (bad f) go h k = h

  then_all_well : (ts : List Ty) (t : Ty) (r : Runs) (go : List Value → ℕ → Run) → EndWell ts r
      → ((vs : List Value) (n : ℕ) → HaveTypes table vs ts → EndsWell t (go vs n)) → EndsWell t (then_runs r go)
  then_all_well ts t (gots vs n) go h k = k vs n h
  then_all_well ts t (bads f) go h k = h

  first_well : (s : Ty) (ts : List Ty) (v : Value) (r : Runs) → HasType table v s → EndWell ts r → EndWell (s ∷ ts) (with_first v r)
  first_well s ts v (gots vs n) h k = (h, k)
  first_well s ts v (bads f) h k = k

  cons_well : (s : Ty) (ts : List Ty) (r : Run) (go : ℕ → Runs) → EndsWell s r → ((n : ℕ) → EndWell ts (go n)) → EndWell (s ∷ ts) (cons_run r go)
  cons_well s ts (got v n) go h k = first_well s ts v (go n) h (k n)
  cons_well s ts (bad f) go h k = h

  if_well : (t : Ty) (x : Value) (a b : Run) → HasType table x truth → EndsWell t a → EndsWell t b → EndsWell t (if_true x a b)
  if_well t (num x) a b h p q = cc
  if_well t (bool true) a b h p q = p
  if_well t (bool false) a b h p q = q
  if_well t (text x) a b h p q = cc
  if_well t (cons c vs) a b h p q = cc

  checked_well : (t : Ty) (b : Bool) (r : Run) → b ≡ true → EndsWell t r → EndsWell t (checked b r)
  checked_well t true r e h = h
  checked_well t false r e h = cc

  body_well : {A : Type 0} (t : Ty) (o : Option A) (e : A) (go : A → Run) → o ≡ Some e → EndsWell t (go e) → EndsWell t (body_run o go)
  body_well t o e go q h = subst (λ x. EndsWell t (body_run x go)) (sym q) h

  limited : (t : Ty) (b : Bool) (r : Run) → EndsWell t r → EndsWell t (cond b r (bad long))
  limited t true r h = h
  limited t false r h = tt

module _ (defs : Defs) (signatures : Signatures) (typed : AreTyped defs signatures) where
  abbrev GivesWell : Eval → Type 0
  GivesWell ev = (e : Expr) (n : ℕ) (t : Ty) → Of defs.table signatures [] [] e t → EndsWell defs.table t (ev e n)

  each_well : (ev : Eval) → GivesWell ev → {ls : List Ty} {es : Exprs} {ts : List Ty} → Ofs defs.table signatures [] ls es ts → ls ≡ []
      → (n : ℕ) → EndWell defs.table ts (each ev es n)
  each_well ev k none_of l n = tt
  each_well ev k (more_of' {e = x} {es = es} {t = t} {ts = ts} a rest) l n =
      cons_well defs.table t ts (ev x n) (each ev es) (k x n t (subst (λ y. Of defs.table signatures [] y x t) l a)) (λ m. each_well ev k rest l m)

  node_well : (ev : Eval) → GivesWell ev → {ls : List Ty} {e : Expr} {t : Ty} → Of defs.table signatures [] ls e t → ls ≡ []
      → (n : ℕ) → EndsWell defs.table t (node defs ev e n)
  node_well ev k (val_of h) l n = h
  node_well ev k (slot_of {i = i} {t = t} h) l n = no_member i t h
  node_well ev k (local_of {i = i} {t = t} h) l n = no_member i t (ap (λ y. slice_get y i) (sym l) ∙ h)
  node_well ev k (constant_of {k = c} {t = t} h) l n =
      let p = typed.constants c t h in
      body_well defs.table t (slice_get defs.constants c) p.0 (λ x. ev x n) p.1 (k p.0 n t p.2)
  node_well ev k (one_of {o = o} {a = a} {s = s} {t = t} u x) l n =
      then_well defs.table s t (ev a n) _ (k a n s (subst (λ z. Of defs.table signatures [] z a s) l x))
      (λ v m h. checked_well defs.table t (takes_one defs.table o v) _ (takes_one_typed defs.table u v h)
      (after_well defs.table t (unary defs.table o v) m (unary_fine defs.table u v h)))
  node_well ev k (two_of {o = o} {a = a} {b = b} {r = r} {s = s} {t = t} u x y) l n =
      then_well defs.table r t (ev a n) _ (k a n r (subst (λ z. Of defs.table signatures [] z a r) l x))
      (λ v m h. then_well defs.table s t (ev b m) _ (k b m s (subst (λ z. Of defs.table signatures [] z b s) l y))
      (λ w i g. checked_well defs.table t (takes_two defs.table o v w) _ (takes_two_typed defs.table u v w h g)
      (after_well defs.table t (binary o v w) i (binary_fine defs.table u v w h g))))
  node_well ev k (equal_of {a = a} {b = b} {s = s} x y) l n =
      then_well defs.table s truth (ev a n) _ (k a n s (subst (λ z. Of defs.table signatures [] z a s) l x))
      (λ v m h. then_well defs.table s truth (ev b m) (λ w i. checked (are_comparable defs.table v w) (got (bool (same_value v w)) i))
      (k b m s (subst (λ z. Of defs.table signatures [] z b s) l y))
      (λ w i g. checked_well defs.table truth (are_comparable defs.table v w) (got (bool (same_value v w)) i) (comparable_typed defs.table s v w h g) refl))
  node_well ev k (both_of {a = a} {b = b} x y) l n =
      then_well defs.table truth truth (ev a n) _ (k a n truth (subst (λ z. Of defs.table signatures [] z a truth) l x))
      (λ v m h. if_well defs.table truth v (ev b m) (got (bool false) m) h (k b m truth (subst (λ z. Of defs.table signatures [] z b truth) l y)) refl)
  node_well ev k (either_of {a = a} {b = b} x y) l n =
      then_well defs.table truth truth (ev a n) _ (k a n truth (subst (λ z. Of defs.table signatures [] z a truth) l x))
      (λ v m h. if_well defs.table truth v (got (bool true) m) (ev b m) h refl (k b m truth (subst (λ z. Of defs.table signatures [] z b truth) l y)))
  node_well ev k (choose_of {c = c} {a = a} {b = b} {t = t} z x y) l n =
      then_well defs.table truth t (ev c n) _ (k c n truth (subst (λ i. Of defs.table signatures [] i c truth) l z))
      (λ v m h. if_well defs.table t v (ev a m) (ev b m) h (k a m t (subst (λ i. Of defs.table signatures [] i a t) l x))
      (k b m t (subst (λ i. Of defs.table signatures [] i b t) l y)))
  node_well ev k (apply_of {f = f} {es = es} {s = s} h rest) l n =
      let p = typed.functions f s h in
      then_all_well defs.table s.takes s.gives (each ev es n) _ (each_well ev k rest l n)
      (λ vs m g. body_well defs.table s.gives (slice_get defs.functions f) (record { takes = s.takes; body = p.0 })
      (λ b. checked (have_types defs.table vs b.takes) (ev (put (filled vs) b.body) m)) p.1
      (checked_well defs.table s.gives (have_types defs.table vs s.takes) (ev (put (filled vs) p.0) m) (packed_typed defs.table vs s.takes g)
      (k (put (filled vs) p.0) m s.gives (put_typed defs.table signatures p.2 (filled vs) [] (filled_all defs.table signatures vs s.takes g)))))
  node_well ev k (build_of {c = c} {k = j} {es = es} {x = x} h rest) l n =
      then_all_well defs.table (field_types x.fields) (named j) (each ev es n) _ (each_well ev k rest l n)
      (λ vs m g. checked_well defs.table (named j) (takes_fields defs.table c vs) _ (takes_fields_typed defs.table c j x vs h g)
      (after_well defs.table (named j) (sized (cons c (packed vs))) m (sized_fine defs.table (named j) (cons c (packed vs))
      (subst (λ o. has_fields defs.table (packed vs) o ≡ true) (sym (fields_same defs.table c j x h)) (packed_typed defs.table vs (field_types x.fields) g)))))
  node_well ev k (let_of {a = a} {b = b} {s = s} {t = t} x y) l n =
      then_well defs.table s t (ev a n) _ (k a n s (subst (λ z. Of defs.table signatures [] z a s) l x))
      (λ v m h. k (with_local v b) m t (local_typed defs.table signatures y v s [] h (ap (λ z. z ++ s ∷ []) l)))

  pub run_well : (left : ℕ) → GivesWell (run defs left)
  run_well zero e n t h = tt
  run_well (suc left) e n t h =
      limited defs.table t (ltb n node_limit) (node defs (run defs left) e (suc n)) (node_well (run defs left) (run_well left) h refl (suc n))

  pub run_typed : (e : Expr) (t : Ty) (left n : ℕ) → Of defs.table signatures [] [] e t
      → (v : Value) (m : ℕ) → run defs left e n ≡ got v m → HasType defs.table v t
  run_typed e t left n h v m q = subst (EndsWell defs.table t) q (run_well left e n t h)

  pub run_right : (e : Expr) (t : Ty) (left n : ℕ) → Of defs.table signatures [] [] e t → run defs left e n ≢ bad wrong
  run_right e t left n h q = subst (EndsWell defs.table t) q (run_well left e n t h)

  -- ---- several values

  abbrev GivesAll : List Ty → Option (List Value) → Type 0
  GivesAll ts o = (vs : List Value) → o ≡ Some vs → HaveTypes defs.table vs ts

  front_all : (t : Ty) (ts : List Ty) (v : Value) (o : Option (List Value)) → HasType defs.table v t → GivesAll ts o → GivesAll (t ∷ ts) (with_front v o)
  front_all t ts v Option.None h k vs e = cc
  front_all t ts v (Some ws) h k vs e = let q : v ∷ ws ≡ vs = same_some e in subst (λ z. HaveTypes defs.table z (t ∷ ts)) q (h, k ws refl)

  value_all : (t : Ty) (ts : List Ty) (r : Run) (o : Option (List Value)) → EndsWell defs.table t r → GivesAll ts o → GivesAll (t ∷ ts) (with_value r o)
  value_all t ts (bad f) o h k vs e = cc
  value_all t ts (got v n) Option.None h k vs e = cc
  value_all t ts (got v n) (Some ws) h k vs e = let q : v ∷ ws ≡ vs = same_some e in subst (λ z. HaveTypes defs.table z (t ∷ ts)) q (h, k ws refl)

  bound_all : (t : Ty) (ts : List Ty) (r : Run) (go : Value → Option (List Value)) → EndsWell defs.table t r
      → ((v : Value) → HasType defs.table v t → GivesAll ts (go v)) → GivesAll (t ∷ ts) (then_bound r go)
  bound_all t ts (bad f) go h k vs e = cc
  bound_all t ts (got v n) go h k vs e = front_all t ts v (go v) h (k v h) vs e

  pub values_typed : (es : List Expr) (ts : List Ty) → OfEach defs.table signatures [] es ts → (vs : List Value) → all_values defs es ≡ Some vs → HaveTypes defs.table vs ts
  values_typed [] [] h vs e = let q : [] ≡ vs = same_some e in subst (λ z. HaveTypes defs.table z []) q tt
  values_typed [] (t ∷ ts) h vs e = absurd h
  values_typed (x ∷ es) [] h vs e = absurd h
  values_typed (x ∷ es) (t ∷ ts) h vs e =
      value_all t ts (run defs height_limit x 0) (all_values defs es) (run_well height_limit x 0 t h.0) (values_typed es ts h.1) vs e

  bound_from : (before : List Value) (slots : List Ty) (es : List Expr) (ts : List Ty) → HaveTypes defs.table before slots → OfBindings defs.table signatures slots es ts
      → GivesAll ts (bound_values defs before es)
  bound_from before slots [] [] b h vs e = let q : [] ≡ vs = same_some e in subst (λ z. HaveTypes defs.table z []) q tt
  bound_from before slots [] (t ∷ ts) b h vs e = absurd h
  bound_from before slots (x ∷ es) [] b h vs e = absurd h
  bound_from before slots (x ∷ es) (t ∷ ts) b h vs e =
      bound_all t ts (run defs height_limit (put (filled before) x) 0) (λ v. bound_values defs (before ++ v ∷ []) es)
      (run_well height_limit (put (filled before) x) 0 t (put_typed defs.table signatures h.0 (filled before) [] (filled_all defs.table signatures before slots b)))
      (λ v g. bound_from (before ++ v ∷ []) (slots ++ t ∷ []) es ts (have_joined defs.table before slots (v ∷ []) (t ∷ []) b (g, tt)) h.1) vs e

  pub bound_typed : (es : List Expr) (ts : List Ty) → OfBindings defs.table signatures [] es ts → (vs : List Value) → bound_values defs [] es ≡ Some vs → HaveTypes defs.table vs ts
  bound_typed es ts h = bound_from [] [] es ts tt h
