-- The slots of some channels have the values on these channels.
use Rattle.std.proofs.Common.{◌≡◌, ℕ, zero, suc, ◌+◌, Bool, true, false, cond, eqb, ◌||◌, List, [], ◌∷◌, ◌++◌, length, refl, ap, ◌∙◌, subst, arith, length-append}
use Rattle.std.proofs.lemmas.Bool.{eqb-true}
use Rattle.txs_values.specs.Value.{Value, Ty, Table, HaveTypes}
use Rattle.txs_terms.specs.Expr.{filled}
use Rattle.txs_terms.specs.Action.{Part, Action, channels, values, values_on, values_over, part_of, Channels, has, Scope, types_on, arity, IsTyped, from}
use Rattle.txs_terms.specs.Menu.{width, start, places}
use Rattle.txs_laws.proofs.rules.Put.{Picked}

pub HaveTypes-length : (table : Table) → (vs : List Value) (ts : List Ty) → HaveTypes table vs ts → length vs ≡ length ts
HaveTypes-length table [] [] h = refl
HaveTypes-length table [] (t ∷ ts) h = absurd h
HaveTypes-length table (v ∷ vs) [] h = absurd h
HaveTypes-length table (v ∷ vs) (t ∷ ts) h = ap suc (HaveTypes-length table vs ts h.1)

pub width-values : (table : Table) → (scope : Scope) (a : Action) → IsTyped table scope a → width scope (channels a) ≡ length (values a)
width-values table scope [] h = refl
width-values table scope (p ∷ ps) h =
    let a = HaveTypes-length table p.values (types_on scope p.channel) h.0 in
    let b = width-values table scope ps h.1 in
    omega (arith, length-append p.values (values ps))

pub Picked-append : (vs : List Value) (ps qs : List ℕ) (us ws : List Value) → Picked vs ps us → Picked vs qs ws → Picked vs (ps ++ qs) (us ++ ws)
Picked-append vs [] qs [] ws a b = b
Picked-append vs [] qs (u ∷ us) ws a b = absurd a
Picked-append vs (p ∷ ps) qs [] ws a b = absurd a
Picked-append vs (p ∷ ps) qs (u ∷ us) ws a b = (a.0, Picked-append vs ps qs us ws a.1 b)

filled_later : (us vs : List Value) (i : ℕ) → filled (us ++ vs) (i + length us) ≡ filled vs i
filled_later [] vs i = let e : i + 0 ≡ i = omega arith in ap (filled vs) e
filled_later (u ∷ us) vs i =
    let e : i + length (u ∷ us) ≡ suc (i + length us) = omega arith in
    rw e (filled_later us vs i)

-- the values at the front stand from slot 0 on
front : (us ws vs : List Value) → Picked (us ++ (ws ++ vs)) (from (length us) (length ws)) ws
front us [] vs = tt
front us (w ∷ ws) vs =
    let z : 0 + length us ≡ length us = omega arith in
    let here = filled_later us (w ∷ (ws ++ vs)) 0 in
    let there = front (us ++ w ∷ []) ws vs in
    let n : length (us ++ w ∷ []) ≡ suc (length us) = omega (arith, length-append us (w ∷ [])) in
    let l = append_shift us w (ws ++ vs) in (
      rw z at here,
      subst (λ m. Picked (us ++ (w ∷ (ws ++ vs))) (from m (length ws)) ws) n
          (subst (λ xs. Picked xs (from (length (us ++ w ∷ [])) (length ws)) ws) l there),
    )
  where
    append_shift : (xs : List Value) (y : Value) (ys : List Value) → (xs ++ y ∷ []) ++ ys ≡ xs ++ (y ∷ ys)
    append_shift [] y ys = refl
    append_shift (x ∷ xs) y ys = ap (λ zs. x ∷ zs) (append_shift xs y ys)

-- later slots, after more values
later : (us vs : List Value) (i n : ℕ) (ws : List Value) → Picked vs (from i n) ws → Picked (us ++ vs) (from (length us + i) n) ws
later us vs i zero [] h = tt
later us vs i zero (w ∷ ws) h = h
later us vs i (suc n) [] h = h
later us vs i (suc n) (w ∷ ws) h =
    let e : length us + i ≡ i + length us = omega arith in
    let s : length us + suc i ≡ suc (length us + i) = omega arith in
    (rw e (filled_later us vs i ∙ h.0), subst (λ m. Picked (us ++ vs) (from m n) ws) s (later us vs (suc i) n ws h.1))

at_first : (table : Table) → (scope : Scope) (p : Part) (ps : Action) (c : ℕ) (b : Bool) → eqb p.channel c ≡ b → IsTyped table scope (p ∷ ps)
    → (b ≡ false → Picked (values ps) (from (start scope (channels ps) c) (arity scope c)) (values_on ps c))
    → Picked (values (p ∷ ps)) (from (cond b 0 (arity scope p.channel + start scope (channels ps) c)) (arity scope c))
    (cond b p.values (values_on ps c))
at_first table scope p ps c true e t go =
    let same = eqb-true p.channel c e in
    let n = HaveTypes-length table p.values (types_on scope p.channel) t.0 in
    subst (λ k. Picked (values (p ∷ ps)) (from 0 (arity scope k)) p.values) same
    (subst (λ k. Picked (values (p ∷ ps)) (from 0 k) p.values) n (front [] p.values (values ps)))
at_first table scope p ps c false e t go =
    let n = HaveTypes-length table p.values (types_on scope p.channel) t.0 in
    subst (λ k. Picked (values (p ∷ ps)) (from (k + start scope (channels ps) c) (arity scope c)) (values_on ps c)) n
    (later p.values (values ps) (start scope (channels ps) c) (arity scope c) (values_on ps c) (go refl))

not_first : (b c : Bool) → (b || c) ≡ true → b ≡ false → c ≡ true
not_first true c h e = cc
not_first false c h e = h

-- one channel's slots have its values
pub on_channel : (table : Table) → (scope : Scope) (a : Action) (c : ℕ) → IsTyped table scope a → has (channels a) c ≡ true
    → Picked (values a) (from (start scope (channels a) c) (arity scope c)) (values_on a c)
on_channel table scope [] c t h = cc
on_channel table scope (p ∷ ps) c t h =
    at_first table scope p ps c (eqb p.channel c) refl t
    (λ e. on_channel table scope ps c t.1 (not_first (eqb p.channel c) (has (channels ps) c) h e))

-- each of these channels is among those
abbrev pub Within : Channels → Channels → Type 0
Within [] all = Unit {0}
Within (c ∷ cs) all = (has all c ≡ true) × Within cs all

pub over_channels : (table : Table) → (scope : Scope) (a : Action) (cs : Channels) → IsTyped table scope a → Within cs (channels a)
    → Picked (values a) (places scope (channels a) cs) (values_over a cs)
over_channels table scope a [] t h = tt
over_channels table scope a (c ∷ cs) t h =
    Picked-append (values a) _ _ (values_on a c) (values_over a cs) (on_channel table scope a c t h.0) (over_channels table scope a cs t h.1)

-- ---- the part of an action

pub channels_part : (a : Action) (cs : Channels) → channels (part_of a cs) ≡ cs
channels_part a [] = refl
channels_part a (c ∷ cs) = ap (λ xs. c ∷ xs) (channels_part a cs)

pub values_part : (a : Action) (cs : Channels) → values (part_of a cs) ≡ values_over a cs
values_part a [] = refl
values_part a (c ∷ cs) = ap (λ xs. values_on a c ++ xs) (values_part a cs)

typed_first : (table : Table) → (scope : Scope) (p : Part) (ps : Action) (c : ℕ) (b : Bool) → eqb p.channel c ≡ b → IsTyped table scope (p ∷ ps)
    → (b ≡ false → HaveTypes table (values_on ps c) (types_on scope c)) → HaveTypes table (cond b p.values (values_on ps c)) (types_on scope c)
typed_first table scope p ps c true e t go = subst (λ k. HaveTypes table p.values (types_on scope k)) (eqb-true p.channel c e) t.0
typed_first table scope p ps c false e t go = go refl

pub typed_on : (table : Table) → (scope : Scope) (a : Action) (c : ℕ) → IsTyped table scope a → has (channels a) c ≡ true → HaveTypes table (values_on a c) (types_on scope c)
typed_on table scope [] c t h = cc
typed_on table scope (p ∷ ps) c t h =
    typed_first table scope p ps c (eqb p.channel c) refl t
    (λ e. typed_on table scope ps c t.1 (not_first (eqb p.channel c) (has (channels ps) c) h e))

pub typed_part : (table : Table) → (scope : Scope) (a : Action) (cs : Channels) → IsTyped table scope a → Within cs (channels a) → IsTyped table scope (part_of a cs)
typed_part table scope a [] t h = tt
typed_part table scope a (c ∷ cs) t h = (typed_on table scope a c t h.0, typed_part table scope a cs t h.1)
