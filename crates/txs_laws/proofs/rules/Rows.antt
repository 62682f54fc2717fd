-- An action and its parts, from the values in a row.
use Rattle.std.proofs.Common.{◌≡◌, ℕ, ◌<◌, Bool, true, false, cond, eqb, List, [], ◌∷◌, ◌++◌, length, refl, sym, ap, ◌∙◌, arith}
use Rattle.std.proofs.lemmas.Bool.{eq-eqb, ne_eqb, or_left, or_right}
use Rattle.txs_values.specs.Value.{Value, Ty, Table, HaveTypes}
use Rattle.txs_terms.specs.Expr.{filled}
use Rattle.txs_terms.specs.Action.{Part, Action, Channels, channels, values, values_on, values_over, part_of, has, AllAbove, Ascending, Scope, types_on, IsTyped, types_over}
use Rattle.txs_laws.proofs.rules.Put.{Picked}
use Rattle.txs_laws.proofs.rules.Places.{Within, HaveTypes-length, typed_on}

-- ---- the whole of an ascending action

above_apart : (x c : ℕ) → x < c → eqb x c ≡ false
above_apart x c h = ne_eqb x c (λ e. omega arith)

values_past : (p : Part) (ps : Action) (c : ℕ) → p.channel < c → values_on (p ∷ ps) c ≡ values_on ps c
values_past p ps c h = by (eqb p.channel c) (above_apart p.channel c h)
  where
    by : (b : Bool) → b ≡ false → cond b p.values (values_on ps c) ≡ values_on ps c
    by true e = cc
    by false e = refl

part_past : (p : Part) (ps : Action) (cs : Channels) → AllAbove p.channel cs → part_of (p ∷ ps) cs ≡ part_of ps cs
part_past p ps [] a = refl
part_past p ps (c ∷ cs) a = let v = values_past p ps c a.0 in let r = part_past p ps cs a.1 in cc

values_here : (p : Part) (ps : Action) → values_on (p ∷ ps) p.channel ≡ p.values
values_here p ps = by (eqb p.channel p.channel) (eq-eqb p.channel p.channel refl)
  where
    by : (b : Bool) → b ≡ true → cond b p.values (values_on ps p.channel) ≡ p.values
    by true e = refl
    by false e = cc

with_values : Part → List Value → Part
unfolding values_here
with_values p vs = record { channel = p.channel; values = vs }

pub part_whole : (a : Action) → Ascending (channels a) → part_of a (channels a) ≡ a
unfolding with_values
part_whole [] h = refl
part_whole (p ∷ ps) h =
    let v = ap (with_values p) (values_here p ps) in
    let r = part_past p ps (channels ps) h.0 ∙ part_whole ps h.1 in
    cc

-- ---- an action from values in a row

pub typed_row : (table : Table) (scope : Scope) (a : Action) → IsTyped table scope a → HaveTypes table (values a) (types_over scope (channels a))
typed_row table scope [] h = tt
typed_row table scope (p ∷ ps) h = typed-append p.values (values ps) (types_on scope p.channel) _ h.0 (typed_row table scope ps h.1)
  where
    typed-append : (us vs : List Value) (ts ts' : List Ty) → HaveTypes table us ts → HaveTypes table vs ts' → HaveTypes table (us ++ vs) (ts ++ ts')
    typed-append [] vs [] ts' a b = b
    typed-append [] vs (t ∷ ts) ts' a b = absurd a
    typed-append (u ∷ us) vs [] ts' a b = absurd a
    typed-append (u ∷ us) vs (t ∷ ts) ts' a b = (a.0, typed-append us vs ts ts' a.1 b)

cut_types : (table : Table) (ts ts' : List Ty) (vs : List Value) → HaveTypes table vs (ts ++ ts')
    → (us : List Value) × (ws : List Value) × (vs ≡ us ++ ws) × HaveTypes table us ts × HaveTypes table ws ts'
cut_types table [] ts' vs h = ([], vs, refl, tt, h)
cut_types table (t ∷ ts) ts' [] h = absurd h
cut_types table (t ∷ ts) ts' (v ∷ vs) h =
    let p = cut_types table ts ts' vs h.1 in (v ∷ p.0, p.1, ap (λ xs. v ∷ xs) p.2, (h.0, p.3), p.4)

pub from_row : (table : Table) (scope : Scope) (cs : Channels) (vs : List Value) → HaveTypes table vs (types_over scope cs)
    → (x : Action) × (channels x ≡ cs) × (values x ≡ vs) × IsTyped table scope x
from_row table scope [] [] h = ([], refl, refl, tt)
from_row table scope [] (v ∷ vs) h = absurd h
from_row table scope (c ∷ cs) vs h =
    let p = cut_types table (types_on scope c) (types_over scope cs) vs h in
    let q = from_row table scope cs p.1 p.4 in
    (record { channel = c; values = p.0 } ∷ q.0, ap (λ xs. c ∷ xs) q.1, ap (λ ws. p.0 ++ ws) q.2 ∙ sym p.2, (p.3, q.3))

pub Picked_along : (vs vs' : List Value) (ps : List ℕ) (ws : List Value) → ((j : ℕ) → has ps j ≡ true → filled vs' j ≡ filled vs j) → Picked vs ps ws → Picked vs' ps ws
Picked_along vs vs' [] [] h k = tt
Picked_along vs vs' [] (w ∷ ws) h k = k
Picked_along vs vs' (p ∷ ps) [] h k = k
Picked_along vs vs' (p ∷ ps) (w ∷ ws) h k = (
  h p (or_left (eqb p p) (has ps p) (eq-eqb p p refl)) ∙ k.0,
  Picked_along vs vs' ps ws (λ j m. h j (or_right (eqb p j) (has ps j) m)) k.1,
)

pub same_picked : (vs : List Value) (ps : List ℕ) (us ws : List Value) → Picked vs ps us → Picked vs ps ws → us ≡ ws
same_picked vs [] [] [] a b = refl
same_picked vs [] [] (w ∷ ws) a b = absurd b
same_picked vs [] (u ∷ us) ws a b = absurd a
same_picked vs (p ∷ ps) [] ws a b = absurd a
same_picked vs (p ∷ ps) (u ∷ us) [] a b = absurd b
same_picked vs (p ∷ ps) (u ∷ us) (w ∷ ws) a b =
    let x = a.0 in let y = b.0 in let r = same_picked vs ps us ws a.1 b.1 in
    let z : u ≡ w = cc in cc

same_fronts : (us us' ws ws' : List Value) → length us ≡ length us' → us ++ ws ≡ us' ++ ws' → (us ≡ us') × (ws ≡ ws')
same_fronts [] [] ws ws' n e = (refl, e)
same_fronts [] (u ∷ us') ws ws' n e = cc
same_fronts (u ∷ us) [] ws ws' n e = cc
same_fronts (u ∷ us) (u' ∷ us') ws ws' n e =
    let p = same_fronts us us' ws ws' (let q = n in cc) (cc) in
    let x = p.0 in let h : u ≡ u' = cc in (cc, p.1)

-- parts with the same values in a row are the same
pub same_parts : (table : Table) (scope : Scope) (x y : Action) (cs : Channels) → IsTyped table scope x → IsTyped table scope y → Within cs (channels x) → Within cs (channels y)
    → values_over x cs ≡ values_over y cs → part_of x cs ≡ part_of y cs
same_parts table scope x y [] tx ty wx wy e = refl
same_parts table scope x y (c ∷ cs) tx ty wx wy e =
    let nx = HaveTypes-length table (values_on x c) (types_on scope c) (typed_on table scope x c tx wx.0) in
    let ny = HaveTypes-length table (values_on y c) (types_on scope c) (typed_on table scope y c ty wy.0) in
    let p = same_fronts (values_on x c) (values_on y c) (values_over x cs) (values_over y cs) (nx ∙ sym ny) e in
    let v = p.0 in
    let r = same_parts table scope x y cs tx ty wx.1 wy.1 p.1 in
    cc
