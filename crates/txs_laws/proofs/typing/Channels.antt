-- Channels in scope, and the values of a typed action on its channels.
use Rattle.std.proofs.Common.{◌≡◌, ◌<◌, ℕ, Bool, true, false, cond, eqb, ltb, [], ◌∷◌, refl, ltb-true}
use Rattle.txs_values.specs.Value.{Table, HaveTypes}
use Rattle.txs_terms.specs.Action.{Action, channels, values_on, values_over, Channels, with_channel, union, kept, Scope, types_on, types_over, IsTyped}
use Rattle.txs_terms.specs.Rules.{visible}
use Rattle.txs_terms.specs.Typed.{AllBelow}
use Rattle.txs_laws.proofs.rules.Places.{Within, typed_on}
use Rattle.txs_laws.proofs.rules.Channels.{has_self, within_cons}
use Rattle.txs_terms.proofs.typing.Lists.{have_joined}

-- ---- kept channels

kept_first : (p : ℕ → Bool) (x : ℕ) (xs all : Channels) (b : Bool) → Within (kept p xs) (x ∷ all) → Within (cond b (x ∷ kept p xs) (kept p xs)) (x ∷ all)
kept_first p x xs all true h = (has_self x all, h)
kept_first p x xs all false h = h

pub within_kept : (p : ℕ → Bool) (xs : Channels) → Within (kept p xs) xs
within_kept p [] = tt
within_kept p (x ∷ xs) = kept_first p x xs xs (p x) (within_cons x (kept p xs) xs (within_kept p xs))

-- ---- below a depth

new_below : (depth c x : ℕ) (xs : Channels) (p q : Bool) → c < depth → AllBelow depth (x ∷ xs) → AllBelow depth (with_channel c xs)
    → AllBelow depth (cond p (c ∷ x ∷ xs) (cond q (x ∷ xs) (x ∷ with_channel c xs)))
new_below depth c x xs true q h k r = (h, k)
new_below depth c x xs false true h k r = k
new_below depth c x xs false false h k r = (k.0, r)

channel_below : (depth c : ℕ) (xs : Channels) → c < depth → AllBelow depth xs → AllBelow depth (with_channel c xs)
channel_below depth c [] h k = (h, tt)
channel_below depth c (x ∷ xs) h k = new_below depth c x xs (ltb c x) (eqb c x) h k (channel_below depth c xs h k.1)

pub union_below : (depth : ℕ) (xs ys : Channels) → AllBelow depth xs → AllBelow depth ys → AllBelow depth (union xs ys)
union_below depth [] ys h k = k
union_below depth (x ∷ xs) ys h k = channel_below depth x (union xs ys) h.0 (union_below depth xs ys h.1 k)

visible_first : (depth c : ℕ) (cs : Channels) (b : Bool) → ltb c depth ≡ b → AllBelow depth (visible depth cs)
    → AllBelow depth (cond b (c ∷ visible depth cs) (visible depth cs))
visible_first depth c cs true e h = (ltb-true c depth e, h)
visible_first depth c cs false e h = h

pub visible_below : (depth : ℕ) (cs : Channels) → AllBelow depth (visible depth cs)
visible_below depth [] = tt
visible_below depth (c ∷ cs) = visible_first depth c cs (ltb c depth) refl (visible_below depth cs)

-- ---- typed actions

pub typed_over : (table : Table) (scope : Scope) (a : Action) (cs : Channels) → IsTyped table scope a → Within cs (channels a)
    → HaveTypes table (values_over a cs) (types_over scope cs)
typed_over table scope a [] t h = tt
typed_over table scope a (c ∷ cs) t h =
    have_joined table (values_on a c) (types_on scope c) (values_over a cs) (types_over scope cs) (typed_on table scope a c t h.0) (typed_over table scope a cs t h.1)
