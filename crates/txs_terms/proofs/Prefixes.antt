-- The steps of plain terms.
use Rattle.std.proofs.Common.{◌≡◌, ◌⊎◌, inl, inr, ℕ, ℤ, true, List, [], map, refl, ap, subst}
use Rattle.std.proofs.lemmas.Bool.Decides.{Decides-int_eq}
use Rattle.txs_values.specs.Value.{Value, num}
use Rattle.txs_terms.specs.Expr.{Expr, val, filled}
use Rattle.txs_terms.specs.Eval.{Defs, height_limit, node_limit, eval, Gives, got}
use Rattle.txs_terms.specs.Action.{Action, Label, act, inner, ends, channels, values_over, Scope, in_order}
use Rattle.txs_terms.specs.Term.{Offer, Term, stop, prefix, choice, put_offer, fill}
use Rattle.txs_terms.specs.Rules.{Model, MeetAll, offered, Step, offers, choose_left, choose_right}
use Rattle.txs_terms.specs.After.{Inners, here, onward}
use Rattle.txs_terms.specs.Sets.{IsPlain}
use Rattle.txs_terms.specs.Moves.{is_number}

-- ---- values

value_run : (defs : Defs) (v : Value) → eval defs (val v) ≡ got v 1
unfolding height_limit node_limit
value_run defs v = refl

pub value_gives : (defs : Defs) (v : Value) → Gives defs (val v) v
value_gives defs v = (1, value_run defs v)

pub given_value : (defs : Defs) (w v : Value) → Gives defs (val w) v → v ≡ w
given_value defs w v h = let e = value_run defs w in let k = h.1 in cc

pub number_is : (e : Expr) (v : Value) → is_number e v ≡ true → e ≡ val v
number_is (val (num x)) (num y) h = ap (λ z. val (num z)) ((Decides-int_eq x y).0 h)
number_is e v h = cc

pub same_number : (x : ℤ) → is_number (val (num x)) (num x) ≡ true
same_number x = (Decides-int_eq x x).1 refl

-- ---- what a plain term does

abbrev pub Does : Model → List Offer → Term → Label → Term → Type 0
Does model os t (act a) t' = (channels a ≡ in_order (offered os)) × MeetAll model.defs os a × (t' ≡ fill (values_over a (offered os)) t)
Does model os t inner t' = ⊥
Does model os t (ends vs) t' = ⊥

pub prefix_does : (model : Model) (scope : Scope) (os : List Offer) (gs : List Expr) (t : Term) (l : Label) (t' : Term)
    → Step model scope (prefix os gs t) l t' → Does model os t l t'
prefix_does model scope os gs t l t' (offers a e i m h) = (e, m, refl)

pub stop_does : (model : Model) (scope : Scope) (l : Label) (t' : Term) → Step model scope stop l t' → ⊥
stop_does model scope l t' s = elim s [ ]

pub choice_does : (model : Model) (scope : Scope) (a b : Term) (l : Label) (t' : Term)
    → Step model scope (choice a b) l t' → Step model scope a l t' ⊎ Step model scope b l t'
choice_does model scope a b l t' (choose_left s) = inl s
choice_does model scope a b l t' (choose_right s) = inr s

-- a plain term has no internal step, whatever is put in
pub still : (model : Model) (scope : Scope) (n : ℕ) (vs : List Value) (t t' : Term) → IsPlain n t
    → Step model scope (fill vs t) inner t' → ⊥
still model scope n vs stop t' h s = stop_does model scope inner t' s
still model scope n vs (prefix os [] t) t' h s = prefix_does model scope (map (put_offer (filled vs)) os) [] (fill vs t) inner t' s
still model scope n vs (choice a b) t' h s = elim (choice_does model scope (fill vs a) (fill vs b) inner t' s) [
  | inl x ↦ still model scope n vs a t' h.0 x
  | inr x ↦ still model scope n vs b t' h.1 x
]
still model scope n vs _ t' h s = absurd h

pub stays : (model : Model) (scope : Scope) (s t : Term) → ((u : Term) → Step model scope s inner u → ⊥)
    → Inners model scope s t → t ≡ s
stays model scope s t n here = refl
stays model scope s t n (onward x r) = absurd (n _ x)

pub plain_still : (model : Model) (scope : Scope) (t t' : Term) → IsPlain 0 t → Step model scope t inner t' → ⊥
plain_still model scope stop t' h s = stop_does model scope inner t' s
plain_still model scope (prefix os [] t) t' h s = prefix_does model scope os [] t inner t' s
plain_still model scope (choice a b) t' h s = elim (choice_does model scope a b inner t' s) [
  | inl x ↦ plain_still model scope a t' h.0 x
  | inr x ↦ plain_still model scope b t' h.1 x
]
plain_still model scope _ t' h s = absurd h

-- nor has a term to which an action leads
pub moved_still : (model : Model) (scope : Scope) (s : Term) (a : Action) (t u : Term) → IsPlain 0 s
    → Step model scope s (act a) t → Step model scope t inner u → ⊥
moved_still model scope stop a t u h s x = stop_does model scope (act a) t s
moved_still model scope (prefix os [] b) a t u h s x =
    let d = prefix_does model scope os [] b (act a) t s in
    still model scope 1 (values_over a (offered os)) b u h.1 (subst (λ v. Step model scope v inner u) d.2 x)
moved_still model scope (choice l r) a t u h s x = elim (choice_does model scope l r (act a) t s) [
  | inl y ↦ moved_still model scope l a t u h.0 y x
  | inr y ↦ moved_still model scope r a t u h.1 y x
]
moved_still model scope _ a t u h s x = absurd h
