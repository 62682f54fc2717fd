-- What the examples of sets are made with: members with their menus, and how a term is told from others.
use Rattle.std.proofs.Common.{◌≡◌, ◌≢◌, ℕ, ◌+◌, ◌*◌, inl, inr, Bool, true, false, eqb, eq-eqb, true≢false, List, [], ◌∷◌, ◌++◌, length, Option, Some, refl, sym, ap, ◌∙◌}
use Rattle.std.specs.Prelude.{pos, ◌&&◌, not}
use Rattle.txs_values.specs.Value.{num}
use Rattle.txs_terms.specs.Expr.{Expr, val}
use Rattle.txs_terms.specs.Action.{Action, Scope}
use Rattle.txs_terms.specs.Term.{Position, give, take, Offer, Term, prefix, step, choice, par, enable, disable, interrupt, hide}
use Rattle.txs_terms.specs.Rules.{In, Model}
use Rattle.txs_terms.specs.Menu.{Item, items_nodes, menu, walked}
use Rattle.txs_terms.specs.Close.{inner_rests, Targets, and_terms, moved_items, Moves}

-- a member of a set, with the nodes of its walk and its items
pub record Member : Type 0 where
  pub term : Term
  pub met : ℕ
  pub items : List Item

abbrev pub member : Term → ℕ → List Item → Member
member t n is = record { term = t; met = n; items = is }

abbrev pub terms : List Member → List Term
terms [] = []
terms (m ∷ ms) = m.term ∷ terms ms

abbrev pub targets : List Member → List Term
targets [] = []
targets (m ∷ ms) = inner_rests m.items ++ targets ms

abbrev pub menus_nodes : List Member → ℕ
menus_nodes [] = 0
menus_nodes (m ∷ ms) = items_nodes m.items + menus_nodes ms

abbrev pub AreMembers : Model → Scope → List Member → Type 0
AreMembers model scope [] = Unit {0}
AreMembers model scope (m ∷ ms) = (menu model scope m.term ≡ walked m.met m.items) × AreMembers model scope ms

pub targets_of : (model : Model) (scope : Scope) (ms : List Member) → AreMembers model scope ms
    → Targets model scope (terms ms) (targets ms) (menus_nodes ms)
targets_of model scope [] h = (refl, refl)
targets_of model scope (m ∷ ms) h = (m.met, m.items, targets ms, menus_nodes ms, h.0, targets_of model scope ms h.1, refl, refl)

abbrev pub moved_to : Model → Action → List Member → Option (List Term)
moved_to model a [] = Some []
moved_to model a (m ∷ ms) = and_terms (moved_items model.defs a m.items) (moved_to model a ms)

pub moves_of : (model : Model) (scope : Scope) (a : Action) (ms : List Member) → AreMembers model scope ms
    → Moves model scope a (terms ms) (moved_to model a ms)
moves_of model scope a [] h = refl
moves_of model scope a (m ∷ ms) h = (m.met, m.items, moved_to model a ms, h.0, moves_of model scope a ms h.1, refl)

-- ---- terms told apart

abbrev expr_weight : Expr → ℕ
expr_weight (val (num (pos n))) = 1 + n
expr_weight _ = 1

abbrev positions_weight : List Position → ℕ
positions_weight [] = 0
positions_weight (give e ∷ ps) = expr_weight e + positions_weight ps
positions_weight (take x ∷ ps) = 1 + positions_weight ps

abbrev offers_weight : List Offer → ℕ
offers_weight [] = 0
offers_weight (o ∷ os) = o.channel + positions_weight o.positions + offers_weight os

-- a number that differs for the terms of these examples
abbrev weight : Term → ℕ
weight (prefix os gs t) = 1 + offers_weight os + 2 * weight t
weight (step gs t) = 1 + 2 * weight t
weight (choice a b) = 1 + weight a + weight b
weight (par gates a b) = 2 + weight a + weight b
weight (enable a xs b) = 3 + weight a + weight b
weight (disable a b) = 4 + weight a + weight b
weight (interrupt a b) = 5 + weight a + weight b
weight (hide hs t) = 1 + weight t
weight _ = 1

abbrev pub is_new : Term → List Term → Bool
is_new t [] = true
is_new t (u ∷ set) = not (eqb (weight t) (weight u)) && is_new t set

pub new : (t : Term) (set : List Term) → is_new t set ≡ true → In t set → ⊥
new t [] h m = m
new t (u ∷ set) h (inl e) = absurd (true≢false (sym h ∙ ap (λ b. not b && is_new t set) (eq-eqb (weight t) (weight u) (ap weight e))))
new t (u ∷ set) h (inr m) = new t set (rest_of (not (eqb (weight t) (weight u))) (is_new t set) h) m
  where
    rest_of : (b c : Bool) → b && c ≡ true → c ≡ true
    rest_of true c e = e
    rest_of false c e = absurd (true≢false (sym e))

-- a set with more members is another one
pub longer : (more set : List Term) → eqb (length more) (length set) ≡ false → more ≢ set
longer more set h e = absurd (true≢false (sym (eq-eqb (length more) (length set) (ap length e)) ∙ h))
