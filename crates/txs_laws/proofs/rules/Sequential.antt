-- The menus of STOP, EXIT, prefix, ISTEP, guard and choice.
use Rattle.std.proofs.Common.{◌≡◌, ℕ, inl, inr, List, [], ◌∷◌, ◌++◌, refl, sym, ap, subst, false}
use Rattle.txs_values.specs.Value.{Value}
use Rattle.txs_terms.specs.Expr.{Expr}
use Rattle.txs_terms.specs.Eval.{Hold}
use Rattle.txs_terms.specs.Action.{Label, act, inner, ends, Scope, Ascending, is_empty}
use Rattle.txs_terms.specs.Term.{Term, stop, exits, step, guard, choice, fill}
use Rattle.txs_terms.specs.Rules.{In, Model, AllGive, Step, steps, exit, guarded, choose_left, choose_right}
use Rattle.txs_terms.specs.Menu.{Kind, on, within, ending, Item, Walk, walked, judge, fails, where_holds}
use Rattle.txs_laws.specs.Menus.{kind_of, given, IsSound, Found, IsComplete}
use Rattle.txs_laws.proofs.rules.Put.{put_slots_term}
use Rattle.txs_laws.proofs.rules.Tests.{same_list, judge_holds, holds_judge}
use Rattle.txs_laws.proofs.rules.Lists.{In_front, In_back, In-append, walked_items, where_holds_from}

-- an item has channels, and they ascend
abbrev pub InOrder : Kind → Type 0
InOrder (on cs) = Ascending cs × (is_empty cs ≡ false)
InOrder within = Unit {0}
InOrder (ending vs) = Unit {0}

abbrev pub AllInOrder : List Item → Type 0
AllInOrder items = (i : Item) → In i items → InOrder i.kind

abbrev pub Means : Model → Scope → Term → List Item → Type 0
Means model scope t items = IsSound model scope t items × IsComplete model scope t items × AllInOrder items

pub no_items : AllInOrder []
no_items i h = absurd h

pub one_item : (i : Item) → InOrder i.kind → AllInOrder (i ∷ [])
one_item i o j (inl e) = subst (λ k. InOrder k.kind) (sym e) o
one_item i o j (inr h) = absurd h

pub more_items : (is js : List Item) → AllInOrder is → AllInOrder js → AllInOrder (is ++ js)
more_items is js a b i h = elim (In-append i is js h) [ inl p ↦ a i p | inr p ↦ b i p ]

pub only_kind : {x y : List Value} → ending x ≡ ending y → x ≡ y
only_kind e = cc

-- ---- STOP and EXIT

pub stop_means : (model : Model) (scope : Scope) → Means model scope stop []
stop_means model scope = (λ i l h d. absurd h, λ l t' s. elim s [ ], no_items)

module _ (model : Model) (scope : Scope) where
  abbrev exit_item : List Value → Item
  exit_item vs = record { kind = ending vs; guards = []; rest = stop }

  exit_by : (es : List Expr) (vs : List Value) → AllGive model.defs es vs → (l : Label) → kind_of l ≡ ending vs
      → Step model scope (exits es) l stop
  exit_by es vs g (act a) e = cc
  exit_by es vs g inner e = cc
  exit_by es vs g (ends ws) e = exit ws (subst (λ us. AllGive model.defs es us) (sym (only_kind e)) g)

  exit_sound : (es : List Expr) (vs : List Value) → AllGive model.defs es vs → IsSound model scope (exits es) (exit_item vs ∷ [])
  exit_sound es vs g i l (inr h) d = absurd h
  exit_sound es vs g i l (inl e) d =
      subst (λ j. Step model scope (exits es) l (fill (given l) j.rest)) (sym e)
      (exit_by es vs g l (subst (λ j. kind_of l ≡ j.kind) e d.kind))

  exit_complete : (es : List Expr) (vs : List Value) → AllGive model.defs es vs → IsComplete model scope (exits es) (exit_item vs ∷ [])
  exit_complete es vs g l t' (exit ws h) = record {
    item = exit_item vs;
    listed = inl refl;
    does = record { kind = ap ending (same_list model.defs es ws vs h g); typed = tt; holds = tt };
    rest = refl;
  }

  pub exit_means : (es : List Expr) (vs : List Value) → AllGive model.defs es vs → Means model scope (exits es) (exit_item vs ∷ [])
  exit_means es vs g = (exit_sound es vs g, exit_complete es vs g, one_item (exit_item vs) tt)

  -- ---- ISTEP

  abbrev step_item : Term → Item
  step_item t = record { kind = within; guards = []; rest = t }

  step_by : (gs : List Expr) (t : Term) → Hold model.defs gs → (l : Label) → kind_of l ≡ within
      → Step model scope (step gs t) l (fill (given l) t)
  step_by gs t h (act a) e = cc
  step_by gs t h inner e = rw (put_slots_term t) (steps h)
  step_by gs t h (ends ws) e = cc

  step_sound : (gs : List Expr) (t : Term) → Hold model.defs gs → IsSound model scope (step gs t) (step_item t ∷ [])
  step_sound gs t h i l (inr n) d = absurd n
  step_sound gs t h i l (inl e) d =
      subst (λ j. Step model scope (step gs t) l (fill (given l) j.rest)) (sym e)
      (step_by gs t h l (subst (λ j. kind_of l ≡ j.kind) e d.kind))

  step_complete : (gs : List Expr) (t : Term) → IsComplete model scope (step gs t) (step_item t ∷ [])
  step_complete gs t l t' (steps h) = record {
    item = step_item t;
    listed = inl refl;
    does = record { kind = refl; typed = tt; holds = tt };
    rest = put_slots_term t;
  }

  -- where a guard fails, it does not hold
  not_both : (gs : List Expr) → judge model.defs gs ≡ fails → Hold model.defs gs → ⊥
  not_both gs e h = let k = holds_judge model.defs gs h in absurd (cc)

  step_none : (gs : List Expr) (t : Term) → judge model.defs gs ≡ fails → Means model scope (step gs t) []
  step_none gs t e = (λ i l h d. absurd h, none, no_items)
    where
      none : IsComplete model scope (step gs t) []
      none l t' (steps h) = absurd (not_both gs e h)

  pub step_means : (gs : List Expr) (t : Term) (n m : ℕ) (is : List Item)
      → where_holds (judge model.defs gs) n (walked n (step_item t ∷ [])) ≡ walked m is → Means model scope (step gs t) is
  step_means gs t n m is e =
      elim (where_holds_from (judge model.defs gs) n _ m is e) [
        | inl p ↦ subst (Means model scope (step gs t)) (walked_items n m _ is p.1)
            (step_sound gs t (judge_holds model.defs gs p.0), step_complete gs t, one_item (step_item t) tt)
        | inr p ↦ subst (Means model scope (step gs t)) (sym p.1) (step_none gs t p.0)
      ]

  -- ---- guard

  guard_none : (gs : List Expr) (t : Term) → judge model.defs gs ≡ fails → Means model scope (guard gs t) []
  guard_none gs t e = (λ i l h d. absurd h, none, no_items)
    where
      none : IsComplete model scope (guard gs t) []
      none l t' (guarded h s) = absurd (not_both gs e h)

  guard_complete : (gs : List Expr) (t : Term) (is : List Item) → IsComplete model scope t is → IsComplete model scope (guard gs t) is
  guard_complete gs t is c l t' (guarded h s) = c l t' s

  pub guard_means : (gs : List Expr) (t : Term) (n m : ℕ) (is : List Item) (w : Walk)
      → where_holds (judge model.defs gs) n w ≡ walked m is → (w ≡ walked m is → Means model scope t is)
      → Means model scope (guard gs t) is
  guard_means gs t n m is w e go =
      elim (where_holds_from (judge model.defs gs) n w m is e) [
        | inl p ↦ (let b = go p.1 in
            ((λ i l h d. guarded (judge_holds model.defs gs p.0) (b.0 i l h d)), guard_complete gs t is b.1, b.2))
        | inr p ↦ subst (Means model scope (guard gs t)) (sym p.1) (guard_none gs t p.0)
      ]

  -- ---- choice

  pub found_front : (is js : List Item) (l : Label) (t' : Term) → Found model scope is l t' → Found model scope (is ++ js) l t'
  found_front is js l t' f = record { item = f.item; listed = In_front f.item is js f.listed; does = f.does; rest = f.rest }

  pub found_back : (is js : List Item) (l : Label) (t' : Term) → Found model scope js l t' → Found model scope (is ++ js) l t'
  found_back is js l t' f = record { item = f.item; listed = In_back f.item is js f.listed; does = f.does; rest = f.rest }

  choice_complete : (a b : Term) (is js : List Item) → IsComplete model scope a is → IsComplete model scope b js
      → IsComplete model scope (choice a b) (is ++ js)
  choice_complete a b is js ca cb l t' (choose_left s) = found_front is js l t' (ca l t' s)
  choice_complete a b is js ca cb l t' (choose_right s) = found_back is js l t' (cb l t' s)

  choice_sound : (a b : Term) (is js : List Item) → IsSound model scope a is → IsSound model scope b js
      → IsSound model scope (choice a b) (is ++ js)
  choice_sound a b is js sa sb i l h d =
      elim (In-append i is js h) [ inl p ↦ choose_left (sa i l p d) | inr p ↦ choose_right (sb i l p d) ]

  pub choice_means : (a b : Term) (is js : List Item) → Means model scope a is → Means model scope b js
      → Means model scope (choice a b) (is ++ js)
  choice_means a b is js ma mb = (choice_sound a b is js ma.0 mb.0, choice_complete a b is js ma.1 mb.1, more_items is js ma.2 mb.2)
