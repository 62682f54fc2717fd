-- A set goes on as a trace does.
use Rattle.std.proofs.Common.{◌≡◌, ◌<◌, ◌⊎◌, ◌↔◌, inl, inr, ℕ, Bool, true, false, cond, List, [], ◌∷◌, length, refl, sym, ◌∙◌, ap, subst, arith}
use Rattle.std.proofs.lemmas.List.{length-map}
use Rattle.txs_terms.specs.declared.term.Term as rust
use Rattle.txs_terms.specs.Action.{Action, Scope, IsAction}
use Rattle.txs_terms.specs.Term.{Term}
use Rattle.txs_terms.specs.Rules.{In, Model}
use Rattle.txs_terms.specs.After.{Sync, Observable, acted, quiescence, here, After, CanDo, Out}
use Rattle.txs_terms.specs.Sets.{IsAfter, IsInt, IsPlain, ArePlain}
use Rattle.txs_terms.specs.Moves.{moves_of, all_moves, speaks, quiet_ones}
use Rattle.txs_terms.specs.View.{term_of, terms_of}
use Rattle.txs_terms.proofs.Members.{in_front, in_back, in_either}
use Rattle.txs_terms.proofs.Prefixes.{stays, plain_still, moved_still}
use Rattle.txs_terms.proofs.MoveLaws.{step_in, step_is}
use Rattle.txs_terms.proofs.QuietLaws.{quiet_is, quiet_speaks_not}

-- ---- lists

some_in : (xs : List Term) → 0 < length xs → (t : Term) × In t xs
some_in [] h = absurd (omega arith)
some_in (x ∷ xs) h = (x, inl refl)

in_some : (t : Term) (xs : List Term) → In t xs → 0 < length xs
in_some t [] h = absurd h
in_some t (x ∷ xs) h = omega arith

pub plain_at : (set : List Term) (s : Term) → ArePlain set → In s set → IsPlain 0 s
plain_at [] s p h = absurd h
plain_at (t ∷ ts) s p (inl e) = subst (λ u. IsPlain 0 u) (sym e) p.0
plain_at (t ∷ ts) s p (inr h) = plain_at ts s p.1 h

pub same_length : (ts : List rust.Term) (us : List Term) → terms_of ts ≡ us → length us ≡ length ts
same_length ts us e = sym (ap length e) ∙ length-map ts term_of

-- ---- after an action

all_is : (set : List Term) (a : Action) (t : Term) → In t (all_moves set a) → (s : Term) × In s set × In t (moves_of s a)
all_is [] a t h = absurd h
all_is (s ∷ set) a t h = elim (in_either t (moves_of s a) (all_moves set a) h) [
  | inl l ↦ (s, inl refl, l)
  | inr r ↦ let g = all_is set a t r in (g.0, inr g.1, g.2)
]

all_in : (set : List Term) (a : Action) (s t : Term) → In s set → In t (moves_of s a) → In t (all_moves set a)
all_in [] a s t m h = absurd m
all_in (r ∷ set) a s t (inl e) h = in_front t (moves_of r a) (all_moves set a) (subst (λ (q : Term). In t (moves_of q a)) e h)
all_in (r ∷ set) a s t (inr m) h = in_back t (moves_of r a) (all_moves set a) (all_in set a s t m h)

pub set_acts : (model : Model) (scope : Scope) (sync : Sync) (b : Term) (trace : List Observable) (set : List Term) (a : Action) → ArePlain set
    → IsAction model.defs.table scope a → IsAfter model scope sync b trace set
    → IsAfter model scope sync b (acted a ∷ trace) (all_moves set a)
set_acts model scope sync b trace set a p i h t = (
  λ m. let g = all_is set a t m in (g.0, t, (h g.0).0 g.1, step_is model scope g.0 a t (plain_at set g.0 p g.1) i g.2, here),
  λ k. let m = (h k.0).1 k.2 in
      let q = plain_at set k.0 p m in
      let e : t ≡ k.1 = stays model scope k.1 t (λ u x. moved_still model scope k.0 a k.1 u q k.3 x) k.4 in
      subst (λ u. In u (all_moves set a)) (sym e) (all_in set a k.0 k.1 m (step_in model scope k.0 a k.1 q k.3)),
)

pub set_can_do : (model : Model) (scope : Scope) (sync : Sync) (b : Term) (trace : List Observable) (set : List Term) (a : Action) → ArePlain set
    → IsAction model.defs.table scope a → IsAfter model scope sync b trace set
    → (0 < length (all_moves set a)) ↔ CanDo model scope sync b trace a
set_can_do model scope sync b trace set a p i h = (
  λ n. let m = some_in (all_moves set a) n in
      let g = all_is set a m.0 m.1 in
      (g.0, m.0, (h g.0).0 g.1, step_is model scope g.0 a m.0 (plain_at set g.0 p g.1) i g.2),
  λ k. let m = (h k.0).1 k.2 in in_some k.1 (all_moves set a) (all_in set a k.0 k.1 m (step_in model scope k.0 a k.1 (plain_at set k.0 p m) k.3)),
)

-- ---- after quiescence

kept_by : (out : ℕ) (s : Term) (set : List Term) (t : Term) (x : Bool) → (In t (quiet_ones out set)
    → In t set × (speaks out t ≡ false)) → speaks out s ≡ x
    → In t (cond x (quiet_ones out set) (s ∷ quiet_ones out set)) → In t (s ∷ set) × (speaks out t ≡ false)
kept_by out s set t true ih e h = let g = ih h in (inr g.0, g.1)
kept_by out s set t false ih e (inl q) = (inl q, ap (speaks out) q ∙ e)
kept_by out s set t false ih e (inr h) = let g = ih h in (inr g.0, g.1)

kept_is : (out : ℕ) (set : List Term) (t : Term) → In t (quiet_ones out set) → In t set × (speaks out t ≡ false)
kept_is out [] t h = absurd h
kept_is out (s ∷ set) t h = kept_by out s set t (speaks out s) (kept_is out set t) refl h

kept_in_by : (out : ℕ) (s : Term) (set : List Term) (t : Term) (x : Bool) → (In t set → In t (quiet_ones out set))
    → speaks out s ≡ x → (t ≡ s) ⊎ In t set
    → speaks out t ≡ false → In t (cond x (quiet_ones out set) (s ∷ quiet_ones out set))
kept_in_by out s set t true ih a (inl q) e = let b : true ≡ false = sym a ∙ (sym (ap (speaks out) q) ∙ e) in absurd (cc)
kept_in_by out s set t true ih a (inr m) e = ih m
kept_in_by out s set t false ih a (inl q) e = inl q
kept_in_by out s set t false ih a (inr m) e = inr (ih m)

kept_in : (out : ℕ) (set : List Term) (t : Term) → In t set → speaks out t ≡ false → In t (quiet_ones out set)
kept_in out [] t m e = absurd m
kept_in out (s ∷ set) t m e = kept_in_by out s set t (speaks out s) (λ k. kept_in out set t k e) refl m e

pub set_rests : (model : Model) (scope : Scope) (sync : Sync) (b : Term) (trace : List Observable) (set : List Term) (out : ℕ)
    → ArePlain set
    → IsInt scope out → sync.outs ≡ (out ∷ []) ∷ [] → IsAfter model scope sync b trace set
    → IsAfter model scope sync b (quiescence ∷ trace) (quiet_ones out set)
set_rests model scope sync b trace set out p i e h t = (
  λ m. let g = kept_is out set t m in ((h t).0 g.0, quiet_is model scope sync out t e (plain_at set t p g.0) g.1),
  λ k. let m = (h t).1 k.0 in kept_in out set t m (quiet_speaks_not model scope sync out t i e (plain_at set t p m) k.1),
)

pub set_quiet : (model : Model) (scope : Scope) (sync : Sync) (b : Term) (trace : List Observable) (set : List Term) (out : ℕ)
    → ArePlain set
    → IsInt scope out → sync.outs ≡ (out ∷ []) ∷ [] → IsAfter model scope sync b trace set
    → (0 < length (quiet_ones out set)) ↔ Out model scope sync b trace quiescence
set_quiet model scope sync b trace set out p i e h = (
  λ n. let m = some_in (quiet_ones out set) n in
      let g = (set_rests model scope sync b trace set out p i e h m.0).0 m.1 in
      (m.0, g.0, g.1),
  λ k. in_some k.0 (quiet_ones out set) ((set_rests model scope sync b trace set out p i e h k.0).1 (k.1, k.2)),
)

-- ---- at first

pub set_first : (model : Model) (scope : Scope) (sync : Sync) (b : Term) → IsPlain 0 b → IsAfter model scope sync b [] (b ∷ [])
set_first model scope sync b p t = (only, λ k. inl (stays model scope b t (λ u x. plain_still model scope b u p x) k))
  where
    only : In t (b ∷ []) → After model scope sync b [] t
    only (inl e) = subst (λ u. After model scope sync b [] u) (sym e) here
    only (inr h) = absurd h
