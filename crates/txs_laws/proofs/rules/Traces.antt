-- Sets that are closed and moved are the terms after a trace.
use Rattle.std.proofs.Common.{inl, inr, List, [], ◌∷◌, refl, sym, subst}
use Rattle.txs_terms.specs.Action.{act, inner, Scope}
use Rattle.txs_terms.specs.Term.{Term}
use Rattle.txs_terms.specs.Rules.{Model}
use Rattle.txs_terms.specs.After.{Inners, here, onward, Observable, acted, quiescence, Sync, After}
use Rattle.txs_terms.specs.Typed.{WellTyped}
use Rattle.txs_laws.specs.Sets.{AllWellTyped, FirstIsAfter, NextIsAfter}
use Rattle.txs_laws.proofs.typing.Facts.{Facts}
use Rattle.txs_laws.proofs.rules.Meaning.{PrefixesOffer}
use Rattle.txs_laws.proofs.rules.Closing.{step_well, closed_is_reached}
use Rattle.txs_laws.proofs.rules.Moving.{moved_is_stepped}

pub inners_well : (facts : Facts) (model : Model) (scope : Scope) {s t : Term} → Inners model scope s t → WellTyped model scope s → WellTyped model scope t
inners_well facts model scope here w = w
inners_well facts model scope (onward {t = t} {t' = t'} k n) w = inners_well facts model scope n (step_well facts model scope t t' inner w k)

pub after_well : (facts : Facts) (model : Model) (scope : Scope) (sync : Sync) (b : Term) (trace : List Observable) (t : Term) → WellTyped model scope b
    → After model scope sync b trace t → WellTyped model scope t
after_well facts model scope sync b [] t w h = inners_well facts model scope h w
after_well facts model scope sync b (acted a ∷ trace) t w h =
    inners_well facts model scope h.4 (step_well facts model scope h.0 h.1 (act a) (after_well facts model scope sync b trace h.0 w h.2) h.3)
after_well facts model scope sync b (quiescence ∷ trace) t w h = after_well facts model scope sync b trace t w h.0

pub first_is_after : Facts → PrefixesOffer → FirstIsAfter
first_is_after facts some_offers model scope sync b level c w k t =
    let one : AllWellTyped model scope (b ∷ []) = only in
    let law = closed_is_reached facts some_offers model scope level (b ∷ []) c one k t in (
      λ h. let p = law.0 h in elim p.1 [ inl e ↦ subst (λ x. Inners model scope x t) e p.2 | inr x ↦ absurd x ],
      λ n. law.1 (b, inl refl, n),
    )
  where
    only : AllWellTyped model scope (b ∷ [])
    only x (inl e) = subst (WellTyped model scope) (sym e) w
    only x (inr m) = absurd m

pub next_is_after : Facts → PrefixesOffer → NextIsAfter
next_is_after facts some_offers model scope sync b trace a level set more c w ok is m k t =
    let well : AllWellTyped model scope set = (λ x h. after_well facts model scope sync b trace x w ((is x).0 h)) in
    let moved = moved_is_stepped facts some_offers model scope a set more well ok m in
    let well' : AllWellTyped model scope more = (λ x h. let p = (moved x).0 h in step_well facts model scope p.0 x (act a) (well p.0 p.1) p.2) in
    let law = closed_is_reached facts some_offers model scope level more c well' k t in (
      λ h. let p = law.0 h in let q = (moved p.0).0 p.1 in (q.0, p.0, (is q.0).0 q.1, q.2, p.2),
      λ h. law.1 (h.1, (moved h.1).1 (h.0, (is h.0).1 h.2, h.3), h.4),
    )
