-- A step of a well typed term is within its scope and leads to a well typed term.
use Rattle.std.proofs.Common.{◌≡◌, List, [], ◌∷◌, ◌++◌, length, refl, sym, ◌∙◌, subst, inl, inr}
use Rattle.txs_values.specs.Value.{Ty, Value, HaveTypes}
use Rattle.txs_terms.specs.Expr.{Expr, put, filled}
use Rattle.txs_terms.specs.Eval.{Defs, height_limit}
use Rattle.txs_terms.specs.Action.{Label, channels, values_over, Scope, types_over}
use Rattle.txs_terms.specs.Term.{Offer, Term, move_term}
use Rattle.txs_terms.specs.Rules.{Model, AllGive, AllBind, Step, offers, steps, exit, guarded, choose_left, choose_right, left_alone, right_alone, left_inner, right_inner, joined, both_end, before, before_inner, passes, left_goes_on, left_inner_on, left_ends, takes_over, undisturbed, undisturbed_inner, undisturbed_ends, interrupts, interrupts_inner, returns, shown, hidden, hide_inner, hide_ends, unfold', binds, moves, offered, visible}
use Rattle.txs_terms.specs.Typed.{Signatures, AreTyped, OfEach, OfBindings, FitOffers, AllBelow, OfTerm, IsTypedModel}
use Rattle.txs_laws.proofs.typing.Sides.{sides_map, some_left, some_right, some_whole}
use Rattle.txs_laws.specs.Items.{StaysWithin, StepsAreTyped}
use Rattle.txs_terms.proofs.typing.Lists.{same_some, have_joined}
use Rattle.txs_terms.proofs.typing.Putting.{put_typed, filled_all}
use Rattle.txs_terms.proofs.typing.Runs.{run_typed}
use Rattle.txs_laws.proofs.typing.Terms.{fill_typed, instance_typed}
use Rattle.txs_laws.proofs.rules.Places.{Within, channels_part}
use Rattle.txs_laws.proofs.rules.Channels.{within_order}
use Rattle.txs_laws.proofs.typing.Channels.{union_below, visible_below, typed_over}

module _ (defs : Defs) (signatures : Signatures) (typed : AreTyped defs signatures) where
  given_typed : (es : List Expr) (ts : List Ty) (vs : List Value) → OfEach defs.table signatures [] es ts → AllGive defs es vs → HaveTypes defs.table vs ts
  given_typed [] [] [] h g = tt
  given_typed [] [] (v ∷ vs) h g = absurd g
  given_typed [] (t ∷ ts) vs h g = absurd h
  given_typed (e ∷ es) [] vs h g = absurd h
  given_typed (e ∷ es) (t ∷ ts) [] h g = absurd g
  given_typed (e ∷ es) (t ∷ ts) (v ∷ vs) h g = (run_typed defs signatures typed e t height_limit 0 h.0 v (g.0).0 (g.0).1, given_typed es ts vs h.1 g.1)

  bound_each : (past : List Value) (slots : List Ty) (es : List Expr) (ts : List Ty) (vs : List Value) → HaveTypes defs.table past slots
      → OfBindings defs.table signatures slots es ts → AllBind defs past es vs → HaveTypes defs.table vs ts
  bound_each past slots [] [] [] b h g = tt
  bound_each past slots [] [] (v ∷ vs) b h g = absurd g
  bound_each past slots [] (t ∷ ts) vs b h g = absurd h
  bound_each past slots (e ∷ es) [] vs b h g = absurd h
  bound_each past slots (e ∷ es) (t ∷ ts) [] b h g = absurd g
  bound_each past slots (e ∷ es) (t ∷ ts) (v ∷ vs) b h g =
      let here = run_typed defs signatures typed (put (filled past) e) t height_limit 0
      (put_typed defs.table signatures h.0 (filled past) [] (filled_all defs.table signatures past slots b)) v (g.0).0 (g.0).1 in
      (here, bound_each (past ++ v ∷ []) (slots ++ t ∷ []) es ts vs (have_joined defs.table past slots (v ∷ []) (t ∷ []) b (here, tt)) h.1 g.1)

module _ (model : Model) (signatures : Signatures) (typed : IsTypedModel model signatures) where
  offered_below : (scope : Scope) (slots : List Ty) (os : List Offer) → FitOffers model.defs.table signatures scope slots os → AllBelow (length scope) (offered os)
  offered_below scope slots [] h = tt
  offered_below scope slots (o ∷ os) h = (h.0, offered_below scope slots os h.2)

  abbrev Is : Scope → Term → List Ty → Type 0
  Is scope t ts = OfTerm model.defs.table signatures scope [] ts t

  steps_typed : {scope : Scope} {t t' : Term} {l : Label} → Step model scope t l t' → (exit_types : List Ty)
      → OfTerm model.defs.table signatures scope [] exit_types t
      → StaysWithin model.defs.table scope exit_types l × OfTerm model.defs.table signatures scope [] exit_types t'
  steps_typed {scope = scope} (offers {os = os} {gs = gs} {t = t} a e k m g) exit_types h = (
    subst (AllBelow (length scope)) (sym e) (union_below (length scope) (offered os) [] (offered_below scope [] os h.0) tt),
    fill_typed model.defs.table signatures scope (types_over scope (offered os)) exit_types (values_over a (offered os)) t
        (typed_over model.defs.table scope a (offered os) k.typed (subst (Within (offered os)) (sym e) (within_order (offered os)))) h.2,
  )
  steps_typed (steps g) exit_types h = (tt, h.1)
  steps_typed (exit {es = es} vs g) exit_types h = (given_typed model.defs signatures typed.defs es exit_types vs h g, tt)
  steps_typed (guarded g s) exit_types h = steps_typed s exit_types h.1
  steps_typed (choose_left s) exit_types h = steps_typed s exit_types h.0
  steps_typed (choose_right s) exit_types h = steps_typed s exit_types h.1
  steps_typed {scope = scope} (left_alone {a = a} {b = b} {a' = a'} n s) exit_types h =
      let l = some_left (Is scope a) (Is scope b) exit_types h.2 in
      ((steps_typed s l.0 l.1).0, (h.0, h.1, sides_map (Is scope a) (Is scope b) (Is scope a') (Is scope b) (λ ts k. (steps_typed s ts k).1) (λ ts k. k) exit_types h.2))
  steps_typed {scope = scope} (right_alone {a = a} {b = b} {b' = b'} n s) exit_types h =
      let r = some_right (Is scope a) (Is scope b) exit_types h.2 in
      ((steps_typed s r.0 r.1).0, (h.0, h.1, sides_map (Is scope a) (Is scope b) (Is scope a) (Is scope b') (λ ts k. k) (λ ts k. (steps_typed s ts k).1) exit_types h.2))
  steps_typed {scope = scope} (left_inner {a = a} {b = b} {a' = a'} s) exit_types h =
      (tt, (h.0, h.1, sides_map (Is scope a) (Is scope b) (Is scope a') (Is scope b) (λ ts k. (steps_typed s ts k).1) (λ ts k. k) exit_types h.2))
  steps_typed {scope = scope} (right_inner {a = a} {b = b} {b' = b'} s) exit_types h =
      (tt, (h.0, h.1, sides_map (Is scope a) (Is scope b) (Is scope a) (Is scope b') (λ ts k. k) (λ ts k. (steps_typed s ts k).1) exit_types h.2))
  steps_typed {scope = scope} (joined {a = a} {b = b} {a' = a'} {b' = b'} x xs ys j e k s r) exit_types h =
      let l = some_left (Is scope a) (Is scope b) exit_types h.2 in let m = some_right (Is scope a) (Is scope b) exit_types h.2 in (
        subst (AllBelow (length scope)) (sym e) (union_below (length scope) xs ys
            (subst (AllBelow (length scope)) (channels_part x xs) (steps_typed s l.0 l.1).0) (subst (AllBelow (length scope)) (channels_part x ys) (steps_typed r m.0 m.1).0)),
        (h.0, h.1, sides_map (Is scope a) (Is scope b) (Is scope a') (Is scope b') (λ ts f. (steps_typed s ts f).1) (λ ts f. (steps_typed r ts f).1) exit_types h.2),
      )
  steps_typed {scope = scope} (both_end {a = a} {b = b} s r) exit_types h =
      (elim (some_whole (Is scope a) (Is scope b) exit_types h.2) [ inl k ↦ (steps_typed s exit_types k).0 | inr k ↦ (steps_typed r exit_types k).0 ], tt)
  steps_typed (before s) exit_types h = let p = steps_typed s h.0 h.2 in (p.0, (h.0, h.1, p.1, h.3))
  steps_typed (before_inner s) exit_types h = let p = steps_typed s h.0 h.2 in (tt, (h.0, h.1, p.1, h.3))
  steps_typed {scope = scope} (passes {b = b} vs s) exit_types h =
      let p = steps_typed s h.0 h.2 in (tt, fill_typed model.defs.table signatures scope h.0 exit_types vs b p.0 h.3)
  steps_typed (left_goes_on s) exit_types h = let p = steps_typed s exit_types h.0 in (p.0, (p.1, h.1))
  steps_typed (left_inner_on s) exit_types h = let p = steps_typed s exit_types h.0 in (tt, (p.1, h.1))
  steps_typed (left_ends s) exit_types h = let p = steps_typed s exit_types h.0 in (p.0, tt)
  steps_typed (takes_over s) exit_types h = steps_typed s exit_types h.1
  steps_typed (undisturbed s) exit_types h = let p = steps_typed s exit_types h.0 in (p.0, (p.1, h.1))
  steps_typed (undisturbed_inner s) exit_types h = let p = steps_typed s exit_types h.0 in (tt, (p.1, h.1))
  steps_typed (undisturbed_ends s) exit_types h = let p = steps_typed s exit_types h.0 in (p.0, tt)
  steps_typed (interrupts s) exit_types h = let p = steps_typed s [] h.1 in (p.0, ([], refl, p.1, h))
  steps_typed (interrupts_inner s) exit_types h = let p = steps_typed s [] h.1 in (tt, ([], refl, p.1, h))
  steps_typed (returns s) exit_types h = (tt, h)
  steps_typed {scope = scope} (shown x n s) exit_types h =
      let p = steps_typed s exit_types h.1 in
      (subst (AllBelow (length scope)) (sym (channels_part x (visible (length scope) (channels x)))) (visible_below (length scope) (channels x)), (h.0, p.1))
  steps_typed (hidden x n s) exit_types h = let p = steps_typed s exit_types h.1 in (tt, (h.0, p.1))
  steps_typed (hide_inner s) exit_types h = let p = steps_typed s exit_types h.1 in (tt, (h.0, p.1))
  steps_typed (hide_ends s) exit_types h = let p = steps_typed s exit_types h.1 in (p.0, tt)
  steps_typed {scope = scope} (unfold' {p = k} {cs = cs} {es = es} vs body e g s) exit_types h =
      let b = typed.bodies k h.0 h.1 in
      let q : b.0 ≡ body = same_some (sym b.1 ∙ e) in
      steps_typed s exit_types (instance_typed model.defs.table signatures (h.0).formals scope (h.0).takes exit_types cs vs body h.2
      (given_typed model.defs signatures typed.defs es (h.0).takes vs h.3 g)
      (subst (OfTerm model.defs.table signatures (h.0).formals (h.0).takes exit_types) q (b.2 exit_types h.4)))
  steps_typed {scope = scope} (binds {es = es} {t = t} vs g s) exit_types h =
      steps_typed s exit_types (fill_typed model.defs.table signatures scope h.0 exit_types vs t
      (bound_each model.defs signatures typed.defs [] [] es h.0 vs tt h.2 g) h.3)
  steps_typed {scope = scope} (moves {k = k} {q = q} {cs = cs} {es = es} vs formals m a g s) exit_types h =
      steps_typed s exit_types (instance_typed model.defs.table signatures (h.0).formals scope (h.0).holds exit_types cs vs (move_term k formals m) h.2
      (given_typed model.defs signatures typed.defs es (h.0).holds vs h.3 g) (typed.transitions k h.0 q formals m h.1 a exit_types))

pub step_typed : (model : Model) (signatures : Signatures) → IsTypedModel model signatures → (scope : Scope) (exit_types : List Ty) (t t' : Term) (l : Label)
    → OfTerm model.defs.table signatures scope [] exit_types t → Step model scope t l t'
    → StaysWithin model.defs.table scope exit_types l × OfTerm model.defs.table signatures scope [] exit_types t'
step_typed model signatures typed scope exit_types t t' l h s = steps_typed model signatures typed s exit_types h

pub steps_are_typed : StepsAreTyped
steps_are_typed model signatures scope exit_types t t' l typed h s = step_typed model signatures typed scope exit_types t t' l h s
