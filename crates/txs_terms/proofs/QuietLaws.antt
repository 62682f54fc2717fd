-- A plain term is quiescent where it offers nothing on the one channel of outputs.
use Rattle.std.proofs.Common.{◌≡◌, ℕ, ℤ, pos, Bool, true, false, eqb, eq-eqb, List, [], ◌∷◌, refl, sym, ◌∙◌, subst, inl, inr}
use Rattle.std.proofs.lemmas.Bool.{or_cases, or_parts}
use Rattle.txs_values.specs.Value.{num, fits}
use Rattle.txs_terms.specs.Action.{Action, act, Channels, channels, Scope}
use Rattle.txs_terms.specs.Term.{Position, give, take, Term, stop, prefix, choice, fill}
use Rattle.txs_terms.specs.Rules.{In, Model, Step, choose_left, choose_right}
use Rattle.txs_terms.specs.After.{Sync, IsQuiescent}
use Rattle.txs_terms.specs.Sets.{IsInt, IsPlainPosition, ArePlainOffers, IsPlain}
use Rattle.txs_terms.specs.Moves.{is_number, admits, offers_met, speaks}
use Rattle.txs_terms.proofs.Actions.{int_action}
use Rattle.txs_terms.proofs.Prefixes.{same_number, prefix_does, stop_does, choice_does, plain_still}
use Rattle.txs_terms.proofs.MoveLaws.{same_head, plain_number, offer_on, offer_is}

only_one : (cs ds : Channels) (sets : List Channels) → sets ≡ ds ∷ [] → In cs sets → cs ≡ ds
only_one cs ds [] e h = absurd h
only_one cs ds (s ∷ []) e (inl q) = cc
only_one cs ds (s ∷ []) e (inr h) = absurd h
only_one cs ds (s ∷ t ∷ sets) e h = cc

-- ---- one that offers nothing on it

silent_by : (c d out : ℕ) → eqb c out ≡ false → d ≡ c → d ≡ out → ⊥
silent_by c d out h e k = let t : eqb c out ≡ true = eq-eqb c out (sym e ∙ k) in let b : true ≡ false = sym t ∙ h in absurd (cc)

silent : (model : Model) (scope : Scope) (out : ℕ) (s : Term) (a : Action) (t' : Term) → IsPlain 0 s → speaks out s ≡ false
    → channels a ≡ out ∷ []
    → Step model scope s (act a) t' → ⊥
silent model scope out stop a t' p h e x = stop_does model scope (act a) t' x
silent model scope out (prefix (o ∷ []) [] t) a t' p h e x =
    let d = prefix_does model scope (o ∷ []) [] t (act a) t' x in
    let k : o.channel ∷ [] ≡ out ∷ [] = sym d.0 ∙ e in
    silent_by o.channel o.channel out h refl (same_head k)
silent model scope out (prefix [] [] t) a t' p h e x = absurd p.0
silent model scope out (prefix (o ∷ o2 ∷ os) [] t) a t' p h e x = absurd p.0
silent model scope out (choice l r) a t' p h e x =
    let q = or_parts (speaks out l) (speaks out r) h in
    elim (choice_does model scope l r (act a) t' x) [
      | inl y ↦ silent model scope out l a t' p.0 q.0 e y
      | inr y ↦ silent model scope out r a t' p.1 q.1 e y
    ]
silent model scope out _ a t' p h e x = absurd p

pub quiet_is : (model : Model) (scope : Scope) (sync : Sync) (out : ℕ) (s : Term) → sync.outs ≡ (out ∷ []) ∷ [] → IsPlain 0 s
    → speaks out s ≡ false
    → IsQuiescent model scope sync s
quiet_is model scope sync out s e p h = record {
  still = λ t' x. plain_still model scope s t' p x;
  silent = λ a t' m x. silent model scope out s a t' p h (only_one (channels a) (out ∷ []) sync.outs e m) x;
}

-- ---- one that offers something on it

zero_fits : fits (pos 0) ≡ true
unfolding fits
zero_fits = refl

-- some number that the position admits
some_number : (p : Position) → IsPlainPosition 0 p → (x : ℤ) × (fits x ≡ true) × (admits p (num x) ≡ true)
some_number (take x) h = (pos 0, zero_fits, refl)
some_number (give e) h =
    let n = plain_number e h in
    (n.0, n.2, subst (λ d. is_number d (num n.0) ≡ true) (sym n.1) (same_number n.0))

-- an action on the channel, with what it leads to
abbrev Speaking : Model → Scope → ℕ → Term → Type 0
Speaking model scope out s = (a : Action) × (t' : Term) × (channels a ≡ out ∷ []) × Step model scope s (act a) t'

offer_speaks : (model : Model) (scope : Scope) (out : ℕ) (c : ℕ) (ps : List Position) (t : Term) → IsInt scope out
    → ArePlainOffers 0 (offer_on c ps ∷ [])
    → eqb c out ≡ true → Speaking model scope out (prefix (offer_on c ps ∷ []) [] t)
offer_speaks model scope out c [] t i h k = absurd h
offer_speaks model scope out c (p ∷ p2 ∷ ps) t i h k = absurd h
offer_speaks model scope out c (p ∷ []) t i h k =
    let n = some_number p h in
    let a : Action = record { channel = out; values = num n.0 ∷ [] } ∷ [] in
    let u : Term = fill (num n.0 ∷ []) t in
    let listed : In u (offers_met (offer_on c (p ∷ []) ∷ []) a t) = rw k (rw n.2 (inl refl)) in
    (a, u, refl, offer_is model scope c (p ∷ []) a t u (int_action model.defs.table scope out n.0 n.1 i) listed)

speaks_some : (model : Model) (scope : Scope) (out : ℕ) (s : Term) → IsInt scope out → IsPlain 0 s → speaks out s ≡ true
    → Speaking model scope out s
speaks_some model scope out stop i p h = cc
speaks_some model scope out (prefix (o ∷ []) [] t) i p h = offer_speaks model scope out o.channel o.positions t i p.0 h
speaks_some model scope out (prefix [] [] t) i p h = absurd p.0
speaks_some model scope out (prefix (o ∷ o2 ∷ os) [] t) i p h = absurd p.0
speaks_some model scope out (choice l r) i p h = elim (or_cases (speaks out l) (speaks out r) h) [
  | inl e ↦ let g = speaks_some model scope out l i p.0 e in (g.0, g.1, g.2, choose_left g.3)
  | inr e ↦ let g = speaks_some model scope out r i p.1 e in (g.0, g.1, g.2, choose_right g.3)
]
speaks_some model scope out _ i p h = absurd p

quiet_by : (model : Model) (scope : Scope) (sync : Sync) (out : ℕ) (s : Term) (x : Bool) → IsInt scope out
    → sync.outs ≡ (out ∷ []) ∷ [] → IsPlain 0 s → speaks out s ≡ x
    → IsQuiescent model scope sync s → speaks out s ≡ false
quiet_by model scope sync out s false i e p k q = k
quiet_by model scope sync out s true i e p k q =
    let g = speaks_some model scope out s i p k in
    let m : In (channels g.0) sync.outs = subst (λ sets. In (channels g.0) sets) (sym e) (inl g.2) in
    absurd (q.silent g.0 g.1 m g.3)

pub quiet_speaks_not : (model : Model) (scope : Scope) (sync : Sync) (out : ℕ) (s : Term) → IsInt scope out
    → sync.outs ≡ (out ∷ []) ∷ [] → IsPlain 0 s
    → IsQuiescent model scope sync s → speaks out s ≡ false
quiet_speaks_not model scope sync out s i e p q = quiet_by model scope sync out s (speaks out s) i e p refl q
