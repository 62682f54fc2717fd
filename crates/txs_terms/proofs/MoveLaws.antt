-- The listed moves of a plain term are its steps.
use Rattle.std.proofs.Common.{◌≡◌, ℕ, ℤ, Bool, true, false, cond, eqb, eqb-true, eq-eqb, List, [], ◌∷◌, ◌++◌, refl, sym, ap, ◌∙◌, subst, arith, inl, inr, append-nil}
use Rattle.std.proofs.lemmas.Bool.Decides.{Decides-ltb}
use Rattle.txs_values.specs.Value.{Value, num, fits}
use Rattle.txs_terms.specs.Expr.{Expr, val, slot}
use Rattle.txs_terms.specs.Eval.{Defs, Gives}
use Rattle.txs_terms.specs.Action.{Part, Action, act, channels, values_on, values_over, Scope, IsAction}
use Rattle.txs_terms.specs.Term.{Position, give, take, Offer, Term, stop, prefix, choice, fill}
use Rattle.txs_terms.specs.Rules.{In, Model, Meets, Step, offers, choose_left, choose_right}
use Rattle.txs_terms.specs.Sets.{IsPlainExpr, IsPlainPosition, ArePlainOffers, IsPlain}
use Rattle.txs_terms.specs.Moves.{is_number, met_by, offers_met, moves_of}
use Rattle.txs_terms.proofs.Members.{in_front, in_back, in_either}
use Rattle.txs_terms.proofs.Prefixes.{value_gives, given_value, number_is, same_number, prefix_does, stop_does, choice_does}

pub same_head : {x y : ℕ} {xs ys : List ℕ} → x ∷ xs ≡ y ∷ ys → x ≡ y
same_head e = cc

pub values_at : (p : Part) (c : ℕ) → p.channel ≡ c → values_on (p ∷ []) c ≡ p.values
values_at p c e = rw (eq-eqb p.channel c e) refl

over_one : (p : Part) (c : ℕ) → p.channel ≡ c → values_over (p ∷ []) (c ∷ []) ≡ p.values
over_one p c e = ap (λ vs. vs ++ []) (values_at p c e) ∙ append-nil p.values

pub plain_number : (e : Expr) → IsPlainExpr 0 e → (x : ℤ) × (e ≡ val (num x)) × (fits x ≡ true)
plain_number (val (num x)) h = (x, refl, h)
plain_number (slot i) h = let b = (Decides-ltb i 0).0 h in absurd (omega arith)
plain_number _ h = absurd h

abbrev pub offer_on : ℕ → List Position → Offer
offer_on c ps = record { channel = c; positions = ps }

-- ---- each step is listed

met_in : (defs : Defs) (p : Position) (vs : List Value) (t t' : Term) → IsPlainPosition 0 p → Meets defs (p ∷ []) vs
    → t' ≡ fill vs t → In t' (met_by (p ∷ []) vs t)
met_in defs p [] t t' h m e = absurd m
met_in defs (take x) (v ∷ []) t t' h m e = inl e
met_in defs (take x) (v ∷ w ∷ vs) t t' h m e = absurd m
met_in defs (give d) (v ∷ []) t t' h m e =
    let n = plain_number d h in
    let k = given_value defs (num n.0) v (subst (λ x. Gives defs x v) n.1 m.0) in
    let is : is_number d v ≡ true = rw n.1 (rw k (same_number n.0)) in
    rw is (inl e)
met_in defs (give d) (v ∷ w ∷ vs) t t' h m e = absurd m.1

offer_in : (defs : Defs) (c : ℕ) (ps : List Position) (a : Action) (t t' : Term) → ArePlainOffers 0 (offer_on c ps ∷ [])
    → channels a ≡ c ∷ []
    → Meets defs ps (values_on a c) → t' ≡ fill (values_over a (c ∷ [])) t → In t' (offers_met (offer_on c ps ∷ []) a t)
offer_in defs c [] a t t' h e m q = absurd h
offer_in defs c (p ∷ p2 ∷ ps) a t t' h e m q = absurd h
offer_in defs c (p ∷ []) [] t t' h e m q = cc
offer_in defs c (p ∷ []) (r ∷ r2 ∷ rs) t t' h e m q = cc
offer_in defs c (p ∷ []) (r ∷ []) t t' h e m q =
    let k : r.channel ≡ c = same_head e in
    rw (eq-eqb c r.channel (sym k))
    (met_in defs p r.values t t' h (subst (λ vs. Meets defs (p ∷ []) vs) (values_at r c k) m) (q ∙ ap (λ vs. fill vs t) (over_one r c k)))

pub step_in : (model : Model) (scope : Scope) (s : Term) (a : Action) (t' : Term) → IsPlain 0 s → Step model scope s (act a) t'
    → In t' (moves_of s a)
step_in model scope stop a t' h s = absurd (stop_does model scope (act a) t' s)
step_in model scope (prefix (o ∷ []) [] t) a t' h s =
    let d = prefix_does model scope (o ∷ []) [] t (act a) t' s in
    offer_in model.defs o.channel o.positions a t t' h.0 d.0 d.1.0 d.2
step_in model scope (prefix [] [] t) a t' h s = absurd h.0
step_in model scope (prefix (o ∷ o2 ∷ os) [] t) a t' h s = absurd h.0
step_in model scope (choice l r) a t' h s = elim (choice_does model scope l r (act a) t' s) [
  | inl x ↦ in_front t' (moves_of l a) (moves_of r a) (step_in model scope l a t' h.0 x)
  | inr x ↦ in_back t' (moves_of l a) (moves_of r a) (step_in model scope r a t' h.1 x)
]
step_in model scope _ a t' h s = absurd h

-- ---- what is listed is a step

number_met : (defs : Defs) (e : Expr) (v : Value) (t t' : Term) (x : Bool) → is_number e v ≡ x
    → In t' (cond x (fill (v ∷ []) t ∷ []) []) → Meets defs (give e ∷ []) (v ∷ []) × (t' ≡ fill (v ∷ []) t)
number_met defs e v t t' true k (inl q) = ((subst (λ d. Gives defs d v) (sym (number_is e v k)) (value_gives defs v), tt), q)
number_met defs e v t t' true k (inr h) = absurd h
number_met defs e v t t' false k h = absurd h

met_is : (defs : Defs) (p : Position) (vs : List Value) (t t' : Term) → In t' (met_by (p ∷ []) vs t)
    → Meets defs (p ∷ []) vs × (t' ≡ fill vs t)
met_is defs p [] t t' h = absurd h
met_is defs p (v ∷ w ∷ vs) t t' h = absurd h
met_is defs (take x) (v ∷ []) t t' (inl e) = (tt, e)
met_is defs (take x) (v ∷ []) t t' (inr h) = absurd h
met_is defs (give e) (v ∷ []) t t' h = number_met defs e v t t' (is_number e v) refl h

offer_by : (model : Model) (scope : Scope) (c : ℕ) (ps : List Position) (r : Part) (t t' : Term) (x : Bool)
    → IsAction model.defs.table scope (r ∷ []) → eqb c r.channel ≡ x
    → In t' (cond x (met_by ps r.values t) []) → Step model scope (prefix (offer_on c ps ∷ []) [] t) (act (r ∷ [])) t'
offer_by model scope c [] r t t' true i k h = absurd h
offer_by model scope c (p ∷ p2 ∷ ps) r t t' true i k h = absurd h
offer_by model scope c (p ∷ []) r t t' true i k h =
    let e : r.channel ≡ c = sym (eqb-true c r.channel k) in
    let m = met_is model.defs p r.values t t' h in
    subst (λ u. Step model scope (prefix (offer_on c (p ∷ []) ∷ []) [] t) (act (r ∷ [])) u)
    (ap (λ vs. fill vs t) (over_one r c e) ∙ sym m.1)
    (offers (r ∷ []) (ap (λ d. d ∷ []) e) i (subst (λ vs. Meets model.defs (p ∷ []) vs) (sym (values_at r c e)) m.0, tt) tt)
offer_by model scope c ps r t t' false i k h = absurd h

pub offer_is : (model : Model) (scope : Scope) (c : ℕ) (ps : List Position) (a : Action) (t t' : Term)
    → IsAction model.defs.table scope a
    → In t' (offers_met (offer_on c ps ∷ []) a t) → Step model scope (prefix (offer_on c ps ∷ []) [] t) (act a) t'
offer_is model scope c ps [] t t' i h = absurd h
offer_is model scope c ps (r ∷ r2 ∷ rs) t t' i h = absurd h
offer_is model scope c ps (r ∷ []) t t' i h = offer_by model scope c ps r t t' (eqb c r.channel) i refl h

pub step_is : (model : Model) (scope : Scope) (s : Term) (a : Action) (t' : Term) → IsPlain 0 s
    → IsAction model.defs.table scope a → In t' (moves_of s a) → Step model scope s (act a) t'
step_is model scope stop a t' p i h = absurd h
step_is model scope (prefix (o ∷ []) [] t) a t' p i h = offer_is model scope o.channel o.positions a t t' i h
step_is model scope (prefix [] [] t) a t' p i h = absurd p.0
step_is model scope (prefix (o ∷ o2 ∷ os) [] t) a t' p i h = absurd p.0
step_is model scope (choice l r) a t' p i h = elim (in_either t' (moves_of l a) (moves_of r a) h) [
  | inl x ↦ choose_left (step_is model scope l a t' p.0 i x)
  | inr x ↦ choose_right (step_is model scope r a t' p.1 i x)
]
step_is model scope _ a t' p i h = absurd p
