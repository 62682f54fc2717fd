-- Sets of terms that are the terms after a trace, member for member.
use Rattle.std.specs.Prelude.{◌≡◌, ◌↔◌, ℕ, ◌+◌, true, nat_lt, List, [], ◌∷◌}
use Rattle.txs_values.specs.Value.{integer, Value, num, fits}
use Rattle.txs_terms.specs.Expr.{Expr, val, slot}
use Rattle.txs_terms.specs.Action.{Action, Scope, types_on}
use Rattle.txs_terms.specs.Term.{Position, give, take, Offer, Term, stop, prefix, choice}
use Rattle.txs_terms.specs.Rules.{In, Model}
use Rattle.txs_terms.specs.After.{Sync, Observable, After}

-- the list has the terms after the trace, and no others
abbrev pub IsAfter : Model → Scope → Sync → Term → List Observable → List Term → Type 0
IsAfter model scope sync b trace set = (t : Term) → In t set ↔ After model scope sync b trace t

-- the channel has one position, of type Int
abbrev pub IsInt : Scope → ℕ → Type 0
IsInt scope c = types_on scope c ≡ integer ∷ []

-- ---- the terms that are built so far

-- an Int, or one of the first n slots
abbrev pub IsPlainExpr : ℕ → Expr → Type 0
IsPlainExpr n (val (num x)) = fits x ≡ true
IsPlainExpr n (slot i) = nat_lt i n ≡ true
IsPlainExpr n _ = ⊥

abbrev pub IsPlainPosition : ℕ → Position → Type 0
IsPlainPosition n (give e) = IsPlainExpr n e
IsPlainPosition n (take x) = Unit {0}

-- one offer of one position
abbrev pub ArePlainOffers : ℕ → List Offer → Type 0
ArePlainOffers n (o ∷ []) = IsOnePosition n o.positions
  where
    IsOnePosition : ℕ → List Position → Type 0
    IsOnePosition n (p ∷ []) = IsPlainPosition n p
    IsOnePosition n _ = ⊥
ArePlainOffers n _ = ⊥

-- STOP, a prefix of one offer of one position without a guard, or a choice of two such terms; n slots are free
abbrev pub IsPlain : ℕ → Term → Type 0
IsPlain n stop = Unit {0}
IsPlain n (prefix os [] t) = ArePlainOffers n os × IsPlain (n + 1) t
IsPlain n (choice a b) = IsPlain n a × IsPlain n b
IsPlain n _ = ⊥

-- each of them is such a term without a free slot
abbrev pub ArePlain : List Term → Type 0
ArePlain [] = Unit {0}
ArePlain (t ∷ ts) = IsPlain 0 t × ArePlain ts

-- one Int in range
abbrev pub IsOneInt : List Value → Type 0
IsOneInt (num x ∷ []) = fits x ≡ true
IsOneInt _ = ⊥

-- one Int on one channel
abbrev pub IsIntAction : Action → Type 0
IsIntAction (p ∷ []) = IsOneInt p.values
IsIntAction _ = ⊥
