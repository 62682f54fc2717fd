-- An expression under an environment: the values of the slots and of the LETs around it put in.
use Rattle.std.proofs.Common.{◌≡◌, ℕ, zero, suc, List, [], ◌∷◌, ◌++◌, refl, ap}
use Rattle.txs_values.specs.Value.{Value}
use Rattle.txs_terms.specs.Expr.{Expr, val, slot, local, constant, one, two, equal, both, either, choose, apply, build, let_in, Exprs, none, more, put, put_each, local_at, with_local, each_with_local, filled}

-- the values of LETs put in one after the other
abbrev pub local_under : List Value → ℕ → Expr
local_under [] i = local i
local_under (w ∷ ws) zero = val w
local_under (w ∷ ws) (suc i) = local_under ws i

abbrev mutual
  pub seen : List Value → List Value → Expr → Expr
  seen vs ws (val v) = val v
  seen vs ws (slot i) = filled vs i
  seen vs ws (local i) = local_under ws i
  seen vs ws (constant k) = constant k
  seen vs ws (one o a) = one o (seen vs ws a)
  seen vs ws (two o a b) = two o (seen vs ws a) (seen vs ws b)
  seen vs ws (equal a b) = equal (seen vs ws a) (seen vs ws b)
  seen vs ws (both a b) = both (seen vs ws a) (seen vs ws b)
  seen vs ws (either a b) = either (seen vs ws a) (seen vs ws b)
  seen vs ws (choose c a b) = choose (seen vs ws c) (seen vs ws a) (seen vs ws b)
  seen vs ws (apply k es) = apply k (each_seen vs ws es)
  seen vs ws (build c es) = build c (each_seen vs ws es)
  seen vs ws (let_in x a b) = let_in x (seen vs ws a) (seen vs ws b)

  pub each_seen : List Value → List Value → Exprs → Exprs
  each_seen vs ws none = none
  each_seen vs ws (more e es) = more (seen vs ws e) (each_seen vs ws es)

-- without a LET around it, it is filled
mutual
  pub seen_filled : (vs : List Value) (e : Expr) → seen vs [] e ≡ put (filled vs) e
  seen_filled vs (val v) = refl
  seen_filled vs (slot i) = refl
  seen_filled vs (local i) = refl
  seen_filled vs (constant k) = refl
  seen_filled vs (one o a) = ap (one o) (seen_filled vs a)
  seen_filled vs (two o a b) = let p = seen_filled vs a in let q = seen_filled vs b in cc
  seen_filled vs (equal a b) = let p = seen_filled vs a in let q = seen_filled vs b in cc
  seen_filled vs (both a b) = let p = seen_filled vs a in let q = seen_filled vs b in cc
  seen_filled vs (either a b) = let p = seen_filled vs a in let q = seen_filled vs b in cc
  seen_filled vs (choose c a b) = let r = seen_filled vs c in let p = seen_filled vs a in let q = seen_filled vs b in cc
  seen_filled vs (apply k es) = ap (apply k) (each_seen_filled vs es)
  seen_filled vs (build c es) = ap (build c) (each_seen_filled vs es)
  seen_filled vs (let_in x a b) = let p = seen_filled vs a in let q = seen_filled vs b in cc

  pub each_seen_filled : (vs : List Value) (es : Exprs) → each_seen vs [] es ≡ put_each (filled vs) es
  each_seen_filled vs none = refl
  each_seen_filled vs (more e es) = let p = seen_filled vs e in let q = each_seen_filled vs es in cc

-- with no value at all, it stays as it is
mutual
  pub seen_bare : (e : Expr) → seen [] [] e ≡ e
  seen_bare (val v) = refl
  seen_bare (slot i) = refl
  seen_bare (local i) = refl
  seen_bare (constant k) = refl
  seen_bare (one o a) = ap (one o) (seen_bare a)
  seen_bare (two o a b) = let p = seen_bare a in let q = seen_bare b in cc
  seen_bare (equal a b) = let p = seen_bare a in let q = seen_bare b in cc
  seen_bare (both a b) = let p = seen_bare a in let q = seen_bare b in cc
  seen_bare (either a b) = let p = seen_bare a in let q = seen_bare b in cc
  seen_bare (choose c a b) = let r = seen_bare c in let p = seen_bare a in let q = seen_bare b in cc
  seen_bare (apply k es) = ap (apply k) (each_seen_bare es)
  seen_bare (build c es) = ap (build c) (each_seen_bare es)
  seen_bare (let_in x a b) = let p = seen_bare a in let q = seen_bare b in cc

  pub each_seen_bare : (es : Exprs) → each_seen [] [] es ≡ es
  each_seen_bare none = refl
  each_seen_bare (more e es) = let p = seen_bare e in let q = each_seen_bare es in cc

local_of_filled : (w : Value) (vs : List Value) (i : ℕ) → with_local w (filled vs i) ≡ filled vs i
local_of_filled w [] i = refl
local_of_filled w (v ∷ vs) zero = refl
local_of_filled w (v ∷ vs) (suc i) = local_of_filled w vs i

local_of_none : (w : Value) (i : ℕ) → local_at w i ≡ local_under (w ∷ []) i
local_of_none w zero = refl
local_of_none w (suc i) = refl

local_of_locals : (w : Value) (ws : List Value) (i : ℕ) → with_local w (local_under ws i) ≡ local_under (ws ++ w ∷ []) i
local_of_locals w [] i = local_of_none w i
local_of_locals w (v ∷ ws) zero = refl
local_of_locals w (v ∷ ws) (suc i) = local_of_locals w ws i

-- one more LET around it
mutual
  pub local_seen : (w : Value) (vs ws : List Value) (e : Expr) → with_local w (seen vs ws e) ≡ seen vs (ws ++ w ∷ []) e
  local_seen w vs ws (val v) = refl
  local_seen w vs ws (slot i) = local_of_filled w vs i
  local_seen w vs ws (local i) = local_of_locals w ws i
  local_seen w vs ws (constant k) = refl
  local_seen w vs ws (one o a) = ap (one o) (local_seen w vs ws a)
  local_seen w vs ws (two o a b) = let p = local_seen w vs ws a in let q = local_seen w vs ws b in cc
  local_seen w vs ws (equal a b) = let p = local_seen w vs ws a in let q = local_seen w vs ws b in cc
  local_seen w vs ws (both a b) = let p = local_seen w vs ws a in let q = local_seen w vs ws b in cc
  local_seen w vs ws (either a b) = let p = local_seen w vs ws a in let q = local_seen w vs ws b in cc
  local_seen w vs ws (choose c a b) = let r = local_seen w vs ws c in let p = local_seen w vs ws a in let q = local_seen w vs ws b in cc
  local_seen w vs ws (apply k es) = ap (apply k) (each_local_seen w vs ws es)
  local_seen w vs ws (build c es) = ap (build c) (each_local_seen w vs ws es)
  local_seen w vs ws (let_in x a b) = let p = local_seen w vs ws a in let q = local_seen w vs ws b in cc

  pub each_local_seen : (w : Value) (vs ws : List Value) (es : Exprs)
      → each_with_local w (each_seen vs ws es) ≡ each_seen vs (ws ++ w ∷ []) es
  each_local_seen w vs ws none = refl
  each_local_seen w vs ws (more e es) = let p = local_seen w vs ws e in let q = each_local_seen w vs ws es in cc
