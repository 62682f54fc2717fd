-- Plain terms stay plain.
use Rattle.std.proofs.Common.{◌≡◌, ℕ, zero, suc, ◌+◌, ℤ, Bool, true, false, cond, eqb, nat_lt, List, [], ◌∷◌, ◌++◌, map, arith}
use Rattle.std.proofs.lemmas.Bool.Decides.{Decides-ltb}
use Rattle.txs_values.specs.Value.{Value, num, fits}
use Rattle.txs_terms.specs.Expr.{Expr, val, slot, put, filled}
use Rattle.txs_terms.specs.Action.{Action}
use Rattle.txs_terms.specs.Term.{Position, give, take, Offer, Term, stop, prefix, choice, put_position, put_offer, fill}
use Rattle.txs_terms.specs.Sets.{IsPlainExpr, IsPlainPosition, ArePlainOffers, IsPlain, ArePlain, IsOneInt, IsIntAction}
use Rattle.txs_terms.specs.Moves.{admits, met_by, moves_of, all_moves, speaks, quiet_ones}
use Rattle.txs_terms.proofs.MoveLaws.{offer_on}

below : (i n : ℕ) → nat_lt (suc i) (n + 1) ≡ true → nat_lt i n ≡ true
below i n h = let k = (Decides-ltb (suc i) (n + 1)).0 h in (Decides-ltb i n).1 (omega arith)

expr_filled : (n : ℕ) (x : ℤ) (e : Expr) → fits x ≡ true → IsPlainExpr (n + 1) e → IsPlainExpr n (put (filled (num x ∷ [])) e)
expr_filled n x (val (num y)) f h = h
expr_filled n x (slot zero) f h = f
expr_filled n x (slot (suc i)) f h = below i n h
expr_filled n x _ f h = absurd h

position_filled : (n : ℕ) (x : ℤ) (p : Position) → fits x ≡ true → IsPlainPosition (n + 1) p
    → IsPlainPosition n (put_position (filled (num x ∷ [])) p)
position_filled n x (give e) f h = expr_filled n x e f h
position_filled n x (take y) f h = tt

offer_filled : (n : ℕ) (x : ℤ) (c : ℕ) (ps : List Position) → fits x ≡ true → ArePlainOffers (n + 1) (offer_on c ps ∷ [])
    → ArePlainOffers n (offer_on c (map (put_position (filled (num x ∷ []))) ps) ∷ [])
offer_filled n x c [] f h = absurd h
offer_filled n x c (p ∷ []) f h = position_filled n x p f h
offer_filled n x c (p ∷ p2 ∷ ps) f h = absurd h

offers_filled : (n : ℕ) (x : ℤ) (os : List Offer) → fits x ≡ true → ArePlainOffers (n + 1) os
    → ArePlainOffers n (map (put_offer (filled (num x ∷ []))) os)
offers_filled n x [] f h = absurd h
offers_filled n x (o ∷ []) f h = offer_filled n x o.channel o.positions f h
offers_filled n x (o ∷ o2 ∷ os) f h = absurd h

pub term_filled : (n : ℕ) (x : ℤ) (t : Term) → fits x ≡ true → IsPlain (n + 1) t → IsPlain n (fill (num x ∷ []) t)
term_filled n x stop f h = tt
term_filled n x (prefix os [] t) f h = (offers_filled n x os f h.0, term_filled (n + 1) x t f h.1)
term_filled n x (choice a b) f h = (term_filled n x a f h.0, term_filled n x b f h.1)
term_filled n x _ f h = absurd h

-- ---- sets

plain_if : (b : Bool) (t : Term) → IsPlain 0 t → ArePlain (cond b (t ∷ []) [])
plain_if true t h = (h, tt)
plain_if false t h = tt

plain_where : (b : Bool) (ts : List Term) → ArePlain ts → ArePlain (cond b ts [])
plain_where true ts h = h
plain_where false ts h = tt

met_plain : (ps : List Position) (vs : List Value) (t : Term) → IsOneInt vs → IsPlain 1 t → ArePlain (met_by ps vs t)
met_plain (p ∷ []) (num x ∷ []) t f h = plain_if (admits p (num x)) (fill (num x ∷ []) t) (term_filled 0 x t f h)
met_plain [] (num x ∷ []) t f h = tt
met_plain (p ∷ q ∷ ps) (num x ∷ []) t f h = tt
met_plain ps _ t f h = absurd f

plain_both : (ts us : List Term) → ArePlain ts → ArePlain us → ArePlain (ts ++ us)
plain_both [] us a b = b
plain_both (t ∷ ts) us a b = (a.0, plain_both ts us a.1 b)

moves_plain : (s : Term) (a : Action) → IsIntAction a → IsPlain 0 s → ArePlain (moves_of s a)
moves_plain stop a i h = tt
moves_plain (prefix (o ∷ []) [] t) (p ∷ []) i h =
    plain_where (eqb o.channel p.channel) (met_by o.positions p.values t) (met_plain o.positions p.values t i h.1)
moves_plain (prefix (o ∷ []) [] t) _ i h = absurd i
moves_plain (prefix [] [] t) a i h = absurd h.0
moves_plain (prefix (o ∷ o2 ∷ os) [] t) a i h = absurd h.0
moves_plain (choice l r) a i h = plain_both (moves_of l a) (moves_of r a) (moves_plain l a i h.0) (moves_plain r a i h.1)
moves_plain _ a i h = absurd h

pub all_moves_plain : (set : List Term) (a : Action) → IsIntAction a → ArePlain set → ArePlain (all_moves set a)
all_moves_plain [] a i h = tt
all_moves_plain (s ∷ set) a i h = plain_both (moves_of s a) (all_moves set a) (moves_plain s a i h.0) (all_moves_plain set a i h.1)

kept_plain : (b : Bool) (s : Term) (ts : List Term) → IsPlain 0 s → ArePlain ts → ArePlain (cond b ts (s ∷ ts))
kept_plain true s ts p h = h
kept_plain false s ts p h = (p, h)

pub quiet_plain : (out : ℕ) (set : List Term) → ArePlain set → ArePlain (quiet_ones out set)
quiet_plain out [] h = tt
quiet_plain out (s ∷ set) h = kept_plain (speaks out s) s (quiet_ones out set) h.0 (quiet_plain out set h.1)
