-- The reader's answer is the one that the grammar has, and no tokens have two trees.
use Rattle.std.proofs.Common.{◌≡◌, ◌≤◌, ◌+◌, ◌-◌, ℕ, suc, inl, inr, [], ◌∷◌, ◌++◌, refl, sym, ap, subst, ◌∙◌, arith}
use Rattle.std.proofs.lemmas.List.{append-nil}
use Rattle.txs_lexer.specs.declared.token.Token.{Token}
use Rattle.txs_syntax.specs.declared.ast.Ast.{Ast}
use Rattle.txs_syntax.specs.Grammar.{Tokens, Marked, tokens_of, expr, SpellsAt, Spells, OneTree}
use Rattle.txs_syntax.specs.Places.{Shallow}
use Rattle.txs_parse_expr.specs.Reader.{Outcome, ok, bad, deep, Reader}
use Rattle.txs_parse_expr.proofs.Sound.{Found}
use Rattle.txs_parse_expr.proofs.Levels.{sound_readers}
use Rattle.txs_parse_expr.proofs.Complete.{Ends, complete, read}

-- ---- some limit is above every depth

higher : (k l : ℕ) → k ≤ l → (u : Marked) → Shallow k u → Shallow l u
higher k l h [] s = tt
higher k l h (m ∷ u) s = (omega (arith, s.0), higher k l h u s.1)

pub record Below (u : Marked) : Type 0 where
  pub limit : ℕ
  pub shallow : Shallow limit u

below : (u : Marked) → Below u
below [] = record { limit = 0; shallow = tt }
below (m ∷ u) =
    let b = below u in record { limit = suc (m.0 + b.limit); shallow = (omega arith, higher b.limit (suc (m.0 + b.limit)) (omega arith) u b.shallow) }

-- ---- an expression is the same from each depth

pub at_end : (limit d : ℕ) (b : Ast) (u : Marked) → SpellsAt expr d b u → Ends limit (read expr (limit - d) (tokens_of u)) b u []
at_end limit d b u s =
    let e : tokens_of u ++ [] ≡ tokens_of u = append-nil (tokens_of u) in
    subst (λ v. Ends limit (read expr (limit - d) v) b u []) e (complete limit s (limit - d) refl [] tt)

-- a mark that is too deep is no shallow one
pub not_shallow : (limit : ℕ) (x y : Marked) (k : ℕ) (c : Token) → limit ≤ k → Shallow limit (x ++ (k, c) ∷ y) → ⊥
not_shallow limit [] y k c l h = let e = h.0 in omega arith
not_shallow limit (m ∷ x) y k c l h = not_shallow limit x y k c l h.1

pub ends_shallow : (limit : ℕ) (o : Outcome Ast) (b : Ast) (u : Marked) → Shallow limit u → Ends limit o b u [] → o ≡ ok b []
ends_shallow limit o b u h (inl e) = e.0
ends_shallow limit o b u h (inr x) = absurd (not_shallow limit x.before x.rest x.depth x.token x.many (subst (Shallow limit) x.is h))

pub record Moved (e : ℕ) (a : Ast) (ts : Tokens) : Type 0 where
  pub marked : Marked
  pub is : tokens_of marked ≡ ts
  pub spelled : SpellsAt expr e a marked

-- the whole of the tokens is read
got_moved : (limit e : ℕ) (f : Reader) (a : Ast) (ts : Tokens) (o : Outcome Ast) → o ≡ ok a [] → Found limit f (SpellsAt expr e) ts o → Moved e a ts
got_moved limit e f a ts (ok b r) q x =
    let p : b ≡ a = cc in
    let k : r ≡ [] = cc in
    let w : ts ≡ tokens_of x.used ++ [] = subst (λ v. ts ≡ tokens_of x.used ++ v) k x.split in
    record { marked = x.used; is = sym (w ∙ append-nil (tokens_of x.used)); spelled = subst (λ t. SpellsAt expr e t x.used) p x.spelled }
got_moved limit e f a ts (bad r) q x = cc
got_moved limit e f a ts (deep r) q x = cc

pub moved : (d e : ℕ) (a : Ast) (u : Marked) → SpellsAt expr d a u → Moved e a (tokens_of u)
moved d e a u s =
    let b = below u in
    let limit : ℕ = b.limit + d in
    let h : Shallow limit u = higher b.limit limit (omega arith) u b.shallow in
    let left : ℕ = limit - d in
    let q : read expr left (tokens_of u) ≡ ok a [] = ends_shallow limit (read expr left (tokens_of u)) a u h (at_end limit d a u s) in
    got_moved (left + e) e (read expr left) a (tokens_of u) (read expr left (tokens_of u)) q ((sound_readers (left + e) left e (omega arith)).expr_ok (tokens_of u))

pub spells : (d : ℕ) (a : Ast) (u : Marked) → SpellsAt expr d a u → Spells a (tokens_of u)
spells d a u s = let m = moved d 0 a u s in (m.marked, m.is, m.spelled)

-- from depth d, where it's spelled from depth 0
pub spelled_at : (d : ℕ) (a : Ast) (ts : Tokens) → Spells a ts → Moved d a ts
spelled_at d a ts s = let m = moved 0 d a s.0 s.2 in record { marked = m.marked; is = m.is ∙ s.1; spelled = m.spelled }

-- ---- no tokens have two trees

same_tree : (o : Outcome Ast) (a b : Ast) → o ≡ ok a [] → o ≡ ok b [] → a ≡ b
same_tree o a b e f = cc

pub one_tree : OneTree
one_tree a b ts s t =
    let x = below s.0 in
    let y = below t.0 in
    let limit : ℕ = x.limit + y.limit in
    let p : read expr (limit - 0) (tokens_of s.0) ≡ ok a [] = ends_shallow limit (read expr (limit - 0) (tokens_of s.0)) a s.0 (higher x.limit limit (omega arith) s.0 x.shallow) (at_end limit 0 a s.0 s.2) in
    let q : read expr (limit - 0) (tokens_of t.0) ≡ ok b [] = ends_shallow limit (read expr (limit - 0) (tokens_of t.0)) b t.0 (higher y.limit limit (omega arith) t.0 y.shallow) (at_end limit 0 b t.0 t.2) in
    same_tree (read expr (limit - 0) ts) a b (ap (read expr (limit - 0)) (sym s.1) ∙ p) (ap (read expr (limit - 0)) (sym t.1) ∙ q)
