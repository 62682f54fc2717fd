-- The first token of an expression.
use Rattle.std.proofs.Common.{◌≡◌, ℕ, ◌<◌, true, List, ◌∷◌, ◌++◌, refl, ap, subst}
use Rattle.txs_lexer.specs.declared.token.Token.{Token}
use Rattle.txs_syntax.specs.declared.ast.Ast.{Ast}
use Rattle.txs_syntax.specs.declared.ast.Binding.{Binding}
use Rattle.txs_syntax.specs.Grammar.{Marked, Layer, SpellsAt, Sums, Products, AllAt, BindsAt, one_bind, last_bind, more_binds, or_none, or_more, and_none, and_more, compare_none, compare_two, join_none, join_more, sums, products, sum_one, sum_more, product_one, product_more, negated, plain, number, text, name, call_none, call_some, group, choose, bind, last, more}
use Rattle.txs_syntax.specs.Places.{Shallow}
use Rattle.txs_parse_expr.specs.Reader.{begins}

-- it stands at this depth, and an expression may begin with it
pub record First (d : ℕ) (u : Marked) : Type 0 where
  pub token : Token
  pub rest : Marked
  pub is : u ≡ (d, token) ∷ rest
  pub begins : begins token ≡ true

first_more : {d : ℕ} {u : Marked} (v : Marked) → First d u → First d (u ++ v)
first_more v f = record { token = f.token; rest = f.rest ++ v; is = ap (λ w. w ++ v) f.is; begins = f.begins }

mutual
  pub first : {layer : Layer} {d : ℕ} {a : Ast} {u : Marked} → SpellsAt layer d a u → First d u
  first (or_none s) = first s
  first (or_more {d = d} {v = v} o c e s t) = first_more ((d, c) ∷ v) (first s)
  first (and_none s) = first s
  first (and_more {d = d} {v = v} o c e s t) = first_more ((d, c) ∷ v) (first s)
  first (compare_none s) = first s
  first (compare_two {d = d} {v = v} o c e s t) = first_more ((d, c) ∷ v) (first s)
  first (join_none s) = first s
  first (join_more {d = d} {v = v} o c e s t) = first_more ((d, c) ∷ v) (first s)
  first (sums s) = first_sum s
  first (products s) = first_product s
  first (negated c e s) = record { token = c; rest = _; is = refl; begins = rw e refl }
  first (plain s) = first s
  first (number c n e) = record { token = c; rest = _; is = refl; begins = rw e refl }
  first (text c s e) = record { token = c; rest = _; is = refl; begins = rw e refl }
  first (name c x e) = record { token = c; rest = _; is = refl; begins = rw e refl }
  first (call_none c o k x e f g) = record { token = c; rest = _; is = refl; begins = rw e refl }
  first (call_some c o k x e f g s) = record { token = c; rest = _; is = refl; begins = rw e refl }
  first (group o k e f s) = record { token = o; rest = _; is = refl; begins = rw e refl }
  first (choose i t l f e g h k s v w) = record { token = i; rest = _; is = refl; begins = rw e refl }
  first (bind l i n e f g s t) = record { token = l; rest = _; is = refl; begins = rw e refl }

  first_sum : {d k : ℕ} {a : Ast} {u : Marked} → Sums d k a u → First d u
  first_sum (sum_one s) = first s
  first_sum (sum_more {k = k} {v = v} o c e s t) = first_more ((k, c) ∷ v) (first_sum s)

  first_product : {d k : ℕ} {a : Ast} {u : Marked} → Products d k a u → First d u
  first_product (product_one s) = first s
  first_product (product_more {k = k} {v = v} o c e s t) = first_more ((k, c) ∷ v) (first_product s)

pub first_all : {d : ℕ} {es : List Ast} {u : Marked} → AllAt d es u → First d u
first_all (last s) = first s
first_all (more {d = d} {v = v} c e s t) = first_more ((d, c) ∷ v) (first s)

pub first_below : (limit d : ℕ) (u : Marked) → First d u → Shallow limit u → d < limit
first_below limit d u f h = let k : Shallow limit ((d, f.token) ∷ f.rest) = subst (Shallow limit) f.is h in k.0

pub binds_below : (limit : ℕ) {d : ℕ} {bs : List Binding} {u : Marked} → BindsAt d bs u → Shallow limit u → d < limit
binds_below limit (last_bind (one_bind c i x e f s)) h = h.0
binds_below limit (more_binds c e (one_bind b i x f g s) t) h = h.0
