-- What the program's expressions stand for, one lemma a form.
use Rattle.std.proofs.Common.{◌≡◌, ◌^◌, ℕ, ℤ, true, List, [], sym, ap, ◌∙◌, FitsSigned}
use Rattle.std.proofs.lemmas.Bool.Decides.{Decides-ltb}
use Rattle.std.specs.Int.{w128}
use Rattle.std.specs.Int.Signed.{mag}
use Rattle.txs_values.specs.declared.value.Value as rust_value
use Rattle.txs_values.specs.declared.value.Value.TheVariants as value
use Rattle.txs_values.specs.Value.{Value, num, text, cons, no_value, packed, fits}
use Rattle.txs_values.specs.View.{value_of, values_of}
use Rattle.txs_terms.specs.declared.expr.Unary as rust_unary
use Rattle.txs_terms.specs.declared.expr.Binary as rust_binary
use Rattle.txs_terms.specs.declared.expr.Expr as rust
use Rattle.txs_terms.specs.declared.expr.Expr.TheVariants as form
use Rattle.txs_terms.specs.declared.expr.Expr.TheOpen.{Expr-F}
use Rattle.txs_terms.specs.declared.expr.Expr.TheFolds.{fold-roll-Expr}
use Rattle.txs_terms.specs.Expr.{Expr, val, one, two}
use Rattle.txs_terms.specs.View.{Bound, bound_step, unary_of, binary_of, expr_of, expr_step}
use Rattle.txs_terms.proofs.Views.{at_value}

pub seen_one : (o : rust_unary.Unary) (a : rust.Expr) → expr_of (form.One o a) ≡ one (unary_of o) (expr_of a)
seen_one o a = ap expr_of (sym (form.rolls-One o a)) ∙ fold-roll-Expr Expr Bound expr_step bound_step (Expr-F.One o a)

pub seen_two : (o : rust_binary.Binary) (a b : rust.Expr) → expr_of (form.Two o a b) ≡ two (binary_of o) (expr_of a) (expr_of b)
seen_two o a b = ap expr_of (sym (form.rolls-Two o a b)) ∙ fold-roll-Expr Expr Bound expr_step bound_step (Expr-F.Two o a b)

-- a constructor without fields
pub seen_constructor : (v : rust_value.Value) (c : ℕ) (vs : List rust_value.Value) → vs ≡ [] → value_of v ≡ cons c (packed (values_of vs)) → expr_of (form.Value v) ≡ val (cons c no_value)
seen_constructor v c vs h e = at_value v ∙ ap val (e ∙ ap (λ (l : List rust_value.Value). cons c (packed (values_of l))) h)

pub seen_int : (n : ℤ) → expr_of (form.Value (value.Int n)) ≡ val (num n)
seen_int n = at_value (value.Int n)

pub seen_text : (s : List ℕ) → expr_of (form.Value (value.Text s)) ≡ val (text s)
seen_text s = at_value (value.Text s)

-- a number of the program is in the range of Int
pub fits_true : (z : ℤ) → FitsSigned w128 z → fits z ≡ true
unfolding fits
fits_true z h = (Decides-ltb (mag z) (2 ^ 127)).1 h.sfits
