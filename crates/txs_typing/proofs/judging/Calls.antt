-- What a call means.
use Rattle.std.proofs.Common.{◌≡◌, ℕ, List, [], ◌∷◌, ◌++◌, length, length-append, Option, Result, Ok, Err, MatchResult, refl, sym, ap, subst, ◌∙◌, arith, true, false, true≢false}
use Rattle.txs_values.specs.Value.{Ty, named, cons, no_value}
use Rattle.txs_terms.specs.declared.expr.Expr as rust_expr
use Rattle.txs_terms.specs.Expr.{Expr, Unary, one, two, char_at, val, build}
use Rattle.txs_terms.specs.View.{expr_of, exprs_of, gathered}
use Rattle.txs_typing.specs.declared.fault.TypeFault.{TypeFault}
use Rattle.txs_typing.specs.declared.fault.TypeFault.TheVariants as fault
use Rattle.txs_typing.specs.Names.{Meaning, named_constructor}
use Rattle.txs_typing.specs.Elaborates.{Makes, value_made, constructor_made}
use Rattle.txs_typing.specs.inner.Parts.{Applies}

abbrev pub IsOne : List Expr → Unary → Expr → Type 0
IsOne es o e = (a : Expr) × (es ≡ a ∷ []) × (e ≡ one o a)

abbrev pub IsChar : List Expr → Expr → Type 0
IsChar es e = (a : Expr) × (b : Expr) × (es ≡ a ∷ b ∷ []) × (e ≡ two char_at a b)

pub of_one : (m : Meaning) (t : Ty) (es : List Expr) (o : Unary) (r : Result rust_expr.Expr TypeFault)
    → ((a : Expr) → Applies m t (a ∷ []) (one o a)) → MatchResult r (λ e. IsOne es o (expr_of e)) (λ f. f ≡ fault.NoMemory) → MatchResult r (λ e. Applies m t es (expr_of e)) (λ f. f ≡ fault.NoMemory)
of_one m t es o (Ok e) h p = subst (Applies m t es) (sym p.2) (subst (λ l. Applies m t l (one o p.0)) (sym p.1) (h p.0))
of_one m t es o (Err f) h p = p

pub of_two : (m : Meaning) (t : Ty) (es : List Expr) (r : Result rust_expr.Expr TypeFault)
    → ((a b : Expr) → Applies m t (a ∷ b ∷ []) (two char_at a b)) → MatchResult r (λ e. IsChar es (expr_of e)) (λ f. f ≡ fault.NoMemory) → MatchResult r (λ e. Applies m t es (expr_of e)) (λ f. f ≡ fault.NoMemory)
of_two m t es (Ok e) h p = subst (Applies m t es) (sym p.3) (subst (λ l. Applies m t l (two char_at p.0 p.1)) (sym p.2) (h p.0 p.1))
of_two m t es (Err f) h p = p

-- a constructor without fields is a value
pub without_fields : (number k : ℕ) (ts : List Ty) (want : Option Ty) (es : List rust_expr.Expr) (e : Expr) → es ≡ [] → length ts ≡ length es
    → e ≡ val (cons number no_value) → Makes want (named_constructor number k ts) (exprs_of es) e (named k)
without_fields number k [] want es e h n p = subst (λ e. Makes want (named_constructor number k []) (exprs_of es) e (named k)) (sym p)
    (subst (λ (l : List rust_expr.Expr). Makes want (named_constructor number k []) (exprs_of l) (val (cons number no_value)) (named k)) (sym h) (value_made want number k))
without_fields number k (t ∷ ts) want es e h n p = absurd (omega (arith, n, ap (λ (l : List rust_expr.Expr). length l) h))

pub with_fields : (number k : ℕ) (ts : List Ty) (want : Option Ty) (es : List rust_expr.Expr) (e : Expr) → (es ≡ [] → false ≡ true) → length ts ≡ length es
    → e ≡ build number (gathered (exprs_of es)) → Makes want (named_constructor number k ts) (exprs_of es) e (named k)
with_fields number k [] want [] e h n p = absurd (true≢false (sym (h refl)))
with_fields number k [] want (f ∷ es) e h n p = absurd (omega (arith, n))
with_fields number k (t ∷ ts) want es e h n p =
    subst (λ e. Makes want (named_constructor number k (t ∷ ts)) (exprs_of es) e (named k)) (sym p) (constructor_made want number k t ts (exprs_of es))

-- ---- the last of one, and of two

pub only_one : {A : Type 0} (xs ys : List A) (a : A) → length xs ≡ 1 → xs ≡ ys ++ a ∷ [] → xs ≡ a ∷ []
only_one xs [] a n h = h
only_one xs (y ∷ ys) a n h = absurd (omega (arith, n, ap (λ l. length l) h, length-append ys (a ∷ [])))

pub only_two : {A : Type 0} (xs ys zs : List A) (a b : A) → length xs ≡ 2 → xs ≡ ys ++ b ∷ [] → ys ≡ zs ++ a ∷ [] → xs ≡ a ∷ b ∷ []
only_two xs ys zs a b n h k =
    let one : length ys ≡ 1 = omega (arith, n, ap (λ l. length l) h, length-append ys (b ∷ [])) in
    h ∙ ap (λ l. l ++ b ∷ []) (only_one ys zs a one k)
