-- Slots of the program's values, and the view of an expression.
use Rattle.std.proofs.Common.{◌≡◌, ℕ, false, zero, suc, ◌-◌, ◌<◌, ◌≤◌, List, [], ◌∷◌, ◌++◌, map, take, ◌+◌, length, get_or, refl, sym, ap, ◌∙◌, arith}
use Rattle.std.proofs.lemmas.List.{take_more, map-append}
use Rattle.txs_values.specs.declared.value.Value as rust
use Rattle.txs_values.specs.Value.{Value}
use Rattle.txs_values.specs.View.{value_of, values_of}
use Rattle.txs_terms.specs.declared.expr.Expr as rust_expr
use Rattle.txs_terms.specs.declared.expr.Expr.TheOpen.{Expr-F}
use Rattle.txs_terms.specs.declared.expr.Binding as rust_binding
use Rattle.txs_terms.specs.declared.expr.Expr.TheFolds.{fold-Binding, fold_out-Binding, fold-roll-Expr}
use Rattle.txs_terms.specs.declared.expr.Expr.TheVariants as variant
use Rattle.txs_terms.specs.Expr.{Expr, val, slot, apply, build, let_in, filled, put, put_each, put_all, more, Puts}
use Rattle.txs_terms.specs.Moves.{is_number}
use Rattle.txs_terms.specs.View.{Bound, bound_of, bounds_of, bound_step, expr_of, exprs_of, expr_step, gathered, let_all, put_bound}

pub at_value : (v : rust.Value) → expr_of (variant.Value v) ≡ val (value_of v)
at_value v = ap expr_of (sym (variant.rolls-Value v)) ∙ fold-roll-Expr Expr Bound expr_step bound_step (Expr-F.Value v)

pub at_slot : (i : ℕ) → expr_of (variant.Slot i) ≡ slot i
at_slot i = ap expr_of (sym (variant.rolls-Slot i)) ∙ fold-roll-Expr Expr Bound expr_step bound_step (Expr-F.Slot i)

pub at_call : (f : ℕ) (es : List rust_expr.Expr) → expr_of (variant.Call f es) ≡ apply f (gathered (exprs_of es))
at_call f es = ap expr_of (sym (variant.rolls-Call f es)) ∙ fold-roll-Expr Expr Bound expr_step bound_step (Expr-F.Call f es)

pub at_build : (c : ℕ) (es : List rust_expr.Expr) → expr_of (variant.Build c es) ≡ build c (gathered (exprs_of es))
at_build c es = ap expr_of (sym (variant.rolls-Build c es)) ∙ fold-roll-Expr Expr Bound expr_step bound_step (Expr-F.Build c es)

bound_at : (b : rust_binding.Binding) → fold-Binding Expr Bound expr_step bound_step b ≡ bound_of b
bound_at b = fold_out-Binding Expr Bound expr_step bound_step b

bounds_at : (bs : List rust_binding.Binding) → map (fold-Binding Expr Bound expr_step bound_step) bs ≡ bounds_of bs
bounds_at [] = refl
bounds_at (b ∷ bs) = rw (bound_at b, bounds_at bs) refl

pub at_let : (bs : List rust_binding.Binding) (e : rust_expr.Expr) → expr_of (variant.Let bs e) ≡ let_all (bounds_of bs) (expr_of e)
at_let bs e =
    ap expr_of (sym (variant.rolls-Let bs e)) ∙ (fold-roll-Expr Expr Bound expr_step bound_step (Expr-F.Let bs e)
    ∙ ap (λ l. let_all l (expr_of e)) (bounds_at bs))

-- whether a LET is a number, which it is if it binds nothing and its body is one
pub none_bound : (e b : rust_expr.Expr) (bs : List rust_binding.Binding) (v : Value) → e ≡ variant.Let bs b → length bs ≡ 0 → is_number (expr_of b) v ≡ is_number (expr_of e) v
none_bound e b [] v is h = ap (λ x. is_number x v) (sym (ap expr_of is ∙ at_let [] b))
none_bound e b (c ∷ bs) v is h = absurd (omega (arith, h))

pub some_bound : (e b : rust_expr.Expr) (bs : List rust_binding.Binding) (v : Value) → e ≡ variant.Let bs b → (length bs ≡ 0 → ⊥) → false ≡ is_number (expr_of e) v
some_bound e b [] v is h = absurd (h refl)
some_bound e b (c ∷ bs) v is h = ap (λ x. is_number x v) (sym (ap expr_of is ∙ at_let (c ∷ bs) b))

put_bounds : (f : Puts) (bs : List Bound) (e : Expr) → put f (let_all bs e) ≡ let_all (map (put_bound f) bs) (put f e)
put_bounds f [] e = refl
put_bounds f (b ∷ bs) e = ap (let_in b.0 (put f b.1)) (put_bounds f bs e)

pub put_gathered : (f : Puts) (es : List Expr) → put_each f (gathered es) ≡ gathered (put_all f es)
put_gathered f [] = refl
put_gathered f (e ∷ es) = ap (more (put f e)) (put_gathered f es)

pub filled_at : (vs : List rust.Value) (i : ℕ) (v : rust.Value) → i < length vs → v ≡ get_or vs i v
    → val (value_of v) ≡ filled (values_of vs) i
filled_at [] i v h e = absurd (omega arith)
filled_at (w ∷ vs) zero v h e = ap (λ x. val (value_of x)) e
filled_at (w ∷ vs) (suc i) v h e = filled_at vs i v (let k : i < length vs = omega arith in k) e

pub filled_beyond : (vs : List rust.Value) (i : ℕ) → length vs ≤ i → slot (i - length vs) ≡ filled (values_of vs) i
filled_beyond [] i h = let e : i - 0 ≡ i = omega arith in ap slot e
filled_beyond (w ∷ vs) zero h = absurd (omega arith)
filled_beyond (w ∷ vs) (suc i) h =
    let e : suc i - length (w ∷ vs) ≡ i - length vs = omega arith in
    ap slot e ∙ filled_beyond vs i (let k : length vs ≤ i = omega arith in k)

-- a call, and a constructor, whose operands are filled
pub filled_call : (p : Puts) (e : rust_expr.Expr) (f : ℕ) (es fs : List rust_expr.Expr) → e ≡ variant.Call f es
    → exprs_of fs ≡ put_all p (exprs_of es) → expr_of (variant.Call f fs) ≡ put p (expr_of e)
filled_call p e f es fs is h =
    at_call f fs ∙ (ap (λ l. apply f (gathered l)) h ∙ sym (ap (put p) (ap expr_of is ∙ at_call f es) ∙ ap (apply f) (put_gathered p (exprs_of es))))

pub filled_build : (p : Puts) (e : rust_expr.Expr) (c : ℕ) (es fs : List rust_expr.Expr) → e ≡ variant.Build c es
    → exprs_of fs ≡ put_all p (exprs_of es) → expr_of (variant.Build c fs) ≡ put p (expr_of e)
filled_build p e c es fs is h =
    at_build c fs ∙ (ap (λ l. build c (gathered l)) h ∙ sym (ap (put p) (ap expr_of is ∙ at_build c es) ∙ ap (build c) (put_gathered p (exprs_of es))))

-- a LET, whose bindings and body are filled
pub filled_let : (p : Puts) (e : rust_expr.Expr) (bs cs : List rust_binding.Binding) (a b : rust_expr.Expr) → e ≡ variant.Let bs a
    → bounds_of cs ≡ map (put_bound p) (bounds_of bs) → expr_of b ≡ put p (expr_of a) → expr_of (variant.Let cs b) ≡ put p (expr_of e)
filled_let p e bs cs a b is h k =
    at_let cs b ∙ (ap (λ l. let_all l (expr_of b)) h ∙ (ap (let_all (map (put_bound p) (bounds_of bs))) k
    ∙ sym (ap (put p) (ap expr_of is ∙ at_let bs a) ∙ put_bounds p (bounds_of bs) (expr_of a))))

-- a binding whose expression is filled
pub bound_filled : (p : Puts) (b c : rust_binding.Binding) → c.name ≡ b.name → expr_of c.value ≡ put p (expr_of b.value) → bound_of c ≡ put_bound p (bound_of b)
bound_filled p b c h k = rw (h, k) refl

-- one more is filled
pub map_one_more : {A B : Type 0} (g : A → B) (f : B → B) (xs : List A) (i : ℕ) (ys : List A) (y d : A) → i < length xs
    → map g ys ≡ map f (map g (take i xs)) → g y ≡ f (g (get_or xs i d)) → map g (ys ++ y ∷ []) ≡ map f (map g (take (i + 1) xs))
map_one_more g f xs i ys y d h e k =
    let t = take_more xs i d h in
    let a = map-append g ys (y ∷ []) in
    let b = ap (λ l. map f (map g l)) t in
    let c = ap (map f) (map-append g (take i xs) (get_or xs i d ∷ [])) in
    let m = map-append f (map g (take i xs)) (g (get_or xs i d) ∷ []) in
    let joined : map g ys ++ g y ∷ [] ≡ map f (map g (take i xs)) ++ f (g (get_or xs i d)) ∷ [] = cc in
    a ∙ (joined ∙ sym (b ∙ (c ∙ m)))
