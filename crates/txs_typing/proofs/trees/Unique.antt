-- A tree means one expression, of one type.
use Rattle.std.proofs.Common.{◌≡◌, ℕ, ℤ, true, false, ap, sym, subst, ◌∙◌, List, [], ◌∷◌, Option, Some, None, refl, true≢false}
use Rattle.txs_values.specs.Value.{Ty, integer, truth, string, num, text}
use Rattle.txs_terms.specs.Expr.{Expr, val, one, negate, choose, let_in}
use Rattle.txs_syntax.specs.declared.ast.Op.{Op}
use Rattle.txs_syntax.specs.declared.ast.Name.{Name}
use Rattle.txs_syntax.specs.declared.ast.Ast.{Ast, out-Ast}
use Rattle.txs_syntax.specs.declared.ast.Binding.{Binding}
use Rattle.txs_syntax.specs.declared.ast.Ast.TheVariants as tree
use Rattle.txs_syntax.specs.declared.ast.Ast.TheOpen.{Ast-F}
use Rattle.txs_typing.specs.Names.{Scope, Meaning, inside, called, meaning}
use Rattle.txs_typing.proofs.Laws.{ElaborationIsUnique}
use Rattle.txs_typing.specs.Elaborates.{right_first, Operator, or_operator, and_operator, less_operator, at_most_operator, more_operator, at_least_operator, join_operator, plus_operator, minus_operator, times_operator, divide_operator, remainder_operator, Comparison, equal_comparison, different_comparison, Makes, function_made, value_made, constructor_made, test_made, selector_made, not_made, to_string_made, from_string_made, len_made, at_made, Elaborates, number, quoted, name, call, negated, operated, compared, compared_back, grouped, chosen, chosen_freely, bound, unbound, ElaboratesEach, nothing, one_more}

abbrev from_some : {A : Type 0} → A → Option A → A
from_some a None = a
from_some a (Some b) = b

pub some_injective : {A : Type 0} {a b : A} → Some a ≡ Some b → a ≡ b
some_injective {a = a} p = ap (from_some a) p

pub same_operator : {o : Op} {n n' t t' : Ty} {m m' : Expr → Expr → Expr} → Operator o n t m → Operator o n' t' m' → (n ≡ n') × (t ≡ t') × (m ≡ m')
same_operator or_operator or_operator = (refl, refl, refl)
same_operator and_operator and_operator = (refl, refl, refl)
same_operator less_operator less_operator = (refl, refl, refl)
same_operator at_most_operator at_most_operator = (refl, refl, refl)
same_operator more_operator more_operator = (refl, refl, refl)
same_operator at_least_operator at_least_operator = (refl, refl, refl)
same_operator join_operator join_operator = (refl, refl, refl)
same_operator plus_operator plus_operator = (refl, refl, refl)
same_operator minus_operator minus_operator = (refl, refl, refl)
same_operator times_operator times_operator = (refl, refl, refl)
same_operator divide_operator divide_operator = (refl, refl, refl)
same_operator remainder_operator remainder_operator = (refl, refl, refl)

pub same_comparison : {o : Op} {m m' : Expr → Expr → Expr} → Comparison o m → Comparison o m' → m ≡ m'
same_comparison equal_comparison equal_comparison = refl
same_comparison different_comparison different_comparison = refl

pub no_operator : {o : Op} {n t : Ty} {m m' : Expr → Expr → Expr} → Comparison o m → Operator o n t m' → ⊥
no_operator equal_comparison p = elim p [ ]
no_operator different_comparison p = elim p [ ]

same_made : {want : Option Ty} {m : Meaning} {es : List Expr} {e f : Expr} {s t : Ty} → Makes want m es e s → Makes want m es f t → (e ≡ f) × (s ≡ t)
same_made (function_made w g ts t es) (function_made w' g' ts' t' es') = (refl, refl)
same_made (value_made w c k) (value_made w' c' k') = (refl, refl)
same_made (constructor_made w c k t ts es) (constructor_made w' c' k' t' ts' es') = (refl, refl)
same_made (test_made w c k e) (test_made w' c' k' e') = (refl, refl)
same_made (selector_made w c j k t e) (selector_made w' c' j' k' t' e') = (refl, refl)
same_made (not_made w e) (not_made w' e') = (refl, refl)
same_made (to_string_made w e) (to_string_made w' e') = (refl, refl)
same_made (from_string_made t e) (from_string_made t' e') = (refl, refl)
same_made (len_made w e) (len_made w' e') = (refl, refl)
same_made (at_made w e f) (at_made w' e' f') = (refl, refl)

pub made_of : {A B C : Type 0} {m m' : A → B → C} {a a' : A} {b b' : B} → m ≡ m' → a ≡ a' → b ≡ b' → m a b ≡ m' a' b'
made_of {m' = m'} {a = a} {a' = a'} {b = b} p q r = ap (λ m. m a b) p ∙ (ap (λ x. m' x b) q ∙ ap (m' a') r)

-- what the derivation of a tree is made of, by the tree's outermost form
pub data Layer (scope : Scope) : Option Ty → Ast-F Ast Binding → Expr → Ty → Type 0 where
  l_number : {want : Option Ty} (at : ℕ) (n : ℤ) → Layer scope want (Ast-F.Number at n) (val (num n)) integer
  l_quoted : {want : Option Ty} (at : ℕ) (s : List ℕ) → Layer scope want (Ast-F.Text at s) (val (text s)) string
  l_name : {want : Option Ty} (x : Name) (e : Expr) (t : Ty) → meaning scope x.text ≡ Some (e, t) → Layer scope want (Ast-F.Name x) e t
  l_call : {want : Option Ty} (x : Name) (args : List Ast) (m : Meaning) (needs : List (Option Ty)) (es : List Expr) (e : Expr) (t : Ty)
      → called scope x.text ≡ Some (m, needs) → ElaboratesEach scope needs args es → Makes want m es e t → Layer scope want (Ast-F.Call x args) e t
  l_negated : {want : Option Ty} (at : ℕ) (a : Ast) (e : Expr) (s : Ty) → Elaborates scope (Some integer) a e s
      → Layer scope want (Ast-F.Negate at a) (one negate e) integer
  l_operated : {want : Option Ty} (o : Op) (a b : Ast) (e f : Expr) (need q r t : Ty) (make : Expr → Expr → Expr) → Operator o need t make
      → Elaborates scope (Some need) a e q → Elaborates scope (Some need) b f r → Layer scope want (Ast-F.Binary o a b) (make e f) t
  l_compared : {want : Option Ty} (o : Op) (a b : Ast) (e f : Expr) (s r : Ty) (make : Expr → Expr → Expr) → Comparison o make
      → right_first a b ≡ false → Elaborates scope None a e s → Elaborates scope (Some s) b f r → Layer scope want (Ast-F.Binary o a b) (make e f) truth
  l_compared_back : {want : Option Ty} (o : Op) (a b : Ast) (e f : Expr) (s r : Ty) (make : Expr → Expr → Expr) → Comparison o make
      → right_first a b ≡ true → Elaborates scope None b f s → Elaborates scope (Some s) a e r → Layer scope want (Ast-F.Binary o a b) (make e f) truth
  l_grouped : {want : Option Ty} (at : ℕ) (a : Ast) (e : Expr) (t : Ty) → Elaborates scope want a e t → Layer scope want (Ast-F.Group at a) e t
  l_chosen : (at : ℕ) (p a b : Ast) (c e f : Expr) (q r s t : Ty) → Elaborates scope (Some truth) p c q
      → Elaborates scope (Some t) a e r → Elaborates scope (Some t) b f s → Layer scope (Some t) (Ast-F.If at p a b) (choose c e f) t
  l_freely : (at : ℕ) (p a b : Ast) (c e f : Expr) (q s t : Ty) → Elaborates scope (Some truth) p c q
      → Elaborates scope None a e t → Elaborates scope (Some t) b f s → Layer scope None (Ast-F.If at p a b) (choose c e f) t
  l_bound : {want : Option Ty} (at : ℕ) (b : Binding) (bs : List Binding) (c : Ast) (e f : Expr) (s t : Ty) → Elaborates scope None b.value e s
      → Elaborates (inside scope b.name.text s) want (tree.Let at bs c) f t → Layer scope want (Ast-F.Let at (b ∷ bs) c) (let_in b.name.text e f) t
  l_unbound : {want : Option Ty} (at : ℕ) (c : Ast) (e : Expr) (t : Ty) → Elaborates scope want c e t → Layer scope want (Ast-F.Let at [] c) e t

pub at_form : {scope : Scope} {want : Option Ty} {e : Expr} {t : Ty} {l m : Ast-F Ast Binding} → m ≡ l → Layer scope want l e t → Layer scope want m e t
at_form {scope = scope} {want = want} {e = e} {t = t} p d = subst (λ l. Layer scope want l e t) (sym p) d

pub layer : {scope : Scope} {want : Option Ty} {a : Ast} {e : Expr} {t : Ty} → Elaborates scope want a e t → Layer scope want (out-Ast a) e t
layer (number {at = at} {n = n} p) = at_form (tree.outs-Number at n) (l_number at n)
layer (quoted {at = at} {s = s} p) = at_form (tree.outs-Text at s) (l_quoted at s)
layer (name {x = y} {e = e} {t = t} k p) = at_form (tree.outs-Name y) (l_name y e t k)
layer (call {x = y} args {m = m} {needs = needs} {es = es} {e = e} {t = t} k ds n p) = at_form (tree.outs-Call y args) (l_call y args m needs es e t k ds n)
layer (negated {at = at} a {e = e} {s = s} d p) = at_form (tree.outs-Negate at a) (l_negated at a e s d)
layer (operated {o = o} a b {e = e} {f = f} {need = need} {q = q} {r = r} {t = t} {make = make} k d1 d2 p) =
    at_form (tree.outs-Binary o a b) (l_operated o a b e f need q r t make k d1 d2)
layer (compared {o = o} a b {e = e} {f = f} {s = s} {r = r} {make = make} c k d1 d2 p) = at_form (tree.outs-Binary o a b) (l_compared o a b e f s r make c k d1 d2)
layer (compared_back {o = o} a b {e = e} {f = f} {s = s} {r = r} {make = make} c k d1 d2 p) =
    at_form (tree.outs-Binary o a b) (l_compared_back o a b e f s r make c k d1 d2)
layer (grouped {at = at} a {e = e} {t = t} d) = at_form (tree.outs-Group at a) (l_grouped at a e t d)
layer (chosen {at = at} p a b {c = c} {e = e} {f = f} {q = q} {r = r} {s = s} {t = t} d1 d2 d3) =
    at_form (tree.outs-If at p a b) (l_chosen at p a b c e f q r s t d1 d2 d3)
layer (chosen_freely {at = at} p a b {c = c} {e = e} {f = f} {q = q} {s = s} {t = t} d1 d2 d3) =
    at_form (tree.outs-If at p a b) (l_freely at p a b c e f q s t d1 d2 d3)
layer (bound {at = at} b bs c {e = e} {f = f} {s = s} {t = t} d1 d2) = at_form (tree.outs-Let at (b ∷ bs) c) (l_bound at b bs c e f s t d1 d2)
layer (unbound {at = at} c {e = e} {t = t} d) = at_form (tree.outs-Let at [] c) (l_unbound at c e t d)

-- what else the tree means is the same
abbrev pub Same : Scope → Option Ty → Ast → Expr → Ty → Type 0
Same scope want a e s = (f : Expr) (t : Ty) → Elaborates scope want a f t → (e ≡ f) × (s ≡ t)

abbrev SameEach : Scope → List (Option Ty) → List Ast → List Expr → Type 0
SameEach scope needs args es = (fs : List Expr) → ElaboratesEach scope needs args fs → es ≡ fs

pub of_number : {scope : Scope} {want : Option Ty} {at : ℕ} {n : ℤ} {e : Expr} {t : Ty} → Layer scope want (Ast-F.Number at n) e t → (val (num n) ≡ e) × (integer ≡ t)
of_number (l_number at n) = (refl, refl)

pub of_quoted : {scope : Scope} {want : Option Ty} {at : ℕ} {s : List ℕ} {e : Expr} {t : Ty} → Layer scope want (Ast-F.Text at s) e t → (val (text s) ≡ e) × (string ≡ t)
of_quoted (l_quoted at s) = (refl, refl)

pub of_name : {scope : Scope} {want : Option Ty} {x : Name} {e f : Expr} {s t : Ty} → meaning scope x.text ≡ Some (e, s) → Layer scope want (Ast-F.Name x) f t → (e ≡ f) × (s ≡ t)
of_name h (l_name x f t k) = (ap (λ r. r.0) (some_injective (sym h ∙ k)), ap (λ r. r.1) (some_injective (sym h ∙ k)))

of_call : {scope : Scope} {want : Option Ty} {x : Name} {args : List Ast} {m : Meaning} {needs : List (Option Ty)} {es : List Expr} {e f : Expr} {s t : Ty}
    → called scope x.text ≡ Some (m, needs) → SameEach scope needs args es → Makes want m es e s → Layer scope want (Ast-F.Call x args) f t → (e ≡ f) × (s ≡ t)
of_call {scope = scope} {want = want} {m = m} h each made (l_call x args m' needs' fs f t k ds n) =
    let same = some_injective (sym k ∙ h) in
    let alike = each fs (subst (λ r. ElaboratesEach scope r.1 args fs) same ds) in
    let n' = subst (λ r. Makes want r.0 fs f t) same n in
    same_made made (subst (λ es. Makes want m es f t) (sym alike) n')

pub of_negated : {scope : Scope} {want : Option Ty} {at : ℕ} {a : Ast} {e f : Expr} {r t : Ty} → Same scope (Some integer) a e r
    → Layer scope want (Ast-F.Negate at a) f t → (one negate e ≡ f) × (integer ≡ t)
of_negated same (l_negated at a f s d) = (ap (one negate) (same f s d).0, refl)

pub of_operated : {scope : Scope} {want : Option Ty} {o : Op} {a b : Ast} {e f g : Expr} {need q r t u : Ty} {make : Expr → Expr → Expr} → Operator o need t make
    → Same scope (Some need) a e q → Same scope (Some need) b f r → Layer scope want (Ast-F.Binary o a b) g u → (make e f ≡ g) × (t ≡ u)
of_operated {scope = scope} k left right (l_operated o a b e' f' need' q' r' u make' k' d1 d2) =
    let same = same_operator k k' in (
      made_of same.2 (left e' q' (subst (λ n. Elaborates scope (Some n) a e' q') (sym same.0) d1)).0
          (right f' r' (subst (λ n. Elaborates scope (Some n) b f' r') (sym same.0) d2)).0,
      same.1,
    )
of_operated k left right (l_compared o a b e' f' s' r' make' c h d1 d2) = absurd (no_operator c k)
of_operated k left right (l_compared_back o a b e' f' s' r' make' c h d1 d2) = absurd (no_operator c k)

pub of_compared : {scope : Scope} {want : Option Ty} {o : Op} {a b : Ast} {e f g : Expr} {r s u : Ty} {make : Expr → Expr → Expr} → Comparison o make
    → right_first a b ≡ false → Same scope None a e s → Same scope (Some s) b f r → Layer scope want (Ast-F.Binary o a b) g u → (make e f ≡ g) × (truth ≡ u)
of_compared c h left right (l_operated o a b e' f' need' q' r' u make' k' d1 d2) = absurd (no_operator c k')
of_compared {scope = scope} c h left right (l_compared o a b e' f' s' r' make' c' h' d1 d2) =
    let same = left e' s' d1 in
    (made_of (same_comparison c c') same.0 (right f' r' (subst (λ n. Elaborates scope (Some n) b f' r') (sym same.1) d2)).0, refl)
of_compared c h left right (l_compared_back o a b e' f' s' r' make' c' h' d1 d2) = absurd (true≢false (sym h' ∙ h))

pub of_back : {scope : Scope} {want : Option Ty} {o : Op} {a b : Ast} {e f g : Expr} {r s u : Ty} {make : Expr → Expr → Expr} → Comparison o make
    → right_first a b ≡ true → Same scope None b f s → Same scope (Some s) a e r → Layer scope want (Ast-F.Binary o a b) g u → (make e f ≡ g) × (truth ≡ u)
of_back c h right left (l_operated o a b e' f' need' q' r' u make' k' d1 d2) = absurd (no_operator c k')
of_back c h right left (l_compared o a b e' f' s' r' make' c' h' d1 d2) = absurd (true≢false (sym h ∙ h'))
of_back {scope = scope} c h right left (l_compared_back o a b e' f' s' r' make' c' h' d1 d2) =
    let same = right f' s' d1 in
    (made_of (same_comparison c c') (left e' r' (subst (λ n. Elaborates scope (Some n) a e' r') (sym same.1) d2)).0 same.0, refl)

of_grouped : {scope : Scope} {want : Option Ty} {at : ℕ} {a : Ast} {e f : Expr} {s t : Ty} → Same scope want a e s
    → Layer scope want (Ast-F.Group at a) f t → (e ≡ f) × (s ≡ t)
of_grouped same (l_grouped at a f t d) = same f t d

of_chosen : {scope : Scope} {at : ℕ} {p a b : Ast} {c e f g : Expr} {q r s t u : Ty} → Same scope (Some truth) p c q → Same scope (Some t) a e r
    → Same scope (Some t) b f s → Layer scope (Some t) (Ast-F.If at p a b) g u → (choose c e f ≡ g) × (t ≡ u)
of_chosen {e = e} {f = f} one_p one_a one_b (l_chosen at p a b c' e' f' q' r' s' t d1 d2 d3) =
    (ap (λ c. choose c e f) (one_p c' q' d1).0 ∙ made_of {m = choose c'} refl (one_a e' r' d2).0 (one_b f' s' d3).0, refl)

of_freely : {scope : Scope} {at : ℕ} {p a b : Ast} {c e f g : Expr} {q s t u : Ty} → Same scope (Some truth) p c q → Same scope None a e t
    → Same scope (Some t) b f s → Layer scope None (Ast-F.If at p a b) g u → (choose c e f ≡ g) × (t ≡ u)
of_freely {scope = scope} {e = e} {f = f} one_p one_a one_b (l_freely at p a b c' e' f' q' s' t' d1 d2 d3) =
    let yes = one_a e' t' d2 in (
      ap (λ c. choose c e f) (one_p c' q' d1).0 ∙ made_of {m = choose c'} refl yes.0
          (one_b f' s' (subst (λ n. Elaborates scope (Some n) b f' s') (sym yes.1) d3)).0,
      yes.1,
    )

of_bound : {scope : Scope} {want : Option Ty} {at : ℕ} {b : Binding} {bs : List Binding} {c : Ast} {e f g : Expr} {s t u : Ty} → Same scope None b.value e s
    → Same (inside scope b.name.text s) want (tree.Let at bs c) f t → Layer scope want (Ast-F.Let at (b ∷ bs) c) g u → (let_in b.name.text e f ≡ g) × (t ≡ u)
of_bound {scope = scope} {want = want} one_a one_b (l_bound at b bs c e' f' s' u d1 d2) =
    let value = one_a e' s' d1 in
    let rest = one_b f' u (subst (λ n. Elaborates (inside scope b.name.text n) want (tree.Let at bs c) f' u) (sym value.1) d2) in
    (made_of {m = let_in b.name.text} refl value.0 rest.0, rest.1)

of_unbound : {scope : Scope} {want : Option Ty} {at : ℕ} {c : Ast} {e f : Expr} {s t : Ty} → Same scope want c e s
    → Layer scope want (Ast-F.Let at [] c) f t → (e ≡ f) × (s ≡ t)
of_unbound same (l_unbound at c f t d) = same f t d

mutual
  pub unique : {scope : Scope} {want : Option Ty} {a : Ast} {e f : Expr} {s t : Ty}
      → Elaborates scope want a e s → Elaborates scope want a f t → (e ≡ f) × (s ≡ t)
  unique (number {at = at} {n = n} p) z = of_number (at_form (sym (tree.outs-Number at n)) (layer z))
  unique (quoted {at = at} {s = s} p) z = of_quoted (at_form (sym (tree.outs-Text at s)) (layer z))
  unique (name {x = x} h p) z = of_name h (at_form (sym (tree.outs-Name x)) (layer z))
  unique (call {x = x} args h ds m p) z = of_call h (λ fs ys. unique_each ds ys) m (at_form (sym (tree.outs-Call x args)) (layer z))
  unique (negated {at = at} a d p) z = of_negated (λ f t y. unique d y) (at_form (sym (tree.outs-Negate at a)) (layer z))
  unique (operated {o = o} a b k d1 d2 p) z = of_operated k (λ f t y. unique d1 y) (λ f t y. unique d2 y) (at_form (sym (tree.outs-Binary o a b)) (layer z))
  unique (compared {o = o} a b c h d1 d2 p) z = of_compared c h (λ f t y. unique d1 y) (λ f t y. unique d2 y) (at_form (sym (tree.outs-Binary o a b)) (layer z))
  unique (compared_back {o = o} a b c h d1 d2 p) z = of_back c h (λ f t y. unique d1 y) (λ f t y. unique d2 y) (at_form (sym (tree.outs-Binary o a b)) (layer z))
  unique (grouped {at = at} a d) z = of_grouped (λ f t y. unique d y) (at_form (sym (tree.outs-Group at a)) (layer z))
  unique (chosen {at = at} p a b d1 d2 d3) z =
      of_chosen (λ f t y. unique d1 y) (λ f t y. unique d2 y) (λ f t y. unique d3 y) (at_form (sym (tree.outs-If at p a b)) (layer z))
  unique (chosen_freely {at = at} p a b d1 d2 d3) z =
      of_freely (λ f t y. unique d1 y) (λ f t y. unique d2 y) (λ f t y. unique d3 y) (at_form (sym (tree.outs-If at p a b)) (layer z))
  unique (bound {at = at} b bs c d1 d2) z = of_bound (λ f t y. unique d1 y) (λ f t y. unique d2 y) (at_form (sym (tree.outs-Let at (b ∷ bs) c)) (layer z))
  unique (unbound {at = at} c d) z = of_unbound (λ f t y. unique d y) (at_form (sym (tree.outs-Let at [] c)) (layer z))

  pub unique_each : {scope : Scope} {wants : List (Option Ty)} {args : List Ast} {es fs : List Expr}
      → ElaboratesEach scope wants args es → ElaboratesEach scope wants args fs → es ≡ fs
  unique_each nothing nothing = refl
  unique_each (one_more d ds) (one_more d' ds') = made_of {m = λ x xs. x ∷ xs} refl (unique d d').0 (unique_each ds ds')

pub elaboration_is_unique : ElaborationIsUnique
elaboration_is_unique scope want a e f s t d d' = unique d d'
