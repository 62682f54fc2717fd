-- Choices of constructors are those of the defaults by rounds.
use Rattle.std.proofs.Common.{◌≡◌, ℕ, zero, suc, ◌+◌, ◌≤◌, true, false, cond, is_some, min, max, List, [], ◌∷◌, length, Option, Some, None, refl, sym, ap, ◌∙◌, arith, option_map}
use Rattle.txs_values.specs.Choices.{extent_of, choice_of, choices_of, extent_chosen, fields_extent, first_chosen, next_choices, choice_rounds, finds_nothing, chosen_in}
use Rattle.txs_values.specs.Default.{all_defaults, first_made, ranked, next_round, rounds}
use Rattle.txs_values.specs.Measure.{u64_max}
use Rattle.txs_values.specs.Value.{Ty, integer, truth, string, named, Value, num, bool, text, cons, packed, size, sizes, height, heights, Field, Constructor, Table}
use Rattle.txs_values.specs.declared.default.Choice as rust_choice
use Rattle.txs_values.specs.declared.default.Extent as rust_extent

-- ---- lengths

next-length : (all : List (Option rust_choice.Choice)) (c : ℕ) (ts : Table) (os : List (Option rust_choice.Choice)) → length os ≡ length ts → length (next_choices all c ts os) ≡ length ts
next-length all c [] os h = refl
next-length all c (t ∷ ts) [] h = absurd (omega (arith, h))
next-length all c (t ∷ ts) (Some v ∷ os) h = let r = next-length all (c + length t.constructors) ts os (omega (arith, h)) in omega (arith, r)
next-length all c (t ∷ ts) (None ∷ os) h = let r = next-length all (c + length t.constructors) ts os (omega (arith, h)) in omega (arith, r)

none-length : (ts : Table) → length (choice_rounds 0 ts) ≡ length ts
none-length [] = refl
none-length (t ∷ ts) = let r = none-length ts in omega (arith, r)

pub choice_rounds-length : (n : ℕ) (table : Table) → length (choice_rounds n table) ≡ length table
choice_rounds-length zero table = none-length table
choice_rounds-length (suc n) table = next-length (choice_rounds n table) 0 table (choice_rounds n table) (choice_rounds-length n table)

-- a round that finds nothing more is the last one
pub rounds-end : (table : Table) (found : List (Option rust_choice.Choice)) (n : ℕ) → found ≡ choice_rounds n table → next_choices found 0 table found ≡ found
    → (k m : ℕ) → m ≡ k + n → found ≡ choice_rounds m table
rounds-end table found n e h zero m q = e ∙ ap (λ (i : ℕ). choice_rounds i table) (let r : n ≡ m = omega (arith, q) in r)
rounds-end table found n e h (suc k) zero q = absurd (omega (arith, q))
rounds-end table found n e h (suc k) (suc m) q = sym h ∙ ap (λ (f : List (Option rust_choice.Choice)). next_choices f 0 table f) (rounds-end table found n e h k m (omega (arith, q)))

-- where a round finds nothing more, it changes nothing
nothing-by : (o : Option rust_choice.Choice) (os ns : List (Option rust_choice.Choice)) → cond (is_some o) false (finds_nothing os ns) ≡ true → (finds_nothing os ns ≡ true → ns ≡ os) → ◌≡◌ {A = List (Option rust_choice.Choice)} (o ∷ ns) (None ∷ os)
nothing-by None os ns h r = ap (λ (q : List (Option rust_choice.Choice)). None ∷ q) (r h)
nothing-by (Some c) os ns h r = absurd (cc)

pub nothing-more : (all : List (Option rust_choice.Choice)) (c : ℕ) (ts : Table) (os : List (Option rust_choice.Choice)) → length os ≡ length ts
    → finds_nothing os (next_choices all c ts os) ≡ true → next_choices all c ts os ≡ os
nothing-more all c [] [] h f = refl
nothing-more all c [] (o ∷ os) h f = absurd (omega (arith, h))
nothing-more all c (t ∷ ts) [] h f = refl
nothing-more all c (t ∷ ts) (Some v ∷ os) h f = ap (λ (q : List (Option rust_choice.Choice)). Some v ∷ q) (nothing-more all (c + length t.constructors) ts os (omega (arith, h)) f)
nothing-more all c (t ∷ ts) (None ∷ os) h f =
    nothing-by (first_chosen all c t.constructors) os (next_choices all (c + length t.constructors) ts os) f (nothing-more all (c + length t.constructors) ts os (omega (arith, h)))

-- ---- extents

pub extent-choice : (v : Value) → (choice_of v).extent ≡ extent_of v
extent-choice (num x) = refl
extent-choice (bool b) = refl
extent-choice (text bs) = refl
extent-choice (cons c vs) = refl

extent-named : (os : List (Option Value)) (k : ℕ) → extent_chosen (choices_of os) (named k) ≡ option_map extent_of (ranked os (named k))
extent-named [] k = refl
extent-named (None ∷ os) zero = refl
extent-named (Some v ∷ os) zero = ap Some (extent-choice v)
extent-named (o ∷ os) (suc k) = extent-named os k

pub chosen-named : (os : List (Option Value)) (k : ℕ) → chosen_in (choices_of os) k ≡ option_map choice_of (ranked os (named k))
chosen-named [] k = refl
chosen-named (None ∷ os) zero = refl
chosen-named (Some v ∷ os) zero = refl
chosen-named (o ∷ os) (suc k) = chosen-named os k

pub extent-ranked : (os : List (Option Value)) (t : Ty) → extent_chosen (choices_of os) t ≡ option_map extent_of (ranked os t)
extent-ranked os integer = refl
extent-ranked os truth = refl
extent-ranked os string = refl
extent-ranked os (named k) = extent-named os k

abbrev extent : ℕ → ℕ → rust_extent.Extent
extent s h = record { size = s; height = h }

same-extent : (s r h k : ℕ) → s ≡ r → h ≡ k → extent s h ≡ extent r k
same-extent s r h k e g = ap (λ (q : ℕ). extent q h) e ∙ ap (λ (q : ℕ). extent r q) g

-- with this size and height of the fields before
abbrev with_fields : ℕ → ℕ → List Value → rust_extent.Extent
with_fields s h vs = extent (min (s + sizes (packed vs)) u64_max) (min (max h (heights (packed vs)) + 1) u64_max)

fields-by-rest : (s h : ℕ) (v : Value) (r : Option rust_extent.Extent) (o : Option (List Value)) → r ≡ option_map (with_fields (min (s + min (size v) u64_max) u64_max) (max h (min (height v) u64_max))) o
    → r ≡ option_map (with_fields s h) (elim o [ None ↦ None | Some vs ↦ Some (v ∷ vs) ])
fields-by-rest s h v r None e = e
fields-by-rest s h v r (Some vs) e = e ∙ ap Some (same-extent _ _ _ _ (omega arith) (omega arith))

fields-by : (found : List (Option rust_choice.Choice)) (s h : ℕ) (f : Field) (fs : List Field) (ds : Option (List Value)) (o : Option Value)
    → ((r g : ℕ) → r ≤ u64_max → g ≤ u64_max → fields_extent found r g fs ≡ option_map (with_fields r g) ds) → h ≤ u64_max
    → elim (option_map extent_of o) [ None ↦ None | Some e ↦ fields_extent found (min (s + e.size) u64_max) (max h e.height) fs ]
    ≡ option_map (with_fields s h) (elim o [ None ↦ None | Some v ↦ elim ds [ None ↦ None | Some vs ↦ Some (v ∷ vs) ] ])
fields-by found s h f fs ds None rest l = refl
fields-by found s h f fs ds (Some v) rest l =
    fields-by-rest s h v _ ds (rest (min (s + min (size v) u64_max) u64_max) (max h (min (height v) u64_max)) (omega arith) (omega (arith, l)))

fields-ranked : (os : List (Option Value)) (s h : ℕ) (fs : List Field) → s ≤ u64_max → h ≤ u64_max
    → fields_extent (choices_of os) s h fs ≡ option_map (with_fields s h) (all_defaults (ranked os) fs)
fields-ranked os s h [] l m = ap Some (same-extent _ _ _ _ (omega (arith, l)) (omega (arith, m)))
fields-ranked os s h (f ∷ fs) l m =
    ap (λ (o : Option rust_extent.Extent). elim o [ None ↦ None | Some e ↦ fields_extent (choices_of os) (min (s + e.size) u64_max) (max h e.height) fs ]) (extent-ranked os f.ty)
    ∙ fields-by (choices_of os) s h f fs (all_defaults (ranked os) fs) (ranked os f.ty) (λ r g x y. fields-ranked os r g fs x y) m

-- ---- rounds

made-choice : (c : ℕ) (vs : List Value) → ◌≡◌ {A = rust_choice.Choice} (record { id = c; extent = with_fields 1 0 vs }) (choice_of (cons c (packed vs)))
made-choice c vs = ap (λ (e : rust_extent.Extent). record { id = c; extent = e }) (same-extent _ _ _ _ refl (omega arith))

first-by : (c : ℕ) (r : Option rust_choice.Choice) (w : Option Value) (o : Option (List Value)) → r ≡ option_map choice_of w
    → elim (option_map (with_fields 1 0) o) [ None ↦ r | Some e ↦ Some (record { id = c; extent = e }) ] ≡ option_map choice_of (elim o [ None ↦ w | Some vs ↦ Some (cons c (packed vs)) ])
first-by c r w None h = h
first-by c r w (Some vs) h = ap Some (made-choice c vs)

first-ranked : (os : List (Option Value)) (c : ℕ) (xs : List Constructor) → first_chosen (choices_of os) c xs ≡ option_map choice_of (first_made (ranked os) c xs)
first-ranked os c [] = refl
first-ranked os c (x ∷ xs) =
    ap (λ (o : Option rust_extent.Extent). elim o [ None ↦ first_chosen (choices_of os) (suc c) xs | Some e ↦ Some (record { id = c; extent = e }) ]) (fields-ranked os 1 0 x.fields (omega arith) (omega arith))
    ∙ first-by c (first_chosen (choices_of os) (suc c) xs) (first_made (ranked os) (suc c) xs) (all_defaults (ranked os) x.fields) (first-ranked os (suc c) xs)

next-ranked : (all : List (Option Value)) (c : ℕ) (ts : Table) (os : List (Option Value)) → next_choices (choices_of all) c ts (choices_of os) ≡ choices_of (next_round all c ts os)
next-ranked all c [] os = refl
next-ranked all c (t ∷ ts) [] = refl
next-ranked all c (t ∷ ts) (Some v ∷ os) = ap (λ (q : List (Option rust_choice.Choice)). Some (choice_of v) ∷ q) (next-ranked all (c + length t.constructors) ts os)
next-ranked all c (t ∷ ts) (None ∷ os) =
    ap (λ (o : Option rust_choice.Choice). o ∷ next_choices (choices_of all) (c + length t.constructors) ts (choices_of os)) (first-ranked all c t.constructors)
    ∙ ap (λ (q : List (Option rust_choice.Choice)). option_map choice_of (first_made (ranked all) c t.constructors) ∷ q) (next-ranked all (c + length t.constructors) ts os)

none-ranked : (table : Table) → choice_rounds 0 table ≡ choices_of (rounds 0 table)
none-ranked [] = refl
none-ranked (t ∷ ts) = ap (λ (q : List (Option rust_choice.Choice)). None ∷ q) (none-ranked ts)

pub rounds-ranked : (n : ℕ) (table : Table) → choice_rounds n table ≡ choices_of (rounds n table)
rounds-ranked zero table = none-ranked table
rounds-ranked (suc n) table =
    ap (λ (f : List (Option rust_choice.Choice)). next_choices f 0 table f) (rounds-ranked n table) ∙ next-ranked (rounds n table) 0 table (rounds n table)
