-- Operators on values of their types give values of theirs, or a fault that a well typed expression may have.
use Rattle.std.specs.Prelude.{ℤ, Option, Some, None, slice_get}
use Rattle.std.proofs.Common.{◌≡◌, ℕ, zero, suc, Bool, true, false, cond, eqb, ltb, List, [], ◌∷◌, ◌++◌, refl, sym, subst}
use Rattle.std.proofs.lemmas.Bool.{and_parts, and_from, eqb-true}
use Rattle.txs_values.specs.Value.{Ty, integer, truth, string, named, Value, num, bool, text, cons, Values, no_value, and_value, listed, packed, size, height, Table, Constructor, place_of, field_types, fields_in, has_type, has_fields, HasType, HaveTypes, fits, value_size_limit, value_height_limit}
use Rattle.txs_values.specs.Reading.{read_text}
use Rattle.txs_terms.specs.Expr.{Unary, Binary, divide, remainder, concat, differ, char_at}
use Rattle.txs_terms.specs.Eval.{Fault, division, range, selector, form, high, long, big, wrong, Outcome, fine, broken, in_range, sized, selected, spelled, text_to, unary, binary, integer_binary, divided, char_of, char_from}
use Rattle.txs_terms.specs.Typed.{UnaryOf, negate_of, negation_of, to_text_of, from_text_of, len_of, made_by_of, select_of, BinaryOf, plus_of, minus_of, times_of, divide_of, remainder_of, concat_of, differ_of, less_of, at_most_of, more_of, at_least_of, char_of as char_at_of}
use Rattle.txs_terms.proofs.typing.Numbers.{place_at, fields_same}
use Rattle.txs_terms.proofs.typing.Reading.{IfTyped, read_typed}
use Rattle.txs_terms.proofs.typing.Lists.{same_some}

-- a fault that a well typed expression may have
abbrev pub IsRight : Fault → Type 0
IsRight division = Unit {0}
IsRight range = Unit {0}
IsRight selector = Unit {0}
IsRight form = Unit {0}
IsRight high = Unit {0}
IsRight long = Unit {0}
IsRight big = Unit {0}
IsRight wrong = ⊥

typed_field : (table : Table) (vs : Values) (ts : List Ty) (j : ℕ) (t : Ty) (v : Value) → has_fields table vs (Some ts) ≡ true
    → slice_get ts j ≡ Some t → slice_get (listed vs) j ≡ Some v → HasType table v t
typed_field table no_value [] j t v h a b = none j b
  where
    none : (j : ℕ) → slice_get [] j ≡ Some v → HasType table v t
    none zero q = cc
    none (suc j) q = cc
typed_field table no_value (s ∷ ts) j t v h a b = cc
typed_field table (and_value w vs) [] j t v h a b = cc
typed_field table (and_value w vs) (s ∷ ts) zero t v h a b =
    let p = and_parts (has_type table w s) (has_fields table vs (Some ts)) h in
    let x : w ≡ v = same_some b in let y : s ≡ t = same_some a in
    subst (λ k. HasType table k t) x (subst (λ k. HasType table w k) y p.0)
typed_field table (and_value w vs) (s ∷ ts) (suc j) t v h a b =
    typed_field table vs ts j t v (and_parts (has_type table w s) (has_fields table vs (Some ts)) h).1 a b

there_is_one : (table : Table) (vs : Values) (ts : List Ty) (j : ℕ) (t : Ty) → has_fields table vs (Some ts) ≡ true
    → slice_get ts j ≡ Some t → slice_get (listed vs) j ≡ None → ⊥
there_is_one table no_value [] j t h a b = none j a
  where
    none : (j : ℕ) → slice_get [] j ≡ Some t → ⊥
    none zero q = cc
    none (suc j) q = cc
there_is_one table no_value (s ∷ ts) j t h a b = cc
there_is_one table (and_value w vs) [] j t h a b = cc
there_is_one table (and_value w vs) (s ∷ ts) zero t h a b = cc
there_is_one table (and_value w vs) (s ∷ ts) (suc j) t h a b =
    there_is_one table vs ts j t (and_parts (has_type table w s) (has_fields table vs (Some ts)) h).1 a b

pub packed_typed : (table : Table) (vs : List Value) (ts : List Ty) → HaveTypes table vs ts → has_fields table (packed vs) (Some ts) ≡ true
packed_typed table [] [] h = refl
packed_typed table [] (t ∷ ts) h = absurd h
packed_typed table (v ∷ vs) [] h = absurd h
packed_typed table (v ∷ vs) (t ∷ ts) h = and_from (has_type table v t) (has_fields table (packed vs) (Some ts)) h.0 (packed_typed table vs ts h.1)

module _ (table : Table) where
  abbrev pub IsFine : Ty → Outcome → Type 0
  IsFine t (fine v) = HasType table v t
  IsFine t (broken f) = IsRight f

  in_range_fine : (x : ℤ) → IsFine integer (in_range x)
  in_range_fine x = by (fits x) refl
    where
      by : (b : Bool) → fits x ≡ b → IsFine integer (cond b (fine (num x)) (broken range))
      by true e = e
      by false e = tt

  pub sized_fine : (t : Ty) (v : Value) → HasType table v t → IsFine t (sized v)
  sized_fine t v h = by (ltb value_size_limit (size v)) (ltb value_height_limit (height v))
    where
      by : (a b : Bool) → IsFine t (cond a (broken big) (cond b (broken big) (fine v)))
      by true b = tt
      by false true = tt
      by false false = h

  long_fine : (bs : List ℕ) → IsFine string (sized (text bs))
  long_fine bs = sized_fine string (text bs) refl

  spelled_fine : (t : Ty) (o : Option Value) → IfTyped table t o → IsFine t (spelled o)
  spelled_fine t None h = tt
  spelled_fine t (Some v) h = h

  text_fine : (t : Ty) (bs : List ℕ) → IsFine t (text_to table t bs)
  text_fine string bs = refl
  text_fine integer bs = spelled_fine integer (read_text table integer bs) (read_typed table integer bs)
  text_fine truth bs = spelled_fine truth (read_text table truth bs) (read_typed table truth bs)
  text_fine (named k) bs = spelled_fine (named k) (read_text table (named k) bs) (read_typed table (named k) bs)

  -- a field stands at each type, and has that type
  field_fine : (vs : Values) (ts : List Ty) (j : ℕ) (t : Ty) → has_fields table vs (Some ts) ≡ true → slice_get ts j ≡ Some t
      → IsFine t (selected (slice_get (listed vs) j))
  field_fine vs ts j t h s = by (slice_get (listed vs) j) refl
    where
      by : (o : Option Value) → slice_get (listed vs) j ≡ o → IsFine t (selected o)
      by None e = there_is_one table vs ts j t h s e
      by (Some v) e = typed_field table vs ts j t v h s e

  select_fine : (c j k : ℕ) (t : Ty) (x : Constructor) (d : ℕ) (vs : Values) (b : Bool) → eqb c d ≡ b
      → place_of table c ≡ Some (place_at k x) → slice_get (field_types x.fields) j ≡ Some t → HasType table (cons d vs) (named k)
      → IsFine t (cond b (selected (slice_get (listed vs) j)) (broken selector))
  select_fine c j k t x d vs true e p s h =
      let q : has_fields table vs (fields_in (place_of table c) k) ≡ true =
      subst (λ y. has_fields table vs (fields_in (place_of table y) k) ≡ true) (sym (eqb-true c d e)) h in
      field_fine vs (field_types x.fields) j t (subst (λ o. has_fields table vs o ≡ true) (fields_same table c k x p) q) s
  select_fine c j k t x d vs false e p s h = tt

  pub unary_fine : {o : Unary} {s t : Ty} → UnaryOf table o s t → (x : Value) → HasType table x s → IsFine t (unary table o x)
  unary_fine negate_of (num x) h = in_range_fine _
  unary_fine negate_of (bool b) h = cc
  unary_fine negate_of (text b) h = cc
  unary_fine negate_of (cons c vs) h = cc
  unary_fine negation_of (num x) h = cc
  unary_fine negation_of (bool b) h = refl
  unary_fine negation_of (text b) h = cc
  unary_fine negation_of (cons c vs) h = cc
  unary_fine (to_text_of t) (num x) h = long_fine _
  unary_fine (to_text_of t) (bool b) h = long_fine _
  unary_fine (to_text_of t) (text b) h = long_fine _
  unary_fine (to_text_of t) (cons c vs) h = long_fine _
  unary_fine (from_text_of t) (num x) h = cc
  unary_fine (from_text_of t) (bool b) h = cc
  unary_fine (from_text_of t) (text b) h = text_fine t b
  unary_fine (from_text_of t) (cons c vs) h = cc
  unary_fine len_of (num x) h = cc
  unary_fine len_of (bool b) h = cc
  unary_fine len_of (text b) h = in_range_fine _
  unary_fine len_of (cons c vs) h = cc
  unary_fine (made_by_of c k x e) (num z) h = cc
  unary_fine (made_by_of c k x e) (bool b) h = cc
  unary_fine (made_by_of c k x e) (text b) h = cc
  unary_fine (made_by_of c k x e) (cons d vs) h = refl
  unary_fine (select_of c j k t x p s) (num z) h = cc
  unary_fine (select_of c j k t x p s) (bool b) h = cc
  unary_fine (select_of c j k t x p s) (text b) h = cc
  unary_fine (select_of c j k t x p s) (cons d vs) h = select_fine c j k t x d vs (eqb c d) refl p s h

  -- ---- two operands

  divide_fine : (x y : ℤ) → IsFine integer (divided divide x y)
  divide_fine x (ℤ.pos zero) = tt
  divide_fine x (ℤ.pos (suc n)) = in_range_fine _
  divide_fine x (ℤ.negsuc n) = in_range_fine _

  remainder_fine : (x y : ℤ) → IsFine integer (divided remainder x y)
  remainder_fine x (ℤ.pos zero) = tt
  remainder_fine x (ℤ.pos (suc n)) = in_range_fine _
  remainder_fine x (ℤ.negsuc n) = in_range_fine _

  integer_fine : {o : Binary} {r s t : Ty} → BinaryOf o r s t → r ≡ integer → s ≡ integer → (x y : ℤ) → IsFine t (integer_binary o x y)
  integer_fine plus_of a b x y = in_range_fine _
  integer_fine minus_of a b x y = in_range_fine _
  integer_fine times_of a b x y = in_range_fine _
  integer_fine divide_of a b x y = divide_fine x y
  integer_fine remainder_of a b x y = remainder_fine x y
  integer_fine concat_of a b x y = cc
  integer_fine (differ_of t) a b x y = refl
  integer_fine less_of a b x y = refl
  integer_fine at_most_of a b x y = refl
  integer_fine more_of a b x y = refl
  integer_fine at_least_of a b x y = refl
  integer_fine char_at_of a b x y = cc

  -- a value of type Int is a number, and so on
  num_of : (x : Value) → HasType table x integer → (n : ℤ) × (x ≡ num n)
  num_of (num n) h = (n, refl)
  num_of (bool b) h = cc
  num_of (text b) h = cc
  num_of (cons c vs) h = cc

  text_of_type : (x : Value) → HasType table x string → (bs : List ℕ) × (x ≡ text bs)
  text_of_type (num n) h = cc
  text_of_type (bool b) h = cc
  text_of_type (text b) h = (b, refl)
  text_of_type (cons c vs) h = cc

  by_integers : {o : Binary} {t : Ty} → BinaryOf o integer integer t → (x y : Value) → HasType table x integer → HasType table y integer → IsFine t (binary o x y)
  by_integers {o = o} {t = t} b x y h k =
      let p = num_of x h in let q = num_of y k in
      subst (λ z. IsFine t (binary o z y)) (sym p.1) (subst (λ z. IsFine t (binary o (num p.0) z)) (sym q.1) (integer_fine b refl refl p.0 q.0))

  concat_fine : (x y : Value) → HasType table x string → HasType table y string → IsFine string (binary concat x y)
  concat_fine x y h k =
      let p = text_of_type x h in let q = text_of_type y k in
      subst (λ z. IsFine string (binary concat z y)) (sym p.1) (subst (λ z. IsFine string (binary concat (text p.0) z)) (sym q.1) (sized_fine string (text (p.0 ++ q.0)) refl))

  char_of_fine : (o : Option ℕ) → IsFine string (char_of o)
  char_of_fine None = tt
  char_of_fine (Some c) = refl

  char_from_fine : (bs : List ℕ) (i : ℤ) → IsFine string (char_from bs i)
  char_from_fine bs (ℤ.pos i) = char_of_fine _
  char_from_fine bs (ℤ.negsuc i) = tt

  char_fine : (x y : Value) → HasType table x string → HasType table y integer → IsFine string (binary char_at x y)
  char_fine x y h k =
      let p = text_of_type x h in let q = num_of y k in
      subst (λ z. IsFine string (binary char_at z y)) (sym p.1) (subst (λ z. IsFine string (binary char_at (text p.0) z)) (sym q.1) (char_from_fine p.0 q.0))

  differ_fine : (x y : Value) → IsFine truth (binary differ x y)
  differ_fine (num x) (num y) = refl
  differ_fine (num x) (bool b) = refl
  differ_fine (num x) (text b) = refl
  differ_fine (num x) (cons d ws) = refl
  differ_fine (bool a) (num y) = refl
  differ_fine (bool a) (bool b) = refl
  differ_fine (bool a) (text b) = refl
  differ_fine (bool a) (cons d ws) = refl
  differ_fine (text a) (num y) = refl
  differ_fine (text a) (bool b) = refl
  differ_fine (text a) (text b) = refl
  differ_fine (text a) (cons d ws) = refl
  differ_fine (cons c vs) (num y) = refl
  differ_fine (cons c vs) (bool b) = refl
  differ_fine (cons c vs) (text b) = refl
  differ_fine (cons c vs) (cons d ws) = refl

  pub binary_fine : {o : Binary} {r s t : Ty} → BinaryOf o r s t → (x y : Value) → HasType table x r → HasType table y s → IsFine t (binary o x y)
  binary_fine plus_of x y h k = by_integers plus_of x y h k
  binary_fine minus_of x y h k = by_integers minus_of x y h k
  binary_fine times_of x y h k = by_integers times_of x y h k
  binary_fine divide_of x y h k = by_integers divide_of x y h k
  binary_fine remainder_of x y h k = by_integers remainder_of x y h k
  binary_fine concat_of x y h k = concat_fine x y h k
  binary_fine (differ_of t) x y h k = differ_fine x y
  binary_fine less_of x y h k = by_integers less_of x y h k
  binary_fine at_most_of x y h k = by_integers at_most_of x y h k
  binary_fine more_of x y h k = by_integers more_of x y h k
  binary_fine at_least_of x y h k = by_integers at_least_of x y h k
  binary_fine char_at_of x y h k = char_fine x y h k
