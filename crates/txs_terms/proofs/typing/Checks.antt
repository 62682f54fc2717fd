-- Values of their types have the types that evaluation looks for.
use Rattle.std.specs.Prelude.{Option, Some, None}
use Rattle.std.proofs.Common.{◌≡◌, ℕ, Bool, true, false, cond, eqb, ◌||◌, List, refl, sym, subst}
use Rattle.std.proofs.lemmas.Bool.{eqb-true, eq-eqb}
use Rattle.txs_values.specs.Value.{Ty, integer, truth, string, named, Value, num, bool, text, cons, Values, packed, Table, Constructor, Place, place_of, field_types, fields_in, has_fields, HasType, HaveTypes}
use Rattle.txs_terms.specs.Expr.{Unary, Binary}
use Rattle.txs_terms.specs.Eval.{have_one_type, are_akin, are_comparable, is_akin, takes_one, takes_two, fields_at, takes_fields}
use Rattle.txs_terms.specs.Typed.{UnaryOf, negate_of, negation_of, to_text_of, from_text_of, len_of, made_by_of, select_of, BinaryOf, plus_of, minus_of, times_of, divide_of, remainder_of, concat_of, differ_of, less_of, at_most_of, more_of, at_least_of, char_of}
use Rattle.txs_terms.proofs.typing.Numbers.{place_at}
use Rattle.txs_terms.proofs.typing.Outcomes.{packed_typed}

or_true : (a b : Bool) → b ≡ true → (a || b) ≡ true
or_true true b h = refl
or_true false b h = h

module _ (table : Table) where
  -- a constructor stands at this place, of this type
  abbrev StandsIn : Option Place → ℕ → Type 0
  StandsIn o k = (p : Place) × (o ≡ Some p) × (p.ty ≡ k)

  place_typed : (o : Option Place) (vs : Values) (k : ℕ) → has_fields table vs (fields_in o k) ≡ true → StandsIn o k
  place_typed None vs k h = cc
  place_typed (Some p) vs k h = by (eqb p.ty k) refl h
    where
      by : (b : Bool) → eqb p.ty k ≡ b → has_fields table vs (cond b (Some (field_types p.constructor.fields)) None) ≡ true → StandsIn (Some p) k
      by true e h = (p, refl, eqb-true p.ty k e)
      by false e h = cc

  akin : (c d k : ℕ) → StandsIn (place_of table c) k → StandsIn (place_of table d) k → are_akin table c d ≡ true
  akin c d k s t =
      or_true (eqb c d) (have_one_type (place_of table c) (place_of table d))
      (rw (s.1, t.1) (eq-eqb s.0.ty t.0.ty (let a = s.2 in let b = t.2 in cc)))

  pub comparable_typed : (t : Ty) (x y : Value) → HasType table x t → HasType table y t → are_comparable table x y ≡ true
  comparable_typed integer (num x) (num y) h k = refl
  comparable_typed integer (num x) (bool b) h k = cc
  comparable_typed integer (num x) (text b) h k = cc
  comparable_typed integer (num x) (cons d ws) h k = cc
  comparable_typed integer (bool a) y h k = cc
  comparable_typed integer (text a) y h k = cc
  comparable_typed integer (cons c vs) y h k = cc
  comparable_typed truth (num x) y h k = cc
  comparable_typed truth (bool a) (num y) h k = cc
  comparable_typed truth (bool a) (bool b) h k = refl
  comparable_typed truth (bool a) (text b) h k = cc
  comparable_typed truth (bool a) (cons d ws) h k = cc
  comparable_typed truth (text a) y h k = cc
  comparable_typed truth (cons c vs) y h k = cc
  comparable_typed string (num x) y h k = cc
  comparable_typed string (bool a) y h k = cc
  comparable_typed string (text a) (num y) h k = cc
  comparable_typed string (text a) (bool b) h k = cc
  comparable_typed string (text a) (text b) h k = refl
  comparable_typed string (text a) (cons d ws) h k = cc
  comparable_typed string (cons c vs) y h k = cc
  comparable_typed (named j) (num x) y h k = cc
  comparable_typed (named j) (bool a) y h k = cc
  comparable_typed (named j) (text a) y h k = cc
  comparable_typed (named j) (cons c vs) (num y) h k = cc
  comparable_typed (named j) (cons c vs) (bool b) h k = cc
  comparable_typed (named j) (cons c vs) (text b) h k = cc
  comparable_typed (named j) (cons c vs) (cons d ws) h k = akin c d j (place_typed (place_of table c) vs j h) (place_typed (place_of table d) ws j k)

  akin_typed : (c k : ℕ) (x : Constructor) (v : Value) → place_of table c ≡ Some (place_at k x) → HasType table v (named k) → is_akin table c v ≡ true
  akin_typed c k x (num z) e h = cc
  akin_typed c k x (bool b) e h = cc
  akin_typed c k x (text b) e h = cc
  akin_typed c k x (cons d vs) e h = akin c d k (place_at k x, e, refl) (place_typed (place_of table d) vs k h)

  pub takes_one_typed : {o : Unary} {s t : Ty} → UnaryOf table o s t → (x : Value) → HasType table x s → takes_one table o x ≡ true
  takes_one_typed negate_of x h = refl
  takes_one_typed negation_of x h = refl
  takes_one_typed (to_text_of t) x h = refl
  takes_one_typed (from_text_of t) x h = refl
  takes_one_typed len_of x h = refl
  takes_one_typed (made_by_of c k y e) x h = akin_typed c k y x e h
  takes_one_typed (select_of c j k t y e s) x h = akin_typed c k y x e h

  pub takes_two_typed : {o : Binary} {r s t : Ty} → BinaryOf o r s t → (x y : Value) → HasType table x r → HasType table y s → takes_two table o x y ≡ true
  takes_two_typed plus_of x y h k = refl
  takes_two_typed minus_of x y h k = refl
  takes_two_typed times_of x y h k = refl
  takes_two_typed divide_of x y h k = refl
  takes_two_typed remainder_of x y h k = refl
  takes_two_typed concat_of x y h k = refl
  takes_two_typed (differ_of t) x y h k = comparable_typed t x y h k
  takes_two_typed less_of x y h k = refl
  takes_two_typed at_most_of x y h k = refl
  takes_two_typed more_of x y h k = refl
  takes_two_typed at_least_of x y h k = refl
  takes_two_typed char_of x y h k = refl

  pub takes_fields_typed : (c k : ℕ) (x : Constructor) (vs : List Value) → place_of table c ≡ Some (place_at k x) → HaveTypes table vs (field_types x.fields)
      → takes_fields table c vs ≡ true
  takes_fields_typed c k x vs e h =
      subst (λ o. has_fields table (packed vs) (fields_at o) ≡ true) (sym e) (packed_typed table vs (field_types x.fields) h)
