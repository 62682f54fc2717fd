-- The canonical text of a value of its type is one of its spellings.
use Rattle.std.proofs.Common.{◌≡◌, ℕ, suc, ◌<◌, ◌^◌, ℤ, pos, negsuc, neg_ℤ, Bool, true, false, cond, ◌||◌, eqb, eqb-true, ltb-true, List, [], ◌∷◌, ◌++◌, drop, Option, Some, None, refl, sym, ap, ◌∙◌, subst, append-nil, append_assoc, arith}
use Rattle.std.proofs.lemmas.Bool.{and_parts, or_from}
use Rattle.std.proofs.lemmas.Bool.Decides.{nat_tests}
use Rattle.std.proofs.lemmas.Fmt.{decimal_is_IsNumeral_wide}
use Rattle.std.specs.Char.{digit_value}
use Rattle.std.specs.Fmt.{decimal, signed_decimal}
use Rattle.std.specs.Int.Signed.{mag}
use Rattle.std.specs.Str.Parse.{AllDigits, IsNumeral, digits_value, signed_digits_value}
use Rattle.txs_values.specs.Value.{Ty, integer, truth, string, named, Value, num, bool, text, cons, Values, no_value, and_value, Field, Table, Place, place_of, field_types, fits, fields_in, HasType, has_type, has_fields}
use Rattle.txs_values.specs.Spelling.{is_digit}
use Rattle.txs_values.specs.Text.{escaped, name_of, text_of, texts_of}
use Rattle.txs_values.specs.Spelled.{AreDigits, no_sign, minus_sign, Quotes, nothing, as_it_is, escaped_by, Spells, a_number, a_true, a_false, a_text, a_constant, a_made, SpellsEach, the_last, one_more, IsSpelling}

-- ---- a number

digit-is : (d : ℕ) → digit_value d < 10 → is_digit d ≡ true
digit-is d h = grind (arith, nat_tests)

are-digits : (ds : List ℕ) → AllDigits 10 ds → AreDigits ds
are-digits [] h = tt
are-digits (d ∷ ds) h = (digit-is d h.0, are-digits ds h.1)

no-sign : (bs : List ℕ) (x y : Bool) → x ≡ false → y ≡ false
    → cond x (neg_ℤ (pos (digits_value 10 (cond x (drop 1 bs) (drop (cond y 1 0) bs))))) (pos (digits_value 10 (cond x (drop 1 bs) (drop (cond y 1 0) bs)))) ≡ pos (digits_value 10 bs)
no-sign bs true y e f = absurd (cc)
no-sign bs false true e f = absurd (cc)
no-sign bs false false e f = refl

digit-signless : (d : ℕ) → digit_value d < 10 → (eqb d 45 ≡ false) × (eqb d 43 ≡ false)
digit-signless d h = grind (arith, nat_tests)

plain-value : (d : ℕ) (ds : List ℕ) → AllDigits 10 (d ∷ ds) → signed_digits_value 10 (d ∷ ds) ≡ pos (digits_value 10 (d ∷ ds))
plain-value d ds h = let s = digit-signless d h.0 in no-sign (d ∷ ds) (eqb d 45) (eqb d 43) s.0 s.1

minus-value : (ds : List ℕ) → signed_digits_value 10 (45 ∷ ds) ≡ neg_ℤ (pos (digits_value 10 ds))
minus-value ds = refl

plain-spells : (table : Table) (n : ℕ) (ds : List ℕ) → IsNumeral 10 ds → digits_value 10 ds ≡ n → Spells table integer (num (pos n)) ds
plain-spells table n [] h e = absurd (omega (arith, h))
plain-spells table n (d ∷ ds) h e =
    subst (λ z. Spells table integer (num z) (d ∷ ds)) (plain-value d ds h.1 ∙ ap pos e) (a_number [] [] d ds tt no_sign (are-digits (d ∷ ds) h.1))

minus-spells : (table : Table) (n : ℕ) (ds : List ℕ) → IsNumeral 10 ds → digits_value 10 ds ≡ suc n → Spells table integer (num (negsuc n)) (45 ∷ ds)
minus-spells table n [] h e = absurd (omega (arith, h))
minus-spells table n (d ∷ ds) h e =
    subst (λ z. Spells table integer (num z) (45 ∷ d ∷ ds)) (minus-value (d ∷ ds) ∙ ap (λ i. neg_ℤ (pos i)) e) (a_number [] (45 ∷ []) d ds tt minus_sign (are-digits (d ∷ ds) h.1))

small : (z : ℤ) → fits z ≡ true → mag z < 2 ^ 127
unfolding fits
small z h = ltb-true (mag z) (2 ^ 127) h

number-spells : (table : Table) (z : ℤ) → mag z < 2 ^ 127 → Spells table integer (num z) (signed_decimal z)
number-spells table (pos n) h = let d = decimal_is_IsNumeral_wide n (omega arith) in plain-spells table n (decimal n) d.0 d.1
number-spells table (negsuc n) h = let d = decimal_is_IsNumeral_wide (suc n) (omega arith) in minus-spells table n (decimal (suc n)) d.0 d.1

-- ---- a text

-- a byte, by the tests of `escaped`
byte-quotes : (b : ℕ) (bs ws : List ℕ) → Quotes bs ws → (t u v w x : Bool) → eqb b 34 ≡ t → eqb b 92 ≡ u → eqb b 10 ≡ v → eqb b 13 ≡ w → eqb b 9 ≡ x
    → Quotes (b ∷ bs) (cond t (92 ∷ 34 ∷ ws) (cond u (92 ∷ 92 ∷ ws) (cond v (92 ∷ 110 ∷ ws) (cond w (92 ∷ 114 ∷ ws) (cond x (92 ∷ 116 ∷ ws) (b ∷ ws))))))
byte-quotes b bs ws q true u v w x et eu ev ew ex = escaped_by b 34 (ap Some (sym (eqb-true b 34 et))) q
byte-quotes b bs ws q false true v w x et eu ev ew ex = escaped_by b 92 (ap Some (sym (eqb-true b 92 eu))) q
byte-quotes b bs ws q false false true w x et eu ev ew ex = escaped_by b 110 (ap Some (sym (eqb-true b 10 ev))) q
byte-quotes b bs ws q false false false true x et eu ev ew ex = escaped_by b 114 (ap Some (sym (eqb-true b 13 ew))) q
byte-quotes b bs ws q false false false false true et eu ev ew ex = escaped_by b 116 (ap Some (sym (eqb-true b 9 ex))) q
byte-quotes b bs ws q false false false false false et eu ev ew ex = as_it_is b et eu (or_from (eqb b 9) (eqb b 10 || eqb b 13) ex (or_from (eqb b 10) (eqb b 13) ev ew)) q

pub escaped-quotes : (bs : List ℕ) → Quotes bs (escaped bs)
escaped-quotes [] = nothing
escaped-quotes (b ∷ bs) = byte-quotes b bs (escaped bs) (escaped-quotes bs) (eqb b 34) (eqb b 92) (eqb b 10) (eqb b 13) (eqb b 9) refl refl refl refl refl

-- ---- a constructor

-- the place of a constructor whose values are of the types of its fields
typed-place : (table : Table) (vs : Values) (k : ℕ) (o : Option Place) → has_fields table vs (fields_in o k) ≡ true
    → (name : List ℕ) × (fs : List Field) × (o ≡ Some (record { ty = k; constructor = record { name = name; fields = fs } })) × (has_fields table vs (Some (field_types fs)) ≡ true)
typed-place table vs k None h = absurd (cc)
typed-place table vs k (Some p) h = by (eqb p.ty k) refl h
  where
    by : (t : Bool) → eqb p.ty k ≡ t → has_fields table vs (cond t (Some (field_types p.constructor.fields)) None) ≡ true
        → (name : List ℕ) × (fs : List Field) × (Some p ≡ Some (record { ty = k; constructor = record { name = name; fields = fs } })) × (has_fields table vs (Some (field_types fs)) ≡ true)
    by true e g = (p.constructor.name, p.constructor.fields, ap (λ (i : ℕ). Some (record { ty = i; constructor = p.constructor })) (eqb-true p.ty k e), g)
    by false e g = absurd (cc)

constant-spells : (table : Table) (c k : ℕ) (name : List ℕ) (fs : List Field) → place_of table c ≡ Some (record { ty = k; constructor = record { name = name; fields = fs } })
    → has_fields table no_value (Some (field_types fs)) ≡ true → Spells table (named k) (cons c no_value) (name_of (place_of table c))
constant-spells table c k name [] e h = subst (λ w. Spells table (named k) (cons c no_value) w) (sym (ap name_of e)) (a_constant [] c k name tt e)
constant-spells table c k name (f ∷ fs) e h = absurd (cc)

made-spells : (table : Table) (c k : ℕ) (name : List ℕ) (fs : List Field) (v : Value) (vs : Values) (ws more : List ℕ)
    → place_of table c ≡ Some (record { ty = k; constructor = record { name = name; fields = fs } })
    → has_fields table (and_value v vs) (Some (field_types fs)) ≡ true
    → ((t : Ty) (ts : List Ty) → has_fields table (and_value v vs) (Some (t ∷ ts)) ≡ true → SpellsEach table (t ∷ ts) (and_value v vs) (ws ++ more))
    → Spells table (named k) (cons c (and_value v vs)) (name_of (place_of table c) ++ (40 ∷ (ws ++ (more ++ 41 ∷ []))))
made-spells table c k name [] v vs ws more e h each = absurd (cc)
made-spells table c k name (f ∷ fs) v vs ws more e h each =
    subst (λ w. Spells table (named k) (cons c (and_value v vs)) w) (shift (place_of table c) (ap name_of e))
    (a_made [] [] [] c k name f fs (and_value v vs) (ws ++ more) tt tt tt e (each f.ty (field_types fs) h))
  where
    shift : (o : Option Place) → name_of o ≡ name → name ++ (40 ∷ ((ws ++ more) ++ 41 ∷ [])) ≡ name_of o ++ (40 ∷ (ws ++ (more ++ 41 ∷ [])))
    shift o e =
        ap (λ (l : List ℕ). name ++ 40 ∷ l) (append_assoc ws more (41 ∷ [])) ∙ ap (λ (l : List ℕ). l ++ (40 ∷ (ws ++ (more ++ 41 ∷ [])))) (sym e)

-- ---- a value

mutual
  pub text-spells : (table : Table) (v : Value) (t : Ty) → HasType table v t → Spells table t v (text_of table v)
  text-spells table (num z) integer h = number-spells table z (small z h)
  text-spells table (num z) truth h = absurd (cc)
  text-spells table (num z) string h = absurd (cc)
  text-spells table (num z) (named k) h = absurd (cc)
  text-spells table (bool b) integer h = absurd (cc)
  text-spells table (bool true) truth h = a_true [] tt
  text-spells table (bool false) truth h = a_false [] tt
  text-spells table (bool b) string h = absurd (cc)
  text-spells table (bool b) (named k) h = absurd (cc)
  text-spells table (text bs) integer h = absurd (cc)
  text-spells table (text bs) truth h = absurd (cc)
  text-spells table (text bs) string h = a_text [] bs (escaped bs) tt (escaped-quotes bs)
  text-spells table (text bs) (named k) h = absurd (cc)
  text-spells table (cons c vs) integer h = absurd (cc)
  text-spells table (cons c vs) truth h = absurd (cc)
  text-spells table (cons c vs) string h = absurd (cc)
  text-spells table (cons c no_value) (named k) h =
      let p = typed-place table no_value k (place_of table c) h in
      constant-spells table c k p.0 p.1 p.2 p.3
  text-spells table (cons c (and_value v vs)) (named k) h =
      let p = typed-place table (and_value v vs) k (place_of table c) h in
      made-spells table c k p.0 p.1 v vs (text_of table v) (texts_of table vs) p.2 p.3
      (λ t ts g. texts-spell table vs v t ts (text_of table v)
      (text-spells table v t (and_parts (has_type table v t) (has_fields table vs (Some ts)) g).0)
      (and_parts (has_type table v t) (has_fields table vs (Some ts)) g).1)

  texts-spell : (table : Table) (vs : Values) (v : Value) (t : Ty) (ts : List Ty) (ws : List ℕ) → Spells table t v ws → has_fields table vs (Some ts) ≡ true
      → SpellsEach table (t ∷ ts) (and_value v vs) (ws ++ texts_of table vs)
  texts-spell table no_value v t [] ws sp h = subst (λ w. SpellsEach table (t ∷ []) (and_value v no_value) w) (sym (append-nil ws)) (the_last t v ws sp)
  texts-spell table no_value v t (u ∷ ts) ws sp h = absurd (cc)
  texts-spell table (and_value x vs) v t [] ws sp h = absurd (cc)
  texts-spell table (and_value x vs) v t (u ∷ ts) ws sp h =
      let p = and_parts (has_type table x u) (has_fields table vs (Some ts)) h in
      one_more t u ts v (and_value x vs) ws [] (text_of table x ++ texts_of table vs) sp tt
      (texts-spell table vs x u ts (text_of table x) (text-spells table x u p.0) p.1)

pub text-spelling : (table : Table) (t : Ty) (v : Value) → HasType table v t → IsSpelling table t v (text_of table v)
text-spelling table t v h =
    record { front = text_of table v; behind = []; parts = sym (append-nil (text_of table v)); spells = text-spells table v t h; blanks = tt }
