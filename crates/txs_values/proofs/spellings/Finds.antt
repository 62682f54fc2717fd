-- What is spelled in front of a text is found there by the reader, where no limit stops it.
use Rattle.std.proofs.Common.{◌≡◌, ℕ, zero, suc, ◌≤◌, Bool, true, false, cond, ◌⊎◌, inl, inr, eqb, eq-eqb, List, [], ◌∷◌, ◌++◌, length, Option, Some, None, codes, refl, sym, ap, subst, ◌∙◌, append_assoc, length-append, arith}
use Rattle.std.proofs.lemmas.Bool.{cond-true, cond-false, and_parts}
use Rattle.std.specs.Str.{is_utf8}
use Rattle.std.specs.Str.Parse.{signed_digits_value}
use Rattle.txs_values.specs.declared.reading.Kind.{Kind}
use Rattle.txs_values.specs.declared.reading.Kind.TheVariants.{Wrong, Past, Deep, Broken}
use Rattle.txs_values.specs.Value.{Ty, integer, string, named, Value, num, bool, text, cons, Values, no_value, and_value, listed, packed, Field, Table, place_of, field_types, fits, HasType, has_type, has_fields, height, heights}
use Rattle.txs_values.specs.Ints.{number_run, past_number, has_digit}
use Rattle.txs_values.specs.Spelling.{is_blank, is_digit, is_name_byte, is_raw, past_blanks, run_of, past_run}
use Rattle.txs_values.specs.Spelled.{AreBlanks, AreDigits, IsSign, no_sign, minus_sign, Quotes, nothing, as_it_is, escaped_by, Spells, a_number, a_true, a_false, a_text, a_constant, a_made, SpellsEach, the_last, one_more, IsNamed, HasTexts, HaveTexts}
use Rattle.txs_values.specs.Reading.{Outcome, ok, stop, after, either, with_front, symbol_here, symbol, number_read, goes_on, name_read, truth_read, escape_read, quoted_read, text_read, Reader, arguments_read, full_read, fields_read, level_read, value_read}
use Rattle.txs_values.proofs.spellings.Bytes.{Stops, digits-each, run-append, past-append, digit-minus, stops-digit, stops-blanks, past_blanks-is}
use Rattle.txs_values.proofs.spellings.Joined.{token-is, number-stops, name-stops, fields-typed, comma-joined, same_types, height-some}
use Rattle.txs_values.proofs.spellings.Tokens.{name-is}
use Rattle.txs_values.proofs.spellings.Names.{made-is}

-- stopped by a limit, and not behind what is spelled; there is none where all is fine
pub record Limit {A : Type 0} (Fine : Type 0) (o : Outcome A) (r : List ℕ) : Type 0 where
  pub kind : Kind
  pub count : ℕ
  pub stops : o ≡ stop kind count
  pub right : kind ≡ Wrong → ⊥
  pub within : length r ≤ count
  pub broken : Fine → ⊥

abbrev pub Ends : {A : Type 0} → Type 0 → Outcome A → A → List ℕ → Type 0
Ends Fine o a r = (o ≡ ok a r) ⊎ Limit Fine o r

abbrev pub Fine : Table → ℕ → Ty → Value → Type 0
Fine table left u v = HasType table v u × (height v ≤ suc left) × HasTexts v

abbrev pub Complete : Table → ℕ → Reader → Type 0
Complete table left below = (u : Ty) (v : Value) (ws rest : List ℕ) → Spells table u v ws → Stops is_name_byte rest → Ends (Fine table left u v) (below u (ws ++ rest)) v rest

pub limit-after : {A B F G : Type 0} (o : Outcome A) (go : A → List ℕ → Outcome B) (r s : List ℕ) → Limit F o r → (G → F) → length s ≤ length r → Limit G (after o go) s
limit-after o go r s l f h =
    let w = l.within in
    record { kind = l.kind; count = l.count; stops = ap (λ x. after x go) l.stops; right = l.right; within = omega (arith, w, h); broken = λ g. l.broken (f g) }

pub limit-same : {A F : Type 0} (o p : Outcome A) (r : List ℕ) → p ≡ o → Limit F o r → Limit F p r
limit-same o p r e l = record { kind = l.kind; count = l.count; stops = e ∙ l.stops; right = l.right; within = l.within; broken = l.broken }

ends-same : {A F : Type 0} (o p : Outcome A) (a : A) (r : List ℕ) → p ≡ o → Ends F o a r → Ends F p a r
ends-same o p a r e (inl h) = inl (e ∙ h)
ends-same o p a r e (inr l) = inr (limit-same o p r e l)

pub stops-goes : (r : List ℕ) → Stops is_name_byte r → goes_on r ≡ false
stops-goes [] s = refl
stops-goes (b ∷ r) s = s

-- ---- a number

pub signed-run : {sign : List ℕ} → IsSign sign → (d : ℕ) (ds rest : List ℕ) → AreDigits (d ∷ ds) → Stops is_digit rest
    → (number_run ((sign ++ d ∷ ds) ++ rest) ≡ sign ++ d ∷ ds) × (past_number ((sign ++ d ∷ ds) ++ rest) ≡ rest) × (has_digit (sign ++ d ∷ ds) ≡ true)
signed-run no_sign d ds rest h s =
    let k = digits-each (d ∷ ds) h in
    let m = digit-minus d h.0 in (
      cond-false (eqb d 45) (d ∷ run_of is_digit (ds ++ rest)) (run_of is_digit (d ∷ (ds ++ rest))) m ∙ run-append is_digit (d ∷ ds) rest k s,
      cond-false (eqb d 45) (past_run is_digit (ds ++ rest)) (past_run is_digit (d ∷ (ds ++ rest))) m ∙ past-append is_digit (d ∷ ds) rest k s,
      digit-there ds m,
    )
  where
    digit-there : (l : List ℕ) → eqb d 45 ≡ false → has_digit (d ∷ l) ≡ true
    digit-there [] m = cond-false (eqb d 45) false true m
    digit-there (c ∷ l) m = refl
signed-run minus_sign d ds rest h s =
    let k = digits-each (d ∷ ds) h in (
      ap (λ (q : List ℕ). 45 ∷ q) (run-append is_digit (d ∷ ds) rest k s),
      past-append is_digit (d ∷ ds) rest k s,
      refl,
    )

pub number-by : (bs run past : List ℕ) → has_digit run ≡ true → number_run bs ≡ run → past_number bs ≡ past
    → number_read bs ≡ cond (fits (signed_digits_value 10 run)) (ok (num (signed_digits_value 10 run)) past) (stop Past (length bs))
number-by bs run past d e f =
    ap (λ r. cond (has_digit r) (cond (fits (signed_digits_value 10 r)) (ok (num (signed_digits_value 10 r)) (past_number bs)) (stop Past (length bs))) (stop Wrong (length (past_number bs)))) e
    ∙ cond-true (has_digit run) (cond (fits (signed_digits_value 10 run)) (ok (num (signed_digits_value 10 run)) (past_number bs)) (stop Past (length bs))) (stop Wrong (length (past_number bs))) d
    ∙ ap (λ l. cond (fits (signed_digits_value 10 run)) (ok (num (signed_digits_value 10 run)) l) (stop Past (length bs))) f

number-if : (table : Table) (left : ℕ) (bs run rest : List ℕ) → bs ≡ run ++ rest → (t : Bool) → fits (signed_digits_value 10 run) ≡ t
    → Ends (Fine table left integer (num (signed_digits_value 10 run))) (cond t (ok (num (signed_digits_value 10 run)) rest) (stop Past (length bs))) (num (signed_digits_value 10 run)) rest
number-if table left bs run rest p true e = inl refl
number-if table left bs run rest p false e =
    let n : length bs ≡ length (run ++ rest) = ap length p in
    let m = length-append run rest in
    inr (record { kind = Past; count = length bs; stops = refl; right = λ h. cc; within = omega (arith, n, m); broken = λ fine. let h : fits (signed_digits_value 10 run) ≡ true = fine.0 in cc })

number-ends : (table : Table) (left : ℕ) {sign : List ℕ} → IsSign sign → (d : ℕ) (ds rest : List ℕ) → AreDigits (d ∷ ds) → Stops is_name_byte rest
    → Ends (Fine table left integer (num (signed_digits_value 10 (sign ++ d ∷ ds)))) (number_read ((sign ++ d ∷ ds) ++ rest)) (num (signed_digits_value 10 (sign ++ d ∷ ds))) rest
number-ends table left {sign} sg d ds rest h s =
    let p = signed-run sg d ds rest h (stops-digit rest s) in
    let run : List ℕ = sign ++ d ∷ ds in
    ends-same (cond (fits (signed_digits_value 10 run)) (ok (num (signed_digits_value 10 run)) rest) (stop Past (length (run ++ rest)))) (number_read (run ++ rest)) (num (signed_digits_value 10 run)) rest
    (number-by (run ++ rest) run rest p.2 p.0 p.1) (number-if table left (run ++ rest) run rest refl (fits (signed_digits_value 10 run)) refl)

-- ---- truth values and texts

true-is : (rest : List ℕ) → Stops is_name_byte rest → truth_read (codes "True" ++ rest) ≡ ok (bool true) rest
true-is rest s = ap (λ o. either (after o (λ _ r. ok (bool true) r)) (after (name_read (codes "False") (codes "True" ++ rest)) (λ _ r. ok (bool false) r))) (name-is (codes "True") rest (stops-goes rest s))

false-is : (rest : List ℕ) → Stops is_name_byte rest → truth_read (codes "False" ++ rest) ≡ ok (bool false) rest
false-is rest s = ap (λ o. either (stop Wrong (length (codes "False" ++ rest))) (after o (λ _ r. ok (bool false) r))) (name-is (codes "False") rest (stops-goes rest s))

pub quoted-is : {a ws : List ℕ} → Quotes a ws → (rest : List ℕ) → quoted_read false (ws ++ 34 ∷ rest) ≡ ok a rest
quoted-is nothing rest = refl
quoted-is (as_it_is {bs = a} {ws = ws} b x y z q) rest =
    cond-false (eqb b 34) (ok [] (ws ++ 34 ∷ rest)) (cond (eqb b 92) (quoted_read true (ws ++ 34 ∷ rest)) (cond (is_raw b) (stop Wrong (length (b ∷ (ws ++ 34 ∷ rest)))) (with_front (b ∷ []) (quoted_read false (ws ++ 34 ∷ rest))))) x
    ∙ cond-false (eqb b 92) (quoted_read true (ws ++ 34 ∷ rest)) (cond (is_raw b) (stop Wrong (length (b ∷ (ws ++ 34 ∷ rest)))) (with_front (b ∷ []) (quoted_read false (ws ++ 34 ∷ rest)))) y
    ∙ cond-false (is_raw b) (stop Wrong (length (b ∷ (ws ++ 34 ∷ rest)))) (with_front (b ∷ []) (quoted_read false (ws ++ 34 ∷ rest))) z
    ∙ ap (with_front (b ∷ [])) (quoted-is q rest)
quoted-is (escaped_by {bs = a} {ws = ws} b c e q) rest =
    ap (λ o. escape_read o (length (c ∷ (ws ++ 34 ∷ rest))) (quoted_read false (ws ++ 34 ∷ rest))) e ∙ ap (with_front (b ∷ [])) (quoted-is q rest)

text-if : (F : Type 0) (a bs rest : List ℕ) → length rest ≤ length bs → (t : Bool) → (F → t ≡ true) → Ends F (cond t (ok (text a) rest) (stop Broken (length bs))) (text a) rest
text-if F a bs rest l true u = inl refl
text-if F a bs rest l false u = inr (record { kind = Broken; count = length bs; stops = refl; right = λ h. cc; within = l; broken = λ f. let e = u f in cc })

text-ends : (F : Type 0) (a ws rest : List ℕ) → (F → is_utf8 a ≡ true) → Quotes a ws → Ends F (text_read ((34 ∷ (ws ++ 34 ∷ [])) ++ rest)) (text a) rest
text-ends F a ws rest u q =
    let bs : List ℕ = (34 ∷ (ws ++ 34 ∷ [])) ++ rest in
    let n = length-append (34 ∷ (ws ++ 34 ∷ [])) rest in
    ends-same (cond (is_utf8 a) (ok (text a) rest) (stop Broken (length bs))) (text_read bs) (text a) rest
    (ap (λ l. after (quoted_read false l) (λ t end. cond (is_utf8 t) (ok (text t) end) (stop Broken (length bs)))) (append_assoc ws (34 ∷ []) rest)
    ∙ ap (λ o. after o (λ t end. cond (is_utf8 t) (ok (text t) end) (stop Broken (length bs)))) (quoted-is q rest))
    (text-if F a bs rest (omega (arith, n)) (is_utf8 a) u)

-- ---- arguments

pub symbol-is : (c : ℕ) (ws rest : List ℕ) → AreBlanks ws → is_blank c ≡ false → symbol c (ws ++ c ∷ rest) ≡ ok tt rest
symbol-is c ws rest h s = ap (symbol_here c) (past_blanks-is ws (c ∷ rest) h s) ∙ cond-true (eqb c c) (ok tt rest) (stop Wrong (length (c ∷ rest))) (eq-eqb c c refl)

packed-listed : (vs : Values) → packed (listed vs) ≡ vs
packed-listed no_value = refl
packed-listed (and_value v vs) = ap (and_value v) (packed-listed vs)

abbrev FineEach : Table → ℕ → List Ty → Values → Type 0
FineEach table left ts vs = (has_fields table vs (Some ts) ≡ true) × (heights vs ≤ suc left) × HaveTexts vs

pub length-behind : (x : List ℕ) (c : ℕ) (r : List ℕ) → length r ≤ length (x ++ c ∷ r)
length-behind x c r = let n = length-append x (c ∷ r) in omega (arith, n)

module _ (table : Table) (left : ℕ) (below : Reader) (complete : Complete table left below) where
  then-last : (f : Field) (v : Value) (bs behind rest : List ℕ) → AreBlanks behind → Ends (Fine table left f.ty v) (below f.ty bs) v (behind ++ 41 ∷ rest)
      → Ends (FineEach table left (f.ty ∷ []) (and_value v no_value)) (arguments_read below (f ∷ []) bs) (v ∷ []) rest
  then-last f v bs behind rest ab (inl e) =
      inl (ap (λ o. after o (λ v r. after (symbol 41 r) (λ _ more. with_front (v ∷ []) (ok [] more)))) e ∙ ap (λ o. after o (λ _ more. with_front (v ∷ []) (ok [] more))) (symbol-is 41 behind rest ab refl))
  then-last f v bs behind rest ab (inr l) =
      inr (limit-after (below f.ty bs) (λ v r. after (symbol 41 r) (λ _ more. with_front (v ∷ []) (ok [] more))) (behind ++ 41 ∷ rest) rest l
      (λ g. let h = g.1 in ((and_parts (has_type table v f.ty) true g.0).0, omega (arith, h), g.2.0)) (length-behind behind 41 rest))

  front-ends : {F G : Type 0} (v : Value) (o : Outcome (List Value)) (vs : List Value) (r : List ℕ) → (G → F) → Ends F o vs r → Ends G (with_front (v ∷ []) o) (v ∷ vs) r
  front-ends v o vs r f (inl e) = inl (ap (with_front (v ∷ [])) e)
  front-ends v o vs r f (inr l) =
      inr (record { kind = l.kind; count = l.count; stops = ap (with_front (v ∷ [])) l.stops; right = l.right; within = l.within; broken = λ g. l.broken (f g) })

  then-more : (f g : Field) (fs : List Field) (v : Value) (vs : Values) (bs before tail rest : List ℕ) → AreBlanks before → length rest ≤ length tail
      → Ends (Fine table left f.ty v) (below f.ty bs) v (before ++ 44 ∷ tail)
      → Ends (FineEach table left (field_types (g ∷ fs)) vs) (arguments_read below (g ∷ fs) tail) (listed vs) rest
      → Ends (FineEach table left (field_types (f ∷ g ∷ fs)) (and_value v vs)) (arguments_read below (f ∷ g ∷ fs) bs) (v ∷ listed vs) rest
  then-more f g fs v vs bs before tail rest ab l (inl e) others =
      ends-same (with_front (v ∷ []) (arguments_read below (g ∷ fs) tail)) (arguments_read below (f ∷ g ∷ fs) bs) (v ∷ listed vs) rest
      (ap (λ o. after o (λ v r. after (symbol 44 r) (λ _ more. with_front (v ∷ []) (arguments_read below (g ∷ fs) more)))) e ∙ ap (λ o. after o (λ _ more. with_front (v ∷ []) (arguments_read below (g ∷ fs) more))) (symbol-is 44 before tail ab refl))
      (front-ends v (arguments_read below (g ∷ fs) tail) (listed vs) rest
      (λ h. let k = h.1 in ((and_parts (has_type table v f.ty) (has_fields table vs (Some (field_types (g ∷ fs)))) h.0).1, omega (arith, k), h.2.1)) others)
  then-more f g fs v vs bs before tail rest ab l (inr x) others =
      let n = length-behind before 44 tail in
      inr (limit-after (below f.ty bs) (λ v r. after (symbol 44 r) (λ _ more. with_front (v ∷ []) (arguments_read below (g ∷ fs) more))) (before ++ 44 ∷ tail) rest x
      (λ h. let k = h.1 in ((and_parts (has_type table v f.ty) (has_fields table vs (Some (field_types (g ∷ fs)))) h.0).0, omega (arith, k), h.2.0)) (omega (arith, l, n)))

  pub arguments-end : {ts : List Ty} {vs : Values} {ws : List ℕ} → SpellsEach table ts vs ws → (f : Field) (fs : List Field) → ts ≡ field_types (f ∷ fs) → (behind rest : List ℕ) → AreBlanks behind
      → Ends (FineEach table left (field_types (f ∷ fs)) vs) (arguments_read below (f ∷ fs) (ws ++ (behind ++ 41 ∷ rest))) (listed vs) rest
  arguments-end (the_last u v ws sp) f [] e behind rest ab =
      let c = complete u v ws (behind ++ 41 ∷ rest) sp (stops-blanks behind (41 ∷ rest) ab refl) in
      then-last f v (ws ++ (behind ++ 41 ∷ rest)) behind rest ab (subst (λ u. Ends (Fine table left u v) (below u (ws ++ (behind ++ 41 ∷ rest))) v (behind ++ 41 ∷ rest)) (same_types e).0 c)
  arguments-end (the_last u v ws sp) f (g ∷ fs) e behind rest ab = absurd (cc)
  arguments-end (one_more u z ts v vs ws before more sp bb each) f [] e behind rest ab = absurd (cc)
  arguments-end (one_more u z ts v vs ws before more sp bb each) f (g ∷ fs) e behind rest ab =
      let ih = arguments-end each g fs (same_types e).1 behind rest ab in
      let tail : List ℕ = more ++ (behind ++ 41 ∷ rest) in
      let c = complete u v ws (before ++ 44 ∷ tail) sp (stops-blanks before (44 ∷ tail) bb refl) in
      let n = length-append more (behind ++ 41 ∷ rest) in
      let m = length-behind behind 41 rest in
      subst (λ l. Ends (FineEach table left (field_types (f ∷ g ∷ fs)) (and_value v vs)) (arguments_read below (f ∷ g ∷ fs) l) (v ∷ listed vs) rest) (sym (comma-joined ws before more (behind ++ 41 ∷ rest)))
      (then-more f g fs v vs (ws ++ (before ++ 44 ∷ tail)) before tail rest bb (omega (arith, n, m))
      (subst (λ u. Ends (Fine table left u v) (below u (ws ++ (before ++ 44 ∷ tail))) v (before ++ 44 ∷ tail)) (same_types e).0 c) ih)

-- ---- a level

-- what reads the level below, if there is one
abbrev pub IsUnder : Table → Option Reader → ℕ → Type 0
IsUnder table None left = left ≡ 0
IsUnder table (Some below) left = (under : ℕ) × (left ≡ suc under) × Complete table under below

some-high : {table : Table} {ts : List Ty} {vs : Values} {ws : List ℕ} → SpellsEach table ts vs ws → 1 ≤ heights vs
some-high (the_last u v ws sp) = let h = height-some v in omega (arith, h)
some-high (one_more u z ts v vs ws before more sp bb each) = let h = height-some v in omega (arith, h)

module _ (table : Table) (is_named : IsNamed table) (left : ℕ) where
  fields-end : (below : Option Reader) → IsUnder table below left → (c k : ℕ) (name : List ℕ) (f : Field) (fs : List Field) (vs : Values) (before ws behind rest : List ℕ)
      → AreBlanks before → AreBlanks behind → place_of table c ≡ Some (record { ty = k; constructor = record { name = name; fields = f ∷ fs } }) → SpellsEach table (field_types (f ∷ fs)) vs ws
      → Ends (Fine table left (named k) (cons c vs)) (fields_read below c (f ∷ fs) (before ++ 40 ∷ (ws ++ (behind ++ 41 ∷ rest)))) (cons c vs) rest
  fields-end None z c k name f fs vs before ws behind rest bb hb e each =
      let tail : List ℕ = ws ++ (behind ++ 41 ∷ rest) in
      let n = length-append ws (behind ++ 41 ∷ rest) in
      let m = length-behind behind 41 rest in
      inr (record {
        kind = Deep;
        count = length (40 ∷ tail);
        stops = ap full_read (past_blanks-is before (40 ∷ tail) bb refl);
        right = λ h. cc;
        within = omega (arith, n, m);
        broken = λ fine. let h = fine.1 in let p = some-high each in omega (arith, h, p, z);
      })
  fields-end (Some below) u c k name f fs vs before ws behind rest bb hb e each =
      let tail : List ℕ = ws ++ (behind ++ 41 ∷ rest) in
      then-made (arguments-end table u.0 below u.2 each f fs refl behind rest hb)
      (ap (λ o. after o (λ _ r. after (arguments_read below (f ∷ fs) r) (λ vs end. ok (cons c (packed vs)) end))) (symbol-is 40 before tail bb refl))
    where
      then-made : {o : Outcome Value} → Ends (FineEach table u.0 (field_types (f ∷ fs)) vs) (arguments_read below (f ∷ fs) (ws ++ (behind ++ 41 ∷ rest))) (listed vs) rest
          → o ≡ after (arguments_read below (f ∷ fs) (ws ++ (behind ++ 41 ∷ rest))) (λ vs end. ok (cons c (packed vs)) end) → Ends (Fine table left (named k) (cons c vs)) o (cons c vs) rest
      then-made (inl h) q = inl (q ∙ ap (λ o. after o (λ vs end. ok (cons c (packed vs)) end)) h ∙ ap (λ l. ok (cons c l) rest) (packed-listed vs))
      then-made {o} (inr l) q =
          inr (limit-same (after (arguments_read below (f ∷ fs) (ws ++ (behind ++ 41 ∷ rest))) (λ vs end. ok (cons c (packed vs)) end)) o rest q
          (limit-after (arguments_read below (f ∷ fs) (ws ++ (behind ++ 41 ∷ rest))) (λ vs end. ok (cons c (packed vs)) end) rest rest l
          (λ fine. let h = fine.1 in let v = u.1 in (fields-typed table c k name (f ∷ fs) vs e fine.0, omega (arith, h, v), fine.2)) (omega arith)))

  pub level-ends : (below : Option Reader) → IsUnder table below left → {u : Ty} {v : Value} {ws : List ℕ} → Spells table u v ws → (rest : List ℕ) → Stops is_name_byte rest
      → Ends (Fine table left u v) (level_read table below u (past_blanks (ws ++ rest))) v rest
  level-ends below under (a_number bl sign d ds ab sg ad) rest s =
      let run : List ℕ = sign ++ d ∷ ds in
      ends-same (number_read (run ++ rest)) (number_read (past_blanks ((bl ++ run) ++ rest))) (num (signed_digits_value 10 run)) rest
      (ap number_read (token-is bl run rest ab (number-stops sg d ds rest ad))) (number-ends table left sg d ds rest ad s)
  level-ends below under (a_true bl ab) rest s = inl (ap truth_read (token-is bl (codes "True") rest ab refl) ∙ true-is rest s)
  level-ends below under (a_false bl ab) rest s = inl (ap truth_read (token-is bl (codes "False") rest ab refl) ∙ false-is rest s)
  level-ends below under (a_text bl a ws ab q) rest s =
      let run : List ℕ = 34 ∷ (ws ++ 34 ∷ []) in
      ends-same (text_read (run ++ rest)) (text_read (past_blanks ((bl ++ run) ++ rest))) (text a) rest (ap text_read (token-is bl run rest ab refl)) (text-ends (Fine table left string (text a)) a ws rest (λ f. f.2) q)
  level-ends below under (a_constant bl c k name ab e) rest s =
      inl (ap (level_read table below (named k)) (token-is bl name rest ab (begins name e))
      ∙ ap (λ o. after o (λ m r. fields_read below m.number m.fields r)) (made-is table is_named c k name [] rest e (stops-goes rest s)))
    where
      begins : (name : List ℕ) → place_of table c ≡ Some (record { ty = k; constructor = record { name = name; fields = [] } }) → Stops is_blank (name ++ rest)
      begins name e = name-stops name rest (is_named.names c (record { ty = k; constructor = record { name = name; fields = [] } }) e)
  level-ends below under (a_made bl before behind c k name f fs vs ws ab bb hb e each) rest s =
      let tail : List ℕ = ws ++ (behind ++ 41 ∷ rest) in
      let made = is_named.names c (record { ty = k; constructor = record { name = name; fields = f ∷ fs } }) e in
      ends-same (fields_read below c (f ∷ fs) (before ++ 40 ∷ tail)) (level_read table below (named k) (past_blanks ((bl ++ (name ++ (before ++ (40 ∷ (ws ++ (behind ++ 41 ∷ [])))))) ++ rest))) (cons c vs) rest
      (ap (λ (l : List ℕ). level_read table below (named k) (past_blanks l)) (shift bl name before ws behind rest)
      ∙ ap (level_read table below (named k)) (past_blanks-is bl (name ++ (before ++ 40 ∷ tail)) ab (name-stops name (before ++ 40 ∷ tail) made))
      ∙ ap (λ o. after o (λ m r. fields_read below m.number m.fields r)) (made-is table is_named c k name (f ∷ fs) (before ++ 40 ∷ tail) e (stops-goes (before ++ 40 ∷ tail) (stops-blanks before (40 ∷ tail) bb refl))))
      (fields-end below under c k name f fs vs before ws behind rest bb hb e each)
    where
      shift : (bl name before ws behind rest : List ℕ) → (bl ++ (name ++ (before ++ (40 ∷ (ws ++ (behind ++ 41 ∷ [])))))) ++ rest ≡ bl ++ (name ++ (before ++ 40 ∷ (ws ++ (behind ++ 41 ∷ rest))))
      shift bl name before ws behind rest = simp append_assoc

-- what is spelled is found, or a limit is
pub value-ends : (table : Table) → IsNamed table → (left : ℕ) → Complete table left (value_read table left)
value-ends table n zero u v ws rest sp s = level-ends table n zero None refl sp rest s
value-ends table n (suc left) u v ws rest sp s = level-ends table n (suc left) (Some (value_read table left)) (left, refl, value-ends table n left) sp rest s
