-- What the readers of numbers, names and texts find.
use Rattle.std.proofs.Common.{◌≡◌, ℕ, Bool, true, false, cond, ◌⊎◌, eqb, eqb-true, eq-eqb, List, [], ◌∷◌, ◌++◌, length, Option, Some, None, refl, sym, ap, subst, ◌∙◌}
use Rattle.std.proofs.lemmas.Bool.{cond-true, cond-false}
use Rattle.std.specs.Str.{is_utf8}
use Rattle.std.specs.Str.Parse.{signed_digits_value}
use Rattle.txs_values.specs.declared.reading.Kind.{Kind}
use Rattle.txs_values.specs.declared.reading.Kind.TheVariants.{Wrong, Past}
use Rattle.txs_values.specs.Value.{Value, num, text, fits}
use Rattle.txs_values.specs.Ints.{number_run, past_number, has_digit}
use Rattle.txs_values.specs.Spelling.{is_digit, is_name_byte, is_raw, escape_of, run_of, past_run}
use Rattle.txs_values.specs.Spelled.{AreDigits, IsSign, no_sign, minus_sign, Quotes, nothing, as_it_is, escaped_by}
use Rattle.txs_values.specs.Reading.{Outcome, ok, stop, with_front, symbol_here, number_read, goes_on, name_read, escape_read, quoted_read}
use Rattle.txs_values.proofs.spellings.Bytes.{Each, Stops, run-each, run-parts, run-append, past-append, each-digits, digit-minus}
use Rattle.txs_values.proofs.spellings.Found.{head, Found, Sound, head-before, head-stops, head-none, head-some, found-ok, found-wrong, found-taken, found-map, front-found}

-- ---- a symbol

pub sound_symbol_here : (N : Type 0) → (c : ℕ) (H : Kind → List ℕ → List ℕ → Type 0) → ((r : List ℕ) → H Wrong [] r) → Sound N (symbol_here c) (λ _ u. u ≡ c ∷ []) H
sound_symbol_here N c H h [] = found-wrong N (symbol_here c) (λ _ u. u ≡ c ∷ []) H [] 0 refl (h []) (λ w e. ap (symbol_here c) (head-none w e) ∙ ap (λ (l : List ℕ). stop Wrong (length l)) (sym (head-none w e)))
sound_symbol_here N c H h (b ∷ bs) = by (eqb b c) refl
  where
    by : (t : Bool) → eqb b c ≡ t → Found N (symbol_here c) (λ _ u. u ≡ c ∷ []) H (b ∷ bs) (cond t (ok tt bs) (stop Wrong (length (b ∷ bs))))
    by true e =
        record { used = b ∷ []; split = refl; spelled = ap (λ (x : ℕ). x ∷ []) (eqb-true b c e); local = λ _ w k. cond-true (eqb b c) (ok tt w) (stop Wrong (length (b ∷ w))) e }
    by false e = found-wrong N (symbol_here c) (λ _ u. u ≡ c ∷ []) H (b ∷ bs) (length (b ∷ bs)) refl (h (b ∷ bs)) (λ w k. other w (head-some w b k))
      where
        other : (w : List ℕ) → ((v : List ℕ) × (w ≡ b ∷ v)) → symbol_here c w ≡ stop Wrong (length w)
        other w p = subst (λ l. symbol_here c l ≡ stop Wrong (length l)) (sym p.1) (cond-false (eqb b c) (ok tt p.0) (stop Wrong (length (b ∷ p.0))) e)

-- ---- a number

past-run-stops : (p : ℕ → Bool) (bs : List ℕ) → Stops p (past_run p bs)
past-run-stops p [] = tt
past-run-stops p (b ∷ bs) = by (p b) refl (past-run-stops p bs)
  where
    by : (t : Bool) → p b ≡ t → Stops p (past_run p bs) → Stops p (cond t (past_run p bs) (b ∷ bs))
    by true e h = h
    by false e h = e

past_number-stops : (bs : List ℕ) → Stops is_digit (past_number bs)
past_number-stops [] = tt
past_number-stops (b ∷ bs) = by (eqb b 45)
  where
    by : (t : Bool) → Stops is_digit (cond t (past_run is_digit bs) (past_run is_digit (b ∷ bs)))
    by true = past-run-stops is_digit bs
    by false = past-run-stops is_digit (b ∷ bs)

plain-run : (l : List ℕ) → Stops (λ b. eqb b 45) l → (number_run l ≡ run_of is_digit l) × (past_number l ≡ past_run is_digit l)
plain-run [] s = (refl, refl)
plain-run (b ∷ bs) s = (cond-false (eqb b 45) (b ∷ run_of is_digit bs) (run_of is_digit (b ∷ bs)) s, cond-false (eqb b 45) (past_run is_digit bs) (past_run is_digit (b ∷ bs)) s)

pub number_run-parts : (bs : List ℕ) → bs ≡ number_run bs ++ past_number bs
number_run-parts [] = refl
number_run-parts (b ∷ bs) = by (eqb b 45)
  where
    by : (t : Bool) → b ∷ bs ≡ cond t (b ∷ run_of is_digit bs) (run_of is_digit (b ∷ bs)) ++ cond t (past_run is_digit bs) (past_run is_digit (b ∷ bs))
    by true = ap (λ (q : List ℕ). b ∷ q) (run-parts is_digit bs)
    by false = run-parts is_digit (b ∷ bs)

abbrev Again : List ℕ → List ℕ → Type 0
Again run w = (number_run (run ++ w) ≡ run) × (past_number (run ++ w) ≡ w)

-- the same number is in front of all that begins as what follows it
pub number-again : (bs w : List ℕ) → head w ≡ head (past_number bs) → Again (number_run bs) w
number-again [] w h = let e = head-none w h in (ap number_run e, ap past_number e ∙ sym e)
number-again (b ∷ bs) w h = by (eqb b 45) refl h
  where
    by : (t : Bool) → eqb b 45 ≡ t → head w ≡ head (cond t (past_run is_digit bs) (past_run is_digit (b ∷ bs))) → Again (cond t (b ∷ run_of is_digit bs) (run_of is_digit (b ∷ bs))) w
    by true e k =
        let s = head-stops is_digit (past_run is_digit bs) w k (past-run-stops is_digit bs) in
        let run : List ℕ = run_of is_digit bs in (
          cond-true (eqb b 45) (b ∷ run_of is_digit (run ++ w)) (run_of is_digit (b ∷ (run ++ w))) e ∙ ap (λ (q : List ℕ). b ∷ q) (run-append is_digit run w (run-each is_digit bs) s),
          cond-true (eqb b 45) (past_run is_digit (run ++ w)) (past_run is_digit (b ∷ (run ++ w))) e ∙ past-append is_digit run w (run-each is_digit bs) s,
        )
    by false e k =
        let all : List ℕ = b ∷ bs in
        let s = head-stops is_digit (past_run is_digit all) w k (past-run-stops is_digit all) in
        let run : List ℕ = run_of is_digit all in
        let m = head-stops (λ b. eqb b 45) all (run ++ w) (head-before run (past_run is_digit all) w k ∙ ap head (sym (run-parts is_digit all))) e in
        let p = plain-run (run ++ w) m in
        (p.0 ∙ run-append is_digit run w (run-each is_digit all) s, p.1 ∙ past-append is_digit run w (run-each is_digit all) s)

-- a sign and digits, or a sign alone
abbrev pub Shape : Bool → List ℕ → Type 0
Shape true run = (sign : List ℕ) × (d : ℕ) × (ds : List ℕ) × IsSign sign × AreDigits (d ∷ ds) × (run ≡ sign ++ d ∷ ds)
Shape false run = IsSign run

minus-shape : (ds : List ℕ) → Each is_digit ds → (t : Bool) → has_digit (45 ∷ ds) ≡ t → Shape t (45 ∷ ds)
minus-shape [] k true e = absurd (cc)
minus-shape [] k false e = minus_sign
minus-shape (d ∷ ds) k true e = (45 ∷ [], d, ds, minus_sign, each-digits (d ∷ ds) k, refl)
minus-shape (d ∷ ds) k false e = absurd (cc)

one-shape : (d : ℕ) → Each is_digit (d ∷ []) → (u t : Bool) → eqb d 45 ≡ u → u ≡ false → cond u false true ≡ t → Shape t (d ∷ [])
one-shape d k true t e f g = absurd (cc)
one-shape d k false true e f g = ([], d, [], no_sign, each-digits (d ∷ []) k, refl)
one-shape d k false false e f g = absurd (cc)

plain-shape : (run : List ℕ) → Each is_digit run → (t : Bool) → has_digit run ≡ t → Shape t run
plain-shape [] k true e = absurd (cc)
plain-shape [] k false e = no_sign
plain-shape (d ∷ []) k t e = one-shape d k (eqb d 45) t refl (digit-minus d k.0) e
plain-shape (d ∷ c ∷ ds) k true e = ([], d, c ∷ ds, no_sign, each-digits (d ∷ c ∷ ds) k, refl)
plain-shape (d ∷ c ∷ ds) k false e = absurd (cc)

pub run-shape : (bs : List ℕ) (t : Bool) → has_digit (number_run bs) ≡ t → Shape t (number_run bs)
run-shape [] true e = absurd (cc)
run-shape [] false e = no_sign
run-shape (b ∷ bs) t e = by (eqb b 45) refl e
  where
    by : (s : Bool) → eqb b 45 ≡ s → has_digit (cond s (b ∷ run_of is_digit bs) (run_of is_digit (b ∷ bs))) ≡ t → Shape t (cond s (b ∷ run_of is_digit bs) (run_of is_digit (b ∷ bs)))
    by true m h =
        let x = eqb-true b 45 m in
        subst (λ (q : ℕ). Shape t (q ∷ run_of is_digit bs)) (sym x) (minus-shape (run_of is_digit bs) (run-each is_digit bs) t (subst (λ (q : ℕ). has_digit (q ∷ run_of is_digit bs) ≡ t) x h))
    by false m h = plain-shape (run_of is_digit (b ∷ bs)) (run-each is_digit (b ∷ bs)) t h

-- a sign and digits that are an Int
pub record IsInteger (v : Value) (u : List ℕ) : Type 0 where
  pub sign : List ℕ
  pub first : ℕ
  pub digits : List ℕ
  pub is_sign : IsSign sign
  pub are_digits : AreDigits (first ∷ digits)
  pub value : v ≡ num (signed_digits_value 10 (sign ++ first ∷ digits))
  pub parts : u ≡ sign ++ first ∷ digits
  pub in_range : fits (signed_digits_value 10 (sign ++ first ∷ digits)) ≡ true

pub record IsPastHere (r : List ℕ) : Type 0 where
  pub sign : List ℕ
  pub first : ℕ
  pub digits : List ℕ
  pub more : List ℕ
  pub is_sign : IsSign sign
  pub are_digits : AreDigits (first ∷ digits)
  pub is_past : fits (signed_digits_value 10 (sign ++ first ∷ digits)) ≡ false
  pub here : r ≡ (sign ++ first ∷ digits) ++ more
  pub ends : Stops is_digit more

abbrev number_by : List ℕ → List ℕ → List ℕ → Outcome Value
number_by bs run past =
    cond (has_digit run) (cond (fits (signed_digits_value 10 run)) (ok (num (signed_digits_value 10 run)) past) (stop Past (length bs))) (stop Wrong (length past))

number-with : (bs w : List ℕ) → Again (number_run bs) w → number_read (number_run bs ++ w) ≡ number_by (number_run bs ++ w) (number_run bs) w
number-with bs w p =
    ap (λ run. number_by (number_run bs ++ w) run (past_number (number_run bs ++ w))) p.0 ∙ ap (λ past. number_by (number_run bs ++ w) (number_run bs) past) p.1

module _ (N : Type 0) (H : Kind → List ℕ → List ℕ → Type 0) (wrong : (u r : List ℕ) → IsSign u → H Wrong u r) (past : (r : List ℕ) → IsPastHere r → H Past [] r) (bs : List ℕ) where
  number_range : (t : Bool) → fits (signed_digits_value 10 (number_run bs)) ≡ t → has_digit (number_run bs) ≡ true → Shape true (number_run bs)
      → Found N number_read IsInteger H bs (cond t (ok (num (signed_digits_value 10 (number_run bs))) (past_number bs)) (stop Past (length bs)))
  number_range true e d s = record {
    used = number_run bs;
    split = number_run-parts bs;
    spelled = record {
      sign = s.0;
      first = s.1;
      digits = s.2;
      is_sign = s.3;
      are_digits = s.4;
      value = ap (λ run. num (signed_digits_value 10 run)) s.5;
      parts = s.5;
      in_range = subst (λ run. fits (signed_digits_value 10 run) ≡ true) s.5 e;
    };
    local = λ _ w h.
        number-with bs w (number-again bs w h)
        ∙ cond-true (has_digit (number_run bs)) (cond (fits (signed_digits_value 10 (number_run bs))) (ok (num (signed_digits_value 10 (number_run bs))) w) (stop Past (length (number_run bs ++ w)))) (stop Wrong (length w)) d
        ∙ cond-true (fits (signed_digits_value 10 (number_run bs))) (ok (num (signed_digits_value 10 (number_run bs))) w) (stop Past (length (number_run bs ++ w))) e;
  }
  number_range false e d s = record {
    used = [];
    rest = bs;
    split = refl;
    count = refl;
    here = past bs (record {
      sign = s.0;
      first = s.1;
      digits = s.2;
      more = past_number bs;
      is_sign = s.3;
      are_digits = s.4;
      is_past = subst (λ run. fits (signed_digits_value 10 run) ≡ false) s.5 e;
      here = number_run-parts bs ∙ ap (λ run. run ++ past_number bs) s.5;
      ends = past_number-stops bs;
    });
    local = λ _ k w h. absurd (cc);
  }

  number_found : (t : Bool) → has_digit (number_run bs) ≡ t
      → Found N number_read IsInteger H bs (cond t (cond (fits (signed_digits_value 10 (number_run bs))) (ok (num (signed_digits_value 10 (number_run bs))) (past_number bs)) (stop Past (length bs))) (stop Wrong (length (past_number bs))))
  number_found true e = number_range (fits (signed_digits_value 10 (number_run bs))) refl e (run-shape bs true e)
  number_found false e = record {
    used = number_run bs;
    rest = past_number bs;
    split = number_run-parts bs;
    count = refl;
    here = wrong (number_run bs) (past_number bs) (run-shape bs false e);
    local = λ _ k w h.
        number-with bs w (number-again bs w h)
        ∙ cond-false (has_digit (number_run bs)) (cond (fits (signed_digits_value 10 (number_run bs))) (ok (num (signed_digits_value 10 (number_run bs))) w) (stop Past (length (number_run bs ++ w)))) (stop Wrong (length w)) e;
  }

pub sound_number : (N : Type 0) → (H : Kind → List ℕ → List ℕ → Type 0) → ((u r : List ℕ) → IsSign u → H Wrong u r) → ((r : List ℕ) → IsPastHere r → H Past [] r) → Sound N number_read IsInteger H
sound_number N H wrong past bs = number_found N H wrong past bs (has_digit (number_run bs)) refl

-- ---- a name

-- the name begins so
abbrev pub BeginsName : List ℕ → Kind → List ℕ → List ℕ → Type 0
BeginsName x k u r = (k ≡ Wrong) × (y : List ℕ) × (x ≡ u ++ y)

pub sound_name : (N : Type 0) → (x : List ℕ) → Sound N (name_read x) (λ _ u. u ≡ x) (BeginsName x)
sound_name N [] bs = by (goes_on bs) refl
  where
    same : (w : List ℕ) → head w ≡ head bs → goes_on w ≡ goes_on bs
    same [] h = other bs h
      where
        other : (l : List ℕ) → None ≡ head l → false ≡ goes_on l
        other [] e = refl
        other (b ∷ l) e = absurd (cc)
    same (c ∷ w) h = other bs h
      where
        other : (l : List ℕ) → Some c ≡ head l → is_name_byte c ≡ goes_on l
        other [] e = absurd (cc)
        other (b ∷ l) e = let k : c ≡ b = cc in ap is_name_byte k

    by : (t : Bool) → goes_on bs ≡ t → Found N (name_read []) (λ _ u. u ≡ []) (BeginsName []) bs (cond t (stop Wrong (length bs)) (ok tt bs))
    by true e = found-wrong N (name_read []) (λ _ u. u ≡ []) (BeginsName []) bs (length bs) refl (refl, [], refl) (λ w h. cond-true (goes_on w) (stop Wrong (length w)) (ok tt w) (same w h ∙ e))
    by false e = found-ok N (name_read []) (λ _ u. u ≡ []) (BeginsName []) bs tt refl (λ w h. cond-false (goes_on w) (stop Wrong (length w)) (ok tt w) (same w h ∙ e))
sound_name N (x ∷ xs) [] =
    found-wrong N (name_read (x ∷ xs)) (λ _ u. u ≡ x ∷ xs) (BeginsName (x ∷ xs)) [] 0 refl (refl, x ∷ xs, refl) (λ w h. ap (name_read (x ∷ xs)) (head-none w h) ∙ ap (λ (l : List ℕ). stop Wrong (length l)) (sym (head-none w h)))
sound_name N (x ∷ xs) (b ∷ bs) = by (eqb b x) refl (sound_name N xs bs)
  where
    by : (t : Bool) → eqb b x ≡ t → Found N (name_read xs) (λ _ u. u ≡ xs) (BeginsName xs) bs (name_read xs bs)
        → Found N (name_read (x ∷ xs)) (λ _ u. u ≡ x ∷ xs) (BeginsName (x ∷ xs)) (b ∷ bs) (cond t (name_read xs bs) (stop Wrong (length (b ∷ bs))))
    by true e ih =
        let k = eqb-true b x e in
        found-taken N (name_read (x ∷ xs)) (name_read xs) (λ _ u. u ≡ x ∷ xs) (BeginsName (x ∷ xs)) b
        (λ w. cond-true (eqb b x) (name_read xs w) (stop Wrong (length (b ∷ w))) e) bs (name_read xs bs)
        (found-map N (name_read xs) (λ _ u. u ≡ xs) (λ _ u. b ∷ u ≡ x ∷ xs) (BeginsName xs) (λ j v r. BeginsName (x ∷ xs) j (b ∷ v) r)
        (λ _ u s. ap (λ (l : List ℕ). b ∷ l) s ∙ ap (λ (c : ℕ). c ∷ xs) k) (λ j v r p. (p.0, p.1, ap (λ (l : List ℕ). x ∷ l) p.2 ∙ ap (λ (c : ℕ). c ∷ (v ++ p.1)) (sym k))) bs (name_read xs bs) ih)
    by false e ih = found-wrong N (name_read (x ∷ xs)) (λ _ u. u ≡ x ∷ xs) (BeginsName (x ∷ xs)) (b ∷ bs) (length (b ∷ bs)) refl (refl, x ∷ xs, refl) (λ w k. other w (head-some w b k))
      where
        other : (w : List ℕ) → ((v : List ℕ) × (w ≡ b ∷ v)) → name_read (x ∷ xs) w ≡ stop Wrong (length w)
        other w p = subst (λ l. name_read (x ∷ xs) l ≡ stop Wrong (length l)) (sym p.1) (cond-false (eqb b x) (name_read xs p.0) (stop Wrong (length (b ∷ p.0))) e)

-- a name is read before what begins with no byte of a name
pub name-is : (x rest : List ℕ) → goes_on rest ≡ false → name_read x (x ++ rest) ≡ ok tt rest
name-is [] rest e = cond-false (goes_on rest) (stop Wrong (length rest)) (ok tt rest) e
name-is (x ∷ xs) rest e = cond-true (eqb x x) (name_read xs (xs ++ rest)) (stop Wrong (length (x ∷ (xs ++ rest)))) (eq-eqb x x refl) ∙ name-is xs rest e

-- ---- a text

-- behind a backslash or not
abbrev pub Before : Bool → List ℕ → List ℕ
Before true u = 92 ∷ u
Before false u = u

-- it ends with its quote; some text goes on so
abbrev pub QuotedBy : Bool → List ℕ → List ℕ → Type 0
QuotedBy esc a u = (ws : List ℕ) × (u ≡ ws ++ 34 ∷ []) × Quotes a (Before esc ws)

abbrev pub BeginsQuoted : Bool → Kind → List ℕ → List ℕ → Type 0
BeginsQuoted esc k u r = (k ≡ Wrong) × (a : List ℕ) × (more : List ℕ) × Quotes a (Before esc (u ++ more))

pub sound_quoted : (N : Type 0) → (esc : Bool) → Sound N (quoted_read esc) (QuotedBy esc) (BeginsQuoted esc)
sound_quoted N true [] =
    found-wrong N (quoted_read true) (QuotedBy true) (BeginsQuoted true) [] 0 refl (refl, 34 ∷ [], 34 ∷ [], escaped_by 34 34 refl nothing) (λ w h. ap (quoted_read true) (head-none w h) ∙ ap (λ (l : List ℕ). stop Wrong (length l)) (sym (head-none w h)))
sound_quoted N false [] =
    found-wrong N (quoted_read false) (QuotedBy false) (BeginsQuoted false) [] 0 refl (refl, [], [], nothing) (λ w h. ap (quoted_read false) (head-none w h) ∙ ap (λ (l : List ℕ). stop Wrong (length l)) (sym (head-none w h)))
sound_quoted N true (b ∷ bs) = by (escape_of b) refl (sound_quoted N false bs)
  where
    by : (o : Option ℕ) → escape_of b ≡ o → Found N (quoted_read false) (QuotedBy false) (BeginsQuoted false) bs (quoted_read false bs)
        → Found N (quoted_read true) (QuotedBy true) (BeginsQuoted true) (b ∷ bs) (escape_read o (length (b ∷ bs)) (quoted_read false bs))
    by None e ih = found-wrong N (quoted_read true) (QuotedBy true) (BeginsQuoted true) (b ∷ bs) (length (b ∷ bs)) refl (refl, 34 ∷ [], 34 ∷ [], escaped_by 34 34 refl nothing) (λ w k. other w (head-some w b k))
      where
        other : (w : List ℕ) → ((v : List ℕ) × (w ≡ b ∷ v)) → quoted_read true w ≡ stop Wrong (length w)
        other w p = subst (λ l. quoted_read true l ≡ stop Wrong (length l)) (sym p.1) (ap (λ o. escape_read o (length (b ∷ p.0)) (quoted_read false p.0)) e)
    by (Some d) e ih =
        found-taken N (quoted_read true) (λ w. with_front (d ∷ []) (quoted_read false w)) (QuotedBy true) (BeginsQuoted true) b
        (λ w. ap (λ o. escape_read o (length (b ∷ w)) (quoted_read false w)) e) bs (with_front (d ∷ []) (quoted_read false bs))
        (front-found N (d ∷ []) (quoted_read false) (λ a v. QuotedBy true a (b ∷ v)) (λ k v r. BeginsQuoted true k (b ∷ v) r) bs (quoted_read false bs)
        (found-map N (quoted_read false) (QuotedBy false) (λ a v. QuotedBy true (d ∷ a) (b ∷ v)) (BeginsQuoted false) (λ k v r. BeginsQuoted true k (b ∷ v) r)
        (λ a v s. (b ∷ s.0, ap (λ (l : List ℕ). b ∷ l) s.1, escaped_by d b e s.2)) (λ k v r s. (s.0, d ∷ s.1, s.2, escaped_by d b e s.3)) bs (quoted_read false bs) ih))
sound_quoted N false (b ∷ bs) = by (eqb b 34) (eqb b 92) (is_raw b) refl refl refl (sound_quoted N true bs) (sound_quoted N false bs)
  where
    by : (t u v : Bool) → eqb b 34 ≡ t → eqb b 92 ≡ u → is_raw b ≡ v → Found N (quoted_read true) (QuotedBy true) (BeginsQuoted true) bs (quoted_read true bs)
        → Found N (quoted_read false) (QuotedBy false) (BeginsQuoted false) bs (quoted_read false bs)
        → Found N (quoted_read false) (QuotedBy false) (BeginsQuoted false) (b ∷ bs)
        (cond t (ok [] bs) (cond u (quoted_read true bs) (cond v (stop Wrong (length (b ∷ bs))) (with_front (b ∷ []) (quoted_read false bs)))))
    by true u v x y z it il = record {
      used = b ∷ [];
      split = refl;
      spelled = ([], ap (λ (c : ℕ). c ∷ []) (eqb-true b 34 x), nothing);
      local = λ _ w h. cond-true (eqb b 34) (ok [] w) (cond (eqb b 92) (quoted_read true w) (cond (is_raw b) (stop Wrong (length (b ∷ w))) (with_front (b ∷ []) (quoted_read false w)))) x;
    }
    by false true v x y z it il =
        let k = eqb-true b 92 y in
        found-taken N (quoted_read false) (quoted_read true) (QuotedBy false) (BeginsQuoted false) b
        (λ w. cond-false (eqb b 34) (ok [] w) (cond (eqb b 92) (quoted_read true w) (cond (is_raw b) (stop Wrong (length (b ∷ w))) (with_front (b ∷ []) (quoted_read false w)))) x
        ∙ cond-true (eqb b 92) (quoted_read true w) (cond (is_raw b) (stop Wrong (length (b ∷ w))) (with_front (b ∷ []) (quoted_read false w))) y) bs (quoted_read true bs)
        (found-map N (quoted_read true) (QuotedBy true) (λ a v. QuotedBy false a (b ∷ v)) (BeginsQuoted true) (λ k v r. BeginsQuoted false k (b ∷ v) r)
        (λ a v s. (b ∷ s.0, ap (λ (l : List ℕ). b ∷ l) s.1, subst (λ (c : ℕ). Quotes a (c ∷ s.0)) (sym k) s.2))
        (λ j v r s. (s.0, s.1, s.2, subst (λ (c : ℕ). Quotes s.1 (c ∷ (v ++ s.2))) (sym k) s.3)) bs (quoted_read true bs) it)
    by false false true x y z it il =
        found-wrong N (quoted_read false) (QuotedBy false) (BeginsQuoted false) (b ∷ bs) (length (b ∷ bs)) refl (refl, [], [], nothing) (λ w k. other w (head-some w b k))
      where
        other : (w : List ℕ) → ((v : List ℕ) × (w ≡ b ∷ v)) → quoted_read false w ≡ stop Wrong (length w)
        other w p =
            subst (λ l. quoted_read false l ≡ stop Wrong (length l)) (sym p.1)
            (cond-false (eqb b 34) (ok [] p.0) (cond (eqb b 92) (quoted_read true p.0) (cond (is_raw b) (stop Wrong (length (b ∷ p.0))) (with_front (b ∷ []) (quoted_read false p.0)))) x
            ∙ cond-false (eqb b 92) (quoted_read true p.0) (cond (is_raw b) (stop Wrong (length (b ∷ p.0))) (with_front (b ∷ []) (quoted_read false p.0))) y
            ∙ cond-true (is_raw b) (stop Wrong (length (b ∷ p.0))) (with_front (b ∷ []) (quoted_read false p.0)) z)
    by false false false x y z it il =
        found-taken N (quoted_read false) (λ w. with_front (b ∷ []) (quoted_read false w)) (QuotedBy false) (BeginsQuoted false) b
        (λ w. cond-false (eqb b 34) (ok [] w) (cond (eqb b 92) (quoted_read true w) (cond (is_raw b) (stop Wrong (length (b ∷ w))) (with_front (b ∷ []) (quoted_read false w)))) x
        ∙ cond-false (eqb b 92) (quoted_read true w) (cond (is_raw b) (stop Wrong (length (b ∷ w))) (with_front (b ∷ []) (quoted_read false w))) y
        ∙ cond-false (is_raw b) (stop Wrong (length (b ∷ w))) (with_front (b ∷ []) (quoted_read false w)) z) bs (with_front (b ∷ []) (quoted_read false bs))
        (front-found N (b ∷ []) (quoted_read false) (λ a v. QuotedBy false a (b ∷ v)) (λ k v r. BeginsQuoted false k (b ∷ v) r) bs (quoted_read false bs)
        (found-map N (quoted_read false) (QuotedBy false) (λ a v. QuotedBy false (b ∷ a) (b ∷ v)) (BeginsQuoted false) (λ k v r. BeginsQuoted false k (b ∷ v) r)
        (λ a v s. (b ∷ s.0, ap (λ (l : List ℕ). b ∷ l) s.1, as_it_is b x y z s.2)) (λ k v r s. (s.0, b ∷ s.1, s.2, as_it_is b x y z s.3)) bs (quoted_read false bs) il))

-- ---- a text between its quotes

-- a text that is not UTF-8
abbrev pub IsBroken : List ℕ → Type 0
IsBroken r = (ws : List ℕ) × (a : List ℕ) × (more : List ℕ) × (r ≡ 34 ∷ (ws ++ 34 ∷ more)) × Quotes a ws × (is_utf8 a ≡ false)

pub record IsText (v : Value) (u : List ℕ) : Type 0 where
  pub bytes : List ℕ
  pub written : List ℕ
  pub value : v ≡ text bytes
  pub quotes : Quotes bytes written
  pub parts : u ≡ 34 ∷ (written ++ 34 ∷ [])

-- a text begins so
abbrev pub BeginsText : List ℕ → Type 0
BeginsText u = (u ≡ []) ⊎ ((v : List ℕ) × (a : List ℕ) × (more : List ℕ) × (u ≡ 34 ∷ v) × Quotes a (v ++ more))
