-- What is wrong at a place stops the reader there, or before.
use Rattle.std.proofs.Common.{◌≡◌, ℕ, zero, suc, ◌+◌, ◌≤◌, ◌⊎◌, inl, inr, List, [], ◌∷◌, ◌++◌, length, Option, Some, None, refl, sym, ap, subst, ◌∙◌, append_assoc, length-append, arith}
use Rattle.std.proofs.lemmas.Bool.{cond-false}
use Rattle.std.specs.Str.Parse.{signed_digits_value}
use Rattle.txs_values.specs.declared.reading.Kind.{Kind}
use Rattle.txs_values.specs.declared.reading.Kind.TheVariants.{Past, Deep}
use Rattle.txs_values.specs.Value.{Ty, integer, named, Value, num, cons, packed, Field, Table, place_of, field_types, fits, value_height_limit}
use Rattle.txs_values.specs.Spelling.{past_blanks, is_digit}
use Rattle.txs_values.specs.Spelled.{AreBlanks, IsNamed}
use Rattle.txs_values.specs.Faults.{NoDigit, Leads, no_more, one_before, Stands, as_whole, as_argument, IsOutOfRange, IsDeep}
use Rattle.txs_values.specs.Reading.{Outcome, ok, stop, after, with_front, symbol, number_read, Reader, mark_behind, arguments_read, full_read, enclosed_read, fields_read, level_read, value_read, levels_below, ended, lone_read}
use Rattle.txs_values.proofs.spellings.Bytes.{Stops, stops-blanks, past_blanks-is}
use Rattle.txs_values.proofs.spellings.Joined.{token-is, number-stops, name-stops, same_types}
use Rattle.txs_values.proofs.spellings.Names.{made-is}
use Rattle.txs_values.proofs.spellings.Finds.{Ends, Fine, Complete, value-ends, signed-run, number-by, symbol-is, stops-goes, length-behind}
use Rattle.txs_values.proofs.spellings.Lone.{levels-all}

-- it stops where this is left, or before
abbrev pub Early : {A : Type 0} → Outcome A → List ℕ → Type 0
Early o r = (k : Kind) × (n : ℕ) × (o ≡ stop k n) × (length r ≤ n)

-- it stops before this is read, or else where what reads it stops
abbrev Reaches : {A B : Type 0} → Outcome A → Outcome B → List ℕ → Type 0
Reaches o p r = Early o r ⊎ ((k : Kind) (n : ℕ) → p ≡ stop k n → o ≡ stop k n)

early-after : {A B : Type 0} (o : Outcome A) (go : A → List ℕ → Outcome B) (r : List ℕ) → Early o r → Early (after o go) r
early-after o go r e = (e.0, e.1, ap (λ x. after x go) e.2, e.3)

early-same : {A : Type 0} (o p : Outcome A) (r s : List ℕ) → p ≡ o → length s ≤ length r → Early o r → Early p s
early-same o p r s e l h = let w = h.3 in (h.0, h.1, e ∙ h.2, omega (arith, l, w))

-- ---- arguments

no-first : (us : List Ty) (u : Ty) (ms : List Ty) → [] ≡ us ++ u ∷ ms → ⊥
no-first [] u ms e = cc
no-first (x ∷ us) u ms e = cc

module _ (table : Table) (left : ℕ) (below : Reader) (complete : Complete table left below) (u : Ty) (ms : List Ty) (bs : List ℕ) where
  front-reaches : (v : Value) (o : Outcome (List Value)) → Reaches o (below u bs) bs → Reaches (with_front (v ∷ []) o) (below u bs) bs
  front-reaches v o (inl e) = inl (e.0, e.1, ap (with_front (v ∷ [])) e.2, e.3)
  front-reaches v o (inr h) = inr (λ k n e. ap (with_front (v ∷ [])) (h k n e))

  after-first : (f g : Field) (fs : List Field) (v : Value) (ws before more : List ℕ) → AreBlanks before
      → Ends (Fine table left f.ty v) (below f.ty (ws ++ (before ++ 44 ∷ (more ++ bs)))) v (before ++ 44 ∷ (more ++ bs))
      → Reaches (arguments_read below (g ∷ fs) (more ++ bs)) (below u bs) bs
      → Reaches (arguments_read below (f ∷ g ∷ fs) (ws ++ (before ++ 44 ∷ (more ++ bs)))) (below u bs) bs
  after-first f g fs v ws before more ab (inl e) h =
      let tail : List ℕ = more ++ bs in
      let q : arguments_read below (f ∷ g ∷ fs) (ws ++ (before ++ 44 ∷ tail)) ≡ with_front (v ∷ []) (arguments_read below (g ∷ fs) tail) =
      ap (λ o. after o (λ v r. after (symbol 44 r) (λ _ more. with_front (v ∷ []) (arguments_read below (g ∷ fs) more)))) e ∙ ap (λ o. after o (λ _ more. with_front (v ∷ []) (arguments_read below (g ∷ fs) more))) (symbol-is 44 before tail ab refl) in
      subst (λ o. Reaches o (below u bs) bs) (sym q) (front-reaches v (arguments_read below (g ∷ fs) tail) h)
  after-first f g fs v ws before more ab (inr l) h =
      let tail : List ℕ = more ++ bs in
      let w = l.within in
      let n = length-behind before 44 tail in
      let m = length-append more bs in
      inl (l.kind, l.count, ap (λ o. after o (λ v r. after (symbol 44 r) (λ _ more. with_front (v ∷ []) (arguments_read below (g ∷ fs) more)))) l.stops, omega (arith, w, n, m))

  arguments-reach : {us : List Ty} {lead : List ℕ} → Leads table us lead → (fs : List Field) → field_types fs ≡ us ++ u ∷ ms → Reaches (arguments_read below fs (lead ++ bs)) (below u bs) bs
  arguments-reach no_more [] e = absurd (cc)
  arguments-reach no_more (f ∷ fs) e = inr (λ k n h. ap (λ o. after o (λ v r. after (symbol (mark_behind fs) r) (λ _ more. with_front (v ∷ []) (arguments_read below fs more)))) (ap (λ x. below x bs) (same_types e).0 ∙ h))
  arguments-reach (one_before w us v ws before more sp ab l) [] e = absurd (cc)
  arguments-reach (one_before w us v ws before more sp ab l) (f ∷ []) e = absurd (no-first us u ms (same_types e).1)
  arguments-reach (one_before w us v ws before more sp ab l) (f ∷ g ∷ fs) e =
      let ih = arguments-reach l (g ∷ fs) (same_types e).1 in
      let tail : List ℕ = more ++ bs in
      let c = complete w v ws (before ++ 44 ∷ tail) sp (stops-blanks before (44 ∷ tail) ab refl) in
      subst (λ x. Reaches (arguments_read below (f ∷ g ∷ fs) x) (below u bs) bs) (shift ws before more)
      (after-first f g fs v ws before more ab (subst (λ x. Ends (Fine table left x v) (below x (ws ++ (before ++ 44 ∷ tail))) v (before ++ 44 ∷ tail)) (sym (same_types e).0) c) ih)
    where
      shift : (ws before more : List ℕ) → ws ++ (before ++ 44 ∷ (more ++ bs)) ≡ (ws ++ (before ++ (44 ∷ more))) ++ bs
      shift ws before more = simp append_assoc

-- ---- a name and its fields

named-read : (table : Table) → IsNamed table → (below : Option Reader) (bl : List ℕ) (c k : ℕ) (name : List ℕ) (f : Field) (fs : List Field) (before tail : List ℕ) → AreBlanks bl → AreBlanks before
    → place_of table c ≡ Some (record { ty = k; constructor = record { name = name; fields = f ∷ fs } })
    → level_read table below (named k) (past_blanks (bl ++ (name ++ (before ++ 40 ∷ tail)))) ≡ enclosed_read below c (f ∷ fs) (before ++ 40 ∷ tail)
named-read table is_named below bl c k name f fs before tail ab bb e =
    let made = is_named.names c (record { ty = k; constructor = record { name = name; fields = f ∷ fs } }) e in
    ap (level_read table below (named k)) (past_blanks-is bl (name ++ (before ++ 40 ∷ tail)) ab (name-stops name (before ++ 40 ∷ tail) made))
    ∙ ap (λ o. after o (λ m r. fields_read below m.number m.fields r)) (made-is table is_named c k name (f ∷ fs) (before ++ 40 ∷ tail) e (stops-goes (before ++ 40 ∷ tail) (stops-blanks before (40 ∷ tail) bb refl)))

-- ---- where a value may stand

module _ (table : Table) (t : Ty) (is_named : IsNamed table) where
  fields-reach : (left : ℕ) (bl before lead bs : List ℕ) (c k : ℕ) (name : List ℕ) (fs : List Field) (us ms : List Ty) (u : Ty) → AreBlanks bl → AreBlanks before
      → place_of table c ≡ Some (record { ty = k; constructor = record { name = name; fields = fs } }) → field_types fs ≡ us ++ u ∷ ms → Leads table us lead
      → Reaches (value_read table (suc left) (named k) (bl ++ (name ++ (before ++ (40 ∷ (lead ++ bs)))))) (value_read table left u bs) bs
  fields-reach left bl before lead bs c k name [] us ms u ab bb e types l = absurd (no-first us u ms types)
  fields-reach left bl before lead bs c k name (f ∷ fs) us ms u ab bb e types l =
      let below = value_read table left in
      let q : value_read table (suc left) (named k) (bl ++ (name ++ (before ++ (40 ∷ (lead ++ bs))))) ≡ after (arguments_read below (f ∷ fs) (lead ++ bs)) (λ vs end. ok (cons c (packed vs)) end) =
      named-read table is_named (Some below) bl c k name f fs before (lead ++ bs) ab bb e ∙ ap (λ o. after o (λ _ r. after (arguments_read below (f ∷ fs) r) (λ vs end. ok (cons c (packed vs)) end))) (symbol-is 40 before (lead ++ bs) bb refl) in
      by q (arguments-reach table left below (value-ends table is_named left) u ms bs l (f ∷ fs) types)
    where
      by : {o : Outcome Value} → o ≡ after (arguments_read (value_read table left) (f ∷ fs) (lead ++ bs)) (λ vs end. ok (cons c (packed vs)) end)
          → Reaches (arguments_read (value_read table left) (f ∷ fs) (lead ++ bs)) (value_read table left u bs) bs → Reaches o (value_read table left u bs) bs
      by q (inl h) = inl (h.0, h.1, q ∙ ap (λ o. after o (λ vs end. ok (cons c (packed vs)) end)) h.2, h.3)
      by q (inr h) = inr (λ k n e. q ∙ ap (λ o. after o (λ vs end. ok (cons c (packed vs)) end)) (h k n e))

  deep-read : (bl before tail : List ℕ) (c k : ℕ) (name : List ℕ) (f : Field) (fs : List Field) → AreBlanks bl → AreBlanks before → place_of table c ≡ Some (record { ty = k; constructor = record { name = name; fields = f ∷ fs } })
      → value_read table 0 (named k) (bl ++ (name ++ (before ++ (40 ∷ tail)))) ≡ stop Deep (length (40 ∷ tail))
  deep-read bl before tail c k name f fs ab bb e = named-read table is_named None bl c k name f fs before tail ab bb e ∙ ap full_read (past_blanks-is before (40 ∷ tail) bb refl)

  fields-deep : (bl before lead bs : List ℕ) (c k : ℕ) (name : List ℕ) (fs : List Field) (us ms : List Ty) (u : Ty) → AreBlanks bl → AreBlanks before
      → place_of table c ≡ Some (record { ty = k; constructor = record { name = name; fields = fs } }) → field_types fs ≡ us ++ u ∷ ms
      → Early (value_read table 0 (named k) (bl ++ (name ++ (before ++ (40 ∷ (lead ++ bs)))))) bs
  fields-deep bl before lead bs c k name [] us ms u ab bb e types = absurd (no-first us u ms types)
  fields-deep bl before lead bs c k name (f ∷ fs) us ms u ab bb e types =
      let n = length-append lead bs in
      (Deep, length (40 ∷ (lead ++ bs)), deep-read bl before (lead ++ bs) c k name f fs ab bb e, omega (arith, n))

  -- with the levels that are left at a place, or else past a parenthesis that is too deep
  abbrev Reached : List ℕ → ℕ → Ty → List ℕ → Type 0
  Reached front level u bs =
      ((left : ℕ) × (level + left ≡ value_height_limit) × Reaches (value_read table levels_below t (front ++ bs)) (value_read table left u bs) bs) ⊎ Early (value_read table levels_below t (front ++ bs)) bs

  longer : (bl name before lead bs : List ℕ) → length bs ≤ length (bl ++ (name ++ (before ++ (40 ∷ (lead ++ bs)))))
  longer bl name before lead bs =
      let a = length-append bl (name ++ (before ++ (40 ∷ (lead ++ bs)))) in
      let b = length-append name (before ++ (40 ∷ (lead ++ bs))) in
      let c = length-append before (40 ∷ (lead ++ bs)) in
      let d = length-append lead bs in
      omega (arith, a, b, c, d)

  reach-in : (front inner bs : List ℕ) (left k : ℕ) (u : Ty) → length bs ≤ length inner → Reaches (value_read table levels_below t (front ++ inner)) (value_read table (suc left) (named k) inner) inner
      → Reaches (value_read table (suc left) (named k) inner) (value_read table left u bs) bs → Reaches (value_read table levels_below t (front ++ inner)) (value_read table left u bs) bs
  reach-in front inner bs left k u m (inl x) y = let w = x.3 in inl (x.0, x.1, x.2, omega (arith, w, m))
  reach-in front inner bs left k u m (inr x) (inl y) = inl (y.0, y.1, x y.0 y.1 y.2, y.3)
  reach-in front inner bs left k u m (inr x) (inr y) = inr (λ k n z. x k n (y k n z))

  early-in : (front inner bs : List ℕ) (left k : ℕ) → length bs ≤ length inner → Reaches (value_read table levels_below t (front ++ inner)) (value_read table left (named k) inner) inner
      → Early (value_read table left (named k) inner) bs → Early (value_read table levels_below t (front ++ inner)) bs
  early-in front inner bs left k m (inl x) y = let w = x.3 in (x.0, x.1, x.2, omega (arith, w, m))
  early-in front inner bs left k m (inr x) y = (y.0, y.1, x y.0 y.1 y.2, y.3)

  pub stands-reach : {front : List ℕ} {level : ℕ} {u : Ty} → Stands table t front level u → (bs : List ℕ) → Reached front level u bs
  stands-reach as_whole bs = inl (levels_below, levels-all, inr (λ k n h. h))
  stands-reach (as_argument front bl before lead level c k name fs us ms u st ab bb e types l) bs =
      let inner : List ℕ = bl ++ (name ++ (before ++ (40 ∷ (lead ++ bs)))) in
      by (stands-reach st inner)
    where
      shift : front ++ (bl ++ (name ++ (before ++ (40 ∷ (lead ++ bs))))) ≡ (front ++ (bl ++ (name ++ (before ++ (40 ∷ lead))))) ++ bs
      shift = simp append_assoc

      at : (left : ℕ) → level + left ≡ value_height_limit → Reaches (value_read table levels_below t (front ++ (bl ++ (name ++ (before ++ (40 ∷ (lead ++ bs))))))) (value_read table left (named k) (bl ++ (name ++ (before ++ (40 ∷ (lead ++ bs)))))) (bl ++ (name ++ (before ++ (40 ∷ (lead ++ bs)))))
          → Reached (front ++ (bl ++ (name ++ (before ++ (40 ∷ lead))))) (suc level) u bs
      at zero h x = inr (subst (λ y. Early (value_read table levels_below t y) bs) shift (early-in front (bl ++ (name ++ (before ++ (40 ∷ (lead ++ bs))))) bs 0 k (longer bl name before lead bs) x (fields-deep bl before lead bs c k name fs us ms u ab bb e types)))
      at (suc left) h x = inl (
        left,
        omega (arith, h),
        subst (λ y. Reaches (value_read table levels_below t y) (value_read table left u bs) bs) shift
            (reach-in front (bl ++ (name ++ (before ++ (40 ∷ (lead ++ bs))))) bs left k u (longer bl name before lead bs) x (fields-reach left bl before lead bs c k name fs us ms u ab bb e types l)),
      )

      by : Reached front level (named k) (bl ++ (name ++ (before ++ (40 ∷ (lead ++ bs))))) → Reached (front ++ (bl ++ (name ++ (before ++ (40 ∷ lead))))) (suc level) u bs
      by (inl x) = at x.0 x.1 x.2
      by (inr x) = let m = longer bl name before lead bs in let w = x.3 in inr (subst (λ y. Early (value_read table levels_below t y) bs) shift (x.0, x.1, x.2, omega (arith, m, w)))

  -- a stop within the value is one of the whole text
  lone-early : (front bs r : List ℕ) (level : ℕ) (u : Ty) → Reached front level u bs → ((left : ℕ) → level + left ≡ value_height_limit → Early (value_read table left u bs) r) → length r ≤ length bs → Early (lone_read table t (front ++ bs)) r
  lone-early front bs r level u (inr x) e m = let w = x.3 in (x.0, x.1, ap (λ o. after o (λ v r. ended v (past_blanks r))) x.2, omega (arith, w, m))
  lone-early front bs r level u (inl (left, h, inl x)) e m = let w = x.3 in (x.0, x.1, ap (λ o. after o (λ v r. ended v (past_blanks r))) x.2, omega (arith, w, m))
  lone-early front bs r level u (inl (left, h, inr x)) e m = let y = e left h in (y.0, y.1, ap (λ o. after o (λ v r. ended v (past_blanks r))) (x y.0 y.1 y.2), y.3)

  digit-stops : (l : List ℕ) → NoDigit l → Stops is_digit l
  digit-stops [] s = tt
  digit-stops (b ∷ l) s = s

  integer-read : (left : ℕ) (bs : List ℕ) → value_read table left integer bs ≡ number_read (past_blanks bs)
  integer-read zero bs = refl
  integer-read (suc left) bs = refl

  shorter : (a b : List ℕ) → length b ≤ length (a ++ b)
  shorter a b = let n = length-append a b in omega (arith, n)

  pub past-early : (p r : List ℕ) → IsOutOfRange table t p r → Early (lone_read table t (p ++ r)) r
  past-early p r h =
      let run : List ℕ = h.sign ++ h.first ∷ h.digits in
      let s = signed-run h.is_sign h.first h.digits h.more h.are_digits (digit-stops h.more h.ends) in
      let q : (h.front ++ (h.blanks ++ (run ++ h.more))) ≡ p ++ r = sym (append_assoc h.front h.blanks (run ++ h.more)) ∙ ap (λ (l : List ℕ). l ++ (run ++ h.more)) (sym h.before) ∙ ap (λ (l : List ℕ). p ++ l) (sym h.here) in
      let l : length (run ++ h.more) ≡ length r = ap length (sym h.here) in
      let m = shorter h.blanks (run ++ h.more) in
      subst (λ x. Early (lone_read table t x) r) q
      (lone-early h.front (h.blanks ++ (run ++ h.more)) r h.level integer (stands-reach h.stands (h.blanks ++ (run ++ h.more)))
      (λ left _. (
        Past,
        length (run ++ h.more),
        integer-read left (h.blanks ++ (run ++ h.more)) ∙ ap number_read (ap past_blanks (sym (append_assoc h.blanks run h.more)) ∙ token-is h.blanks run h.more h.are_blanks (number-stops h.is_sign h.first h.digits h.more h.are_digits))
            ∙ number-by (run ++ h.more) run h.more s.2 s.0 s.1 ∙ cond-false (fits (signed_digits_value 10 run)) (ok (num (signed_digits_value 10 run)) h.more) (stop Past (length (run ++ h.more))) h.is_past,
        omega (arith, l),
      ))
      (omega (arith, l, m)))

  pub deep-early : (p r : List ℕ) → IsDeep table t p r → Early (lone_read table t (p ++ r)) r
  deep-early p r h =
      let inner : List ℕ = h.blanks ++ (h.name ++ (h.behind ++ (40 ∷ h.more))) in
      let q : h.front ++ inner ≡ p ++ r = shift h.front h.blanks h.name h.behind (40 ∷ h.more) ∙ ap (λ (l : List ℕ). l ++ (40 ∷ h.more)) (sym h.before) ∙ ap (λ (l : List ℕ). p ++ l) (sym h.here) in
      let l : length (40 ∷ h.more) ≡ length r = ap length (sym h.here) in
      let a = length-append h.blanks (h.name ++ (h.behind ++ (40 ∷ h.more))) in
      let b = length-append h.name (h.behind ++ (40 ∷ h.more)) in
      let c = length-append h.behind (40 ∷ h.more) in
      subst (λ x. Early (lone_read table t x) r) q
      (lone-early h.front inner r value_height_limit (named h.k) (stands-reach h.stands inner)
      (λ left e.
      let z : left ≡ 0 = omega (arith, e) in
      (Deep, length (40 ∷ h.more), ap (λ i. value_read table i (named h.k) inner) z ∙ deep-read h.blanks h.behind h.more h.c h.k h.name h.field h.fields h.are_blanks h.blanks_behind h.placed, omega (arith, l)))
      (omega (arith, l, a, b, c)))
    where
      shift : (front bl name before tail : List ℕ) → front ++ (bl ++ (name ++ (before ++ tail))) ≡ (front ++ (bl ++ (name ++ before))) ++ tail
      shift front bl name before tail = simp append_assoc
