-- The reader's stop is the first of what is wrong.
use Rattle.std.proofs.Common.{◌≡◌, ◌≢◌, ℕ, zero, suc, ◌-◌, ◌≤◌, ◌⊎◌, inl, inr, true, List, [], ◌∷◌, ◌++◌, length, refl, sym, ap, subst, ◌∙◌, append_assoc, length-append, arith}
use Rattle.std.proofs.lemmas.Bool.Decides.{nat_tests}
use Rattle.std.proofs.lemmas.List.{append-nil}
use Rattle.std.specs.Str.Parse.{signed_digits_value}
use Rattle.txs_values.specs.declared.reading.Kind.{Kind}
use Rattle.txs_values.specs.declared.reading.Kind.TheVariants.{Wrong, Past, Deep, Broken}
use Rattle.txs_values.specs.Value.{Ty, integer, named, Value, num, Table, field_types}
use Rattle.txs_values.specs.Text.{text_of}
use Rattle.txs_values.specs.Spelling.{is_digit}
use Rattle.txs_values.specs.Spelled.{IsSign, no_sign, minus_sign, AreDigits, Spells, a_number, IsSpelling}
use Rattle.txs_values.specs.Faults.{IsReadable, Begins, no_more, Reason, wrong_form, past_range, too_deep, IsOutOfRange, IsDeep, Applies, IsCause, IsFirst}
use Rattle.txs_values.specs.Reading.{ok, stop, lone_read, levels_below}
use Rattle.txs_values.proofs.spellings.Fronts.{same_list}
use Rattle.txs_values.proofs.spellings.Written.{text-spells}
use Rattle.txs_values.proofs.spellings.Found.{head, Left}
use Rattle.txs_values.proofs.spellings.Names.{further, stop-kind, stop-count, no_stop}
use Rattle.txs_values.proofs.spellings.Starts.{BeginsIn, begins-whole, begins-front, stands-begins, stands-valued, blanks-begin, open-begins, made-begins, rest-behind}
use Rattle.txs_values.proofs.spellings.Levels.{Here}
use Rattle.txs_values.proofs.spellings.Finds.{Ends, Fine}
use Rattle.txs_values.proofs.spellings.Lone.{lone-ends, lone-left}
use Rattle.txs_values.proofs.spellings.Reaches.{Early, past-early, deep-early}

-- what is told of a stop
abbrev pub reason_of : Kind → Reason
reason_of Wrong = wrong_form
reason_of Past = past_range
reason_of Deep = too_deep
reason_of Broken = wrong_form

module _ (table : Table) (t : Ty) (readable : IsReadable table t) where
  -- ---- the front begins a spelling

  number-begins : (p r : List ℕ) → IsOutOfRange table t p r → BeginsIn table t p
  number-begins p r h =
      subst (BeginsIn table t) (ap (λ (l : List ℕ). h.front ++ l) (append-nil h.blanks) ∙ sym h.before)
      (stands-begins table t readable h.stands (h.blanks ++ []) (blanks-begin table integer (stands-valued table t readable h.stands) h.blanks h.are_blanks))

  -- a longer front begins one, where not the form is wrong
  abbrev Longer : List ℕ → List ℕ → Type 0
  Longer p r = (q : List ℕ) × (more : List ℕ) × (r ≡ q ++ more) × (1 ≤ length q) × Begins table t (p ++ q)

  number-more : (p r : List ℕ) → IsOutOfRange table t p r → Longer p r
  number-more p r h =
      let run : List ℕ = h.sign ++ h.first ∷ h.digits in
      let n = length-append h.sign (h.first ∷ h.digits) in
      let b : BeginsIn table integer (h.blanks ++ run) = (num (signed_digits_value 10 run), [], subst (Spells table integer (num (signed_digits_value 10 run))) (sym (append-nil (h.blanks ++ run))) (a_number h.blanks h.sign h.first h.digits h.are_blanks h.is_sign h.are_digits)) in (
        run,
        h.more,
        h.here,
        omega (arith, n),
        begins-whole table t (p ++ run) (subst (BeginsIn table t) (sym (append_assoc h.front h.blanks run) ∙ ap (λ (l : List ℕ). l ++ run) (sym h.before)) (stands-begins table t readable h.stands (h.blanks ++ run) b)),
      )

  paren-begins : (p r : List ℕ) → IsDeep table t p r → BeginsIn table t p
  paren-begins p r h =
      subst (BeginsIn table t) (sym h.before) (stands-begins table t readable h.stands (h.blanks ++ (h.name ++ h.behind)) (open-begins table t readable h.c h.k h.name h.field h.fields h.blanks h.behind h.are_blanks h.blanks_behind h.placed))

  paren-more : (p r : List ℕ) → IsDeep table t p r → Longer p r
  paren-more p r h =
      let d = readable.fields_valued h.c h.k h.name (h.field ∷ h.fields) h.placed in
      let x : List ℕ = text_of table d.0.0 ++ [] in
      let b = made-begins table h.blanks h.behind [] x h.c h.k h.name (h.field ∷ h.fields) [] (field_types h.fields) h.field.ty h.are_blanks h.blanks_behind h.placed refl no_more
      (rest-behind table (field_types h.fields) d.1 h.field.ty d.0.0 (text_of table d.0.0) [] (text-spells table d.0.0 h.field.ty d.0.1) tt) in
      let c = begins-front table (named h.k) (h.blanks ++ (h.name ++ (h.behind ++ (40 ∷ [])))) x (subst (BeginsIn table (named h.k)) (shift h.blanks h.name h.behind x) b) in (
        40 ∷ [],
        h.more,
        h.here,
        omega arith,
        begins-whole table t (p ++ 40 ∷ []) (subst (BeginsIn table t) (shift-front h.front h.blanks h.name h.behind (40 ∷ []) ∙ ap (λ (l : List ℕ). l ++ 40 ∷ []) (sym h.before)) (stands-begins table t readable h.stands (h.blanks ++ (h.name ++ (h.behind ++ (40 ∷ [])))) c)),
      )
    where
      shift : (bl name before x : List ℕ) → bl ++ (name ++ (before ++ (40 ∷ x))) ≡ (bl ++ (name ++ (before ++ (40 ∷ [])))) ++ x
      shift bl name before x = simp append_assoc

      shift-front : (front bl name before tail : List ℕ) → front ++ (bl ++ (name ++ (before ++ tail))) ≡ (front ++ (bl ++ (name ++ before))) ++ tail
      shift-front front bl name before tail = simp append_assoc

  -- ---- what applies where the reader stops

  module _ (bs : List ℕ) (k : Kind) (n : ℕ) (stops : lone_read table t bs ≡ stop k n) (unbroken : k ≡ Broken → ⊥) where
    abbrev left : Left (IsReadable table t) (lone_read table t) (Here table t) bs k n
    left = lone-left table t bs k n stops

    no-end : (v : Value) (m : ℕ) (l : List ℕ) → lone_read table t l ≡ stop Wrong m → Ends (Fine table levels_below t v) (lone_read table t l) v [] → ⊥
    no-end v m l e (inl h) = no_stop (sym h ∙ e)
    no-end v m l e (inr x) = x.right (stop-kind (sym x.stops ∙ e))

    begins-here : Begins table t left.used
    begins-here = by k unbroken left.here
      where
        by : (z : Kind) → (z ≡ Broken → ⊥) → Here table t z left.used left.rest → Begins table t left.used
        by Wrong u h = h readable
        by Past u h = begins-whole table t left.used (number-begins left.used left.rest h)
        by Deep u h = begins-whole table t left.used (paren-begins left.used left.rest h)
        by Broken u h = absurd (u refl)

    -- no longer front begins a spelling, where the form is wrong
    wrong-longest : k ≡ Wrong → (q more : List ℕ) → left.used ++ left.rest ≡ q ++ more → Begins table t q → length q ≤ length left.used
    wrong-longest w q more e b = by (le-or (length q) (length left.used))
      where
        le-or : (i j : ℕ) → (i ≤ j) ⊎ (suc j ≤ i)
        le-or zero j = inl (omega arith)
        le-or (suc i) zero = inr (omega arith)
        le-or (suc i) (suc j) = elim (le-or i j) [ inl h ↦ inl (omega (arith, h)) | inr h ↦ inr (omega (arith, h)) ]

        clash : (x : List ℕ) → q ≡ left.used ++ x → left.rest ≡ x ++ more → suc (length left.used) ≤ length q → ⊥
        clash [] f g h = let i : length q ≡ length left.used = ap length (f ∙ append-nil left.used) in omega (arith, i, h)
        clash (c ∷ x) f g h =
            let all : List ℕ = c ∷ (x ++ b.1) in
            let s = left.local readable w all (ap head (sym g)) in
            let p : q ++ b.1 ≡ left.used ++ all = ap (λ (l : List ℕ). l ++ b.1) f ∙ append_assoc left.used (c ∷ x) b.1 in
            no-end b.0 (length all) (left.used ++ all) s (lone-ends table t readable.named b.0 (left.used ++ all) (subst (IsSpelling table t b.0) p b.2))

        by : (length q ≤ length left.used) ⊎ (suc (length left.used) ≤ length q) → length q ≤ length left.used
        by (inl h) = h
        by (inr h) =
            let i : length (left.used ++ left.rest) ≡ length (q ++ more) = ap length e in
            let a = length-append left.used left.rest in
            let d = length-append q more in
            let f = further left.used left.rest q more e (omega (arith, i, a, d, h)) in
            absurd (clash f.0 f.1 f.2 h)

    applies-here : Applies table t (reason_of k) left.used left.rest
    applies-here = by k refl unbroken left.here
      where
        by : (z : Kind) → k ≡ z → (z ≡ Broken → ⊥) → Here table t z left.used left.rest → Applies table t (reason_of z) left.used left.rest
        by Wrong e u h = record {
          unspelled = λ v s. no-end v n bs (stops ∙ ap (λ z. stop z n) e) (lone-ends table t readable.named v bs (subst (IsSpelling table t v) (sym left.split) s));
          begins = begins-here;
          longest = wrong-longest e;
        }
        by Past e u h = h
        by Deep e u h = h
        by Broken e u h = absurd (u refl)

    place : length left.used ≡ length bs - n
    place =
        let w : length bs ≡ length (left.used ++ left.rest) = ap length left.split in
        let c = left.count in
        let a = length-append left.used left.rest in
        omega (arith, w, c, a)

    early-least : (p r : List ℕ) → bs ≡ p ++ r → Early (lone_read table t (p ++ r)) r → length left.used ≤ length p
    early-least p r e h =
        let m : n ≡ h.1 = stop-count (sym stops ∙ (ap (lone_read table t) e ∙ h.2)) in
        let w = h.3 in
        let i : length bs ≡ length (p ++ r) = ap length e in
        let a = length-append p r in
        let q = place in
        omega (arith, m, w, i, a, q)

    least : (other : Reason) (m : ℕ) → IsCause table t bs other m → length bs - n ≤ m
    least wrong_form m c =
        let i = place in
        let j = c.3 in
        let h = c.4.longest left.used left.rest (sym c.2 ∙ left.split) begins-here in
        omega (arith, i, j, h)
    least past_range m c =
        let i = place in
        let j = c.3 in
        let h = early-least c.0 c.1 c.2 (past-early table t readable.named c.0 c.1 c.4) in
        omega (arith, i, j, h)
    least too_deep m c =
        let i = place in
        let j = c.3 in
        let h = early-least c.0 c.1 c.2 (deep-early table t readable.named c.0 c.1 c.4) in
        omega (arith, i, j, h)

    not-wrong : Longer left.used left.rest → IsCause table t bs wrong_form (length bs - n) → ⊥
    not-wrong l c =
        let i = place in
        let j = c.3 in
        let b = l.3 in
        let a = length-append left.used l.0 in
        let h = c.4.longest (left.used ++ l.0) l.1 (sym c.2 ∙ left.split ∙ ap (λ (x : List ℕ). left.used ++ x) l.2 ∙ sym (append_assoc left.used l.0 l.1)) l.4 in
        omega (arith, i, j, b, a, h)

    form-first : reason_of k ≢ wrong_form → IsCause table t bs wrong_form (length bs - n) → ⊥
    form-first d c = by k d unbroken left.here
      where
        by : (z : Kind) → (reason_of z ≢ wrong_form) → (z ≡ Broken → ⊥) → Here table t z left.used left.rest → ⊥
        by Wrong d u h = d refl
        by Past d u h = not-wrong (number-more left.used left.rest h) c
        by Deep d u h = not-wrong (paren-more left.used left.rest h) c
        by Broken d u h = u refl

    -- the stop is the first of what is wrong
    pub first-here : IsFirst table t bs (reason_of k) (length bs - n)
    first-here = record { applies = (left.used, left.rest, left.split, sym place, applies-here); first = least; form_first = form-first }

  -- ---- only one is the first

  bytes-differ : (p r q s : List ℕ) → p ++ r ≡ q ++ s → length p ≡ length q → IsOutOfRange table t p r → IsDeep table t q s → ⊥
  bytes-differ p r q s e l x y =
      let i : length (p ++ r) ≡ length (q ++ s) = ap length e in
      let a = length-append p r in
      let b = length-append q s in
      let f = further p r q s e (omega (arith, i, a, b, l)) in
      same f.0 f.1 f.2
    where
      digit-paren : (d : ℕ) → is_digit d ≡ true → d ≡ 40 → ⊥
      digit-paren d h e = grind (arith, nat_tests)

      by : {sign : List ℕ} → IsSign sign → (d : ℕ) (ds more tail : List ℕ) → AreDigits (d ∷ ds) → (sign ++ d ∷ ds) ++ more ≡ 40 ∷ tail → ⊥
      by no_sign d ds more tail h e = digit-paren d h.0 (same_list e).0
      by minus_sign d ds more tail h e = let k : 45 ≡ 40 = (same_list e).0 in omega (arith, k)

      same : (z : List ℕ) → q ≡ p ++ z → r ≡ z ++ s → ⊥
      same [] f g = by x.is_sign x.first x.digits x.more y.more x.are_digits (sym x.here ∙ g ∙ y.here)
      same (c ∷ z) f g = let j : length q ≡ length (p ++ c ∷ z) = ap length f in let k = length-append p (c ∷ z) in omega (arith, j, k, l)

  same-reason : (bs : List ℕ) (a b : Reason) (n : ℕ) → IsFirst table t bs a n → IsFirst table t bs b n → a ≡ b
  same-reason bs wrong_form wrong_form n x y = refl
  same-reason bs wrong_form past_range n x y = absurd (y.form_first (λ e. cc) x.applies)
  same-reason bs wrong_form too_deep n x y = absurd (y.form_first (λ e. cc) x.applies)
  same-reason bs past_range wrong_form n x y = absurd (x.form_first (λ e. cc) y.applies)
  same-reason bs past_range past_range n x y = refl
  same-reason bs past_range too_deep n x y = absurd (bytes-differ x.applies.0 x.applies.1 y.applies.0 y.applies.1 (sym x.applies.2 ∙ y.applies.2) (sym x.applies.3 ∙ y.applies.3) x.applies.4 y.applies.4)
  same-reason bs too_deep wrong_form n x y = absurd (x.form_first (λ e. cc) y.applies)
  same-reason bs too_deep past_range n x y = absurd (bytes-differ y.applies.0 y.applies.1 x.applies.0 x.applies.1 (sym y.applies.2 ∙ x.applies.2) (sym y.applies.3 ∙ x.applies.3) y.applies.4 x.applies.4)
  same-reason bs too_deep too_deep n x y = refl

  pub same-first : (bs : List ℕ) (a b : Reason) (n m : ℕ) → IsFirst table t bs a n → IsFirst table t bs b m → (a ≡ b) × (n ≡ m)
  same-first bs a b n m x y =
      let i = x.first b m y.applies in
      let j = y.first a n x.applies in
      let e : m ≡ n = omega (arith, i, j) in
      (same-reason bs a b n x (subst (IsFirst table t bs b) e y), sym e)

  -- nothing is wrong with what is read
  pub read-sound : (bs : List ℕ) (v : Value) → lone_read table t bs ≡ ok v [] → IsSpelling table t v bs → (reason : Reason) (n : ℕ) → IsCause table t bs reason n → ⊥
  read-sound bs v e s wrong_form n c = c.4.unspelled v (subst (IsSpelling table t v) c.2 s)
  read-sound bs v e s past_range n c = let h = past-early table t readable.named c.0 c.1 c.4 in no_stop (sym e ∙ (ap (lone_read table t) c.2 ∙ h.2))
  read-sound bs v e s too_deep n c = let h = deep-early table t readable.named c.0 c.1 c.4 in no_stop (sym e ∙ (ap (lone_read table t) c.2 ∙ h.2))
