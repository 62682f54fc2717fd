-- What a reader's outcome says of the bytes: what is read stands in front, and each byte is looked at once.
use Rattle.std.proofs.Common.{◌≡◌, ℕ, Bool, true, false, cond, List, [], ◌∷◌, ◌++◌, length, Option, Some, None, refl, sym, ap, subst, ◌∙◌, append_assoc}
use Rattle.txs_values.specs.declared.reading.Kind.{Kind}
use Rattle.txs_values.specs.declared.reading.Kind.TheVariants.{Wrong}
use Rattle.txs_values.specs.Spelling.{is_blank, past_blanks}
use Rattle.txs_values.specs.Spelled.{AreBlanks}
use Rattle.txs_values.specs.Reading.{Outcome, ok, stop, after, with_front}
use Rattle.txs_values.proofs.spellings.Bytes.{Stops, blanks-parts, past_blanks-is}

abbrev pub head : List ℕ → Option ℕ
head [] = None
head (b ∷ bs) = Some b

-- what is read, and that the same is read before all that begins as what follows it
pub record Got (N : Type 0) {A : Type 0} (f : List ℕ → Outcome A) (S : A → List ℕ → Type 0) (bs : List ℕ) (a : A) (r : List ℕ) : Type 0 where
  pub used : List ℕ
  pub split : bs ≡ used ++ r
  pub spelled : S a used
  pub local : N → (w : List ℕ) → head w ≡ head r → f (used ++ w) ≡ ok a w

-- where reading stops, and that a wrong byte stops it whatever follows
pub record Left (N : Type 0) {A : Type 0} (f : List ℕ → Outcome A) (H : Kind → List ℕ → List ℕ → Type 0) (bs : List ℕ) (k : Kind) (n : ℕ) : Type 0 where
  pub used : List ℕ
  pub rest : List ℕ
  pub split : bs ≡ used ++ rest
  pub count : n ≡ length rest
  pub here : H k used rest
  pub local : N → k ≡ Wrong → (w : List ℕ) → head w ≡ head rest → f (used ++ w) ≡ stop Wrong (length w)

abbrev pub Found : Type 0 → {A : Type 0} → (List ℕ → Outcome A) → (A → List ℕ → Type 0) → (Kind → List ℕ → List ℕ → Type 0) → List ℕ → Outcome A → Type 0
Found N f S H bs (ok a r) = Got N f S bs a r
Found N f S H bs (stop k n) = Left N f H bs k n

abbrev pub Sound : Type 0 → {A : Type 0} → (List ℕ → Outcome A) → (A → List ℕ → Type 0) → (Kind → List ℕ → List ℕ → Type 0) → Type 0
Sound N f S H = (bs : List ℕ) → Found N f S H bs (f bs)

-- heads that are seen before more bytes
pub head-before : (u r w : List ℕ) → head w ≡ head r → head (u ++ w) ≡ head (u ++ r)
head-before [] r w h = h
head-before (c ∷ u) r w h = refl

pub head-stops : (p : ℕ → Bool) (r w : List ℕ) → head w ≡ head r → Stops p r → Stops p w
head-stops p r [] h s = tt
head-stops p [] (c ∷ w) h s = absurd (cc)
head-stops p (b ∷ r) (c ∷ w) h s = let e : c ≡ b = cc in ap p e ∙ s

-- ---- one after another

module _ (N : Type 0) {A B : Type 0} (f : List ℕ → Outcome A) (g : A → List ℕ → Outcome B) (S : A → List ℕ → Type 0) (T : B → List ℕ → Type 0) (H : Kind → List ℕ → List ℕ → Type 0) where
  abbrev both : List ℕ → Outcome B
  both bs = after (f bs) g

  then_found : (bs r : List ℕ) (a : A) (o : Outcome B) (x : Got N f S bs a r) → Found N (g a) (λ b v. T b (x.used ++ v)) (λ k v q. H k (x.used ++ v) q) r o → Found N both T H bs o
  then_found bs r a (ok b q) x y = record {
    used = x.used ++ y.used;
    split = x.split ∙ ap (λ (v : List ℕ). x.used ++ v) y.split ∙ sym (append_assoc x.used y.used q);
    spelled = y.spelled;
    local = λ nn w h.
        let k : head (y.used ++ w) ≡ head r = head-before y.used q w h ∙ ap head (sym y.split) in
        ap both (append_assoc x.used y.used w) ∙ ap (λ o. after o g) (x.local nn (y.used ++ w) k) ∙ y.local nn w h;
  }
  then_found bs r a (stop k n) x y = record {
    used = x.used ++ y.used;
    rest = y.rest;
    split = x.split ∙ ap (λ (v : List ℕ). x.used ++ v) y.split ∙ sym (append_assoc x.used y.used y.rest);
    count = y.count;
    here = y.here;
    local = λ nn e w h.
        let k : head (y.used ++ w) ≡ head r = head-before y.used y.rest w h ∙ ap head (sym y.split) in
        ap both (append_assoc x.used y.used w) ∙ ap (λ o. after o g) (x.local nn (y.used ++ w) k) ∙ y.local nn e w h;
  }

  after_found : (bs : List ℕ) (o : Outcome A) → Found N f S H bs o → ((a : A) (u : List ℕ) → S a u → Sound N (g a) (λ b v. T b (u ++ v)) (λ k v r. H k (u ++ v) r))
      → Found N both T H bs (after o g)
  after_found bs (ok a r) x second = then_found bs r a (g a r) x (second a x.used x.spelled r)
  after_found bs (stop k n) x second = record {
    used = x.used;
    rest = x.rest;
    split = x.split;
    count = x.count;
    here = x.here;
    local = λ nn e w h. ap (λ o. after o g) (x.local nn e w h);
  }

  pub sound_after : Sound N f S H → ((a : A) (u : List ℕ) → S a u → Sound N (g a) (λ b v. T b (u ++ v)) (λ k v r. H k (u ++ v) r)) → Sound N both T H
  sound_after first second bs = after_found bs (f bs) (first bs) second

-- ---- at once

pub found-ok : (N : Type 0) {A : Type 0} (f : List ℕ → Outcome A) (S : A → List ℕ → Type 0) (H : Kind → List ℕ → List ℕ → Type 0) (bs : List ℕ) (a : A)
    → S a [] → ((w : List ℕ) → head w ≡ head bs → f w ≡ ok a w) → Found N f S H bs (ok a bs)
found-ok N f S H bs a s l = record { used = []; split = refl; spelled = s; local = λ _. l }

pub found-wrong : (N : Type 0) {A : Type 0} (f : List ℕ → Outcome A) (S : A → List ℕ → Type 0) (H : Kind → List ℕ → List ℕ → Type 0) (bs : List ℕ) (n : ℕ)
    → n ≡ length bs → H Wrong [] bs → ((w : List ℕ) → head w ≡ head bs → f w ≡ stop Wrong (length w)) → Found N f S H bs (stop Wrong n)
found-wrong N f S H bs n e h l = record { used = []; rest = bs; split = refl; count = e; here = h; local = λ _ _. l }

-- the end of the text
pub head-none : (w : List ℕ) → head w ≡ None → w ≡ []
head-none [] h = refl
head-none (c ∷ w) h = absurd (cc)

pub head-some : (w : List ℕ) (b : ℕ) → head w ≡ Some b → (v : List ℕ) × (w ≡ b ∷ v)
head-some [] b h = absurd (cc)
head-some (c ∷ w) b h = (w, (let e : c ≡ b = cc in ap (λ (x : ℕ). x ∷ w) e))

-- ---- one byte taken

module _ (N : Type 0) {A : Type 0} (f go : List ℕ → Outcome A) (S : A → List ℕ → Type 0) (H : Kind → List ℕ → List ℕ → Type 0) (c : ℕ) (q : (w : List ℕ) → f (c ∷ w) ≡ go w) where
  pub found-taken : (bs : List ℕ) (o : Outcome A) → Found N go (λ a v. S a (c ∷ v)) (λ k v r. H k (c ∷ v) r) bs o → Found N f S H (c ∷ bs) o
  found-taken bs (ok a r) x = record { used = c ∷ x.used; split = ap (λ (v : List ℕ). c ∷ v) x.split; spelled = x.spelled; local = λ nn w h. q (x.used ++ w) ∙ x.local nn w h }
  found-taken bs (stop k n) x = record {
    used = c ∷ x.used;
    rest = x.rest;
    split = ap (λ (v : List ℕ). c ∷ v) x.split;
    count = x.count;
    here = x.here;
    local = λ nn e w h. q (x.used ++ w) ∙ x.local nn e w h;
  }

-- ---- with more before what is read

module _ (N : Type 0) {A : Type 0} (front : List A) (f : List ℕ → Outcome (List A)) (S : List A → List ℕ → Type 0) (H : Kind → List ℕ → List ℕ → Type 0) where
  pub front-found : (bs : List ℕ) (o : Outcome (List A)) → Found N f (λ a v. S (front ++ a) v) H bs o → Found N (λ w. with_front front (f w)) S H bs (with_front front o)
  front-found bs (ok a r) x = record { used = x.used; split = x.split; spelled = x.spelled; local = λ nn w h. ap (with_front front) (x.local nn w h) }
  front-found bs (stop k n) x =
      record { used = x.used; rest = x.rest; split = x.split; count = x.count; here = x.here; local = λ nn e w h. ap (with_front front) (x.local nn e w h) }

  pub sound_front : Sound N f (λ a v. S (front ++ a) v) H → Sound N (λ w. with_front front (f w)) S H
  sound_front s bs = front-found bs (f bs) (s bs)

-- ---- the same, said otherwise

module _ (N : Type 0) {A : Type 0} (f : List ℕ → Outcome A) (S T : A → List ℕ → Type 0) (H K : Kind → List ℕ → List ℕ → Type 0)
    (st : (a : A) (u : List ℕ) → S a u → T a u) (hk : (k : Kind) (u r : List ℕ) → H k u r → K k u r) where
  pub found-map : (bs : List ℕ) (o : Outcome A) → Found N f S H bs o → Found N f T K bs o
  found-map bs (ok a r) x = record { used = x.used; split = x.split; spelled = st a x.used x.spelled; local = x.local }
  found-map bs (stop k n) x = record { used = x.used; rest = x.rest; split = x.split; count = x.count; here = hk k x.used x.rest x.here; local = x.local }

  pub sound_map : Sound N f S H → Sound N f T K
  sound_map s bs = found-map bs (f bs) (s bs)

-- ---- behind blanks

pub past-stops : (bs : List ℕ) → Stops is_blank (past_blanks bs)
past-stops [] = tt
past-stops (b ∷ bs) = by (is_blank b) refl (past-stops bs)
  where
    by : (t : Bool) → is_blank b ≡ t → Stops is_blank (past_blanks bs) → Stops is_blank (cond t (past_blanks bs) (b ∷ bs))
    by true e h = h
    by false e h = e

module _ (N : Type 0) {A : Type 0} (f : List ℕ → Outcome A) (T : A → List ℕ → Type 0) (H : Kind → List ℕ → List ℕ → Type 0) (ws : List ℕ) (ab : AreBlanks ws) (bs : List ℕ) (sb : Stops is_blank bs) where
  again : (u r w : List ℕ) → bs ≡ u ++ r → head w ≡ head r → past_blanks ((ws ++ u) ++ w) ≡ u ++ w
  again u r w e h =
      ap past_blanks (append_assoc ws u w) ∙ past_blanks-is ws (u ++ w) ab (head-stops is_blank bs (u ++ w) (head-before u r w h ∙ ap head (sym e)) sb)

  blank_found : (o : Outcome A) → Found N f (λ a v. T a (ws ++ v)) (λ k v r. H k (ws ++ v) r) bs o → Found N (λ w. f (past_blanks w)) T H (ws ++ bs) o
  blank_found (ok a r) x = record {
    used = ws ++ x.used;
    split = ap (λ (v : List ℕ). ws ++ v) x.split ∙ sym (append_assoc ws x.used r);
    spelled = x.spelled;
    local = λ nn w h. ap f (again x.used r w x.split h) ∙ x.local nn w h;
  }
  blank_found (stop k n) x = record {
    used = ws ++ x.used;
    rest = x.rest;
    split = ap (λ (v : List ℕ). ws ++ v) x.split ∙ sym (append_assoc ws x.used x.rest);
    count = x.count;
    here = x.here;
    local = λ nn e w h. ap f (again x.used x.rest w x.split h) ∙ x.local nn e w h;
  }

pub sound_blanks : (N : Type 0) {A : Type 0} (f : List ℕ → Outcome A) (T : A → List ℕ → Type 0) (H : Kind → List ℕ → List ℕ → Type 0)
    → ((ws : List ℕ) → AreBlanks ws → Sound N f (λ a v. T a (ws ++ v)) (λ k v r. H k (ws ++ v) r)) → Sound N (λ bs. f (past_blanks bs)) T H
sound_blanks N f T H s bs =
    let b = blanks-parts bs in
    subst (λ l. Found N (λ w. f (past_blanks w)) T H l (f (past_blanks bs))) (sym b.parts)
    (blank_found N f T H b.front b.blanks (past_blanks bs) (past-stops bs) (f (past_blanks bs)) (s b.front b.blanks (past_blanks bs)))
