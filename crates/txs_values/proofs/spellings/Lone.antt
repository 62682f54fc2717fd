-- What the reader of a whole text finds.
use Rattle.std.proofs.Common.{◌≡◌, ℕ, ◌+◌, ◌≤◌, inl, inr, List, [], ◌∷◌, ◌++◌, length, refl, sym, ap, subst, ◌∙◌, arith}
use Rattle.std.proofs.lemmas.List.{append-nil}
use Rattle.std.specs.Str.{IsUtf8}
use Rattle.txs_values.specs.declared.reading.Kind.{Kind}
use Rattle.txs_values.specs.declared.reading.Kind.TheVariants.{Wrong, Broken}
use Rattle.txs_values.specs.Value.{Ty, Value, Table, HasType, size, height, value_size_limit, value_height_limit}
use Rattle.txs_values.specs.Spelling.{past_blanks}
use Rattle.txs_values.specs.Spelled.{AreBlanks, IsSpelling, IsNamed, IsAllowed}
use Rattle.txs_values.specs.Faults.{IsReadable, as_whole}
use Rattle.txs_values.specs.Reading.{Outcome, ok, stop, after, value_read, levels_below, ended, lone_read}
use Rattle.txs_values.proofs.spellings.Bytes.{stops-all, past_blanks-all}
use Rattle.txs_values.proofs.spellings.Found.{head, Got, Left, Found, Sound, found-wrong, sound_after, sound_blanks}
use Rattle.txs_values.proofs.spellings.Levels.{Here, Good}
use Rattle.txs_values.proofs.spellings.Soundness.{value-sound}
use Rattle.txs_values.proofs.spellings.Finds.{Ends, Fine, value-ends, limit-after}
use Rattle.txs_values.proofs.spellings.TextsIn.{read_texts}
use Rattle.txs_values.proofs.spellings.Utf8.{unbroken}

pub levels-all : 1 + levels_below ≡ value_height_limit
unfolding levels_below value_height_limit
levels-all = refl

-- spelled with blanks at its end, of its type, and not too high
pub record Whole (table : Table) (t : Ty) (v : Value) (ws : List ℕ) : Type 0 where
  pub spelling : IsSpelling table t v ws
  pub typed : HasType table v t
  pub low : height v ≤ value_height_limit

whole-from : (table : Table) (t : Ty) (v : Value) (u bl : List ℕ) → Good table levels_below t v u → AreBlanks bl → Whole table t v (u ++ bl)
whole-from table t v u bl g ab =
    let l = g.low in
    let e = levels-all in
    record { spelling = record { front = u; behind = bl; parts = refl; spells = g.spells; blanks = ab }; typed = g.typed; low = omega (arith, l, e) }

ended-sound : (table : Table) (t : Ty) (v : Value) (u : List ℕ) → Good table levels_below t v u → (bl : List ℕ) → AreBlanks bl
    → Sound (IsReadable table t) (ended v) (λ x w. Whole table t x (u ++ (bl ++ w))) (λ k w r. Here table t k (u ++ (bl ++ w)) r)
ended-sound table t v u g bl ab [] =
    record { used = []; split = refl; spelled = subst (λ (l : List ℕ). Whole table t v (u ++ l)) (sym (append-nil bl)) (whole-from table t v u bl g ab); local = λ _ w h. by w h }
  where
    by : (w : List ℕ) → head w ≡ head [] → ended v w ≡ ok v w
    by [] h = refl
    by (c ∷ w) h = absurd (cc)
ended-sound table t v u g bl ab (b ∷ bs) = found-wrong (IsReadable table t) (ended v) (λ x w. Whole table t x (u ++ (bl ++ w))) (λ k w r. Here table t k (u ++ (bl ++ w)) r) (b ∷ bs) (length (b ∷ bs)) refl
    (λ _. (v, [], subst (IsSpelling table t v) (sym (append-nil (u ++ (bl ++ [])) ∙ ap (λ (l : List ℕ). u ++ l) (append-nil bl))) (whole-from table t v u bl g ab).spelling)) (λ w h. by w h)
  where
    by : (w : List ℕ) → head w ≡ head (b ∷ bs) → ended v w ≡ stop Wrong (length w)
    by [] h = absurd (cc)
    by (c ∷ w) h = refl

pub lone-sound : (table : Table) (t : Ty) → Sound (IsReadable table t) (lone_read table t) (Whole table t) (Here table t)
lone-sound table t =
    sound_after (IsReadable table t) (value_read table levels_below t) (λ v r. ended v (past_blanks r)) (Good table levels_below t) (Whole table t) (Here table t)
    (value-sound table t levels_below 1 levels-all [] t as_whole)
    (λ v u g. sound_blanks (IsReadable table t) (ended v) (λ x w. Whole table t x (u ++ w)) (λ k w r. Here table t k (u ++ w) r) (λ bl ab. ended-sound table t v u g bl ab))

-- a whole spelling is found
pub lone-ends : (table : Table) (t : Ty) → IsNamed table → (v : Value) (bs : List ℕ) → IsSpelling table t v bs → Ends (Fine table levels_below t v) (lone_read table t bs) v []
lone-ends table t named v bs s =
    subst (λ l. Ends (Fine table levels_below t v) (lone_read table t l) v []) (sym s.parts)
    (by (value-ends table named levels_below t v s.front s.behind s.spells (stops-all s.behind s.blanks)))
  where
    by : Ends (Fine table levels_below t v) (value_read table levels_below t (s.front ++ s.behind)) v s.behind → Ends (Fine table levels_below t v) (lone_read table t (s.front ++ s.behind)) v []
    by (inl e) = inl (ap (λ o. after o (λ v r. ended v (past_blanks r))) e ∙ ap (ended v) (past_blanks-all s.behind s.blanks))
    by (inr l) = inr (limit-after (value_read table levels_below t (s.front ++ s.behind)) (λ v r. ended v (past_blanks r)) s.behind [] l (λ f. f) (omega arith))

-- ---- a value that is read

pub lone-read : (table : Table) (t : Ty) (bs r : List ℕ) (v : Value) → lone_read table t bs ≡ ok v [] → size v ≤ value_size_limit → IsSpelling table t v bs × IsAllowed table t v
lone-read table t bs r v e small =
    let g : Got (IsReadable table t) (lone_read table t) (Whole table t) bs v [] = subst (λ (o : Outcome Value). Found (IsReadable table t) (lone_read table t) (Whole table t) (Here table t) bs o) e (lone-sound table t bs) in
    let w = g.spelled in
    (subst (IsSpelling table t v) (sym (g.split ∙ append-nil g.used)) w.spelling, record { typed = w.typed; texts = read_texts table t bs [] v e; small = small; low = w.low })

pub lone-spelled : (table : Table) (t : Ty) (bs : List ℕ) (v : Value) → lone_read table t bs ≡ ok v [] → IsSpelling table t v bs
lone-spelled table t bs v e =
    let g : Got (IsReadable table t) (lone_read table t) (Whole table t) bs v [] = subst (λ (o : Outcome Value). Found (IsReadable table t) (lone_read table t) (Whole table t) (Here table t) bs o) e (lone-sound table t bs) in
    subst (IsSpelling table t v) (sym (g.split ∙ append-nil g.used)) g.spelled.spelling

-- ---- a stop

pub lone-left : (table : Table) (t : Ty) (bs : List ℕ) (k : Kind) (n : ℕ) → lone_read table t bs ≡ stop k n → Left (IsReadable table t) (lone_read table t) (Here table t) bs k n
lone-left table t bs k n e = subst (λ (o : Outcome Value). Found (IsReadable table t) (lone_read table t) (Whole table t) (Here table t) bs o) e (lone-sound table t bs)

pub lone-unbroken : (table : Table) (t : Ty) (bs : List ℕ) (k : Kind) (n : ℕ) → lone_read table t bs ≡ stop k n → IsUtf8 bs → k ≡ Broken → ⊥
lone-unbroken table t bs k n e u b =
    let l = lone-left table t bs Broken n (e ∙ ap (λ z. stop z n) b) in
    unbroken l.used l.rest (subst (λ (x : List ℕ). IsUtf8 x) l.split u) l.here

-- no spelling of an allowed value is stopped at
pub lone-allowed : (table : Table) (t : Ty) → IsNamed table → (bs : List ℕ) (k : Kind) (n : ℕ) → lone_read table t bs ≡ stop k n → (v : Value) → IsSpelling table t v bs → IsAllowed table t v → ⊥
lone-allowed table t named bs k n e v s a = by (lone-ends table t named v bs s)
  where
    by : Ends (Fine table levels_below t v) (lone_read table t bs) v [] → ⊥
    by (inl h) = let x : ok v [] ≡ stop k n = sym h ∙ e in cc
    by (inr l) = let low = a.low in let top = levels-all in l.broken (a.typed, omega (arith, low, top), a.texts)

-- two values that one text spells, of which the one is read
pub lone-same : (table : Table) (t : Ty) → IsNamed table → (bs : List ℕ) (v w : Value) → lone_read table t bs ≡ ok v [] → IsSpelling table t w bs → v ≡ w
lone-same table t named bs v w e s = by (lone-ends table t named w bs s)
  where
    by : Ends (Fine table levels_below t w) (lone_read table t bs) w [] → v ≡ w
    by (inl h) = let x : ok v [] ≡ ok w [] = sym e ∙ h in cc
    by (inr l) = let x : ok v [] ≡ stop l.kind l.count = sym e ∙ l.stops in absurd (cc)
