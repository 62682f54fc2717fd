-- What the reader of values finds: what is read is spelled, and what is wrong stands where the reader stops.
use Rattle.std.proofs.Common.{◌≡◌, ℕ, suc, ◌≤◌, Bool, true, false, cond, ◌⊎◌, inl, inr, eqb, eqb-true, eq-eqb, min, List, [], ◌∷◌, ◌++◌, length, Some, None, codes, refl, sym, ap, subst, ◌∙◌, append_assoc}
use Rattle.std.proofs.lemmas.Bool.{cond-true, cond-false}
use Rattle.std.specs.Str.{is_utf8}
use Rattle.txs_values.specs.declared.reading.Kind.{Kind}
use Rattle.txs_values.specs.declared.reading.Kind.TheVariants.{Wrong, Past, Deep, Broken}
use Rattle.txs_values.specs.Value.{Ty, named, Value, bool, text, cons, Values, packed, Field, Table, place_of, field_types, fields_in, HasType, has_fields, height, heights}
use Rattle.txs_values.specs.Spelled.{AreBlanks, Quotes, Spells, SpellsEach}
use Rattle.txs_values.specs.Faults.{IsReadable, Begins, Stands, IsOutOfRange, IsDeep}
use Rattle.txs_values.specs.Reading.{Outcome, ok, stop, after, either, name_read, truth_read, quoted_read, text_read, Reader}
use Rattle.txs_values.proofs.spellings.Found.{Got, Left, Found, Sound, head-none, head-some, found-wrong}
use Rattle.txs_values.proofs.spellings.Tokens.{sound_name, BeginsName, name-is, sound_quoted, IsBroken, QuotedBy, BeginsQuoted}
use Rattle.txs_values.proofs.spellings.Names.{name-front, goes-head, either-left, left-at, left-after}
use Rattle.txs_values.proofs.spellings.Starts.{BeginsIn, begins-whole, stands-begins}

-- what is wrong, where the bytes in front are p and r is left
abbrev pub Here : Table → Ty → Kind → List ℕ → List ℕ → Type 0
Here table t Wrong p r = IsReadable table t → Begins table t p
Here table t Past p r = IsOutOfRange table t p r
Here table t Deep p r = IsDeep table t p r
Here table t Broken p r = IsBroken r

-- spelled, of its type, and within the levels
pub record Good (table : Table) (left : ℕ) (u : Ty) (v : Value) (ws : List ℕ) : Type 0 where
  pub spells : Spells table u v ws
  pub typed : HasType table v u
  pub low : height v ≤ suc left

pub record GoodEach (table : Table) (left : ℕ) (ts : List Ty) (vs : Values) (ws : List ℕ) : Type 0 where
  pub spelled : List ℕ
  pub behind : List ℕ
  pub blanks : AreBlanks behind
  pub parts : ws ≡ spelled ++ (behind ++ 41 ∷ [])
  pub spells : SpellsEach table ts vs spelled
  pub typed : has_fields table vs (Some ts) ≡ true
  pub low : heights vs ≤ suc left

abbrev pub GoodArguments : Table → ℕ → List Field → List Value → List ℕ → Type 0
GoodArguments table left [] vs ws = (vs ≡ []) × (ws ≡ [])
GoodArguments table left (f ∷ fs) vs ws = GoodEach table left (field_types (f ∷ fs)) (packed vs) ws

-- ---- truth values

module _ (N : Type 0) where
  abbrev pub IsTruth : Value → List ℕ → Type 0
  IsTruth v u = ((v ≡ bool true) × (u ≡ codes "True")) ⊎ ((v ≡ bool false) × (u ≡ codes "False"))

  abbrev pub BeginsTruth : Kind → List ℕ → List ℕ → Type 0
  BeginsTruth k u r = (k ≡ Wrong) × ((y : List ℕ) × ((codes "True" ≡ u ++ y) ⊎ (codes "False" ≡ u ++ y)))

  false-true : (w : List ℕ) → name_read (codes "True") (codes "False" ++ w) ≡ stop Wrong (length (codes "False" ++ w))
  false-true w = refl

  truth_outcome : (bs : List ℕ) (o p : Outcome (Unit {0})) → name_read (codes "True") bs ≡ o → name_read (codes "False") bs ≡ p
      → Found N truth_read IsTruth BeginsTruth bs (either (after o (λ _ r. ok (bool true) r)) (after p (λ _ r. ok (bool false) r)))
  truth_outcome bs (ok a r) p e f =
      let n = name-front (codes "True") bs r e in
      record {
        used = codes "True";
        split = n.0;
        spelled = inl (refl, refl);
        local = λ _ w h.
            ap (λ o. either (after o (λ _ r. ok (bool true) r)) (after (name_read (codes "False") (codes "True" ++ w)) (λ _ r. ok (bool false) r))) (name-is (codes "True") w (goes-head w r h ∙ n.1));
      }
  truth_outcome bs (stop k i) (ok a r) e f =
      let n = name-front (codes "False") bs r f in
      record {
        used = codes "False";
        split = n.0;
        spelled = inr (refl, refl);
        local = λ _ w h.
            ap (λ o. either (stop Wrong (length (codes "False" ++ w))) (after o (λ _ r. ok (bool false) r))) (name-is (codes "False") w (goes-head w r h ∙ n.1));
      }
  truth_outcome bs (stop k i) (stop l j) e f =
      let x : Left N (name_read (codes "True")) (BeginsName (codes "True")) bs k i = subst (λ (z : Outcome (Unit {0})). Found N (name_read (codes "True")) (λ _ u. u ≡ codes "True") (BeginsName (codes "True")) bs z) e (sound_name N (codes "True") bs) in
      let y : Left N (name_read (codes "False")) (BeginsName (codes "False")) bs l j = subst (λ (z : Outcome (Unit {0})). Found N (name_read (codes "False")) (λ _ u. u ≡ codes "False") (BeginsName (codes "False")) bs z) f (sound_name N (codes "False") bs) in
      let a = left-after N (name_read (codes "True")) (λ _ r. ok (bool true) r) BeginsTruth bs Wrong i
      (left-at N (name_read (codes "True")) (BeginsName (codes "True")) BeginsTruth bs Wrong i (λ u r b. (refl, (b.1, inl b.2))) (subst (λ z. Left N (name_read (codes "True")) (BeginsName (codes "True")) bs z i) x.here.0 x)) in
      let b = left-after N (name_read (codes "False")) (λ _ r. ok (bool false) r) BeginsTruth bs Wrong j
      (left-at N (name_read (codes "False")) (BeginsName (codes "False")) BeginsTruth bs Wrong j (λ u r b. (refl, (b.1, inr b.2))) (subst (λ z. Left N (name_read (codes "False")) (BeginsName (codes "False")) bs z j) y.here.0 y)) in
      subst (λ z. Left N truth_read BeginsTruth bs z (min i j)) (sym y.here.0)
      (either-left N (λ w. after (name_read (codes "True") w) (λ _ r. ok (bool true) r)) (λ w. after (name_read (codes "False") w) (λ _ r. ok (bool false) r)) BeginsTruth bs i j a b)

  pub sound_truth : Sound N truth_read IsTruth BeginsTruth
  sound_truth bs = truth_outcome bs (name_read (codes "True") bs) (name_read (codes "False") bs) refl refl

-- ---- texts

module _ (N : Type 0) (H : Kind → List ℕ → List ℕ → Type 0) (wrong : (u r : List ℕ) → ((u ≡ []) ⊎ ((v : List ℕ) × (a : List ℕ) × (more : List ℕ) × (u ≡ 34 ∷ v) × Quotes a (v ++ more))) → H Wrong u r)
    (broken : (r : List ℕ) → IsBroken r → H Broken [] r) where
  abbrev pub IsQuoted : Value → List ℕ → Type 0
  IsQuoted v u = (a : List ℕ) × (ws : List ℕ) × (v ≡ text a) × Quotes a ws × (u ≡ 34 ∷ (ws ++ 34 ∷ []))

  -- with the byte count of the whole text, which is told where it is broken
  text_end : (bs rest : List ℕ) → bs ≡ 34 ∷ rest → (a end : List ℕ) → Got N (quoted_read false) (QuotedBy false) rest a end → quoted_read false rest ≡ ok a end → (t : Bool) → is_utf8 a ≡ t
      → Found N text_read IsQuoted H bs (cond t (ok (text a) end) (stop Broken (length bs)))
  text_end bs rest e a end g q true u = record {
    used = 34 ∷ g.used;
    split = e ∙ ap (λ (l : List ℕ). 34 ∷ l) g.split;
    spelled = (a, g.spelled.0, refl, g.spelled.2, ap (λ (l : List ℕ). 34 ∷ l) g.spelled.1);
    local = λ nn w h. ap (λ o. after o (λ t end. cond (is_utf8 t) (ok (text t) end) (stop Broken (length (34 ∷ (g.used ++ w)))))) (g.local nn w h) ∙ cond-true (is_utf8 a) (ok (text a) w) (stop Broken (length (34 ∷ (g.used ++ w)))) u;
  }
  text_end bs rest e a end g q false u = record {
    used = [];
    rest = bs;
    split = refl;
    count = refl;
    here = broken bs (g.spelled.0, a, end, e ∙ ap (λ (l : List ℕ). 34 ∷ l) (g.split ∙ ap (λ (l : List ℕ). l ++ end) g.spelled.1 ∙ append_assoc g.spelled.0 (34 ∷ []) end), g.spelled.2, u);
    local = λ _ k w h. absurd (cc);
  }

  text_behind : (rest : List ℕ) (o : Outcome (List ℕ)) → quoted_read false rest ≡ o → Found N (quoted_read false) (QuotedBy false) (BeginsQuoted false) rest o
      → Found N text_read IsQuoted H (34 ∷ rest) (after o (λ t end. cond (is_utf8 t) (ok (text t) end) (stop Broken (length (34 ∷ rest)))))
  text_behind rest (ok a end) q g = text_end (34 ∷ rest) rest refl a end g q (is_utf8 a) refl
  text_behind rest (stop k n) q g = subst (λ z. Left N text_read H (34 ∷ rest) z n) (sym g.here.0) (record {
    used = 34 ∷ g.used;
    rest = g.rest;
    split = ap (λ (l : List ℕ). 34 ∷ l) g.split;
    count = g.count;
    here = wrong (34 ∷ g.used) g.rest (inr (g.used, g.here.1, g.here.2, refl, g.here.3));
    local = λ nn e w h. ap (λ o. after o (λ t end. cond (is_utf8 t) (ok (text t) end) (stop Broken (length (34 ∷ (g.used ++ w)))))) (g.local nn g.here.0 w h);
  })

  pub sound_text : Sound N text_read IsQuoted H
  sound_text [] = found-wrong N text_read IsQuoted H [] 0 refl (wrong [] [] (inl refl)) (λ w h. ap text_read (head-none w h) ∙ ap (λ (l : List ℕ). stop Wrong (length l)) (sym (head-none w h)))
  sound_text (b ∷ bs) = by (eqb b 34) refl
    where
      by : (t : Bool) → eqb b 34 ≡ t
          → Found N text_read IsQuoted H (b ∷ bs) (after (cond t (ok (tt {0}) bs) (stop Wrong (length (b ∷ bs)))) (λ _ r. after (quoted_read false r) (λ t end. cond (is_utf8 t) (ok (text t) end) (stop Broken (length (b ∷ bs))))))
      by true e =
          subst (λ (c : ℕ). Found N text_read IsQuoted H (c ∷ bs) (after (quoted_read false bs) (λ t end. cond (is_utf8 t) (ok (text t) end) (stop Broken (length (c ∷ bs)))))) (sym (eqb-true b 34 e))
          (text_behind bs (quoted_read false bs) refl (sound_quoted N false bs))
      by false e = found-wrong N text_read IsQuoted H (b ∷ bs) (length (b ∷ bs)) refl (wrong [] (b ∷ bs) (inl refl)) (λ w k. other w (head-some w b k))
        where
          other : (w : List ℕ) → ((v : List ℕ) × (w ≡ b ∷ v)) → text_read w ≡ stop Wrong (length w)
          other w p =
              subst (λ l. text_read l ≡ stop Wrong (length l)) (sym p.1)
              (ap (λ o. after o (λ _ r. after (quoted_read false r) (λ t end. cond (is_utf8 t) (ok (text t) end) (stop Broken (length (b ∷ p.0)))))) (cond-false (eqb b 34) (ok tt p.0) (stop Wrong (length (b ∷ p.0))) e))

-- ---- one level

pub typed-cons : (table : Table) (c k : ℕ) (name : List ℕ) (fs : List Field) (vs : Values)
    → place_of table c ≡ Some (record { ty = k; constructor = record { name = name; fields = fs } })
    → has_fields table vs (Some (field_types fs)) ≡ true → HasType table (cons c vs) (named k)
typed-cons table c k name fs vs e h =
    ap (λ o. has_fields table vs (fields_in o k)) e
    ∙ ap (λ t. has_fields table vs (cond t (Some (field_types fs)) None)) (eq-eqb k k refl) ∙ h

pub same-place : (k : Kind) (table : Table) (t : Ty) (p q r : List ℕ) → p ≡ q → Here table t k p r → Here table t k q r
same-place k table t p q r e h = subst (λ l. Here table t k l r) e h

-- what is begun at a place begins the whole
pub begun : (table : Table) (t : Ty) {front : List ℕ} {level : ℕ} {u : Ty} → Stands table t front level u → (p r : List ℕ) → (IsReadable table t → BeginsIn table u p) → Here table t Wrong (front ++ p) r
begun table t {front} st p r b = λ readable. begins-whole table t (front ++ p) (stands-begins table t readable st p (b readable))

abbrev pub SoundBelow : Table → Ty → Reader → ℕ → ℕ → Type 0
SoundBelow table t below left level =
    (front : List ℕ) (u : Ty) → Stands table t front level u → Sound (IsReadable table t) (below u) (Good table left u) (λ k w r. Here table t k (front ++ w) r)
