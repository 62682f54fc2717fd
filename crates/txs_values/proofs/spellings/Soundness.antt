-- The reader of values is sound at each level.
use Rattle.std.proofs.Common.{◌≡◌, ℕ, zero, suc, ◌+◌, Bool, true, false, cond, ◌⊎◌, inl, inr, eqb, eqb-true, List, [], ◌∷◌, ◌++◌, length, Option, Some, None, codes, refl, sym, ap, subst, ◌∙◌, append_assoc, arith}
use Rattle.std.proofs.lemmas.Bool.{and_from}
use Rattle.std.proofs.lemmas.List.{append-nil}
use Rattle.std.specs.Str.Parse.{signed_digits_value}
use Rattle.txs_values.specs.declared.reading.Kind.{Kind}
use Rattle.txs_values.specs.declared.reading.Kind.TheVariants.{Wrong, Deep, Broken}
use Rattle.txs_values.specs.Value.{Ty, integer, truth, string, named, Value, num, bool, text, cons, Values, no_value, and_value, packed, Field, Table, place_of, field_types, value_height_limit}
use Rattle.txs_values.specs.Spelling.{is_digit}
use Rattle.txs_values.proofs.spellings.Bytes.{Stops}
use Rattle.txs_values.specs.Spelled.{AreBlanks, IsSign, Quotes, nothing, Spells, a_number, a_true, a_false, a_text, a_constant, a_made, the_last, one_more}
use Rattle.txs_values.specs.Faults.{HaveValues, NoDigit, IsReadable, Leads, no_more, Stands, as_argument}
use Rattle.txs_values.specs.Reading.{ok, stop, after, with_front, symbol_here, symbol, number_read, truth_read, text_read, made_read, Reader, mark_behind, arguments_read, full_read, enclosed_read, fields_read, level_read, value_read}
use Rattle.txs_values.proofs.spellings.Found.{Left, Sound, head-none, head-some, found-ok, found-wrong, sound_after, sound_front, sound_map, sound_blanks}
use Rattle.txs_values.proofs.spellings.Tokens.{sound_symbol_here, IsInteger, sound_number, IsBroken}
use Rattle.txs_values.proofs.spellings.Names.{IsMade, BeginsMade, sound_made}
use Rattle.txs_values.proofs.spellings.Starts.{BeginsIn, begins-front, leads-snoc, rest-behind, made-begins, have-behind, stands-valued, blanks-begin, name-begins, open-begins}
use Rattle.txs_values.proofs.spellings.Levels.{Here, Good, GoodEach, GoodArguments, IsTruth, BeginsTruth, sound_truth, IsQuoted, sound_text, typed-cons, same-place, begun, SoundBelow}

no-digit : (l : List ℕ) → Stops is_digit l → NoDigit l
no-digit [] s = tt
no-digit (b ∷ l) s = s

-- ---- the values of the built-in types, behind blanks

module _ (table : Table) (t : Ty) (left : ℕ) (front : List ℕ) (level : ℕ) (ws : List ℕ) (ab : AreBlanks ws) where
  number-begins : (u : List ℕ) → IsSign u → BeginsIn table integer (ws ++ u)
  number-begins u s = (num (signed_digits_value 10 (u ++ 48 ∷ [])), 48 ∷ [], subst (Spells table integer (num (signed_digits_value 10 (u ++ 48 ∷ [])))) (sym (append_assoc ws u (48 ∷ []))) (a_number ws u 48 [] ab s (refl, tt)))

  number-good : (v : Value) (u : List ℕ) → IsInteger v u → Good table left integer v (ws ++ u)
  number-good v u w =
      subst (λ (l : List ℕ). Good table left integer v (ws ++ l)) (sym w.parts) (subst (λ x. Good table left integer x (ws ++ (w.sign ++ w.first ∷ w.digits))) (sym w.value)
      (record { spells = a_number ws w.sign w.first w.digits ab w.is_sign w.are_digits; typed = w.in_range; low = omega arith }))

  pub integer-sound : Stands table t front level integer → Sound (IsReadable table t) number_read (λ v w. Good table left integer v (ws ++ w)) (λ k w r. Here table t k (front ++ (ws ++ w)) r)
  integer-sound st =
      sound_map (IsReadable table t) number_read IsInteger (λ v w. Good table left integer v (ws ++ w)) (λ k w r. Here table t k (front ++ (ws ++ w)) r) (λ k w r. Here table t k (front ++ (ws ++ w)) r) number-good (λ k u r h. h)
      (sound_number (IsReadable table t) (λ k w r. Here table t k (front ++ (ws ++ w)) r)
      (λ u r s. begun table t st (ws ++ u) r (λ _. number-begins u s))
      (λ r p. record {
        front = front;
        blanks = ws;
        level = level;
        sign = p.sign;
        first = p.first;
        digits = p.digits;
        more = p.more;
        before = ap (λ (l : List ℕ). front ++ l) (append-nil ws);
        stands = st;
        are_blanks = ab;
        is_sign = p.is_sign;
        are_digits = p.are_digits;
        is_past = p.is_past;
        here = p.here;
        ends = no-digit p.more p.ends;
      }))

  truth-good : (v : Value) (u : List ℕ) → IsTruth (IsReadable table t) v u → Good table left truth v (ws ++ u)
  truth-good v u (inl p) =
      subst (λ (l : List ℕ). Good table left truth v (ws ++ l)) (sym p.1) (subst (λ x. Good table left truth x (ws ++ codes "True")) (sym p.0) (record { spells = a_true ws ab; typed = refl; low = omega arith }))
  truth-good v u (inr p) =
      subst (λ (l : List ℕ). Good table left truth v (ws ++ l)) (sym p.1) (subst (λ x. Good table left truth x (ws ++ codes "False")) (sym p.0) (record { spells = a_false ws ab; typed = refl; low = omega arith }))

  truth-begins : (u y : List ℕ) → ((codes "True" ≡ u ++ y) ⊎ (codes "False" ≡ u ++ y)) → BeginsIn table truth (ws ++ u)
  truth-begins u y (inl e) = (bool true, y, subst (Spells table truth (bool true)) (ap (λ (l : List ℕ). ws ++ l) e ∙ sym (append_assoc ws u y)) (a_true ws ab))
  truth-begins u y (inr e) = (bool false, y, subst (Spells table truth (bool false)) (ap (λ (l : List ℕ). ws ++ l) e ∙ sym (append_assoc ws u y)) (a_false ws ab))

  wrong-here : (k : Kind) (p r : List ℕ) → k ≡ Wrong → Here table t Wrong p r → Here table t k p r
  wrong-here k p r e h = subst (λ z. Here table t z p r) (sym e) h

  pub truth-sound : Stands table t front level truth → Sound (IsReadable table t) truth_read (λ v w. Good table left truth v (ws ++ w)) (λ k w r. Here table t k (front ++ (ws ++ w)) r)
  truth-sound st =
      sound_map (IsReadable table t) truth_read (IsTruth (IsReadable table t)) (λ v w. Good table left truth v (ws ++ w)) (BeginsTruth (IsReadable table t)) (λ k w r. Here table t k (front ++ (ws ++ w)) r) truth-good
      (λ k u r b. wrong-here k (front ++ (ws ++ u)) r b.0 (begun table t st (ws ++ u) r (λ _. truth-begins u b.1.0 b.1.1)))
      (sound_truth (IsReadable table t))

  text-begins : (u : List ℕ) → ((u ≡ []) ⊎ ((v : List ℕ) × (a : List ℕ) × (more : List ℕ) × (u ≡ 34 ∷ v) × Quotes a (v ++ more))) → BeginsIn table string (ws ++ u)
  text-begins u (inl e) = begins-front table string (ws ++ u) (34 ∷ 34 ∷ []) (text [], [], subst (Spells table string (text [])) (shift u e) (a_text ws [] [] ab nothing))
    where
      shift : (u : List ℕ) → u ≡ [] → ws ++ (34 ∷ 34 ∷ []) ≡ ((ws ++ u) ++ (34 ∷ 34 ∷ [])) ++ []
      shift u e = ap (λ (l : List ℕ). l ++ (34 ∷ 34 ∷ [])) (sym (append-nil ws) ∙ ap (λ (l : List ℕ). ws ++ l) (sym e)) ∙ sym (append-nil ((ws ++ u) ++ (34 ∷ 34 ∷ [])))
  text-begins u (inr b) = (text b.1, b.2 ++ 34 ∷ [], subst (Spells table string (text b.1)) shift (a_text ws b.1 (b.0 ++ b.2) ab b.4))
    where
      shift : ws ++ (34 ∷ ((b.0 ++ b.2) ++ 34 ∷ [])) ≡ (ws ++ u) ++ (b.2 ++ 34 ∷ [])
      shift = ap (λ (l : List ℕ). ws ++ (34 ∷ l)) (append_assoc b.0 b.2 (34 ∷ [])) ∙ sym (append_assoc ws (34 ∷ b.0) (b.2 ++ 34 ∷ [])) ∙ ap (λ (l : List ℕ). (ws ++ l) ++ (b.2 ++ 34 ∷ [])) (sym b.3)

  abbrev HereBehind : Kind → List ℕ → List ℕ → Type 0
  HereBehind k w r = Here table t k (front ++ (ws ++ w)) r

  text-wrong : Stands table t front level string → (u r : List ℕ) → ((u ≡ []) ⊎ ((v : List ℕ) × (a : List ℕ) × (more : List ℕ) × (u ≡ 34 ∷ v) × Quotes a (v ++ more))) → HereBehind Wrong u r
  text-wrong st u r b = begun table t st (ws ++ u) r (λ _. text-begins u b)

  text-broken : (r : List ℕ) → IsBroken r → HereBehind Broken [] r
  text-broken r b = b

  pub text-sound : Stands table t front level string → Sound (IsReadable table t) text_read (λ v w. Good table left string v (ws ++ w)) HereBehind
  text-sound st =
      sound_map (IsReadable table t) text_read (IsQuoted (IsReadable table t) HereBehind (text-wrong st) text-broken) (λ v w. Good table left string v (ws ++ w)) HereBehind HereBehind good (λ k u r h. h)
      (sound_text (IsReadable table t) HereBehind (text-wrong st) text-broken)
    where
      good : (v : Value) (u : List ℕ) → ((a : List ℕ) × (xs : List ℕ) × (v ≡ text a) × Quotes a xs × (u ≡ 34 ∷ (xs ++ 34 ∷ []))) → Good table left string v (ws ++ u)
      good v u q =
          subst (λ (l : List ℕ). Good table left string v (ws ++ l)) (sym q.4) (subst (λ x. Good table left string x (ws ++ (34 ∷ (q.1 ++ 34 ∷ [])))) (sym q.2)
          (record { spells = a_text ws q.0 q.1 ab q.3; typed = refl; low = omega arith }))

-- ---- a symbol behind blanks

pub symbol-sound : (N : Type 0) (c : ℕ) (H : Kind → List ℕ → List ℕ → Type 0) → ((ws r : List ℕ) → AreBlanks ws → H Wrong ws r)
    → Sound N (symbol c) (λ _ u. (ws : List ℕ) × AreBlanks ws × (u ≡ ws ++ c ∷ [])) H
symbol-sound N c H wrong =
    sound_blanks N (symbol_here c) (λ _ u. (ws : List ℕ) × AreBlanks ws × (u ≡ ws ++ c ∷ [])) H (λ ws ab.
    sound_map N (symbol_here c) (λ _ u. u ≡ c ∷ []) (λ _ u. (bl : List ℕ) × AreBlanks bl × (ws ++ u ≡ bl ++ c ∷ [])) (λ k v r. H k (ws ++ v) r) (λ k v r. H k (ws ++ v) r)
    (λ _ u e. (ws, ab, ap (λ (l : List ℕ). ws ++ l) e)) (λ k u r h. h)
    (sound_symbol_here N c (λ k v r. H k (ws ++ v) r) (λ r. subst (λ l. H Wrong l r) (sym (append-nil ws)) (wrong ws r ab))))

-- ---- arguments

module _ (table : Table) (t : Ty) (below : Reader) (left level : ℕ) (sound_below : SoundBelow table t below left (suc level))
    (front ws before : List ℕ) (c k : ℕ) (name : List ℕ) (all : List Field) (ab : AreBlanks ws) (bb : AreBlanks before) (st : Stands table t front level (named k))
    (placed : place_of table c ≡ Some (record { ty = k; constructor = record { name = name; fields = all } })) where
  abbrev inside : List ℕ → List ℕ
  inside l = ws ++ (name ++ (before ++ (40 ∷ l)))

  inside-more : (a b : List ℕ) → (front ++ inside a) ++ b ≡ front ++ inside (a ++ b)
  inside-more a b = simp append_assoc

  -- behind an argument
  behind-begun : (us : List Ty) (lead : List ℕ) (f : Field) (fs : List Field) → field_types all ≡ us ++ field_types (f ∷ fs) → Leads table us lead → (v : Value) (u bl r : List ℕ) → Spells table f.ty v u → AreBlanks bl
      → Here table t Wrong (front ++ inside (lead ++ (u ++ bl))) r
  behind-begun us lead f fs types leads v u bl r sp al =
      begun table t st (inside (lead ++ (u ++ bl))) r (λ readable.
      let h = have-behind table us (field_types fs) f.ty (subst (HaveValues table) types (readable.fields_valued c k name all placed)) in
      made-begins table ws before lead (u ++ bl) c k name all us (field_types fs) f.ty ab bb placed types leads (rest-behind table (field_types fs) h.1 f.ty v u bl sp al))

  last-good : (f : Field) (v : Value) (u bl : List ℕ) → Good table left f.ty v u → AreBlanks bl → GoodEach table left (f.ty ∷ []) (and_value v no_value) (u ++ (bl ++ 41 ∷ []))
  last-good f v u bl g al =
      let low = g.low in
      record { spelled = u; behind = bl; blanks = al; parts = refl; spells = the_last f.ty v u g.spells; typed = and_from _ true g.typed refl; low = omega (arith, low) }

  more-good : (f g : Field) (fs : List Field) (v : Value) (vs : Values) (u bl w : List ℕ) → Good table left f.ty v u → AreBlanks bl → GoodEach table left (field_types (g ∷ fs)) vs w
      → GoodEach table left (field_types (f ∷ g ∷ fs)) (and_value v vs) (u ++ ((bl ++ 44 ∷ []) ++ w))
  more-good f g fs v vs u bl w x al y =
      let low = x.low in
      let lows = y.low in
      record {
        spelled = u ++ (bl ++ (44 ∷ y.spelled));
        behind = y.behind;
        blanks = y.blanks;
        parts = ap (λ (l : List ℕ). u ++ ((bl ++ 44 ∷ []) ++ l)) y.parts ∙ shift u bl y.spelled (y.behind ++ 41 ∷ []);
        spells = one_more f.ty g.ty (field_types fs) v vs u bl y.spelled x.spells al y.spells;
        typed = and_from _ _ x.typed y.typed;
        low = omega (arith, low, lows);
      }
    where
      shift : (u bl x y : List ℕ) → u ++ ((bl ++ 44 ∷ []) ++ (x ++ y)) ≡ (u ++ (bl ++ (44 ∷ x))) ++ y
      shift u bl x y = simp append_assoc

  abbrev Others : Field → List Field → List ℕ → Type 0
  Others f fs lead =
      (v : Value) (u w bl : List ℕ) → Good table left f.ty v u → AreBlanks bl → w ≡ bl ++ mark_behind fs ∷ []
      → Sound (IsReadable table t) (arguments_read below fs) (λ vs x. GoodArguments table left (f ∷ fs) (v ∷ vs) (u ++ (w ++ x))) (λ q x r. Here table t q (front ++ inside (lead ++ (u ++ (w ++ x)))) r)

  argument-step : (f : Field) (fs : List Field) (us : List Ty) (lead : List ℕ) → field_types all ≡ us ++ field_types (f ∷ fs) → Leads table us lead → Others f fs lead
      → Sound (IsReadable table t) (arguments_read below (f ∷ fs)) (GoodArguments table left (f ∷ fs)) (λ q w r. Here table t q (front ++ inside (lead ++ w)) r)
  argument-step f fs us lead types leads others =
      let N = IsReadable table t in
      sound_after N (below f.ty) (λ v r. after (symbol (mark_behind fs) r) (λ _ more. with_front (v ∷ []) (arguments_read below fs more))) (Good table left f.ty) (GoodArguments table left (f ∷ fs))
      (λ q w r. Here table t q (front ++ inside (lead ++ w)) r)
      (sound_map N (below f.ty) (Good table left f.ty) (Good table left f.ty) (λ q w r. Here table t q ((front ++ inside lead) ++ w) r) (λ q w r. Here table t q (front ++ inside (lead ++ w)) r) (λ v u g. g)
      (λ q w r h. same-place q table t ((front ++ inside lead) ++ w) (front ++ inside (lead ++ w)) r (inside-more lead w) h)
      (sound_below (front ++ inside lead) f.ty (as_argument front ws before lead level c k name all us (field_types fs) f.ty st ab bb placed types leads)))
      (λ v u g.
      sound_after N (symbol (mark_behind fs)) (λ _ more. with_front (v ∷ []) (arguments_read below fs more)) (λ _ w. (bl : List ℕ) × AreBlanks bl × (w ≡ bl ++ mark_behind fs ∷ [])) (λ vs w. GoodArguments table left (f ∷ fs) vs (u ++ w))
      (λ q w r. Here table t q (front ++ inside (lead ++ (u ++ w))) r)
      (symbol-sound N (mark_behind fs) (λ q w r. Here table t q (front ++ inside (lead ++ (u ++ w))) r) (λ bl r al. behind-begun us lead f fs types leads v u bl r g.spells al))
      (λ _ w b.
      sound_front N (v ∷ []) (arguments_read below fs) (λ vs x. GoodArguments table left (f ∷ fs) vs (u ++ (w ++ x))) (λ q x r. Here table t q (front ++ inside (lead ++ (u ++ (w ++ x)))) r)
      (others v u w b.0 g b.1 b.2)))

  arguments-sound : (fs : List Field) (us : List Ty) (lead : List ℕ) → field_types all ≡ us ++ field_types fs → Leads table us lead
      → Sound (IsReadable table t) (arguments_read below fs) (GoodArguments table left fs) (λ q w r. Here table t q (front ++ inside (lead ++ w)) r)
  arguments-sound [] us lead types leads = λ bs. found-ok (IsReadable table t) (arguments_read below []) (GoodArguments table left []) (λ q w r. Here table t q (front ++ inside (lead ++ w)) r) bs [] (refl, refl) (λ w h. refl)
  arguments-sound (f ∷ []) us lead types leads = argument-step f [] us lead types leads (λ v u w bl g al e bs.
      found-ok (IsReadable table t) (arguments_read below []) (λ vs x. GoodArguments table left (f ∷ []) (v ∷ vs) (u ++ (w ++ x))) (λ q x r. Here table t q (front ++ inside (lead ++ (u ++ (w ++ x)))) r) bs []
      (subst (λ (l : List ℕ). GoodEach table left (f.ty ∷ []) (and_value v no_value) (u ++ l)) (sym (append-nil w ∙ e)) (last-good f v u bl g al)) (λ w h. refl))
  arguments-sound (f ∷ h ∷ fs) us lead types leads = argument-step f (h ∷ fs) us lead types leads (λ v u w bl g al e.
      sound_map (IsReadable table t) (arguments_read below (h ∷ fs)) (GoodArguments table left (h ∷ fs)) (λ vs x. GoodArguments table left (f ∷ h ∷ fs) (v ∷ vs) (u ++ (w ++ x)))
      (λ q x r. Here table t q (front ++ inside ((lead ++ (u ++ (bl ++ 44 ∷ []))) ++ x)) r) (λ q x r. Here table t q (front ++ inside (lead ++ (u ++ (w ++ x)))) r)
      (λ vs x y. subst (λ (l : List ℕ). GoodEach table left (field_types (f ∷ h ∷ fs)) (and_value v (packed vs)) (u ++ (l ++ x))) (sym e) (more-good f h fs v (packed vs) u bl x g al y))
      (λ q x r z. subst (λ (l : List ℕ). Here table t q (front ++ inside l) r) (shift lead u bl x ∙ ap (λ (l : List ℕ). lead ++ (u ++ (l ++ x))) (sym e)) z)
      (arguments-sound (h ∷ fs) (us ++ f.ty ∷ []) (lead ++ (u ++ (bl ++ 44 ∷ []))) (types ∙ sym (append_assoc us (f.ty ∷ []) (field_types (h ∷ fs)))) (leads-snoc leads f.ty v u bl g.spells al)))
    where
      shift : (lead u bl x : List ℕ) → (lead ++ (u ++ (bl ++ 44 ∷ []))) ++ x ≡ lead ++ (u ++ ((bl ++ 44 ∷ []) ++ x))
      shift lead u bl x = simp append_assoc

-- ---- what follows a name

-- what reads the level below, if there is one
abbrev pub IsBelow : Table → Ty → Option Reader → ℕ → ℕ → Type 0
IsBelow table t None left level = level ≡ value_height_limit
IsBelow table t (Some below) left level = (under : ℕ) × (left ≡ suc under) × SoundBelow table t below under (suc level)

module _ (table : Table) (t : Ty) (left level : ℕ) (front ws : List ℕ) (c k : ℕ) (name : List ℕ) (ab : AreBlanks ws) (st : Stands table t front level (named k)) where
  abbrev behind : List ℕ → List ℕ
  behind l = front ++ (ws ++ (name ++ l))

  abbrev GoodBehind : Value → List ℕ → Type 0
  GoodBehind v w = Good table left (named k) v (ws ++ (name ++ w))

  open-wrong : (f : Field) (fs : List Field) → place_of table c ≡ Some (record { ty = k; constructor = record { name = name; fields = f ∷ fs } }) → (bl r : List ℕ) → AreBlanks bl → Here table t Wrong (behind bl) r
  open-wrong f fs e bl r al = begun table t st (ws ++ (name ++ bl)) r (λ readable. open-begins table t readable c k name f fs ws bl ab al e)

  full-sound : (f : Field) (fs : List Field) → place_of table c ≡ Some (record { ty = k; constructor = record { name = name; fields = f ∷ fs } }) → level ≡ value_height_limit
      → (bl : List ℕ) → AreBlanks bl → Sound (IsReadable table t) full_read (λ v w. GoodBehind v (bl ++ w)) (λ q w r. Here table t q (behind (bl ++ w)) r)
  full-sound f fs e top bl al [] =
      found-wrong (IsReadable table t) full_read (λ v w. GoodBehind v (bl ++ w)) (λ q w r. Here table t q (behind (bl ++ w)) r) [] 0 refl (same-place Wrong table t (behind bl) (behind (bl ++ [])) [] (ap behind (sym (append-nil bl))) (open-wrong f fs e bl [] al))
      (λ w h. ap full_read (head-none w h) ∙ ap (λ (l : List ℕ). stop Wrong (length l)) (sym (head-none w h)))
  full-sound f fs e top bl al (b ∷ bs) = by (eqb b 40) refl
    where
      by : (x : Bool) → eqb b 40 ≡ x → Left (IsReadable table t) full_read (λ q w r. Here table t q (behind (bl ++ w)) r) (b ∷ bs) (cond x Deep Wrong) (length (b ∷ bs))
      by true h = record {
        used = [];
        rest = b ∷ bs;
        split = refl;
        count = refl;
        here = record {
          front = front;
          blanks = ws;
          behind = bl;
          c = c;
          k = k;
          name = name;
          field = f;
          fields = fs;
          more = bs;
          before = ap behind (append-nil bl);
          stands = subst (λ l. Stands table t front l (named k)) top st;
          are_blanks = ab;
          blanks_behind = al;
          placed = e;
          here = ap (λ (y : ℕ). y ∷ bs) (eqb-true b 40 h);
        };
        local = λ _ z w g. absurd (cc);
      }
      by false h = record {
        used = [];
        rest = b ∷ bs;
        split = refl;
        count = refl;
        here = same-place Wrong table t (behind bl) (behind (bl ++ [])) (b ∷ bs) (ap behind (sym (append-nil bl))) (open-wrong f fs e bl (b ∷ bs) al);
        local = λ _ z w g. other w (head-some w b g);
      }
        where
          other : (w : List ℕ) → ((v : List ℕ) × (w ≡ b ∷ v)) → full_read w ≡ stop Wrong (length w)
          other w p = subst (λ l. full_read l ≡ stop Wrong (length l)) (sym p.1) (ap (λ (x : Bool). stop (cond x Deep Wrong) (length (b ∷ p.0))) h)

  enclosed-good : (f : Field) (fs : List Field) (under : ℕ) → left ≡ suc under → place_of table c ≡ Some (record { ty = k; constructor = record { name = name; fields = f ∷ fs } })
      → (bl w : List ℕ) (vs : List Value) → AreBlanks bl → GoodArguments table under (f ∷ fs) vs w → GoodBehind (cons c (packed vs)) ((bl ++ 40 ∷ []) ++ w)
  enclosed-good f fs under e placed bl w vs al g =
      let lows = g.low in
      record {
        spells = subst (Spells table (named k) (cons c (packed vs))) (ap (λ (l : List ℕ). ws ++ (name ++ l)) (shift bl g.spelled g.behind ∙ ap (λ (l : List ℕ). (bl ++ 40 ∷ []) ++ l) (sym g.parts))) (a_made ws bl g.behind c k name f fs (packed vs) g.spelled ab al g.blanks placed g.spells);
        typed = typed-cons table c k name (f ∷ fs) (packed vs) placed g.typed;
        low = omega (arith, lows, e);
      }
    where
      shift : (bl x y : List ℕ) → bl ++ (40 ∷ (x ++ (y ++ 41 ∷ []))) ≡ (bl ++ 40 ∷ []) ++ (x ++ (y ++ 41 ∷ []))
      shift bl x y = simp append_assoc

  some-sound : (f : Field) (fs : List Field) (below : Reader) (under : ℕ) → left ≡ suc under → SoundBelow table t below under (suc level) → place_of table c ≡ Some (record { ty = k; constructor = record { name = name; fields = f ∷ fs } })
      → Sound (IsReadable table t) (enclosed_read (Some below) c (f ∷ fs)) GoodBehind (λ q w r. Here table t q (behind w) r)
  some-sound f fs below under e sb placed =
      let N = IsReadable table t in
      sound_after N (symbol 40) (λ _ r. after (arguments_read below (f ∷ fs) r) (λ vs end. ok (cons c (packed vs)) end)) (λ _ w. (bl : List ℕ) × AreBlanks bl × (w ≡ bl ++ 40 ∷ [])) GoodBehind (λ q w r. Here table t q (behind w) r)
      (symbol-sound N 40 (λ q w r. Here table t q (behind w) r) (λ bl r al. open-wrong f fs placed bl r al))
      (λ _ w b.
      sound_after N (arguments_read below (f ∷ fs)) (λ vs end. ok (cons c (packed vs)) end) (GoodArguments table under (f ∷ fs)) (λ v x. GoodBehind v (w ++ x)) (λ q x r. Here table t q (behind (w ++ x)) r)
      (sound_map N (arguments_read below (f ∷ fs)) (GoodArguments table under (f ∷ fs)) (GoodArguments table under (f ∷ fs)) (λ q x r. Here table t q (behind (b.0 ++ (40 ∷ x))) r) (λ q x r. Here table t q (behind (w ++ x)) r) (λ vs x g. g)
      (λ q x r h. subst (λ (l : List ℕ). Here table t q (behind l) r) (shift b.0 x ∙ ap (λ (l : List ℕ). l ++ x) (sym b.2)) h)
      (arguments-sound table t below under level sb front ws b.0 c k name (f ∷ fs) ab b.1 st placed (f ∷ fs) [] [] refl no_more))
      (λ vs x g end.
      found-ok N (λ z. ok (cons c (packed vs)) z) (λ v y. GoodBehind v (w ++ (x ++ y))) (λ q y r. Here table t q (behind (w ++ (x ++ y))) r) end (cons c (packed vs))
      (subst (λ (l : List ℕ). GoodBehind (cons c (packed vs)) l) (ap (λ (l : List ℕ). l ++ x) (sym b.2) ∙ ap (λ (l : List ℕ). w ++ l) (sym (append-nil x))) (enclosed-good f fs under e placed b.0 x vs b.1 g)) (λ w h. refl)))
    where
      shift : (bl x : List ℕ) → bl ++ (40 ∷ x) ≡ (bl ++ 40 ∷ []) ++ x
      shift bl x = simp append_assoc

  pub fields-sound : (below : Option Reader) (fs : List Field) → IsBelow table t below left level → place_of table c ≡ Some (record { ty = k; constructor = record { name = name; fields = fs } })
      → Sound (IsReadable table t) (fields_read below c fs) GoodBehind (λ q w r. Here table t q (behind w) r)
  fields-sound below [] ib placed = λ bs.
      found-ok (IsReadable table t) (fields_read below c []) GoodBehind (λ q w r. Here table t q (behind w) r) bs (cons c no_value)
      (record { spells = subst (λ (l : List ℕ). Spells table (named k) (cons c no_value) (ws ++ l)) (sym (append-nil name)) (a_constant ws c k name ab placed); typed = typed-cons table c k name [] no_value placed refl; low = omega arith }) (λ w h. refl)
  fields-sound None (f ∷ fs) ib placed =
      sound_blanks (IsReadable table t) full_read GoodBehind (λ q w r. Here table t q (behind w) r) (λ bl al. full-sound f fs placed ib bl al)
  fields-sound (Some below) (f ∷ fs) ib placed = some-sound f fs below ib.0 ib.1 ib.2 placed

-- ---- a level

module _ (table : Table) (t : Ty) (left level : ℕ) (front ws : List ℕ) (ab : AreBlanks ws) where
  pub level-sound : (below : Option Reader) → IsBelow table t below left level → (u : Ty) → Stands table t front level u
      → Sound (IsReadable table t) (level_read table below u) (λ v w. Good table left u v (ws ++ w)) (λ q w r. Here table t q (front ++ (ws ++ w)) r)
  level-sound below ib integer st = integer-sound table t left front level ws ab st
  level-sound below ib truth st = truth-sound table t left front level ws ab st
  level-sound below ib string st = text-sound table t left front level ws ab st
  level-sound below ib (named k) st =
      sound_after (IsReadable table t) (made_read 0 table k) (λ m r. fields_read below m.number m.fields r) (IsMade table k) (λ v w. Good table left (named k) v (ws ++ w)) (λ q w r. Here table t q (front ++ (ws ++ w)) r)
      (sound_map (IsReadable table t) (made_read 0 table k) (IsMade table k) (IsMade table k) (BeginsMade table k) (λ q w r. Here table t q (front ++ (ws ++ w)) r) (λ m u h. h)
      (λ q w r b. subst (λ z. Here table t z (front ++ (ws ++ w)) r) (sym b.0) (begun table t st (ws ++ w) r (λ readable. begins readable w b.1)))
      (sound_made (IsReadable table t) table (λ readable. readable.named) k))
      (λ m name made. fields-sound table t left level front ws m.number k name ab st below m.fields ib made.placed)
    where
      begins : IsReadable table t → (w : List ℕ)
          → (w ≡ []) ⊎ ((c : ℕ) × (name : List ℕ) × (fs : List Field) × (y : List ℕ) × (place_of table c ≡ Some (record { ty = k; constructor = record { name = name; fields = fs } })) × (name ≡ w ++ y)) → BeginsIn table (named k) (ws ++ w)
      begins readable w (inl e) = subst (λ (l : List ℕ). BeginsIn table (named k) (ws ++ l)) (sym e) (blanks-begin table (named k) (stands-valued table t readable st) ws ab)
      begins readable w (inr b) =
          begins-front table (named k) (ws ++ w) b.3
          (subst (BeginsIn table (named k)) (ap (λ (l : List ℕ). ws ++ l) b.5 ∙ sym (append_assoc ws w b.3)) (name-begins table t readable b.0 k b.1 b.2 ws ab b.4))

-- ---- each level

pub value-sound : (table : Table) (t : Ty) (left level : ℕ) → level + left ≡ value_height_limit → SoundBelow table t (value_read table left) left level
value-sound table t zero level e front u st =
    sound_blanks (IsReadable table t) (level_read table None u) (Good table zero u) (λ q w r. Here table t q (front ++ w) r)
    (λ ws ab. level-sound table t zero level front ws ab None (omega (arith, e)) u st)
value-sound table t (suc left) level e front u st =
    sound_blanks (IsReadable table t) (level_read table (Some (value_read table left)) u) (Good table (suc left) u) (λ q w r. Here table t q (front ++ w) r)
    (λ ws ab. level-sound table t (suc left) level front ws ab (Some (value_read table left)) (left, refl, value-sound table t left (suc level) (omega (arith, e))) u st)
