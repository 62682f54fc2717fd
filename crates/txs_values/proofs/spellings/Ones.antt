-- A text spells at most one value of a type, and only so far.
use Rattle.std.proofs.Common.{◌≡◌, ℕ, false, List, [], ◌∷◌, ◌++◌, Some, codes, refl, sym, ap, subst, ◌∙◌, append_assoc, arith}
use Rattle.std.specs.Str.Parse.{signed_digits_value}
use Rattle.txs_values.specs.Value.{Ty, Value, num, text, cons, Values, no_value, and_value, Field, Table, place_of, field_types}
use Rattle.txs_values.specs.Ints.{number_run, past_number}
use Rattle.txs_values.specs.Spelling.{is_blank, is_name_byte, past_blanks}
use Rattle.txs_values.specs.Spelled.{AreBlanks, Spells, a_number, a_true, a_false, a_text, a_constant, a_made, SpellsEach, the_last, one_more, IsName, IsSpelling, IsNamed}
use Rattle.txs_values.specs.Reading.{quoted_read}
use Rattle.txs_values.proofs.spellings.Bytes.{Stops, past_blanks-is, stops-blanks, stops-digit, stops-all}
use Rattle.txs_values.proofs.spellings.Fronts.{same_list}
use Rattle.txs_values.proofs.spellings.Places.{same_fields}
use Rattle.txs_values.proofs.spellings.Joined.{number-stops, name-stops}
use Rattle.txs_values.proofs.spellings.Names.{one-name, same_ok}
use Rattle.txs_values.proofs.spellings.Finds.{signed-run, quoted-is, stops-goes}

-- blanks before what begins with none
same-behind : (bl cl x y : List ℕ) → AreBlanks bl → AreBlanks cl → Stops is_blank x → Stops is_blank y → bl ++ x ≡ cl ++ y → x ≡ y
same-behind bl cl x y ab ac sx sy e = sym (past_blanks-is bl x ab sx) ∙ ap past_blanks e ∙ past_blanks-is cl y ac sy

-- two tokens behind blanks, each with what follows it
token-behind : (bl cl x y r s : List ℕ) → AreBlanks bl → AreBlanks cl → Stops is_blank (x ++ r) → Stops is_blank (y ++ s) → (bl ++ x) ++ r ≡ (cl ++ y) ++ s → x ++ r ≡ y ++ s
token-behind bl cl x y r s ab ac sx sy e = same-behind bl cl (x ++ r) (y ++ s) ab ac sx sy (sym (append_assoc bl x r) ∙ e ∙ append_assoc cl y s)

abbrev One : Value → Value → List ℕ → List ℕ → Type 0
One v w r s = (v ≡ w) × (r ≡ s)

true-false : (r s : List ℕ) → codes "True" ++ r ≡ codes "False" ++ s → ⊥
true-false r s e = let k : 84 ≡ 70 = (same_list e).0 in omega (arith, k)

true-name : IsName (codes "True")
true-name = (refl, (refl, (refl, (refl, tt))))

false-name : IsName (codes "False")
false-name = (refl, (refl, (refl, (refl, (refl, tt)))))

module _ (table : Table) (is_named : IsNamed table) where
  named-name : (c k : ℕ) (name : List ℕ) (fs : List Field) → place_of table c ≡ Some (record { ty = k; constructor = record { name = name; fields = fs } }) → IsName name
  named-name c k name fs e = is_named.names c (record { ty = k; constructor = record { name = name; fields = fs } }) e

  -- one name in front is of one constructor
  one-made : (c d k : ℕ) (a b : List ℕ) (fs gs : List Field) (bl cl x y : List ℕ) → AreBlanks bl → AreBlanks cl
      → place_of table c ≡ Some (record { ty = k; constructor = record { name = a; fields = fs } }) → place_of table d ≡ Some (record { ty = k; constructor = record { name = b; fields = gs } })
      → Stops is_name_byte x → Stops is_name_byte y → bl ++ (a ++ x) ≡ cl ++ (b ++ y) → (c ≡ d) × (fs ≡ gs) × (x ≡ y)
  one-made c d k a b fs gs bl cl x y ab ac p q sx sy e =
      let t = same-behind bl cl (a ++ x) (b ++ y) ab ac (name-stops a x (named-name c k a fs p)) (name-stops b y (named-name d k b gs q)) e in
      let n = one-name a b x y (named-name c k a fs p) (named-name d k b gs q) t (stops-goes x sx) (stops-goes y sy) in
      let s : c ≡ d = is_named.distinct c d (record { ty = k; constructor = record { name = a; fields = fs } }) (record { ty = k; constructor = record { name = b; fields = gs } }) p q n.0 in
      (s, same_fields (sym p ∙ (ap (place_of table) s ∙ q)), n.1)

  constant-shift : (bl name r : List ℕ) → (bl ++ name) ++ r ≡ bl ++ (name ++ r)
  constant-shift bl name r = append_assoc bl name r

  made-shift : (bl name before ws behind r : List ℕ) → (bl ++ (name ++ (before ++ (40 ∷ (ws ++ (behind ++ 41 ∷ [])))))) ++ r ≡ bl ++ (name ++ (before ++ 40 ∷ (ws ++ (behind ++ 41 ∷ r))))
  made-shift bl name before ws behind r = simp append_assoc

  comma-shift : (ws before more tail : List ℕ) → (ws ++ (before ++ (44 ∷ more))) ++ tail ≡ ws ++ (before ++ 44 ∷ (more ++ tail))
  comma-shift ws before more tail = simp append_assoc

  no-cons : {f : Field} {fs : List Field} → [] ≡ f ∷ fs → ⊥
  no-cons e = cc

  mutual
    one-front : {u : Ty} {v w : Value} {a b : List ℕ} → Spells table u v a → Spells table u w b → (r s : List ℕ) → Stops is_name_byte r → Stops is_name_byte s → a ++ r ≡ b ++ s → One v w r s
    one-front (a_number bl sign d ds ab sg ad) (a_number cl sjgn c cs ac sh ah) r s p q e =
        let t = token-behind bl cl (sign ++ d ∷ ds) (sjgn ++ c ∷ cs) r s ab ac (number-stops sg d ds r ad) (number-stops sh c cs s ah) e in
        let x = signed-run sg d ds r ad (stops-digit r p) in
        let y = signed-run sh c cs s ah (stops-digit s q) in
        (ap (λ l. num (signed_digits_value 10 l)) (sym x.0 ∙ (ap number_run t ∙ y.0)), sym x.1 ∙ (ap past_number t ∙ y.1))
    one-front (a_true bl ab) (a_true cl ac) r s p q e =
        (refl, (one-name (codes "True") (codes "True") r s true-name true-name (token-behind bl cl (codes "True") (codes "True") r s ab ac refl refl e) (stops-goes r p) (stops-goes s q)).1)
    one-front (a_true bl ab) (a_false cl ac) r s p q e = absurd (true-false r s (token-behind bl cl (codes "True") (codes "False") r s ab ac refl refl e))
    one-front (a_false bl ab) (a_true cl ac) r s p q e = absurd (true-false s r (sym (token-behind bl cl (codes "False") (codes "True") r s ab ac refl refl e)))
    one-front (a_false bl ab) (a_false cl ac) r s p q e =
        (refl, (one-name (codes "False") (codes "False") r s false-name false-name (token-behind bl cl (codes "False") (codes "False") r s ab ac refl refl e) (stops-goes r p) (stops-goes s q)).1)
    one-front (a_text bl x ws ab h) (a_text cl y xs ac g) r s p q e =
        let t = token-behind bl cl (34 ∷ (ws ++ 34 ∷ [])) (34 ∷ (xs ++ 34 ∷ [])) r s ab ac refl refl e in
        let z : ws ++ 34 ∷ r ≡ xs ++ 34 ∷ s = sym (append_assoc ws (34 ∷ []) r) ∙ ((same_list t).1 ∙ append_assoc xs (34 ∷ []) s) in
        let o = same_ok (sym (quoted-is h r) ∙ (ap (quoted_read false) z ∙ quoted-is g s)) in
        (ap text o.0, o.1)
    one-front (a_constant bl c k name ab h) (a_constant cl d k' title ac g) r s p q e =
        let o = one-made c d k name title [] [] bl cl r s ab ac h g p q (sym (constant-shift bl name r) ∙ (e ∙ constant-shift cl title s)) in
        (ap (λ i. cons i no_value) o.0, o.2)
    one-front (a_constant bl c k name ab h) (a_made cl before behind d k' title f fs vs ws ac bb hb g each) r s p q e =
        let o = one-made c d k name title [] (f ∷ fs) bl cl r (before ++ 40 ∷ (ws ++ (behind ++ 41 ∷ s))) ab ac h g p (stops-blanks before (40 ∷ (ws ++ (behind ++ 41 ∷ s))) bb refl)
        (sym (constant-shift bl name r) ∙ (e ∙ made-shift cl title before ws behind s)) in
        absurd (no-cons o.1)
    one-front (a_made bl before behind c k name f fs vs ws ab bb hb h each) (a_constant cl d k' title ac g) r s p q e =
        let o = one-made c d k name title (f ∷ fs) [] bl cl (before ++ 40 ∷ (ws ++ (behind ++ 41 ∷ r))) s ab ac h g (stops-blanks before (40 ∷ (ws ++ (behind ++ 41 ∷ r))) bb refl) q
        (sym (made-shift bl name before ws behind r) ∙ (e ∙ constant-shift cl title s)) in
        absurd (no-cons (sym o.1))
    one-front (a_made bl before behind c k name f fs vs ws ab bb hb h each) (a_made cl front after d k' title g gs xs zs ac bc hc q' other) r s p q e =
        let tail : List ℕ = ws ++ (behind ++ 41 ∷ r) in
        let end : List ℕ = zs ++ (after ++ 41 ∷ s) in
        let o = one-made c d k name title (f ∷ fs) (g ∷ gs) bl cl (before ++ 40 ∷ tail) (front ++ 40 ∷ end) ab ac h q' (stops-blanks before (40 ∷ tail) bb refl) (stops-blanks front (40 ∷ end) bc refl)
        (sym (made-shift bl name before ws behind r) ∙ (e ∙ made-shift cl title front zs after s)) in
        let t : tail ≡ end = (same_list (same-behind before front (40 ∷ tail) (40 ∷ end) bb bc refl refl o.2)).1 in
        let each' = one-each each (subst (λ l. SpellsEach table (field_types l) xs zs) (sym o.1) other) behind after r s hb hc t in
        (ap (λ i. cons i vs) o.0 ∙ ap (cons d) each'.0, each'.1)

    one-each : {ts : List Ty} {vs ws : Values} {a b : List ℕ} → SpellsEach table ts vs a → SpellsEach table ts ws b → (bl cl r s : List ℕ) → AreBlanks bl → AreBlanks cl
        → a ++ (bl ++ 41 ∷ r) ≡ b ++ (cl ++ 41 ∷ s) → (vs ≡ ws) × (r ≡ s)
    one-each (the_last t v x sp) (the_last t' w y sq) bl cl r s ab ac e =
        let o = one-front sp sq (bl ++ 41 ∷ r) (cl ++ 41 ∷ s) (stops-blanks bl (41 ∷ r) ab refl) (stops-blanks cl (41 ∷ s) ac refl) e in
        (ap (λ z. and_value z no_value) o.0, (same_list (same-behind bl cl (41 ∷ r) (41 ∷ s) ab ac refl refl o.1)).1)
    one-each (one_more t u ts v vs x before more sp bb each) (one_more t' u' ts' w ws y front rest sq bc other) bl cl r s ab ac e =
        let tail : List ℕ = more ++ (bl ++ 41 ∷ r) in
        let end : List ℕ = rest ++ (cl ++ 41 ∷ s) in
        let o = one-front sp sq (before ++ 44 ∷ tail) (front ++ 44 ∷ end) (stops-blanks before (44 ∷ tail) bb refl) (stops-blanks front (44 ∷ end) bc refl)
        (sym (comma-shift x before more (bl ++ 41 ∷ r)) ∙ (e ∙ comma-shift y front rest (cl ++ 41 ∷ s))) in
        let t : tail ≡ end = (same_list (same-behind before front (44 ∷ tail) (44 ∷ end) bb bc refl refl o.1)).1 in
        let i = one-each each other bl cl r s ab ac t in
        (ap (λ z. and_value z vs) o.0 ∙ ap (and_value w) i.0, i.1)

pub spelled_is_one : (table : Table) (t : Ty) (bs : List ℕ) (v w : Value) → IsNamed table → IsSpelling table t v bs → IsSpelling table t w bs → v ≡ w
spelled_is_one table t bs v w n x y =
    (one-front table n x.spells y.spells x.behind y.behind (stops-all x.behind x.blanks) (stops-all y.behind y.blanks) (sym x.parts ∙ y.parts)).0
