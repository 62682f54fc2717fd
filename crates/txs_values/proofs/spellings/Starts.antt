-- How a front of a spelling is made whole: by the text of a value in each place that is left.
use Rattle.std.proofs.Common.{◌≡◌, ℕ, true, false, List, [], ◌∷◌, ◌++◌, Some, codes, refl, sym, ap, subst, ◌∙◌, append_assoc}
use Rattle.std.proofs.lemmas.List.{append-nil}
use Rattle.std.specs.Str.Parse.{signed_digits_value}
use Rattle.txs_values.specs.Value.{Ty, integer, truth, string, named, Value, num, bool, text, cons, Values, no_value, and_value, Field, Table, place_of, field_types}
use Rattle.txs_values.specs.Text.{text_of}
use Rattle.txs_values.specs.Spelled.{AreBlanks, Spells, a_number, a_true, a_false, a_text, a_constant, a_made, SpellsEach, the_last, one_more}
use Rattle.txs_values.specs.Faults.{HasValue, HaveValues, IsReadable, Begins, Leads, no_more, one_before, Stands, as_whole, as_argument}
use Rattle.txs_values.proofs.spellings.Written.{text-spells}

-- a spelling of a value of this type begins so
abbrev pub BeginsIn : Table → Ty → List ℕ → Type 0
BeginsIn table u p = (v : Value) × (more : List ℕ) × Spells table u v (p ++ more)

pub begins-front : (table : Table) (u : Ty) (p q : List ℕ) → BeginsIn table u (p ++ q) → BeginsIn table u p
begins-front table u p q b = (b.0, q ++ b.1, subst (Spells table u b.0) (append_assoc p q b.1) b.2)

pub begins-whole : (table : Table) (t : Ty) (p : List ℕ) → BeginsIn table t p → Begins table t p
begins-whole table t p b = (b.0, b.1, record { front = p ++ b.1; behind = []; parts = sym (append-nil (p ++ b.1)); spells = b.2; blanks = tt })

blanks-append : (ws bl : List ℕ) → AreBlanks ws → AreBlanks bl → AreBlanks (ws ++ bl)
blanks-append [] bl h k = k
blanks-append (w ∷ ws) bl h k = (h.0, blanks-append ws bl h.1 k)

moved : (table : Table) (u : Ty) (v : Value) (a b c : List ℕ) → Spells table u v ((a ++ b) ++ c) → Spells table u v (a ++ (b ++ c))
moved table u v a b c s = subst (Spells table u v) (append_assoc a b c) s

-- blanks before a spelling
pub blanks-spells : {table : Table} {u : Ty} {v : Value} {x : List ℕ} → Spells table u v x → (ws : List ℕ) → AreBlanks ws → Spells table u v (ws ++ x)
blanks-spells {table} (a_number bl sign d ds ab sg ad) ws aw = moved table integer (num (signed_digits_value 10 (sign ++ d ∷ ds))) ws bl (sign ++ d ∷ ds) (a_number (ws ++ bl) sign d ds (blanks-append ws bl aw ab) sg ad)
blanks-spells {table} (a_true bl ab) ws aw = moved table truth (bool true) ws bl (codes "True") (a_true (ws ++ bl) (blanks-append ws bl aw ab))
blanks-spells {table} (a_false bl ab) ws aw = moved table truth (bool false) ws bl (codes "False") (a_false (ws ++ bl) (blanks-append ws bl aw ab))
blanks-spells {table} (a_text bl bs xs ab q) ws aw = moved table string (text bs) ws bl (34 ∷ (xs ++ 34 ∷ [])) (a_text (ws ++ bl) bs xs (blanks-append ws bl aw ab) q)
blanks-spells {table} (a_constant bl c k name ab e) ws aw = moved table (named k) (cons c no_value) ws bl name (a_constant (ws ++ bl) c k name (blanks-append ws bl aw ab) e)
blanks-spells {table} (a_made bl before behind c k name f fs vs xs ab bb hb e each) ws aw =
    moved table (named k) (cons c vs) ws bl (name ++ (before ++ (40 ∷ (xs ++ (behind ++ 41 ∷ []))))) (a_made (ws ++ bl) before behind c k name f fs vs xs (blanks-append ws bl aw ab) bb hb e each)

join-comma : (ws b x y : List ℕ) → ws ++ (b ++ (44 ∷ (x ++ y))) ≡ (ws ++ (b ++ (44 ∷ x))) ++ y
join-comma ws b x y = simp append_assoc

-- the arguments from this one on, with their closing parenthesis
pub record Rest (table : Table) (ts : List Ty) (p : List ℕ) : Type 0 where
  pub values : Values
  pub spelled : List ℕ
  pub behind : List ℕ
  pub more : List ℕ
  pub each : SpellsEach table ts values spelled
  pub blanks : AreBlanks behind
  pub parts : p ++ more ≡ spelled ++ (behind ++ 41 ∷ [])

pub rest-behind : (table : Table) (ms : List Ty) → HaveValues table ms → (u : Ty) (v : Value) (ws b : List ℕ) → Spells table u v ws → AreBlanks b → Rest table (u ∷ ms) (ws ++ b)
rest-behind table [] h u v ws b sp ab = record { values = and_value v no_value; spelled = ws; behind = b; more = 41 ∷ []; each = the_last u v ws sp; blanks = ab; parts = append_assoc ws b (41 ∷ []) }
rest-behind table (m ∷ ms) h u v ws b sp ab =
    let d = h.0 in
    let x : List ℕ = text_of table d.0 in
    let r = rest-behind table ms h.1 m d.0 x [] (text-spells table d.0 m d.1) tt in
    record {
      values = and_value v r.values;
      spelled = ws ++ (b ++ (44 ∷ r.spelled));
      behind = r.behind;
      more = 44 ∷ ((x ++ []) ++ r.more);
      each = one_more u m ms v r.values ws b r.spelled sp ab r.each;
      blanks = r.blanks;
      parts = append_assoc ws b (44 ∷ ((x ++ []) ++ r.more)) ∙ ap (λ (l : List ℕ). ws ++ (b ++ (44 ∷ l))) r.parts ∙ join-comma ws b r.spelled (r.behind ++ 41 ∷ []);
    }

-- an argument that is begun
pub rest-begun : (table : Table) (ms : List Ty) → HaveValues table ms → (u : Ty) (p : List ℕ) → BeginsIn table u p → Rest table (u ∷ ms) p
rest-begun table ms h u p b =
    let r = rest-behind table ms h u b.0 (p ++ b.1) [] b.2 tt in
    record {
      values = r.values;
      spelled = r.spelled;
      behind = r.behind;
      more = b.1 ++ r.more;
      each = r.each;
      blanks = r.blanks;
      parts = sym (append_assoc p b.1 r.more) ∙ ap (λ (l : List ℕ). l ++ r.more) (sym (append-nil (p ++ b.1))) ∙ r.parts;
    }

before-comma : (ws before more x : List ℕ) → (ws ++ (before ++ (44 ∷ more))) ++ x ≡ ws ++ (before ++ (44 ∷ (more ++ x)))
before-comma ws before more x = simp append_assoc

lead-one : (table : Table) (w u : Ty) (us ms : List Ty) (v : Value) (vs : Values) (ws before y : List ℕ) → Spells table w v ws → AreBlanks before → SpellsEach table (us ++ u ∷ ms) vs y
    → SpellsEach table (w ∷ (us ++ u ∷ ms)) (and_value v vs) (ws ++ (before ++ (44 ∷ y)))
lead-one table w u [] ms v vs ws before y sp ab e = one_more w u ms v vs ws before y sp ab e
lead-one table w u (z ∷ zs) ms v vs ws before y sp ab e = one_more w z (zs ++ u ∷ ms) v vs ws before y sp ab e

lead-each : {table : Table} {us : List Ty} {lead : List ℕ} → Leads table us lead → (u : Ty) (ms : List Ty) (vs : Values) (x : List ℕ) → SpellsEach table (u ∷ ms) vs x
    → (all : Values) × SpellsEach table (us ++ u ∷ ms) all (lead ++ x)
lead-each no_more u ms vs x e = (vs, e)
lead-each {table} (one_before w us v ws before more sp ab l) u ms vs x e =
    let r = lead-each l u ms vs x e in
    (and_value v r.0, subst (SpellsEach table (w ∷ (us ++ u ∷ ms)) (and_value v r.0)) (sym (before-comma ws before more x)) (lead-one table w u us ms v r.0 ws before (more ++ x) sp ab r.1))

pub leads-snoc : {table : Table} {us : List Ty} {lead : List ℕ} → Leads table us lead → (u : Ty) (v : Value) (ws before : List ℕ) → Spells table u v ws → AreBlanks before
    → Leads table (us ++ u ∷ []) (lead ++ (ws ++ (before ++ 44 ∷ [])))
leads-snoc no_more u v ws before sp ab = one_before u [] v ws before [] sp ab no_more
leads-snoc {table} (one_before w us x xs b more sx ab l) u v ws before sp aw =
    subst (Leads table (w ∷ (us ++ u ∷ []))) (sym (before-comma xs b more (ws ++ (before ++ 44 ∷ [])))) (one_before w (us ++ u ∷ []) x xs b (more ++ (ws ++ (before ++ 44 ∷ []))) sx ab (leads-snoc l u v ws before sp aw))

no-types : (us : List Ty) (u : Ty) (ms : List Ty) → [] ≡ us ++ u ∷ ms → ⊥
no-types [] u ms e = cc
no-types (x ∷ us) u ms e = cc

made-shift : (bl name before lead p more x z : List ℕ) → p ++ more ≡ x ++ z → bl ++ (name ++ (before ++ (40 ∷ ((lead ++ x) ++ z)))) ≡ (bl ++ (name ++ (before ++ (40 ∷ (lead ++ p))))) ++ more
made-shift bl name before lead p more x z e =
    ap (λ (l : List ℕ). bl ++ (name ++ (before ++ (40 ∷ l)))) (append_assoc lead x z ∙ ap (λ (l : List ℕ). lead ++ l) (sym e)) ∙ shift bl name before lead p more
  where
    shift : (bl name before lead p more : List ℕ) → bl ++ (name ++ (before ++ (40 ∷ (lead ++ (p ++ more))))) ≡ (bl ++ (name ++ (before ++ (40 ∷ (lead ++ p))))) ++ more
    shift bl name before lead p more = simp append_assoc

-- a constructor with some arguments, of which one is begun or ended
pub made-begins : (table : Table) (bl before lead p : List ℕ) (c k : ℕ) (name : List ℕ) (fs : List Field) (us ms : List Ty) (u : Ty) → AreBlanks bl → AreBlanks before
    → place_of table c ≡ Some (record { ty = k; constructor = record { name = name; fields = fs } }) → field_types fs ≡ us ++ u ∷ ms → Leads table us lead → Rest table (u ∷ ms) p
    → BeginsIn table (named k) (bl ++ (name ++ (before ++ (40 ∷ (lead ++ p)))))
made-begins table bl before lead p c k name [] us ms u ab bb e types l r = absurd (no-types us u ms types)
made-begins table bl before lead p c k name (f ∷ fs) us ms u ab bb e types l r =
    let all = lead-each l u ms r.values r.spelled r.each in (
      cons c all.0,
      r.more,
      subst (Spells table (named k) (cons c all.0)) (made-shift bl name before lead p r.more r.spelled (r.behind ++ 41 ∷ []) r.parts)
          (a_made bl before r.behind c k name f fs all.0 (lead ++ r.spelled) ab bb r.blanks e (subst (λ ts. SpellsEach table ts all.0 (lead ++ r.spelled)) (sym types) all.1)),
    )

pub have-behind : (table : Table) (us ms : List Ty) (u : Ty) → HaveValues table (us ++ u ∷ ms) → HasValue table u × HaveValues table ms
have-behind table [] ms u h = h
have-behind table (x ∷ us) ms u h = have-behind table us ms u h.1

stands-shift : (front bl name before lead p : List ℕ) → front ++ (bl ++ (name ++ (before ++ (40 ∷ (lead ++ p))))) ≡ (front ++ (bl ++ (name ++ (before ++ (40 ∷ lead))))) ++ p
stands-shift front bl name before lead p = simp append_assoc

-- what is begun where it may stand begins a whole spelling
pub stands-begins : (table : Table) (t : Ty) → IsReadable table t → {front : List ℕ} {level : ℕ} {u : Ty} → Stands table t front level u → (p : List ℕ) → BeginsIn table u p → BeginsIn table t (front ++ p)
stands-begins table t readable as_whole p b = b
stands-begins table t readable (as_argument front bl before lead level c k name fs us ms u st ab bb e types l) p b =
    let h = have-behind table us ms u (subst (HaveValues table) types (readable.fields_valued c k name fs e)) in
    subst (BeginsIn table t) (stands-shift front bl name before lead p)
    (stands-begins table t readable st (bl ++ (name ++ (before ++ (40 ∷ (lead ++ p)))))
    (made-begins table bl before lead p c k name fs us ms u ab bb e types l (rest-begun table ms h.1 u p b)))

-- a type that stands somewhere has a value
pub stands-valued : (table : Table) (t : Ty) → IsReadable table t → {front : List ℕ} {level : ℕ} {u : Ty} → Stands table t front level u → HasValue table u
stands-valued table t readable as_whole = readable.valued
stands-valued table t readable (as_argument front bl before lead level c k name fs us ms u st ab bb e types l) = (have-behind table us ms u (subst (HaveValues table) types (readable.fields_valued c k name fs e))).0

-- blanks before a value
pub blanks-begin : (table : Table) (u : Ty) → HasValue table u → (ws : List ℕ) → AreBlanks ws → BeginsIn table u (ws ++ [])
blanks-begin table u d ws ab =
    (d.0, text_of table d.0, subst (λ l. Spells table u d.0 (l ++ text_of table d.0)) (sym (append-nil ws)) (blanks-spells (text-spells table d.0 u d.1) ws ab))

-- a name, and its parenthesis where it has fields
pub name-begins : (table : Table) (t : Ty) → IsReadable table t → (c k : ℕ) (name : List ℕ) (fs : List Field) (ws : List ℕ) → AreBlanks ws
    → place_of table c ≡ Some (record { ty = k; constructor = record { name = name; fields = fs } }) → BeginsIn table (named k) (ws ++ name)
name-begins table t readable c k name [] ws ab e = (cons c no_value, [], subst (Spells table (named k) (cons c no_value)) (sym (append-nil (ws ++ name))) (a_constant ws c k name ab e))
name-begins table t readable c k name (f ∷ fs) ws ab e =
    let h = readable.fields_valued c k name (f ∷ fs) e in
    begins-front table (named k) (ws ++ name) (40 ∷ (text_of table h.0.0 ++ []))
    (subst (BeginsIn table (named k)) (sym (append_assoc ws name (40 ∷ (text_of table h.0.0 ++ []))))
    (made-begins table ws [] [] (text_of table h.0.0 ++ []) c k name (f ∷ fs) [] (field_types fs) f.ty ab tt e refl no_more
    (rest-behind table (field_types fs) h.1 f.ty h.0.0 (text_of table h.0.0) [] (text-spells table h.0.0 f.ty h.0.1) tt)))

-- blanks before the parenthesis
pub open-begins : (table : Table) (t : Ty) → IsReadable table t → (c k : ℕ) (name : List ℕ) (f : Field) (fs : List Field) (ws before : List ℕ) → AreBlanks ws → AreBlanks before
    → place_of table c ≡ Some (record { ty = k; constructor = record { name = name; fields = f ∷ fs } }) → BeginsIn table (named k) (ws ++ (name ++ before))
open-begins table t readable c k name f fs ws before ab bb e =
    let h = readable.fields_valued c k name (f ∷ fs) e in
    let x : List ℕ = text_of table h.0.0 ++ [] in
    begins-front table (named k) (ws ++ (name ++ before)) (40 ∷ x)
    (subst (BeginsIn table (named k)) (sym (append_assoc ws (name ++ before) (40 ∷ x) ∙ ap (λ (l : List ℕ). ws ++ l) (append_assoc name before (40 ∷ x))))
    (made-begins table ws before [] x c k name (f ∷ fs) [] (field_types fs) f.ty ab bb e refl no_more
    (rest-behind table (field_types fs) h.1 f.ty h.0.0 (text_of table h.0.0) [] (text-spells table h.0.0 f.ty h.0.1) tt)))
