-- The steps of the program's reader.
use Rattle.std.proofs.Common.{◌≡◌, ◌≤◌, ◌<◌, ℕ, zero, suc, ◌+◌, ◌-◌, Bool, true, false, cond, eqb, eqb-true, get_or, take, min, List, [], ◌∷◌, ◌++◌, length, map, drop, Some, None, refl, sym, ap, subst, ◌∙◌, append_assoc, arith}
use Rattle.std.proofs.lemmas.Str.{is_utf8-from_IsUtf8, IsUtf8-from_is_utf8}
use Rattle.std.specs.Str.{is_utf8, IsUtf8}
use Rattle.std.specs.Prelude.{slice_get, option_map}
use Rattle.std.proofs.lemmas.Bool.{cond-false}
use Rattle.txs_values.specs.declared.reading.Kind.TheVariants.{Wrong, Broken}
use Rattle.txs_values.specs.declared.reading.Stop.{Stop}
use Rattle.txs_values.specs.declared.reading.Stop.TheVariants.{At, NoMemory}
use Rattle.txs_values.specs.declared.table.ConsDef as rust_cons
use Rattle.txs_values.specs.declared.table.FieldDef as rust_field
use Rattle.txs_values.specs.TableView.{field_of, conses_of, first_of}
use Rattle.txs_values.specs.Value.{Ty, Value, text, cons, no_value, packed, Constructor, Table}
use Rattle.txs_values.specs.Spelling.{past_blanks, is_raw, escape_of, Made}
use Rattle.txs_values.specs.Reading.{Outcome, ok, stop, after, either, with_front, symbol_here, symbol, goes_on, name_read, escape_read, quoted_read, text_read, made_among, made_read, arguments_read, enclosed_read, fields_read, value_read, value_below, level_read, levels_below, ended, lone_read}
use Rattle.txs_values.specs.ReadingView.{Stopped}

same_some : {A : Type 0} {x y : A} → Some x ≡ Some y → x ≡ y
same_some e = cc

-- ---- lists

take-whole : (bs : List ℕ) → take (length bs) bs ≡ bs
take-whole [] = refl
take-whole (b ∷ bs) = ap (λ (l : List ℕ). b ∷ l) (take-whole bs)

pub first-rest : (bs : List ℕ) → 1 ≤ length bs → bs ≡ get_or bs 0 0 ∷ take (length bs - 1) (drop 1 bs)
first-rest [] l = absurd (omega (arith, l))
first-rest (b ∷ bs) l =
    let e : length bs ≡ length (b ∷ bs) - 1 = omega arith in
    ap (λ (l : List ℕ). b ∷ l) (sym (take-whole bs) ∙ ap (λ n. take n bs) e)

pub none-left : (bs : List ℕ) → length bs ≡ 0 → bs ≡ []
none-left [] e = refl
none-left (b ∷ bs) e = absurd (omega (arith, e))

pub with_front-next : {A : Type 0} (xs : List A) (x : A) (o : Outcome (List A)) → with_front (xs ++ x ∷ []) o ≡ with_front xs (with_front (x ∷ []) o)
with_front-next xs x (ok ys r) = ap (λ l. ok l r) (append_assoc xs (x ∷ []) ys)
with_front-next xs x (stop k n) = refl

-- ---- levels

pub value_read-is : (table : Table) (left : ℕ) (t : Ty) (bs : List ℕ) → value_read table left t bs ≡ level_read table (value_below table left) t (past_blanks bs)
value_read-is table zero t bs = refl
value_read-is table (suc left) t bs = refl

pub value_below-is : (table : Table) (left : ℕ) (n : ℕ) → left ≡ n + 1 → value_below table left ≡ Some (value_read table n)
value_below-is table left n e = let f : left ≡ suc n = omega (arith, e) in ap (value_below table) f

pub levels-is : levels_below ≡ 999
unfolding levels_below
levels-is = refl

-- ---- texts

pub text-ok : (bs rest t u end : List ℕ) → symbol_here 34 bs ≡ ok tt rest → quoted_read false rest ≡ ok t end → IsUtf8 t → u ≡ t → text_read bs ≡ ok (text u) end
text-ok bs rest t u end s q h e =
    ap (λ o. after o (λ _ r. after (quoted_read false r) (λ t end. cond (is_utf8 t) (ok (text t) end) (stop Broken (length bs))))) s
    ∙ ap (λ o. after o (λ t end. cond (is_utf8 t) (ok (text t) end) (stop Broken (length bs)))) q
    ∙ ap (λ x. cond x (ok (text t) end) (stop Broken (length bs))) (is_utf8-from_IsUtf8 t h)
    ∙ ap (λ x. ok (text x) end) (sym e)

broken-test : (t : List ℕ) → (IsUtf8 t → ⊥) → (x : Bool) → is_utf8 t ≡ x → x ≡ false
broken-test t n true e = absurd (n (IsUtf8-from_is_utf8 t e))
broken-test t n false e = refl

pub text-broken : (bs rest t end : List ℕ) → symbol_here 34 bs ≡ ok tt rest → quoted_read false rest ≡ ok t end → (IsUtf8 t → ⊥) → text_read bs ≡ stop Broken (length bs)
text-broken bs rest t end s q n =
    ap (λ o. after o (λ _ r. after (quoted_read false r) (λ t end. cond (is_utf8 t) (ok (text t) end) (stop Broken (length bs))))) s
    ∙ ap (λ o. after o (λ t end. cond (is_utf8 t) (ok (text t) end) (stop Broken (length bs)))) q
    ∙ ap (λ x. cond x (ok (text t) end) (stop Broken (length bs))) (broken-test t n (is_utf8 t) refl)

-- ---- the whole text

pub stopped-after : {A B : Type 0} (e : Stop) (o : Outcome A) (go : A → List ℕ → Outcome B) → Stopped e o → Stopped e (after o go)
stopped-after (At k n) o go h = ap (λ x. after x go) h
stopped-after NoMemory o go h = tt

pub lone-stopped : (table : Table) (t : Ty) (bs : List ℕ) (e : Stop) → Stopped e (value_read table 999 t bs) → Stopped e (lone_read table t bs)
lone-stopped table t bs e h =
    stopped-after e (value_read table levels_below t bs) (λ v r. ended v (past_blanks r)) (subst (λ n. Stopped e (value_read table n t bs)) (sym levels-is) h)

pub lone-ended : (table : Table) (t : Ty) (bs : List ℕ) (v : Value) (rest left : List ℕ) → value_read table 999 t bs ≡ ok v rest → left ≡ past_blanks rest → lone_read table t bs ≡ ended v left
lone-ended table t bs v rest left h e =
    ap (λ n. after (value_read table n t bs) (λ v r. ended v (past_blanks r))) levels-is ∙ ap (λ o. after o (λ v r. ended v (past_blanks r))) h ∙ ap (ended v) (sym e)

pub ended-wrong : (v : Value) (left : List ℕ) → (left ≡ [] → ⊥) → ended v left ≡ stop Wrong (length left)
ended-wrong v [] n = absurd (n refl)
ended-wrong v (b ∷ bs) n = refl

pub ended-ok : (v : Value) (left : List ℕ) → left ≡ [] → ended v left ≡ ok v []
ended-ok v left e = ap (ended v) e

-- ---- the characters of a text

no-byte : (b c : ℕ) → (b ≡ c → ⊥) → eqb b c ≡ false
no-byte b c n = by (eqb b c) refl
  where
    by : (t : Bool) → eqb b c ≡ t → t ≡ false
    by true e = absurd (n (eqb-true b c e))
    by false e = refl

pub quoted-plain : (bs so_far rest more next : List ℕ) (esc : Bool) (b : ℕ) → quoted_read false bs ≡ with_front so_far (quoted_read esc rest) → esc ≡ false → rest ≡ b ∷ more
    → (b ≡ 34 → ⊥) → (b ≡ 92 → ⊥) → is_raw b ≡ false → next ≡ so_far ++ b ∷ [] → quoted_read false bs ≡ with_front next (quoted_read esc more)
quoted-plain bs so_far rest more next esc b i e r x y z n =
    i ∙ ap (λ (t : Bool). with_front so_far (quoted_read t rest)) e ∙ ap (λ l. with_front so_far (quoted_read false l)) r
    ∙ ap (with_front so_far) (cond-false (eqb b 34) (ok [] more) (cond (eqb b 92) (quoted_read true more) (cond (is_raw b) (stop Wrong (length (b ∷ more))) (with_front (b ∷ []) (quoted_read false more)))) (no-byte b 34 x)
    ∙ cond-false (eqb b 92) (quoted_read true more) (cond (is_raw b) (stop Wrong (length (b ∷ more))) (with_front (b ∷ []) (quoted_read false more))) (no-byte b 92 y)
    ∙ cond-false (is_raw b) (stop Wrong (length (b ∷ more))) (with_front (b ∷ []) (quoted_read false more)) z)
    ∙ sym (with_front-next so_far b (quoted_read false more)) ∙ ap (λ l. with_front l (quoted_read false more)) (sym n) ∙ ap (λ (t : Bool). with_front next (quoted_read t more)) (sym e)

pub quoted-meant : (bs so_far rest more next : List ℕ) (esc : Bool) (b d : ℕ) → quoted_read false bs ≡ with_front so_far (quoted_read esc rest) → esc ≡ true → rest ≡ b ∷ more
    → escape_of b ≡ Some d → next ≡ so_far ++ d ∷ [] → quoted_read false bs ≡ with_front next (quoted_read false more)
quoted-meant bs so_far rest more next esc b d i e r x n =
    i ∙ ap (λ (t : Bool). with_front so_far (quoted_read t rest)) e ∙ ap (λ l. with_front so_far (quoted_read true l)) r
    ∙ ap (λ o. with_front so_far (escape_read o (length (b ∷ more)) (quoted_read false more))) x
    ∙ sym (with_front-next so_far d (quoted_read false more)) ∙ ap (λ l. with_front l (quoted_read false more)) (sym n)

-- ---- the arguments in their parentheses

pub enclosed : (table : Table) (left id : ℕ) (fields : List rust_field.FieldDef) (bs rest : List ℕ) → 1 ≤ length fields → (left ≡ 0 → ⊥) → symbol 40 bs ≡ ok tt rest
    → fields_read (value_below table left) id (map field_of fields) bs ≡ after (arguments_read (value_read table (left - 1)) (map field_of fields) rest) (λ vs end. ok (cons id (packed vs)) end)
enclosed table left id [] bs rest l n s = absurd (omega (arith, l))
enclosed table left id (f ∷ fs) bs rest l n s =
    ap (λ o. enclosed_read o id (map field_of (f ∷ fs)) bs) (value_below-is table left (left - 1) (omega (arith, n)))
    ∙ ap (λ o. after o (λ _ r. after (arguments_read (value_read table (left - 1)) (map field_of (f ∷ fs)) r) (λ vs end. ok (cons id (packed vs)) end))) s

pub no-fields : (table : Table) (left id : ℕ) (fields : List rust_field.FieldDef) (bs : List ℕ) → length fields < 1
    → fields_read (value_below table left) id (map field_of fields) bs ≡ ok (cons id no_value) bs
no-fields table left id [] bs l = refl
no-fields table left id (f ∷ fs) bs l = absurd (omega (arith, l))

-- ---- the constructors of a type

pub made_read-at : (n : ℕ) (table : Table) (k : ℕ) (bs : List ℕ) (cs : List Constructor) → option_map (λ t. t.constructors) (slice_get table k) ≡ Some cs
    → made_read n table k bs ≡ made_among (n + first_of table k) cs bs
made_read-at n [] k bs cs e = absurd (cc)
made_read-at n (t ∷ ts) zero bs cs e =
    let h : t.constructors ≡ cs = same_some e in
    let z : n ≡ n + 0 = omega arith in
    ap (λ l. made_among n l bs) h ∙ ap (λ i. made_among i cs bs) z
made_read-at n (t ∷ ts) (suc k) bs cs e =
    let z : (n + length t.constructors) + first_of ts k ≡ n + (length t.constructors + first_of ts k) = omega arith in
    made_read-at (n + length t.constructors) ts k bs cs e ∙ ap (λ i. made_among i cs bs) z

pub made_read-none : (n : ℕ) (table : Table) (k : ℕ) (bs : List ℕ) → slice_get table k ≡ None → made_read n table k bs ≡ stop Wrong (length bs)
made_read-none n [] k bs e = refl
made_read-none n (t ∷ ts) zero bs e = absurd (cc)
made_read-none n (t ∷ ts) (suc k) bs e = made_read-none (n + length t.constructors) ts k bs e

-- no place is further on than this
abbrev Within : {A : Type 0} → ℕ → Outcome A → Type 0
Within n (ok a r) = 0 ≤ 0
Within n (stop k m) = m ≤ n

name-within : (x bs : List ℕ) → Within (length bs) (name_read x bs)
name-within [] bs = by (goes_on bs)
  where
    by : (t : Bool) → Within (length bs) (cond t (stop Wrong (length bs)) (ok (tt {0}) bs))
    by true = omega arith
    by false = omega arith
name-within (x ∷ xs) [] = omega arith
name-within (x ∷ xs) (b ∷ bs) = by (eqb b x) (name_read xs bs) (name-within xs bs)
  where
    by : (t : Bool) (o : Outcome (Unit {0})) → Within (length bs) o → Within (length (b ∷ bs)) (cond t o (stop Wrong (length (b ∷ bs))))
    by true (ok a r) h = omega arith
    by true (stop k m) h = omega (arith, h)
    by false o h = omega arith

either-within : {A B : Type 0} (n : ℕ) (o : Outcome B) (go : B → List ℕ → A) (p : Outcome A) → Within n o → Within n p → Within n (either (after o (λ b r. ok (go b r) r)) p)
either-within n (ok b r) go p h g = omega arith
either-within n (stop k m) go (ok a r) h g = omega arith
either-within n (stop k m) go (stop l j) h g = omega (arith, h, g)

made-within : (c : ℕ) (cs : List Constructor) (bs : List ℕ) → Within (length bs) (made_among c cs bs)
made-within c [] bs = omega arith
made-within c (x ∷ xs) bs =
    either-within (length bs) (name_read x.name bs) (λ _ r. record { number = c; fields = x.fields }) (made_among (suc c) xs bs) (name-within x.name bs) (made-within (suc c) xs bs)

within-either : {A : Type 0} (n : ℕ) (o : Outcome A) → Within n o → o ≡ either (stop Wrong n) o
within-either n (ok a r) h = refl
within-either n (stop k m) h = let e : m ≡ min n m = omega (arith, h) in ap (stop k) e

pub made-start : (c : ℕ) (cs : List Constructor) (bs : List ℕ) → made_among c cs bs ≡ either (stop Wrong (length bs)) (made_among c cs bs)
made-start c cs bs = within-either (length bs) (made_among c cs bs) (made-within c cs bs)

either-twice : {A : Type 0} (n m : ℕ) (o : Outcome A) → either (stop Wrong n) (either (stop Wrong m) o) ≡ either (stop Wrong (min n m)) o
either-twice n m (ok a r) = refl
either-twice n m (stop k j) = let e : min n (min m j) ≡ min (min n m) j = omega arith in ap (stop k) e

pub made-next : (o : Outcome Made) (left place next id : ℕ) (items more : List rust_cons.ConsDef) (x : rust_cons.ConsDef) (name bs : List ℕ) → o ≡ either (stop Wrong left) (made_among id (conses_of items) bs)
    → items ≡ x ∷ more → name ≡ x.name → name_read name bs ≡ stop Wrong place → next ≡ min left place → o ≡ either (stop Wrong next) (made_among (id + 1) (conses_of more) bs)
made-next o left place next id items more x name bs i e f s n =
    let z : suc id ≡ id + 1 = omega arith in
    i ∙ ap (λ l. either (stop Wrong left) (made_among id (conses_of l) bs)) e
    ∙ ap (λ p. either (stop Wrong left) (either (after p (λ _ r. ok (record { number = id; fields = map field_of x.fields }) r)) (made_among (suc id) (conses_of more) bs))) (ap (λ l. name_read l bs) (sym f) ∙ s)
    ∙ either-twice left place (made_among (suc id) (conses_of more) bs)
    ∙ ap (λ j. either (stop Wrong j) (made_among (suc id) (conses_of more) bs)) (sym n)
    ∙ ap (λ j. either (stop Wrong next) (made_among j (conses_of more) bs)) z

pub made-end : (o : Outcome Made) (left id : ℕ) (items : List rust_cons.ConsDef) (bs : List ℕ) → o ≡ either (stop Wrong left) (made_among id (conses_of items) bs) → items ≡ [] → left ≤ length bs → o ≡ stop Wrong left
made-end o left id items bs i e l =
    let z : min left (length bs) ≡ left = omega (arith, l) in
    i ∙ ap (λ k. either (stop Wrong left) (made_among id (conses_of k) bs)) e ∙ ap (stop Wrong) z

pub ruleset steps = (with_front-next, value_read-is)
