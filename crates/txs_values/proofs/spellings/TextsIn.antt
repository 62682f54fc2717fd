-- Each text in a value that is read is UTF-8.
use Rattle.std.proofs.Common.{◌≡◌, ℕ, zero, suc, Bool, true, false, cond, List, [], ◌∷◌, length, Option, Some, None, codes, refl, subst}
use Rattle.std.specs.Str.{is_utf8}
use Rattle.std.specs.Str.Parse.{signed_digits_value}
use Rattle.txs_values.specs.declared.reading.Kind.TheVariants.{Wrong, Past, Broken}
use Rattle.txs_values.specs.Value.{Ty, integer, truth, string, named, Value, num, bool, text, cons, packed, Field, Table, fits}
use Rattle.txs_values.specs.Ints.{number_run, past_number, has_digit}
use Rattle.txs_values.specs.Spelling.{past_blanks}
use Rattle.txs_values.specs.Spelled.{HasTexts, HaveTexts}
use Rattle.txs_values.specs.Reading.{Outcome, ok, stop, after, either, with_front, symbol_here, symbol, number_read, name_read, truth_read, quoted_read, text_read, made_read, Reader, mark_behind, arguments_read, full_read, fields_read, level_read, value_read, levels_below, ended, lone_read}

abbrev Gives : {A : Type 0} → (A → Type 0) → Outcome A → Type 0
Gives P (ok a r) = P a
Gives P (stop k n) = Unit {0}

after_gives : {A B : Type 0} (P : A → Type 0) (Q : B → Type 0) (o : Outcome A) (go : A → List ℕ → Outcome B) → Gives P o
    → ((a : A) (r : List ℕ) → P a → Gives Q (go a r)) → Gives Q (after o go)
after_gives P Q (ok a r) go h k = k a r h
after_gives P Q (stop n m) go h k = tt

anything : {A : Type 0} (o : Outcome A) → Gives (λ _. Unit {0}) o
anything (ok a r) = tt
anything (stop k n) = tt

either_gives : {A : Type 0} (P : A → Type 0) (o p : Outcome A) → Gives P o → Gives P p → Gives P (either o p)
either_gives P (ok a r) p h k = h
either_gives P (stop n m) (ok a r) h k = k
either_gives P (stop n m) (stop i j) h k = tt

number_gives : (bs : List ℕ) → Gives HasTexts (number_read bs)
number_gives bs = by (has_digit (number_run bs)) (fits (signed_digits_value 10 (number_run bs)))
  where
    by : (h f : Bool)
        → Gives HasTexts (cond h (cond f (ok (num (signed_digits_value 10 (number_run bs))) (past_number bs)) (stop Past (length bs))) (stop Wrong (length (past_number bs))))
    by true true = tt
    by true false = tt
    by false f = tt

truth_gives : (bs : List ℕ) → Gives HasTexts (truth_read bs)
truth_gives bs =
    either_gives HasTexts (after (name_read (codes "True") bs) (λ _ r. ok (bool true) r)) (after (name_read (codes "False") bs) (λ _ r. ok (bool false) r))
    (after_gives (λ _. Unit {0}) HasTexts (name_read (codes "True") bs) (λ _ r. ok (bool true) r) (anything _) (λ _ r _. tt))
    (after_gives (λ _. Unit {0}) HasTexts (name_read (codes "False") bs) (λ _ r. ok (bool false) r) (anything _) (λ _ r _. tt))

text_gives : (bs : List ℕ) → Gives HasTexts (text_read bs)
text_gives bs =
    after_gives (λ _. Unit {0}) HasTexts (symbol_here 34 bs) (λ _ r. after (quoted_read false r) (λ t end. cond (is_utf8 t) (ok (text t) end) (stop Broken (length bs)))) (anything _)
    (λ _ r _. after_gives (λ _. Unit {0}) HasTexts (quoted_read false r) (λ t end. cond (is_utf8 t) (ok (text t) end) (stop Broken (length bs))) (anything _)
    (λ t end _. by t end (is_utf8 t) refl))
  where
    by : (t end : List ℕ) (b : Bool) → is_utf8 t ≡ b → Gives HasTexts (cond b (ok (text t) end) (stop Broken (length bs)))
    by t end true e = e
    by t end false e = tt

abbrev EachHasTexts : List Value → Type 0
EachHasTexts vs = HaveTexts (packed vs)

abbrev Reads : Reader → Type 0
Reads below = (t : Ty) (bs : List ℕ) → Gives HasTexts (below t bs)

front_gives : (v : Value) (o : Outcome (List Value)) → HasTexts v → Gives EachHasTexts o → Gives EachHasTexts (with_front (v ∷ []) o)
front_gives v (ok vs r) h k = (h, k)
front_gives v (stop n m) h k = tt

arguments_give : (below : Reader) → Reads below → (fs : List Field) (bs : List ℕ) → Gives EachHasTexts (arguments_read below fs bs)
arguments_give below h [] bs = tt
arguments_give below h (f ∷ fs) bs =
    after_gives HasTexts EachHasTexts (below f.ty bs) (λ v r. after (symbol (mark_behind fs) r) (λ _ more. with_front (v ∷ []) (arguments_read below fs more))) (h f.ty bs)
    (λ v r q. after_gives (λ _. Unit {0}) EachHasTexts (symbol (mark_behind fs) r) (λ _ more. with_front (v ∷ []) (arguments_read below fs more)) (anything _)
    (λ _ more _. front_gives v (arguments_read below fs more) q (arguments_give below h fs more)))

full_gives : (bs : List ℕ) → Gives HasTexts (full_read bs)
full_gives [] = tt
full_gives (b ∷ bs) = tt

abbrev ReadsBelow : Option Reader → Type 0
ReadsBelow None = Unit {0}
ReadsBelow (Some below) = Reads below

fields_give : (below : Option Reader) → ReadsBelow below → (c : ℕ) (fs : List Field) (bs : List ℕ) → Gives HasTexts (fields_read below c fs bs)
fields_give below h c [] bs = tt
fields_give None h c (f ∷ fs) bs = full_gives (past_blanks bs)
fields_give (Some below) h c (f ∷ fs) bs =
    after_gives (λ _. Unit {0}) HasTexts (symbol 40 bs) (λ _ r. after (arguments_read below (f ∷ fs) r) (λ vs end. ok (cons c (packed vs)) end)) (anything _)
    (λ _ r _. after_gives EachHasTexts HasTexts (arguments_read below (f ∷ fs) r) (λ vs end. ok (cons c (packed vs)) end) (arguments_give below h (f ∷ fs) r) (λ vs end q. q))

level_gives : (table : Table) (below : Option Reader) → ReadsBelow below → Reads (level_read table below)
level_gives table below h integer bs = number_gives bs
level_gives table below h truth bs = truth_gives bs
level_gives table below h string bs = text_gives bs
level_gives table below h (named k) bs =
    after_gives (λ _. Unit {0}) HasTexts (made_read 0 table k bs) (λ m r. fields_read below m.number m.fields r) (anything _) (λ m r _. fields_give below h m.number m.fields r)

value_gives : (table : Table) (left : ℕ) → Reads (value_read table left)
value_gives table zero t bs = level_gives table None tt t (past_blanks bs)
value_gives table (suc left) t bs = level_gives table (Some (value_read table left)) (value_gives table left) t (past_blanks bs)

ended_gives : (v : Value) (bs : List ℕ) → HasTexts v → Gives HasTexts (ended v bs)
ended_gives v [] h = h
ended_gives v (b ∷ bs) h = tt

pub read_texts : (table : Table) (t : Ty) (bs r : List ℕ) (v : Value) → lone_read table t bs ≡ ok v r → HasTexts v
read_texts table t bs r v e =
    subst (Gives HasTexts) e
    (after_gives HasTexts HasTexts (value_read table levels_below t bs) (λ v r. ended v (past_blanks r)) (value_gives table levels_below t bs) (λ v r h. ended_gives v (past_blanks r) h))
