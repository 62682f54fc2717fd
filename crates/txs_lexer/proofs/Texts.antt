-- A text in quotes: how far it goes, and what it means.
use Rattle.std.proofs.Common.{◌≡◌, ◌⊎◌, inl, inr, ℕ, suc, ◌+◌, Bool, true, false, not, ◌&&◌, cond, eqb, eqb-true, List, [], ◌∷◌, ◌++◌, length, take, drop, Option, Some, None, Result, Ok, Err, refl, sym, ◌∙◌, ap, subst, arith}
use Rattle.std.proofs.lemmas.Bool.Decides.{nat_tests}
use Rattle.txs_values.specs.Spelling.{escape_of}
use Rattle.txs_lexer.specs.Tokens.{is_plain, Quotes, nothing, as_it_is, escaped_by, IsInside, empty, plain, escape, IsBroken, at_end, at_line_feed, behind_backslash, backslash_and_line_feed}
use Rattle.txs_lexer.specs.Scan.{inside_len, with_byte, farther, with_escape, meaning}
use Rattle.txs_lexer.proofs.Steps.{inside-plain, inside-escape, meaning-plain}
use Rattle.txs_values.proofs.Tests.{and-both, not-true}

-- ---- bytes

plain-no_backslash : (b : ℕ) → is_plain b ≡ true → eqb b 92 ≡ false
plain-no_backslash b h = grind (arith, nat_tests)

not-plain : (b : ℕ) → is_plain b ≡ false → (b ≡ 34) ⊎ ((b ≡ 92) ⊎ (b ≡ 10))
not-plain b h = grind (arith, nat_tests)

escape-no_feed : (c b : ℕ) → escape_of c ≡ Some b → eqb c 10 ≡ false
escape-no_feed c b h = grind (arith, nat_tests)

-- ---- how far a text goes

-- what stands behind the inside of a text
pub data Behind : List ℕ → Type 0 where
  closed : (rest : List ℕ) → Behind (34 ∷ rest)
  broken : (rest : List ℕ) → IsBroken rest → Behind rest

pub record Cut (bs : List ℕ) (n : ℕ) : Type 0 where
  pub inside : IsInside (take n bs)
  pub behind : Behind (drop n bs)

cut-plain : (b : ℕ) (bs : List ℕ) (n : ℕ) → is_plain b ≡ true → Cut bs n → Cut (b ∷ bs) (n + 1)
cut-plain b bs n e h = let m : Cut (b ∷ bs) (suc n) = record { inside = plain b (take n bs) e h.inside; behind = h.behind } in subst (Cut (b ∷ bs)) (omega arith) m

cut-escape : (c : ℕ) (bs : List ℕ) (n : ℕ) → eqb c 10 ≡ false → Cut bs n → Cut (92 ∷ c ∷ bs) (n + 2)
cut-escape c bs n e h = let m : Cut (92 ∷ c ∷ bs) (suc (suc n)) = record { inside = escape c (take n bs) e h.inside; behind = h.behind } in subst (Cut (92 ∷ c ∷ bs)) (omega arith) m

cut-here : (bs : List ℕ) → Behind bs → Cut bs 0
cut-here bs h = record { inside = empty; behind = h }

last-behind : (b : ℕ) → (b ≡ 34) ⊎ ((b ≡ 92) ⊎ (b ≡ 10)) → Behind (b ∷ [])
last-behind b (inl e) = subst (λ (q : ℕ). Behind (q ∷ [])) (sym e) (closed [])
last-behind b (inr (inl e)) = subst (λ (q : ℕ). Behind (q ∷ [])) (sym e) (broken (92 ∷ []) behind_backslash)
last-behind b (inr (inr e)) = subst (λ (q : ℕ). Behind (q ∷ [])) (sym e) (broken (10 ∷ []) (at_line_feed []))

cut-last : (b : ℕ) (t : Bool) → is_plain b ≡ t → Cut (b ∷ []) (cond t 1 0)
cut-last b true e = record { inside = plain b [] e empty; behind = broken [] at_end }
cut-last b false e = cut-here (b ∷ []) (last-behind b (not-plain b e))

escape-test : (b c : ℕ) → (eqb b 92 && not (eqb c 10)) ≡ true → (b ≡ 92) × (eqb c 10 ≡ false)
escape-test b c h = let both = and-both (eqb b 92) (not (eqb c 10)) h in (eqb-true b 92 both.0, not-true (eqb c 10) both.1)

feed-test : (b c : ℕ) → b ≡ 92 → (eqb b 92 && not (eqb c 10)) ≡ false → c ≡ 10
feed-test b c e h = grind (arith, nat_tests)

pair-behind : (b c : ℕ) (bs : List ℕ) → (eqb b 92 && not (eqb c 10)) ≡ false → (b ≡ 34) ⊎ ((b ≡ 92) ⊎ (b ≡ 10)) → Behind (b ∷ c ∷ bs)
pair-behind b c bs h (inl e) = subst (λ (q : ℕ). Behind (q ∷ c ∷ bs)) (sym e) (closed (c ∷ bs))
pair-behind b c bs h (inr (inl e)) = subst (λ (q : ℕ). Behind (b ∷ q ∷ bs)) (sym (feed-test b c e h)) (subst (λ (q : ℕ). Behind (q ∷ 10 ∷ bs)) (sym e) (broken (92 ∷ 10 ∷ bs) (backslash_and_line_feed bs)))
pair-behind b c bs h (inr (inr e)) = subst (λ (q : ℕ). Behind (q ∷ c ∷ bs)) (sym e) (broken (10 ∷ c ∷ bs) (at_line_feed (c ∷ bs)))

cut-no_plain : (b c : ℕ) (bs : List ℕ) (n : ℕ) (t : Bool) → is_plain b ≡ false → (eqb b 92 && not (eqb c 10)) ≡ t → Cut bs n → Cut (b ∷ c ∷ bs) (cond t (n + 2) 0)
cut-no_plain b c bs n true p e h = let k = escape-test b c e in subst (λ (q : ℕ). Cut (q ∷ c ∷ bs) (n + 2)) (sym k.0) (cut-escape c bs n k.1 h)
cut-no_plain b c bs n false p e h = cut-here (b ∷ c ∷ bs) (pair-behind b c bs e (not-plain b p))

cut-pair : (b c : ℕ) (bs : List ℕ) (m n : ℕ) (t : Bool) → is_plain b ≡ t → Cut (c ∷ bs) m → Cut bs n → Cut (b ∷ c ∷ bs) (cond t (m + 1) (cond (eqb b 92 && not (eqb c 10)) (n + 2) 0))
cut-pair b c bs m n true e h k = cut-plain b (c ∷ bs) m e h
cut-pair b c bs m n false e h k = cut-no_plain b c bs n (eqb b 92 && not (eqb c 10)) e refl k

pub inside-cut : (bs : List ℕ) → Cut bs (inside_len bs)
inside-cut [] = cut-here [] (broken [] at_end)
inside-cut (b ∷ []) = cut-last b (is_plain b) refl
inside-cut (b ∷ c ∷ bs) = cut-pair b c bs (inside_len (c ∷ bs)) (inside_len bs) (is_plain b) refl (inside-cut (c ∷ bs)) (inside-cut bs)

closed-none : (rest : List ℕ) → inside_len (34 ∷ rest) ≡ 0
closed-none [] = refl
closed-none (c ∷ bs) = refl

feed-none : (rest : List ℕ) → inside_len (10 ∷ rest) ≡ 0
feed-none [] = refl
feed-none (c ∷ bs) = refl

broken-none : {rest : List ℕ} → IsBroken rest → inside_len rest ≡ 0
broken-none at_end = refl
broken-none (at_line_feed bs) = feed-none bs
broken-none behind_backslash = refl
broken-none (backslash_and_line_feed bs) = refl

behind-none : {rest : List ℕ} → Behind rest → inside_len rest ≡ 0
behind-none (closed rest) = closed-none rest
behind-none (broken rest h) = broken-none h

pub inside-is : {xs : List ℕ} (rest : List ℕ) → IsInside xs → Behind rest → inside_len (xs ++ rest) ≡ length xs
inside-is rest empty h = behind-none h
inside-is rest (plain b bs e i) h = inside-plain b (bs ++ rest) e ∙ (ap (λ (n : ℕ). n + 1) (inside-is rest i h) ∙ omega arith)
inside-is rest (escape c bs e i) h = inside-escape c (bs ++ rest) e ∙ (ap (λ (n : ℕ). n + 2) (inside-is rest i h) ∙ omega arith)

-- ---- what it means

-- the first wrong escape is so far in
pub record IsWrongAt (ws : List ℕ) (k : ℕ) : Type 0 where
  pub text : List ℕ
  pub front : List ℕ
  pub byte : ℕ
  pub more : List ℕ
  pub parts : ws ≡ front ++ (92 ∷ byte ∷ more)
  pub place : k ≡ length front
  pub right : Quotes text front
  pub wrong : escape_of byte ≡ None
  pub no_feed : eqb byte 10 ≡ false
  pub inside : IsInside more

abbrev pub Meant : List ℕ → Result (List ℕ) ℕ → Type 0
Meant ws (Ok text) = Quotes text ws
Meant ws (Err k) = IsWrongAt ws k

meant-plain : (b : ℕ) (bs : List ℕ) (r : Result (List ℕ) ℕ) → is_plain b ≡ true → Meant bs r → Meant (b ∷ bs) (with_byte b (farther 1 r))
meant-plain b bs (Ok text) e h = as_it_is b text bs e h
meant-plain b bs (Err k) e h = record {
  text = b ∷ h.text;
  front = b ∷ h.front;
  byte = h.byte;
  more = h.more;
  parts = ap (λ (q : List ℕ). b ∷ q) h.parts;
  place = omega (arith, h.place);
  right = as_it_is b h.text h.front e h.right;
  wrong = h.wrong;
  no_feed = h.no_feed;
  inside = h.inside;
}

meant-right : (b c : ℕ) (bs : List ℕ) (r : Result (List ℕ) ℕ) → escape_of c ≡ Some b → Meant bs r → Meant (92 ∷ c ∷ bs) (with_byte b (farther 2 r))
meant-right b c bs (Ok text) e h = escaped_by b c text bs e h
meant-right b c bs (Err k) e h = record {
  text = b ∷ h.text;
  front = 92 ∷ c ∷ h.front;
  byte = h.byte;
  more = h.more;
  parts = ap (λ (q : List ℕ). 92 ∷ c ∷ q) h.parts;
  place = omega (arith, h.place);
  right = escaped_by b c h.text h.front e h.right;
  wrong = h.wrong;
  no_feed = h.no_feed;
  inside = h.inside;
}

meant-escape : (c : ℕ) (bs : List ℕ) (r : Result (List ℕ) ℕ) (o : Option ℕ) → eqb c 10 ≡ false → IsInside bs → escape_of c ≡ o → Meant bs r → Meant (92 ∷ c ∷ bs) (with_escape o r)
meant-escape c bs r None f i e h = record {
  text = [];
  front = [];
  byte = c;
  more = bs;
  parts = refl;
  place = refl;
  right = nothing;
  wrong = e;
  no_feed = f;
  inside = i;
}
meant-escape c bs r (Some b) f i e h = meant-right b c bs r e h

pub inside-meant : {ws : List ℕ} → IsInside ws → Meant ws (meaning ws)
inside-meant empty = nothing
inside-meant (plain b bs e i) = subst (Meant (b ∷ bs)) (sym (meaning-plain b bs (plain-no_backslash b e))) (meant-plain b bs (meaning bs) e (inside-meant i))
inside-meant (escape c bs e i) = meant-escape c bs (meaning bs) (escape_of c) e i refl (inside-meant i)

pub quotes-inside : {text ws : List ℕ} → Quotes text ws → IsInside ws
quotes-inside nothing = empty
quotes-inside (as_it_is b bs ws e q) = plain b ws e (quotes-inside q)
quotes-inside (escaped_by b c bs ws e q) = escape c ws (escape-no_feed c b e) (quotes-inside q)

pub inside-append : {xs : List ℕ} (ys : List ℕ) → IsInside xs → IsInside ys → IsInside (xs ++ ys)
inside-append ys empty h = h
inside-append ys (plain b bs e i) h = plain b (bs ++ ys) e (inside-append ys i h)
inside-append ys (escape c bs e i) h = escape c (bs ++ ys) e (inside-append ys i h)

meaning-right : (b c : ℕ) (bs : List ℕ) (r : Result (List ℕ) ℕ) → escape_of c ≡ Some b → meaning bs ≡ r → meaning (92 ∷ c ∷ bs) ≡ with_byte b (farther 2 r)
meaning-right b c bs r e h = ap (λ (o : Option ℕ). with_escape o (meaning bs)) e ∙ ap (λ (q : Result (List ℕ) ℕ). with_byte b (farther 2 q)) h

pub quotes-meaning : {text ws : List ℕ} → Quotes text ws → meaning ws ≡ Ok text
quotes-meaning nothing = refl
quotes-meaning (as_it_is b bs ws e q) = meaning-plain b ws (plain-no_backslash b e) ∙ ap (λ (r : Result (List ℕ) ℕ). with_byte b (farther 1 r)) (quotes-meaning q)
quotes-meaning (escaped_by b c bs ws e q) = meaning-right b c ws (Ok bs) e (quotes-meaning q)

pub wrong-meaning : {text ws : List ℕ} (d : ℕ) (more : List ℕ) → Quotes text ws → escape_of d ≡ None → meaning (ws ++ (92 ∷ d ∷ more)) ≡ Err (length ws)
wrong-meaning d more nothing n = ap (λ (o : Option ℕ). with_escape o (meaning more)) n
wrong-meaning d more (as_it_is b bs ws e q) n = meaning-plain b (ws ++ (92 ∷ d ∷ more)) (plain-no_backslash b e) ∙ (ap (λ (r : Result (List ℕ) ℕ). with_byte b (farther 1 r)) (wrong-meaning d more q n) ∙ ap Err (omega arith))
wrong-meaning d more (escaped_by b c bs ws e q) n = meaning-right b c (ws ++ (92 ∷ d ∷ more)) (Err (length ws)) e (wrong-meaning d more q n) ∙ ap Err (omega arith)
