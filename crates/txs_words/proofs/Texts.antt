-- The words of a text are texts.
use Rattle.std.proofs.Common.{◌≡◌, ℕ, suc, ◌<◌, Bool, true, false, List, [], ◌∷◌, ◌++◌, length, get_or, filter, append-nil, length-append, refl, sym, ◌∙◌, ap, subst, arith}
use Rattle.std.proofs.Math.Seq.{take-append_seam}
use Rattle.std.proofs.Math.Utf8.{scalars, scalar, encodes, encode}
use Rattle.std.proofs.lemmas.Bool.Decides.{nat_tests}
use Rattle.std.proofs.lemmas.Str.{IsUtf8-nil, IsUtf8-append, IsUtf8-encode, IsUtf8-drop, IsUtf8-take, IsCharBoundary-before_ascii, IsCharBoundary-after_ascii, encode_ascii, inside_one}
use Rattle.std.specs.List.{AllByRecursion}
use Rattle.std.specs.Str.{IsUtf8}
use Rattle.txs_words.specs.Form.{is_gap, onto, parts, has_byte, words_of}
use Rattle.txs_words.specs.inner.Parsing.{HasNoGap}
use Rattle.txs_values.proofs.Tests.{and-both, yes, no}

gap-ascii : (b : ℕ) → is_gap b ≡ true → b < 128
gap-ascii b h = grind (arith, nat_tests)

-- there is a first part
record FirstPart (bs : List ℕ) : Type 0 where
  first : List ℕ
  others : List (List ℕ)
  are : parts bs ≡ first ∷ others

first-byte : (b : ℕ) (bs : List ℕ) (t : Bool) → is_gap b ≡ t → FirstPart bs → FirstPart (b ∷ bs)
first-byte b bs true e f = record { first = []; others = parts bs; are = yes (is_gap b) ([] ∷ parts bs) (onto b (parts bs)) e }
first-byte b bs false e f = record { first = b ∷ f.first; others = f.others; are = no (is_gap b) ([] ∷ parts bs) (onto b (parts bs)) e ∙ ap (onto b) f.are }

first-part : (bs : List ℕ) → FirstPart bs
first-part [] = record { first = []; others = []; are = refl }
first-part (b ∷ bs) = first-byte b bs (is_gap b) refl (first-part bs)

parts-run : (w rest v : List ℕ) (vs : List (List ℕ)) → HasNoGap w → parts rest ≡ v ∷ vs → parts (w ++ rest) ≡ (w ++ v) ∷ vs
parts-run [] rest v vs h e = e
parts-run (b ∷ w) rest v vs h e = no (is_gap b) ([] ∷ parts (w ++ rest)) (onto b (parts (w ++ rest))) h.0 ∙ ap (onto b) (parts-run w rest v vs h.1 e)

no-gaps : (w : List ℕ) → ((k : ℕ) → k < length w → is_gap (get_or w k 0) ≡ false) → HasNoGap w
no-gaps [] h = tt
no-gaps (b ∷ w) h = (h 0 (omega arith), no-gaps w (λ k l. h (suc k) (omega arith)))

no-gap-in : (c : ℕ) → is_gap c ≡ false → (k : ℕ) → k < length (encode c) → (t : Bool) → is_gap (get_or (encode c) k 0) ≡ t → is_gap (get_or (encode c) k 0) ≡ false
no-gap-in c e k l false h = h
no-gap-in c e k l true h =
    let q : c ≡ get_or (encode c) k 0 = inside_one c [] (encode c) k (sym (append-nil (encode c))) l (gap-ascii (get_or (encode c) k 0) h) in
    subst (λ (z : ℕ). is_gap z ≡ false) q e

encode-no-gap : (c : ℕ) → is_gap c ≡ false → HasNoGap (encode c)
encode-no-gap c e = no-gaps (encode c) (λ k l. no-gap-in c e k l (is_gap (get_or (encode c) k 0)) refl)

gap-texts : (c : ℕ) (rest : List ℕ) → is_gap c ≡ true → AllByRecursion IsUtf8 (parts rest) → AllByRecursion IsUtf8 (parts (encode c ++ rest))
gap-texts c rest e h =
    let q : parts (encode c ++ rest) ≡ [] ∷ parts rest = ap (λ (w : List ℕ). parts (w ++ rest)) (encode_ascii c (gap-ascii c e)) ∙ yes (is_gap c) ([] ∷ parts rest) (onto c (parts rest)) e in
    subst (λ (ws : List (List ℕ)). AllByRecursion IsUtf8 ws) (sym q) (IsUtf8-nil, h)

char-texts : (c : ℕ) (rest : List ℕ) → scalar c ≡ true → is_gap c ≡ false → AllByRecursion IsUtf8 (parts rest) → AllByRecursion IsUtf8 (parts (encode c ++ rest))
char-texts c rest s e h =
    let f = first-part rest in
    let g = subst (λ (ws : List (List ℕ)). AllByRecursion IsUtf8 ws) f.are h in
    subst (λ (ws : List (List ℕ)). AllByRecursion IsUtf8 ws) (sym (parts-run (encode c) rest f.first f.others (encode-no-gap c e) f.are)) (IsUtf8-append (encode c) f.first (IsUtf8-encode c s) g.0, g.1)

either-texts : (c : ℕ) (rest : List ℕ) (t : Bool) → is_gap c ≡ t → scalar c ≡ true → AllByRecursion IsUtf8 (parts rest) → AllByRecursion IsUtf8 (parts (encode c ++ rest))
either-texts c rest true e s h = gap-texts c rest e h
either-texts c rest false e s h = char-texts c rest s e h

parts-texts : (cs : List ℕ) → scalars cs ≡ true → AllByRecursion IsUtf8 (parts (encodes cs))
parts-texts [] h = (IsUtf8-nil, tt)
parts-texts (c ∷ cs) h = let p = and-both (scalar c) (scalars cs) h in either-texts c (encodes cs) (is_gap c) refl p.0 (parts-texts cs p.1)

filter-texts : (ws : List (List ℕ)) → AllByRecursion IsUtf8 ws → AllByRecursion IsUtf8 (filter has_byte ws)
filter-texts [] h = tt
filter-texts ([] ∷ ws) h = filter-texts ws h.1
filter-texts ((b ∷ w) ∷ ws) h = (h.0, filter-texts ws h.1)

-- the words of UTF-8 are UTF-8
pub words-texts : (bytes : List ℕ) → IsUtf8 bytes → AllByRecursion IsUtf8 (words_of bytes)
words-texts bytes u = subst (λ (bs : List ℕ). AllByRecursion IsUtf8 (words_of bs)) u.1.1 (filter-texts (parts (encodes u.0)) (parts-texts u.0 u.1.0))

pub texts-behind : (ws xs : List (List ℕ)) → AllByRecursion IsUtf8 (ws ++ xs) → AllByRecursion IsUtf8 xs
texts-behind [] xs h = h
texts-behind (w ∷ ws) xs h = texts-behind ws xs h.1

quote-at : (h : List ℕ) → get_or (h ++ 34 ∷ []) (length h) 0 ≡ 34
quote-at [] = refl
quote-at (b ∷ h) = quote-at h

quote-within : (h : List ℕ) → length h < length (h ++ 34 ∷ [])
quote-within h = omega (arith, length-append h (34 ∷ []))

-- what stands between quotes is UTF-8
pub quoted-text : (h : List ℕ) → IsUtf8 (34 ∷ (h ++ 34 ∷ [])) → IsUtf8 h
quoted-text h u =
    let rest : IsUtf8 (h ++ 34 ∷ []) = IsUtf8-drop (34 ∷ (h ++ 34 ∷ [])) 1 u (IsCharBoundary-after_ascii (34 ∷ (h ++ 34 ∷ [])) 0 u (omega arith) (omega arith)) in
    let ascii : get_or (h ++ 34 ∷ []) (length h) 0 < 128 = omega (arith, quote-at h) in
    subst IsUtf8 (take-append_seam h (34 ∷ [])) (IsUtf8-take (h ++ 34 ∷ []) (length h) rest (IsCharBoundary-before_ascii (h ++ 34 ∷ []) (length h) (quote-within h) ascii))
