-- The words of bytes, from their front.
use Rattle.std.proofs.Common.{◌≡◌, ◌<◌, ℕ, Bool, true, false, cond, List, [], ◌∷◌, ◌++◌, length, filter, refl, sym, ◌∙◌, ap, append_assoc, arith}
use Rattle.txs_words.specs.Form.{is_gap, onto, parts, has_byte, words_of}
use Rattle.txs_words.specs.inner.Parsing.{HasNoGap}

parts-gap : (w : List ℕ) (b : ℕ) (rest : List ℕ) → HasNoGap w → is_gap b ≡ true → parts (w ++ b ∷ rest) ≡ w ∷ parts rest
parts-gap [] b rest h e = ap (λ (t : Bool). cond t ([] ∷ parts rest) (onto b (parts rest))) e
parts-gap (c ∷ w) b rest h e = ap (λ (t : Bool). cond t ([] ∷ parts (w ++ b ∷ rest)) (onto c (parts (w ++ b ∷ rest)))) h.0 ∙ ap (onto c) (parts-gap w b rest h.1 e)

parts-word : (w : List ℕ) → HasNoGap w → parts w ≡ w ∷ []
parts-word [] h = refl
parts-word (c ∷ w) h = ap (λ (t : Bool). cond t ([] ∷ parts w) (onto c (parts w))) h.0 ∙ ap (onto c) (parts-word w h.1)

-- a gap after no word
pub words-gap : (b : ℕ) (rest : List ℕ) → is_gap b ≡ true → words_of (b ∷ rest) ≡ words_of rest
words-gap b rest e = ap (filter has_byte) (parts-gap [] b rest tt e)

-- a gap after a word
pub words-end : (w : List ℕ) (b : ℕ) (rest : List ℕ) → 0 < length w → HasNoGap w → is_gap b ≡ true → words_of (w ++ b ∷ rest) ≡ w ∷ words_of rest
words-end [] b rest n h e = absurd (omega arith)
words-end (c ∷ w) b rest n h e = ap (filter has_byte) (parts-gap (c ∷ w) b rest h e)

pub words-last : (w : List ℕ) → 0 < length w → HasNoGap w → words_of w ≡ w ∷ []
words-last [] n h = absurd (omega arith)
words-last (c ∷ w) n h = ap (filter has_byte) (parts-word (c ∷ w) h)

pub HasNoGap-push : (w : List ℕ) (b : ℕ) → HasNoGap w → is_gap b ≡ false → HasNoGap (w ++ b ∷ [])
HasNoGap-push [] b h e = (e, tt)
HasNoGap-push (c ∷ w) b h e = (h.0, HasNoGap-push w b h.1 e)

pub words-push : (ws : List (List ℕ)) (w : List ℕ) (b : ℕ) (rest : List ℕ) → ws ++ words_of ((w ++ b ∷ []) ++ rest) ≡ ws ++ words_of (w ++ b ∷ rest)
words-push ws w b rest = ap (λ (q : List ℕ). ws ++ words_of q) (append_assoc w (b ∷ []) rest)

pub empty_word : (w : List ℕ) → length w ≡ 0 → w ≡ []
empty_word [] h = refl
empty_word (c ∷ w) h = absurd (omega arith)

pub words-done : (ws more : List (List ℕ)) (w v left : List ℕ) (b : ℕ) (rest : List ℕ) → more ≡ ws ++ v ∷ [] → v ≡ w → left ≡ [] → 0 < length w → HasNoGap w → is_gap b ≡ true → more ++ words_of (left ++ rest) ≡ ws ++ words_of (w ++ b ∷ rest)
words-done ws more w v left b rest e f g n h k =
    ap (λ (q : List ℕ). more ++ words_of (q ++ rest)) g ∙ (ap (λ (q : List (List ℕ)). q ++ words_of rest) e ∙ (append_assoc ws (v ∷ []) (words_of rest)
    ∙ (ap (λ (q : List ℕ). ws ++ q ∷ words_of rest) f ∙ ap (λ (q : List (List ℕ)). ws ++ q) (sym (words-end w b rest n h k)))))

pub ruleset wording = (words-gap, words-end, words-last, HasNoGap-push, words-push, empty_word)
