-- The words of a file are those that it may choose with those of the form, and of no others.
use Rattle.std.proofs.Common.{◌≡◌, inl, inr, ℕ, ◌-◌, ◌≤◌, true, false, cond, ◌&&◌, nat_le, List, [], ◌∷◌, ◌++◌, length, take, drop, append_assoc, length-append, Option, Some, None, refl, sym, ◌∙◌, ap, arith, bytes_eq}
use Rattle.std.proofs.Math.Seq.{take-append_seam, drop-append_seam}
use Rattle.std.proofs.lemmas.List.{take-append-drop}
use Rattle.txs_words.specs.inner.FileWords.{FileWords, are_same, front_words, out_words, in_words, assembled, placed, kept, taken_apart}
use Rattle.txs_values.proofs.Tests.{by-test, le-true, and-both, both-and, eq-bytes, bytes-eq, yes, no}

pub same-eq : (ws xs : List (List ℕ)) → are_same ws xs ≡ true → ws ≡ xs
same-eq [] [] h = refl
same-eq [] (x ∷ xs) h = absurd (cc)
same-eq (w ∷ ws) [] h = absurd (cc)
same-eq (w ∷ ws) (x ∷ xs) h =
    let p = and-both (bytes_eq w x) (are_same ws xs) h in
    ap (λ (q : List ℕ). q ∷ ws) (eq-bytes w x p.0) ∙ ap (λ (q : List (List ℕ)). x ∷ q) (same-eq ws xs p.1)

pub same-own : (ws : List (List ℕ)) → are_same ws ws ≡ true
same-own [] = refl
same-own (w ∷ ws) = both-and (bytes_eq w w) (are_same ws ws) (bytes-eq w w refl) (same-own ws)

-- a list from its cuts
cut-join : {A : Type 0} (n k m : ℕ) (ws a b c d : List A) → take n ws ≡ a → take k (drop n ws) ≡ b → take m (drop k (drop n ws)) ≡ c → drop m (drop k (drop n ws)) ≡ d → ws ≡ a ++ b ++ (c ++ d)
cut-join n k m ws a b c d ea eb ec ed =
    sym (take-append-drop n ws)
    ∙ (ap (λ q. q ++ drop n ws) ea
    ∙ (ap (λ q. a ++ q) (sym (take-append-drop k (drop n ws)) ∙ (ap (λ q. q ++ drop k (drop n ws)) eb ∙ ap (λ q. b ++ q) (sym (take-append-drop m (drop k (drop n ws))) ∙ (ap (λ q. q ++ drop m (drop k (drop n ws))) ec ∙ ap (λ q. c ++ q) ed))))
    ∙ sym (append_assoc a b (c ++ d))))

kept-cuts : (front b back : List (List ℕ)) (p : FileWords) → kept front b back ≡ Some p
    → (front ≡ front_words p) × (b ≡ p.behaviour) × (take 22 back ≡ out_words p) × (drop 22 back ≡ in_words p)
kept-cuts front b back p h =
    elim (by-test (are_same front (front_words (placed front b back)) && (are_same (take 22 back) (out_words (placed front b back)) && are_same (drop 22 back) (in_words (placed front b back)))) (Some (placed front b back)) None (Some p) h) [
      | inl d ↦ let q : placed front b back ≡ p = cc in
          let f = and-both (are_same front (front_words (placed front b back))) _ d.0 in
          let g = and-both (are_same (take 22 back) (out_words (placed front b back))) (are_same (drop 22 back) (in_words (placed front b back))) f.1 in
          (same-eq front _ f.0 ∙ ap front_words q, ap (λ (z : FileWords). z.behaviour) q, same-eq (take 22 back) _ g.0 ∙ ap out_words q, same-eq (drop 22 back) _ g.1 ∙ ap in_words q)
      | inr d ↦ absurd (cc)
    ]

pub apart-assembled : (ws : List (List ℕ)) (p : FileWords) → taken_apart ws ≡ Some p → ws ≡ assembled p
apart-assembled ws p h =
    elim (by-test (nat_le 59 (length ws)) (kept (take 19 ws) (take (length (drop 19 ws) - 40) (drop 19 ws)) (drop (length (drop 19 ws) - 40) (drop 19 ws))) None (Some p) h) [
      | inl d ↦ let g = kept-cuts (take 19 ws) (take (length (drop 19 ws) - 40) (drop 19 ws)) (drop (length (drop 19 ws) - 40) (drop 19 ws)) p d.1 in
          cut-join 19 (length (drop 19 ws) - 40) 22 ws (front_words p) p.behaviour (out_words p) (in_words p) g.0 g.1 g.2 g.3
      | inr d ↦ absurd (cc)
    ]

-- the cut before an end of known length
pub take-before : {A : Type 0} (b back : List A) (n : ℕ) → length back ≡ n → take (length (b ++ back) - n) (b ++ back) ≡ b
take-before b back n e =
    let h : length (b ++ back) - n ≡ length b = omega (arith, length-append b back) in
    ap (λ (k : ℕ). take k (b ++ back)) h ∙ take-append_seam b back

pub drop-before : {A : Type 0} (b back : List A) (n : ℕ) → length back ≡ n → drop (length (b ++ back) - n) (b ++ back) ≡ back
drop-before b back n e =
    let h : length (b ++ back) - n ≡ length b = omega (arith, length-append b back) in
    ap (λ (k : ℕ). drop k (b ++ back)) h ∙ drop-append_seam b back

kept-own : (p : FileWords) → kept (front_words p) p.behaviour (out_words p ++ in_words p) ≡ Some p
kept-own p = yes (are_same (front_words p) (front_words p) && (are_same (out_words p) (out_words p) && are_same (in_words p) (in_words p))) (Some p) None
    (both-and (are_same (front_words p) (front_words p)) _ (same-own (front_words p)) (both-and (are_same (out_words p) (out_words p)) _ (same-own (out_words p)) (same-own (in_words p))))

long-enough : (p : FileWords) → 59 ≤ length (assembled p)
long-enough p = omega (arith, length-append p.behaviour (out_words p ++ in_words p))

pub assembled-apart : (p : FileWords) → taken_apart (assembled p) ≡ Some p
assembled-apart p =
    yes (nat_le 59 (length (assembled p))) (kept (front_words p) (take (length (p.behaviour ++ (out_words p ++ in_words p)) - 40) (p.behaviour ++ (out_words p ++ in_words p))) (drop (length (p.behaviour ++ (out_words p ++ in_words p)) - 40) (p.behaviour ++ (out_words p ++ in_words p)))) None (le-true 59 (length (assembled p)) (long-enough p))
    ∙ (ap (λ (q : List (List ℕ)). kept (front_words p) q (drop (length (p.behaviour ++ (out_words p ++ in_words p)) - 40) (p.behaviour ++ (out_words p ++ in_words p)))) (take-before p.behaviour (out_words p ++ in_words p) 40 refl)
    ∙ (ap (λ (q : List (List ℕ)). kept (front_words p) p.behaviour q) (drop-before p.behaviour (out_words p ++ in_words p) 40 refl)
    ∙ kept-own p))

kept-test : (front b back out inn : List (List ℕ)) (p : FileWords) → p ≡ placed front b back → out ≡ take 22 back → inn ≡ drop 22 back
    → kept front b back ≡ cond (are_same front (front_words p) && (are_same out (out_words p) && are_same inn (in_words p))) (Some p) None
kept-test front b back out inn p e f g =
    let test : FileWords → Option FileWords = λ q. cond (are_same front (front_words q) && (are_same (take 22 back) (out_words q) && are_same (drop 22 back) (in_words q))) (Some q) None in
    ap test (sym e)
    ∙ (ap (λ (q : List (List ℕ)). cond (are_same front (front_words p) && (are_same q (out_words p) && are_same (drop 22 back) (in_words p))) (Some p) None) (sym f)
    ∙ ap (λ (q : List (List ℕ)). cond (are_same front (front_words p) && (are_same out (out_words p) && are_same q (in_words p))) (Some p) None) (sym g))

pub kept-is : (front b back out inn : List (List ℕ)) (p : FileWords) → p ≡ placed front b back → out ≡ take 22 back → inn ≡ drop 22 back
    → (are_same front (front_words p) && (are_same out (out_words p) && are_same inn (in_words p))) ≡ true → kept front b back ≡ Some p
kept-is front b back out inn p e f g h = kept-test front b back out inn p e f g ∙ yes (are_same front (front_words p) && (are_same out (out_words p) && are_same inn (in_words p))) (Some p) None h

pub kept-not : (front b back out inn : List (List ℕ)) (p : FileWords) → p ≡ placed front b back → out ≡ take 22 back → inn ≡ drop 22 back
    → (are_same front (front_words p) && (are_same out (out_words p) && are_same inn (in_words p))) ≡ false → kept front b back ≡ None
kept-not front b back out inn p e f g h = kept-test front b back out inn p e f g ∙ no (are_same front (front_words p) && (are_same out (out_words p) && are_same inn (in_words p))) (Some p) None h

pub apart-is : (ws front rest b back : List (List ℕ)) → front ≡ take 19 ws → rest ≡ drop 19 ws → b ≡ take (length rest - 40) rest → back ≡ drop (length rest - 40) rest → 59 ≤ length ws
    → taken_apart ws ≡ kept front b back
apart-is ws front rest b back e f g h long =
    yes (nat_le 59 (length ws)) (kept (take 19 ws) (take (length (drop 19 ws) - 40) (drop 19 ws)) (drop (length (drop 19 ws) - 40) (drop 19 ws))) None (le-true 59 (length ws) long)
    ∙ (ap (λ (q : List (List ℕ)). kept (take 19 ws) (take (length q - 40) q) (drop (length q - 40) q)) (sym f)
    ∙ (ap (λ (q : List (List ℕ)). kept q (take (length rest - 40) rest) (drop (length rest - 40) rest)) (sym e)
    ∙ (ap (λ (q : List (List ℕ)). kept front q (drop (length rest - 40) rest)) (sym g)
    ∙ ap (λ (q : List (List ℕ)). kept front b q) (sym h))))
