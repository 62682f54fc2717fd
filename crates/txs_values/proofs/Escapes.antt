-- Texts between their quotes.
use lib.Dec.{ltb}
use lib.Utf8.{encode, encodes, next}
use Rattle.std.proofs.Common.{◌≡◌, ◌≢◌, ℕ, ◌+◌, ◌/◌, ◌%◌, ◌≤◌, Bool, true, false, cond, eqb, List, [], ◌∷◌, ◌++◌, refl, sym, ◌∙◌, ap, arith, append_assoc}
use Rattle.std.proofs.lemmas.Bool.Decides.{nat_tests}
use Rattle.std.proofs.lemmas.List.{append-nil}
use Rattle.std.proofs.lemmas.Str.{encodes-append}
use Rattle.txs_values.specs.Text.{escaped}

escaped-plain : (b : ℕ) (bs : List ℕ) → eqb b 34 ≡ false → eqb b 92 ≡ false → eqb b 10 ≡ false → eqb b 13 ≡ false → eqb b 9 ≡ false → escaped (b ∷ bs) ≡ b ∷ escaped bs
escaped-plain b bs e1 e2 e3 e4 e5 = rw (e1, e2, e3, e4, e5) refl

past-ascii : (b : ℕ) (bs : List ℕ) → 128 ≤ b → escaped (b ∷ bs) ≡ b ∷ escaped bs
past-ascii b bs l = escaped-plain b bs (grind (arith, nat_tests)) (grind (arith, nat_tests)) (grind (arith, nat_tests)) (grind (arith, nat_tests)) (grind (arith, nat_tests))

append-if : (t : Bool) (p q r x y : List ℕ) → p ≡ x ++ r → q ≡ y ++ r → cond t p q ≡ cond t x y ++ r
append-if true p q r x y h k = h
append-if false p q r x y h k = k

pub escaped-append : (bs cs : List ℕ) → escaped (bs ++ cs) ≡ escaped bs ++ escaped cs
escaped-append [] cs = refl
escaped-append (b ∷ bs) cs =
    let h = escaped-append bs cs in
    append-if (eqb b 34) _ _ _ _ _ (ap (λ (q : List ℕ). 92 ∷ 34 ∷ q) h)
    (append-if (eqb b 92) _ _ _ _ _ (ap (λ (q : List ℕ). 92 ∷ 92 ∷ q) h)
    (append-if (eqb b 10) _ _ _ _ _ (ap (λ (q : List ℕ). 92 ∷ 110 ∷ q) h)
    (append-if (eqb b 13) _ _ _ _ _ (ap (λ (q : List ℕ). 92 ∷ 114 ∷ q) h)
    (append-if (eqb b 9) _ _ _ _ _ (ap (λ (q : List ℕ). 92 ∷ 116 ∷ q) h) (ap (λ (q : List ℕ). b ∷ q) h)))))

-- bytes that stand as they are
data AreHigh : List ℕ → Type 0 where
  no_more : AreHigh []
  high : {b : ℕ} {bs : List ℕ} → 128 ≤ b → AreHigh bs → AreHigh (b ∷ bs)

escaped-high : (bs : List ℕ) → AreHigh bs → escaped bs ≡ bs
escaped-high [] h = refl
escaped-high (b ∷ bs) (high l h) = past-ascii b bs l ∙ ap (λ (q : List ℕ). b ∷ q) (escaped-high bs h)

fixed-if : (t : Bool) (x y : List ℕ) → escaped x ≡ x → escaped y ≡ y → escaped (cond t x y) ≡ cond t x y
fixed-if true x y h k = h
fixed-if false x y h k = k

over : (n m : ℕ) → 128 ≤ n → 128 ≤ n + m
over n m h = omega (arith, h)

pub escaped-encode : (c : ℕ) → c ≢ 34 → c ≢ 92 → c ≢ 10 → c ≢ 13 → c ≢ 9 → escaped (encode c) ≡ encode c
unfolding encode
escaped-encode c n1 n2 n3 n4 n5 =
    fixed-if (ltb c 128) (c ∷ []) _ (escaped-plain c [] (grind (arith, nat_tests)) (grind (arith, nat_tests)) (grind (arith, nat_tests)) (grind (arith, nat_tests)) (grind (arith, nat_tests)))
    (fixed-if (ltb c 2048) ((192 + c / 64) ∷ next c ∷ []) _ (escaped-high _ (high (over 192 (c / 64) (omega arith)) (high (over 128 (c % 64) (omega arith)) no_more)))
    (fixed-if (ltb c 65536) ((224 + c / 4096) ∷ next (c / 64) ∷ next c ∷ []) ((240 + c / 262144) ∷ next (c / 4096) ∷ next (c / 64) ∷ next c ∷ [])
    (escaped-high _ (high (over 224 (c / 4096) (omega arith)) (high (over 128 (c / 64 % 64) (omega arith)) (high (over 128 (c % 64) (omega arith)) no_more))))
    (escaped-high _ (high (over 240 (c / 262144) (omega arith)) (high (over 128 (c / 4096 % 64) (omega arith)) (high (over 128 (c / 64 % 64) (omega arith)) (high (over 128 (c % 64) (omega arith)) no_more)))))))

-- one character more
pub escaped-more : (start out new : List ℕ) (cs : List ℕ) (c : ℕ) → out ≡ start ++ escaped (encodes cs) → new ≡ out ++ escaped (encode c) → new ≡ start ++ escaped (encodes (cs ++ c ∷ []))
escaped-more start out new cs c h k =
    let one : encodes (c ∷ []) ≡ encode c = append-nil (encode c) in
    let bytes : encodes (cs ++ c ∷ []) ≡ encodes cs ++ encode c = encodes-append cs (c ∷ []) ∙ ap (λ (q : List ℕ). encodes cs ++ q) one in
    k ∙ (ap (λ (q : List ℕ). q ++ escaped (encode c)) h ∙ (append_assoc start (escaped (encodes cs)) (escaped (encode c))
    ∙ ap (λ (q : List ℕ). start ++ q) (sym (ap escaped bytes ∙ escaped-append (encodes cs) (encode c)))))
