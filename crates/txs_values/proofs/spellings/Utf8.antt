-- A text that stands quoted within UTF-8 is UTF-8.
use Rattle.std.proofs.Common.{◌≡◌, ℕ, suc, ◌+◌, ◌<◌, Bool, true, false, cond, eqb, eqb-true, get_or, take, drop, List, [], ◌∷◌, ◌++◌, length, Some, None, refl, sym, ap, subst, ◌∙◌, append_assoc, length-append, arith}
use Rattle.std.proofs.lemmas.List.{append-nil}
use Rattle.std.proofs.lemmas.Str.{IsUtf8-append, IsUtf8-take, IsUtf8-drop, IsUtf8-from_ascii, is_utf8-from_IsUtf8, IsCharBoundary-after_ascii, IsCharBoundary-at_seam}
use Rattle.std.proofs.lemmas.Str.Ascii.{IsAscii-nil, IsAscii-cons}
use Rattle.std.specs.Str.{IsUtf8}
use Rattle.txs_values.specs.Spelling.{escape_of}
use Rattle.txs_values.specs.Spelled.{Quotes, nothing, as_it_is, escaped_by}
use Rattle.txs_values.proofs.spellings.Fronts.{same_some}
use Rattle.txs_values.proofs.spellings.Tokens.{IsBroken}

drop-past : (u : List ℕ) (c : ℕ) (r : List ℕ) → drop (length u + 1) (u ++ c ∷ r) ≡ r
drop-past [] c r = refl
drop-past (x ∷ u) c r = let e : length (x ∷ u) + 1 ≡ suc (length u + 1) = omega arith in ap (λ n. drop n ((x ∷ u) ++ c ∷ r)) e ∙ drop-past u c r

at-past : (u : List ℕ) (c : ℕ) (r : List ℕ) → get_or (u ++ c ∷ r) (length u) 0 ≡ c
at-past [] c r = refl
at-past (x ∷ u) c r = at-past u c r

take-front : (u r : List ℕ) → take (length u) (u ++ r) ≡ u
take-front [] r = refl
take-front (x ∷ u) r = ap (λ (l : List ℕ). x ∷ l) (take-front u r)

-- what follows an ASCII byte
pub past-ascii : (u : List ℕ) (c : ℕ) (r : List ℕ) → c < 128 → IsUtf8 (u ++ c ∷ r) → IsUtf8 r
past-ascii u c r l h =
    let n = length-append u (c ∷ r) in
    let e = at-past u c r in
    subst (λ (l : List ℕ). IsUtf8 l) (drop-past u c r) (IsUtf8-drop (u ++ c ∷ r) (length u + 1) h (IsCharBoundary-after_ascii (u ++ c ∷ r) (length u) h (omega (arith, n)) (omega (arith, e, l))))

one-ascii : (c : ℕ) → c < 128 → IsUtf8 (c ∷ [])
one-ascii c l = IsUtf8-from_ascii (c ∷ []) (IsAscii-cons c [] l IsAscii-nil)

-- what stands before one
front-ascii : (u : List ℕ) (c : ℕ) (r : List ℕ) → c < 128 → IsUtf8 (u ++ c ∷ r) → IsUtf8 u
front-ascii u c r l h =
    subst (λ (l : List ℕ). IsUtf8 l) (take-front u (c ∷ r)) (IsUtf8-take (u ++ c ∷ r) (length u) h (IsCharBoundary-at_seam (u ++ c ∷ r) u (c ∷ r) refl (IsUtf8-append (c ∷ []) r (one-ascii c l) (past-ascii u c r l h))))

by-tests : (b c : ℕ) (t u v w x : Bool) → eqb c 34 ≡ t → eqb c 92 ≡ u → eqb c 110 ≡ v → eqb c 114 ≡ w → eqb c 116 ≡ x
    → cond t (Some 34) (cond u (Some 92) (cond v (Some 10) (cond w (Some 13) (cond x (Some 9) None)))) ≡ Some b → (c < 128) × (b < 128)
by-tests b c true u v w x h1 h2 h3 h4 h5 e = let p = eqb-true c 34 h1 in let q : 34 ≡ b = same_some e in (omega (arith, p), omega (arith, q))
by-tests b c false true v w x h1 h2 h3 h4 h5 e = let p = eqb-true c 92 h2 in let q : 92 ≡ b = same_some e in (omega (arith, p), omega (arith, q))
by-tests b c false false true w x h1 h2 h3 h4 h5 e = let p = eqb-true c 110 h3 in let q : 10 ≡ b = same_some e in (omega (arith, p), omega (arith, q))
by-tests b c false false false true x h1 h2 h3 h4 h5 e = let p = eqb-true c 114 h4 in let q : 13 ≡ b = same_some e in (omega (arith, p), omega (arith, q))
by-tests b c false false false false true h1 h2 h3 h4 h5 e = let p = eqb-true c 116 h5 in let q : 9 ≡ b = same_some e in (omega (arith, p), omega (arith, q))
by-tests b c false false false false false h1 h2 h3 h4 h5 e = absurd (cc)

escape-ascii : (b c : ℕ) → escape_of c ≡ Some b → (c < 128) × (b < 128)
escape-ascii b c e = by-tests b c (eqb c 34) (eqb c 92) (eqb c 110) (eqb c 114) (eqb c 116) refl refl refl refl refl e

quoted-utf8 : {a ws : List ℕ} → Quotes a ws → (p more : List ℕ) → IsUtf8 (p ++ (ws ++ 34 ∷ more)) → IsUtf8 (p ++ a)
quoted-utf8 nothing p more h = subst (λ (l : List ℕ). IsUtf8 l) (sym (append-nil p)) (front-ascii p 34 more (omega arith) h)
quoted-utf8 (as_it_is {bs = a} {ws = ws} b x y z q) p more h =
    subst (λ (l : List ℕ). IsUtf8 l) (append_assoc p (b ∷ []) a) (quoted-utf8 q (p ++ b ∷ []) more (subst (λ (l : List ℕ). IsUtf8 l) (sym (append_assoc p (b ∷ []) (ws ++ 34 ∷ more))) h))
quoted-utf8 (escaped_by {bs = a} {ws = ws} b c e q) p more h =
    let l = escape-ascii b c e in
    let rest = past-ascii p 92 (c ∷ (ws ++ 34 ∷ more)) (omega arith) h in
    let u = quoted-utf8 q [] more (past-ascii [] c (ws ++ 34 ∷ more) l.0 rest) in
    IsUtf8-append p (b ∷ a) (front-ascii p 92 (c ∷ (ws ++ 34 ∷ more)) (omega arith) h) (IsUtf8-append (b ∷ []) a (one-ascii b l.1) u)

-- no text within UTF-8 is broken
pub unbroken : (used r : List ℕ) → IsUtf8 (used ++ r) → IsBroken r → ⊥
unbroken used r h b =
    let whole : IsUtf8 (used ++ 34 ∷ (b.0 ++ 34 ∷ b.2)) = subst (λ (l : List ℕ). IsUtf8 (used ++ l)) b.3 h in
    let u = quoted-utf8 b.4 [] b.2 (past-ascii used 34 (b.0 ++ 34 ∷ b.2) (omega arith) whole) in
    let t = is_utf8-from_IsUtf8 b.1 u in
    let f = b.5 in
    cc
