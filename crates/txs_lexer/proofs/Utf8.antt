-- Where a text that is UTF-8 may be cut, and what its escapes keep.
use Rattle.std.proofs.Common.{◌≡◌, ℕ, ◌+◌, ◌<◌, List, [], ◌∷◌, ◌++◌, length, take, drop, get_or, Some, refl, sym, ap, subst, append_assoc, length-append, arith}
use Rattle.std.proofs.Math.Seq.{drop-append_seam}
use Rattle.std.proofs.lemmas.Bool.Decides.{nat_tests}
use Rattle.std.proofs.lemmas.Str.{IsUtf8-take, IsUtf8-drop, IsUtf8-append, IsUtf8-from_ascii, IsCharBoundary-before_ascii, IsCharBoundary-after_ascii}
use Rattle.std.proofs.lemmas.Str.Ascii.{IsAscii-nil, IsAscii-cons}
use Rattle.std.specs.Str.{IsUtf8}
use Rattle.txs_values.specs.Spelling.{escape_of}
use Rattle.txs_lexer.specs.Tokens.{Quotes, nothing, as_it_is, escaped_by}

seam : (xs : List ℕ) (b : ℕ) (ys : List ℕ) → get_or (xs ++ b ∷ ys) (length xs) 0 ≡ b
seam [] b ys = refl
seam (x ∷ xs) b ys = seam xs b ys

pub take-seam : (xs ys : List ℕ) → take (length xs) (xs ++ ys) ≡ xs
take-seam [] ys = refl
take-seam (x ∷ xs) ys = ap (λ (q : List ℕ). x ∷ q) (take-seam xs ys)

-- what stands before an ASCII byte
pub cut-before : (xs : List ℕ) (b : ℕ) (ys : List ℕ) → b < 128 → IsUtf8 (xs ++ b ∷ ys) → IsUtf8 xs
cut-before xs b ys a u =
    let e = seam xs b ys in
    let within : length xs < length (xs ++ b ∷ ys) = omega (arith, length-append xs (b ∷ ys)) in
    let low : get_or (xs ++ b ∷ ys) (length xs) 0 < 128 = omega (arith, e) in
    subst IsUtf8 (take-seam xs (b ∷ ys)) (IsUtf8-take (xs ++ b ∷ ys) (length xs) u (IsCharBoundary-before_ascii (xs ++ b ∷ ys) (length xs) within low))

-- what stands behind it
pub cut-behind : (xs : List ℕ) (b : ℕ) (ys : List ℕ) → b < 128 → IsUtf8 (xs ++ b ∷ ys) → IsUtf8 ys
cut-behind xs b ys a u =
    let e = seam xs b ys in
    let within : length xs < length (xs ++ b ∷ ys) = omega (arith, length-append xs (b ∷ ys)) in
    let low : get_or (xs ++ b ∷ ys) (length xs) 0 < 128 = omega (arith, e) in
    let regrouped : (xs ++ b ∷ []) ++ ys ≡ xs ++ b ∷ ys = append_assoc xs (b ∷ []) ys in
    let len : length (xs ++ b ∷ []) ≡ length xs + 1 = omega (arith, length-append xs (b ∷ [])) in
    let past : drop (length xs + 1) (xs ++ b ∷ ys) ≡ ys = subst (λ (q : List ℕ). drop (length xs + 1) q ≡ ys) regrouped (subst (λ (n : ℕ). drop n ((xs ++ b ∷ []) ++ ys) ≡ ys) len (drop-append_seam (xs ++ b ∷ []) ys)) in
    subst IsUtf8 past (IsUtf8-drop (xs ++ b ∷ ys) (length xs + 1) u (IsCharBoundary-after_ascii (xs ++ b ∷ ys) (length xs) u within low))

escape-ascii : (c b : ℕ) → escape_of c ≡ Some b → (c < 128) × (b < 128)
escape-ascii c b h = grind (arith, nat_tests)

alone-utf8 : (b : ℕ) → b < 128 → IsUtf8 (b ∷ [])
alone-utf8 b h = IsUtf8-from_ascii (b ∷ []) (IsAscii-cons b [] h IsAscii-nil)

-- escapes stand for ASCII, so the text is UTF-8 where its spelling is
pub quotes-utf8 : {text ws : List ℕ} (front : List ℕ) → Quotes text ws → IsUtf8 (front ++ ws) → IsUtf8 (front ++ text)
quotes-utf8 front nothing u = u
quotes-utf8 front (as_it_is b bs ws p q) u =
    subst IsUtf8 (append_assoc front (b ∷ []) bs) (quotes-utf8 (front ++ b ∷ []) q (subst IsUtf8 (sym (append_assoc front (b ∷ []) ws)) u))
quotes-utf8 front (escaped_by b c bs ws e q) u =
    let low = escape-ascii c b e in
    let before = cut-before front 92 (c ∷ ws) (omega arith) u in
    let behind = cut-behind [] c ws low.0 (cut-behind front 92 (c ∷ ws) (omega arith) u) in
    let rest = quotes-utf8 [] q behind in
    IsUtf8-append front (b ∷ bs) before (IsUtf8-append (b ∷ []) bs (alone-utf8 b low.1) rest)
