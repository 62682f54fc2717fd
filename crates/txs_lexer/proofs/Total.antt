-- Each text gives an answer.
use Rattle.std.proofs.Common.{◌≡◌, ℕ, zero, suc, ◌+◌, ◌<◌, ◌≤◌, Bool, true, false, nat_le, List, [], ◌∷◌, length, take, Result, Ok, Err, refl, sym, ◌∙◌, ap, subst, length-append, arith}
use Rattle.std.proofs.lemmas.Bool.Decides.{nat_tests}
use Rattle.std.proofs.lemmas.Str.{IsUtf8-nil, IsUtf8-from_is_utf8, is_utf8-from_IsUtf8}
use Rattle.std.specs.Str.{IsUtf8, is_utf8, IsValidUpTo}
use Rattle.txs_lexer.specs.declared.fault.LexFault.{LexFault}
use Rattle.txs_lexer.specs.declared.fault.LexFault.TheVariants.{TooLong, NotUtf8}
use Rattle.txs_lexer.specs.declared.front.Front.{Front}
use Rattle.txs_lexer.specs.declared.front.Front.TheVariants.{Gap, Lexeme}
use Rattle.txs_lexer.specs.Lexed.{Answer, with_token, Lexed, nothing_left, over_gap, over_token, at_fault, IsLexed, too_long, not_utf8, read, text_limit}
use Rattle.txs_lexer.specs.Scan.{front_of}
use Rattle.txs_lexer.proofs.Sound.{Fits, front-fits}
use Rattle.txs_values.proofs.Tests.{true-le}
use Rattle.txs_lexer.proofs.Whole.{gap-some, token-some}

-- ---- tokens or a fault

abbrev pub Has : ℕ → List ℕ → Type 0
Has at text = (answer : Answer) × Lexed at text answer

has-front : (at : ℕ) (text : List ℕ) (n : ℕ) (r : Result Front LexFault) → length text ≤ suc n → Fits at text r → ((to : ℕ) (rest : List ℕ) → length rest ≤ n → Has to rest) → Has at text
has-front at text n (Ok (Gap k)) l f later =
    let some = gap-some f.is in
    let len : length text ≡ length f.gap + length f.rest = ap length f.parts ∙ length-append f.gap f.rest in
    let rest = later (at + length f.gap) f.rest (omega arith) in
    (rest.0, subst (λ (q : List ℕ). Lexed at q rest.0) (sym f.parts) (over_gap at f.gap f.rest rest.0 f.is rest.1))
has-front at text n (Ok (Lexeme kind k)) l f later =
    let some = token-some kind f.slice f.is in
    let len : length text ≡ length f.slice + length f.rest = ap length f.parts ∙ length-append f.slice f.rest in
    let rest = later (at + length f.slice) f.rest (omega arith) in
    let all : Answer = with_token (record { kind = kind; from = at; to = at + length f.slice }) rest.0 in
    (all, subst (λ (q : List ℕ). Lexed at q all) (sym f.parts) (over_token at kind f.slice f.rest rest.0 f.is f.longest rest.1))
has-front at text n (Err fault) l f later = (Err fault, at_fault at text fault f)

has-answer : (n at : ℕ) (text : List ℕ) → length text ≤ n → Has at text
has-answer zero at [] l = (Ok [], nothing_left at)
has-answer zero at (b ∷ bs) l = absurd (omega arith)
has-answer (suc n) at [] l = (Ok [], nothing_left at)
has-answer (suc n) at (b ∷ bs) l = has-front at (b ∷ bs) n (front_of at (b ∷ bs)) l (front-fits at b bs) (λ to rest k. has-answer n to rest k)

-- ---- the longest front that is UTF-8

no-utf8 : (bytes : List ℕ) → is_utf8 bytes ≡ false → IsUtf8 bytes → ⊥
no-utf8 bytes e u = let t = is_utf8-from_IsUtf8 bytes u in cc

take-past : (bytes : List ℕ) (n : ℕ) → length bytes ≤ n → take n bytes ≡ bytes
take-past [] zero l = refl
take-past [] (suc n) l = refl
take-past (b ∷ bs) zero l = absurd (omega arith)
take-past (b ∷ bs) (suc n) l = ap (λ (q : List ℕ). b ∷ q) (take-past bs n (omega arith))

-- the greatest of the lengths up to m
pub record Longest (bytes : List ℕ) (m : ℕ) : Type 0 where
  pub len : ℕ
  pub within : len ≤ m
  pub front : IsUtf8 (take len bytes)
  pub longest : (j : ℕ) → len < j → j ≤ m → IsUtf8 (take j bytes) → ⊥

false-le : (m n : ℕ) → nat_le m n ≡ false → n < m
false-le m n h = grind (arith, nat_tests)

last-is : (j m : ℕ) → nat_le j m ≡ false → j ≤ suc m → j ≡ suc m
last-is j m h k = let l = false-le j m h in omega arith

not-last : (bytes : List ℕ) (m : ℕ) (h : Longest bytes m) (j : ℕ) (t : Bool) → is_utf8 (take (suc m) bytes) ≡ false → nat_le j m ≡ t → h.len < j → j ≤ suc m → IsUtf8 (take j bytes) → ⊥
not-last bytes m h j true e f l k u = h.longest j l (true-le j m f) u
not-last bytes m h j false e f l k u = no-utf8 (take (suc m) bytes) e (subst (λ (q : ℕ). IsUtf8 (take q bytes)) (last-is j m f k) u)

longest-at : (bytes : List ℕ) (m : ℕ) (t : Bool) → is_utf8 (take (suc m) bytes) ≡ t → Longest bytes m → Longest bytes (suc m)
longest-at bytes m true e h = record { len = suc m; within = omega arith; front = IsUtf8-from_is_utf8 (take (suc m) bytes) e; longest = λ j l k u. omega arith }
longest-at bytes m false e h = record {
  len = h.len;
  within = omega (arith, h.within);
  front = h.front;
  longest = λ j l k u. not-last bytes m h j (nat_le j m) e refl l k u;
}

longest-of : (bytes : List ℕ) (m : ℕ) → Longest bytes m
longest-of bytes zero = record { len = zero; within = omega arith; front = IsUtf8-nil; longest = λ j l k u. omega arith }
longest-of bytes (suc m) = longest-at bytes m (is_utf8 (take (suc m) bytes)) refl (longest-of bytes m)

whole-no : (bytes : List ℕ) (j : ℕ) → is_utf8 bytes ≡ false → length bytes ≤ j → IsUtf8 (take j bytes) → ⊥
whole-no bytes j e l u = no-utf8 bytes e (subst IsUtf8 (take-past bytes j l) u)

longest-short : (bytes : List ℕ) (h : Longest bytes (length bytes)) (t : Bool) → is_utf8 bytes ≡ false → nat_le (length bytes) h.len ≡ t → h.len < length bytes
longest-short bytes h true e f = absurd (whole-no bytes h.len e (true-le (length bytes) h.len f) h.front)
longest-short bytes h false e f = false-le (length bytes) h.len f

longest-all : (bytes : List ℕ) (h : Longest bytes (length bytes)) (j : ℕ) (t : Bool) → is_utf8 bytes ≡ false → nat_le j (length bytes) ≡ t → h.len < j → IsUtf8 (take j bytes) → ⊥
longest-all bytes h j true e f l u = h.longest j l (true-le j (length bytes) f) u
longest-all bytes h j false e f l u = let k = false-le j (length bytes) f in whole-no bytes j e (omega arith) u

valid-up-to : (bytes : List ℕ) → is_utf8 bytes ≡ false → (n : ℕ) × IsValidUpTo bytes n
valid-up-to bytes e =
    let h = longest-of bytes (length bytes) in
    (h.len, record { short = longest-short bytes h (nat_le (length bytes) h.len) e refl; front = h.front; longest = λ j l u. longest-all bytes h j (nat_le j (length bytes)) e refl l u })

-- ---- the whole

utf8-has : (bytes : List ℕ) (t : Bool) → is_utf8 bytes ≡ t → length bytes ≤ text_limit → (answer : Answer) × IsLexed bytes answer
utf8-has bytes true e l = let h = has-answer (length bytes) 0 bytes (omega arith) in (h.0, read h.0 l (IsUtf8-from_is_utf8 bytes e) h.1)
utf8-has bytes false e l = let v = valid-up-to bytes e in (Err (NotUtf8 v.0), not_utf8 v.0 l v.1)

long-has : (bytes : List ℕ) (t : Bool) → nat_le (length bytes) text_limit ≡ t → (answer : Answer) × IsLexed bytes answer
long-has bytes true e = utf8-has bytes (is_utf8 bytes) refl (true-le (length bytes) text_limit e)
long-has bytes false e = (Err TooLong, too_long (false-le (length bytes) text_limit e))

pub some-answer : (bytes : List ℕ) → (answer : Answer) × IsLexed bytes answer
some-answer bytes = long-has bytes (nat_le (length bytes) text_limit) refl
