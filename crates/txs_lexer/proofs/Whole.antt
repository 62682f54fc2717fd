-- A text gives one answer, and its tokens are its slices in order.
use Rattle.std.proofs.Common.{◌≡◌, ◌≢◌, ◌↔◌, IfOk, ℕ, zero, suc, ◌+◌, ◌-◌, ◌<◌, ◌≤◌, List, [], ◌∷◌, ◌++◌, length, take, drop, Result, Ok, Err, refl, sym, ◌∙◌, ap, subst, append_assoc, length-append, arith}
use Rattle.std.proofs.Math.Seq.{drop-append_seam, take-length}
use Rattle.std.proofs.lemmas.Str.{utf8_valid_len-IsValidUpTo}
use Rattle.std.specs.List.{slice_range}
use Rattle.std.specs.Str.{IsUtf8, IsValidUpTo}
use Rattle.txs_lexer.specs.declared.fault.LexFault.{LexFault}
use Rattle.txs_lexer.specs.declared.fault.LexFault.TheVariants.{NoMemory, TooLong, NotUtf8, BadChar, OpenText, OpenComment, Number as TooLarge}
use Rattle.txs_lexer.specs.declared.front.Front.{Front}
use Rattle.txs_lexer.specs.declared.front.Front.TheVariants.{Gap, Lexeme}
use Rattle.txs_lexer.specs.declared.token.Token.{Token}
use Rattle.txs_lexer.specs.declared.token.Kind.{Kind}
use Rattle.txs_lexer.specs.declared.token.Kind.TheVariants.{Name, Word, Number, Quoted, Symbol}
use Rattle.txs_lexer.specs.Lexed.{Answer, with_token, Lexed, nothing_left, over_gap, over_token, at_fault, IsLexed, too_long, not_utf8, read, text_limit, LeadsTo, here, over, AreSlices, no_more, one_more}
use Rattle.txs_lexer.specs.Tokens.{IsGap, blank, line_comment, block_comment, IsName, IsNumeral, IsToken, IsLongest, Fails, bad_character, open_comment, too_large, open_text, bad_escape}
use Rattle.txs_lexer.specs.Scan.{front_of, Stops, Reads}
use Rattle.txs_lexer.proofs.Exact.{gap-front, token-front, fault-front, word-name}
use Rattle.txs_lexer.proofs.Symbols.{symbol-len}
use Rattle.txs_lexer.proofs.Utf8.{take-seam}

-- ---- each piece has a byte

pub gap-some : {gap rest : List ℕ} → IsGap gap rest → 0 < length gap
gap-some (blank b rest e) = omega arith
gap-some (line_comment line rest all ends) = omega arith
gap-some (block_comment inside rest h) = omega arith

name-some : (name : List ℕ) → IsName name → 0 < length name
name-some [] h = absurd h
name-some (b ∷ bs) h = omega arith

numeral-some : (digits : List ℕ) → IsNumeral digits → 0 < length digits
numeral-some [] h = absurd h
numeral-some (b ∷ bs) h = omega arith

pub token-some : (kind : Kind) (slice : List ℕ) → IsToken kind slice → 0 < length slice
token-some (Name name) slice t = name-some slice t.1
token-some (Word k) slice t = name-some slice (word-name k slice t)
token-some (Number n) slice t = numeral-some slice t.1
token-some (Quoted text) slice t = omega (arith, ap length t.1)
token-some (Symbol k) slice t = let l = symbol-len k slice t in omega (arith, l.0)

-- ---- the answer as a function, n steps of it

abbrev pub goes_on : ℕ → List ℕ → (ℕ → List ℕ → Answer) → Result Front LexFault → Answer
goes_on at text later (Ok (Gap k)) = later (at + k) (drop k text)
goes_on at text later (Ok (Lexeme kind k)) = with_token (record { kind = kind; from = at; to = at + k }) (later (at + k) (drop k text))
goes_on at text later (Err fault) = Err fault

abbrev pub answer_of : ℕ → ℕ → List ℕ → Answer
answer_of zero at text = Ok []
answer_of (suc n) at [] = Ok []
answer_of (suc n) at (b ∷ bs) = goes_on at (b ∷ bs) (λ m rest. answer_of n m rest) (front_of at (b ∷ bs))

answer-nil : (n at : ℕ) → answer_of n at [] ≡ Ok []
answer-nil zero at = refl
answer-nil (suc n) at = refl

answer-gap : (n at : ℕ) (gap rest : List ℕ) → 0 < length gap → front_of at (gap ++ rest) ≡ Ok (Gap (length gap)) → answer_of (suc n) at (gap ++ rest) ≡ answer_of n (at + length gap) rest
answer-gap n at [] rest s e = absurd (omega arith)
answer-gap n at (b ∷ bs) rest s e =
    ap (goes_on at (b ∷ (bs ++ rest)) (λ m more. answer_of n m more)) e ∙ ap (λ (q : List ℕ). answer_of n (at + length (b ∷ bs)) q) (drop-append_seam (b ∷ bs) rest)

answer-token : (n at : ℕ) (kind : Kind) (slice rest : List ℕ) → 0 < length slice → front_of at (slice ++ rest) ≡ Ok (Lexeme kind (length slice))
    → answer_of (suc n) at (slice ++ rest) ≡ with_token (record { kind = kind; from = at; to = at + length slice }) (answer_of n (at + length slice) rest)
answer-token n at kind [] rest s e = absurd (omega arith)
answer-token n at kind (b ∷ bs) rest s e =
    ap (goes_on at (b ∷ (bs ++ rest)) (λ m more. answer_of n m more)) e
    ∙ ap (λ (q : List ℕ). with_token (record { kind = kind; from = at; to = at + length (b ∷ bs) }) (answer_of n (at + length (b ∷ bs)) q)) (drop-append_seam (b ∷ bs) rest)

answer-fault : (n at : ℕ) (text : List ℕ) (fault : LexFault) → 0 < length text → front_of at text ≡ Err fault → answer_of (suc n) at text ≡ Err fault
answer-fault n at [] fault s e = absurd (omega arith)
answer-fault n at (b ∷ bs) fault s e = ap (goes_on at (b ∷ bs) (λ m more. answer_of n m more)) e

fault-some : {at : ℕ} {text : List ℕ} {fault : LexFault} → Fails at text fault → 0 < length text
fault-some (bad_character b bs h) = omega arith
fault-some (open_comment more h) = omega arith
fault-some (too_large slice rest n ends l) = let s = numeral-some slice n in omega (arith, length-append slice rest)
fault-some (open_text inside rest i b) = omega arith
fault-some (bad_escape text ws c more rest q n f i) = omega arith

gap-step : (n at : ℕ) (gap rest : List ℕ) (answer : Answer) → IsGap gap rest → length (gap ++ rest) ≤ n → ((m : ℕ) → length rest ≤ m → answer_of m (at + length gap) rest ≡ answer) → answer_of n at (gap ++ rest) ≡ answer
gap-step zero at gap rest answer g l h = let s = gap-some g in absurd (omega (arith, length-append gap rest))
gap-step (suc n) at gap rest answer g l h = let s = gap-some g in answer-gap n at gap rest s (gap-front at g) ∙ h n (omega (arith, length-append gap rest))

token-step : (n at : ℕ) (kind : Kind) (slice rest : List ℕ) (answer : Answer) → IsToken kind slice → IsLongest kind slice rest → length (slice ++ rest) ≤ n
    → ((m : ℕ) → length rest ≤ m → answer_of m (at + length slice) rest ≡ answer) → answer_of n at (slice ++ rest) ≡ with_token (record { kind = kind; from = at; to = at + length slice }) answer
token-step zero at kind slice rest answer t k l h = let s = token-some kind slice t in absurd (omega (arith, length-append slice rest))
token-step (suc n) at kind slice rest answer t k l h =
    let s = token-some kind slice t in
    answer-token n at kind slice rest s (token-front at kind slice rest t k) ∙ ap (with_token (record { kind = kind; from = at; to = at + length slice })) (h n (omega (arith, length-append slice rest)))

fault-step : (n at : ℕ) (text : List ℕ) (fault : LexFault) → Fails at text fault → length text ≤ n → answer_of n at text ≡ Err fault
fault-step zero at text fault f l = let s = fault-some f in absurd (omega arith)
fault-step (suc n) at text fault f l = answer-fault n at text fault (fault-some f) (fault-front at f)

pub lexed-answer : {at : ℕ} {text : List ℕ} {answer : Answer} → Lexed at text answer → (n : ℕ) → length text ≤ n → answer_of n at text ≡ answer
lexed-answer (nothing_left at) n l = answer-nil n at
lexed-answer (over_gap at gap rest answer g d) n l = gap-step n at gap rest answer g l (λ m k. lexed-answer d m k)
lexed-answer (over_token at kind slice rest answer t k d) n l = token-step n at kind slice rest answer t k l (λ m j. lexed-answer d m j)
lexed-answer (at_fault at text fault f) n l = fault-step n at text fault f l

one-lexed : (at : ℕ) (text : List ℕ) (a b : Answer) → Lexed at text a → Lexed at text b → a ≡ b
one-lexed at text a b d e = sym (lexed-answer d (length text) (omega arith)) ∙ lexed-answer e (length text) (omega arith)

-- ---- one answer

not-both : (bytes : List ℕ) (n : ℕ) → IsValidUpTo bytes n → IsUtf8 bytes → ⊥
not-both bytes n v u = v.longest (length bytes) v.short (subst IsUtf8 (sym (take-length bytes)) u)

same-place : (bytes : List ℕ) (m n : ℕ) → IsValidUpTo bytes m → IsValidUpTo bytes n → m ≡ n
same-place bytes m n v w = sym (utf8_valid_len-IsValidUpTo bytes m v) ∙ utf8_valid_len-IsValidUpTo bytes n w

pub one-answer : (bytes : List ℕ) {a b : Answer} → IsLexed bytes a → IsLexed bytes b → a ≡ b
one-answer bytes (too_long l) (too_long m) = refl
one-answer bytes (too_long l) (not_utf8 at m v) = absurd (omega arith)
one-answer bytes (too_long l) (read b m u d) = absurd (omega arith)
one-answer bytes (not_utf8 at l v) (too_long m) = absurd (omega arith)
one-answer bytes (not_utf8 at l v) (not_utf8 to m w) = ap (λ (n : ℕ). Err (NotUtf8 n)) (same-place bytes at to v w)
one-answer bytes (not_utf8 at l v) (read b m u d) = absurd (not-both bytes at v u)
one-answer bytes (read a l u d) (too_long m) = absurd (omega arith)
one-answer bytes (read a l u d) (not_utf8 at m v) = absurd (not-both bytes at v u)
one-answer bytes (read a l u d) (read b m v e) = one-lexed 0 bytes a b d e

pub exact-by : (bytes : List ℕ) (r : Answer) → IsLexed bytes r → (answer : Answer) → (r ≡ answer) ↔ IsLexed bytes answer
exact-by bytes r h answer = ((λ e. subst (IsLexed bytes) e h), (λ k. one-answer bytes h k))

reads-fault : (at : ℕ) (text : List ℕ) (fault : LexFault) → ◌≢◌ {A = Answer} (Err fault) (Err NoMemory) → Stops fault (Lexed at text (Err fault)) → Lexed at text (Err fault)
reads-fault at text NoMemory n h = absurd (n refl)
reads-fault at text TooLong n h = h
reads-fault at text (NotUtf8 k) n h = h
reads-fault at text (BadChar k) n h = h
reads-fault at text (OpenText k) n h = h
reads-fault at text (OpenComment k) n h = h
reads-fault at text (TooLarge k) n h = h

pub reads-lexed : (at : ℕ) (text : List ℕ) (r : Answer) → r ≢ Err NoMemory → Reads at text r → Lexed at text r
reads-lexed at text (Ok tokens) n h = h
reads-lexed at text (Err fault) n h = reads-fault at text fault n h

-- ---- slices in order

leads-on : {text more : List ℕ} (gap rest : List ℕ) → IsGap gap rest → LeadsTo text more → more ≡ gap ++ rest → LeadsTo text rest
leads-on gap rest g (here text) e = subst (λ (q : List ℕ). LeadsTo q rest) (sym e) (over gap rest rest g (here rest))
leads-on gap rest g (over first text more i l) e = over first text rest i (leads-on gap rest g l e)

-- the tokens behind one
pub record Others (t : Token) (answer : Answer) (tokens : List Token) : Type 0 where
  pub others : List Token
  pub rest_is : answer ≡ Ok others
  pub all_are : t ∷ others ≡ tokens

token-answer : (t : Token) (answer : Answer) (tokens : List Token) → with_token t answer ≡ Ok tokens → Others t answer tokens
token-answer t (Ok ts) tokens e = record { others = ts; rest_is = refl; all_are = cc }
token-answer t (Err fault) tokens e = absurd (cc)

slice-is : (front slice rest : List ℕ) → slice_range (front ++ (slice ++ rest)) (length front) (length front + length slice) ≡ slice
slice-is front slice rest =
    let len : (length front + length slice) - length front ≡ length slice = omega arith in
    ap (λ (n : ℕ). take n (drop (length front) (front ++ (slice ++ rest)))) len ∙ (ap (λ (q : List ℕ). take (length slice) q) (drop-append_seam front (slice ++ rest)) ∙ take-seam slice rest)

pub slices-from : {at : ℕ} {rest : List ℕ} {answer : Answer} (text front : List ℕ) (p : ℕ) (tokens : List Token) → Lexed at rest answer → text ≡ front ++ rest → at ≡ length front → p ≤ at → LeadsTo (drop p text) rest → answer ≡ Ok tokens
    → AreSlices text p tokens
slices-from text front p tokens (nothing_left at) e a l g k = let same : [] ≡ tokens = cc in subst (AreSlices text p) same (no_more p g)
slices-from text front p tokens (over_gap at gap rest answer i d) e a l g k =
    slices-from text (front ++ gap) p tokens d (e ∙ sym (append_assoc front gap rest)) (omega (arith, length-append front gap)) (omega arith) (leads-on gap rest i g refl) k
slices-from text front p tokens (over_token at kind slice rest answer t n d) e a l g k =
    let token : Token = record { kind = kind; from = at; to = at + length slice } in
    let o = token-answer token answer tokens k in
    let s = token-some kind slice t in
    let whole : length text ≡ length front + (length slice + length rest) = ap length e ∙ omega (arith, length-append front (slice ++ rest), length-append slice rest) in
    let start : drop at text ≡ slice ++ rest = ap (λ (q : List ℕ). drop at q) e ∙ (ap (λ (m : ℕ). drop m (front ++ (slice ++ rest))) a ∙ drop-append_seam front (slice ++ rest)) in
    let past : drop (at + length slice) text ≡ rest = ap (λ (q : List ℕ). drop (at + length slice) q) (e ∙ sym (append_assoc front slice rest)) ∙ (ap (λ (m : ℕ). drop m ((front ++ slice) ++ rest)) (omega (arith, length-append front slice)) ∙ drop-append_seam (front ++ slice) rest) in
    let spelled : slice_range text at (at + length slice) ≡ slice = ap (λ (q : List ℕ). slice_range q at (at + length slice)) e ∙ (ap (λ (m : ℕ). slice_range (front ++ (slice ++ rest)) m (m + length slice)) a ∙ slice-is front slice rest) in
    let more = slices-from text (front ++ slice) (at + length slice) o.others d (e ∙ sym (append_assoc front slice rest)) (omega (arith, length-append front slice)) (omega arith) (subst (λ (q : List ℕ). LeadsTo q rest) (sym past) (here rest)) o.rest_is in
    subst (AreSlices text p) o.all_are
    (one_more p token o.others l (omega arith) (omega arith) (subst (LeadsTo (drop p text)) (sym start) g) (subst (IsToken kind) (sym spelled) t) more)
slices-from text front p tokens (at_fault at rest fault f) e a l g k = absurd (cc)

pub slices-are : (text : List ℕ) (tokens : List Token) → Lexed 0 text (Ok tokens) → AreSlices text 0 tokens
slices-are text tokens d = slices-from text [] 0 tokens d refl refl (omega arith) (here text) refl

-- ---- what the call answers

pub is-long : (bytes : List ℕ) → 1048576 < length bytes → IsLexed bytes (Err TooLong)
unfolding text_limit
is-long bytes l = too_long l

pub is-not_utf8 : (bytes : List ℕ) (at n : ℕ) → length bytes ≤ 1048576 → at ≡ n → IsValidUpTo bytes n → IsLexed bytes (Err (NotUtf8 at))
unfolding text_limit
is-not_utf8 bytes at n l e v = not_utf8 at l (subst (IsValidUpTo bytes) (sym e) v)

pub is-read : (bytes text : List ℕ) (r : Answer) → length bytes ≤ 1048576 → IsUtf8 bytes → text ≡ bytes → r ≢ Err NoMemory → Reads 0 text r → IsLexed bytes r
unfolding text_limit
is-read bytes text r l u e n h = read r l u (subst (λ (q : List ℕ). Lexed 0 q r) e (reads-lexed 0 text r n h))

pub slices-read : (bytes text : List ℕ) (r : Answer) → text ≡ bytes → Reads 0 text r → IfOk r (λ tokens. AreSlices bytes 0 tokens)
slices-read bytes text (Ok tokens) e h = subst (λ (q : List ℕ). AreSlices q 0 tokens) e (slices-are text tokens h)
slices-read bytes text (Err fault) e h = tt
