-- One piece read, as a step of the whole.
use Rattle.std.proofs.Common.{◌≡◌, ℕ, ◌+◌, ◌<◌, ◌≤◌, List, [], ◌∷◌, ◌++◌, length, take, drop, Result, Ok, Err, MatchResult, refl, sym, ◌∙◌, ap, subst, append_assoc, append-nil, length-append, arith}
use Rattle.std.proofs.Math.Seq.{drop-append_seam}
use Rattle.std.proofs.lemmas.List.{take-append-drop}
use Rattle.std.specs.Str.{IsUtf8}
use Rattle.txs_lexer.specs.declared.fault.LexFault.{LexFault}
use Rattle.txs_lexer.specs.declared.fault.LexFault.TheVariants.{NoMemory, TooLong, NotUtf8, BadChar, OpenText, OpenComment, Number as TooLarge}
use Rattle.txs_lexer.specs.declared.front.Front.{Front}
use Rattle.txs_lexer.specs.declared.front.Front.TheVariants.{Gap, Lexeme}
use Rattle.txs_lexer.specs.declared.token.Token.{Token}
use Rattle.txs_lexer.specs.declared.token.Kind.{Kind}
use Rattle.txs_lexer.specs.Lexed.{Answer, with_token, Lexed, nothing_left, over_gap, over_token, at_fault}
use Rattle.txs_lexer.specs.Tokens.{Fails}
use Rattle.txs_lexer.specs.Scan.{front_of, Stops, Reads, IsTail, behind, Steps}
use Rattle.txs_lexer.proofs.Sound.{Fits, GapFront, TokenFront, front-fits}
use Rattle.txs_lexer.proofs.Whole.{gap-some, token-some}

fits-here : (at : ℕ) (text : List ℕ) (r : Result Front LexFault) → 0 < length text → front_of at text ≡ r → Fits at text r
fits-here at [] r s e = absurd (omega arith)
fits-here at (b ∷ bs) r s e = subst (Fits at (b ∷ bs)) e (front-fits at b bs)

past-parts : (text front rest : List ℕ) (n : ℕ) → text ≡ front ++ rest → n ≡ length front → drop n text ≡ rest
past-parts text front rest n e k = ap (λ (q : List ℕ). drop n q) e ∙ (ap (λ (m : ℕ). drop m (front ++ rest)) k ∙ drop-append_seam front rest)

lexed-at : (at k : ℕ) (text rest gone : List ℕ) (answer : Answer) → at ≡ k → rest ≡ gone → Lexed at rest answer → Lexed k gone answer
lexed-at at k text rest gone answer e f d = subst (λ (q : List ℕ). Lexed k q answer) f (subst (λ (m : ℕ). Lexed m rest answer) e d)

-- a gap leaves the tokens as they are
pub gap-steps : (at : ℕ) (text : List ℕ) (tokens : List Token) (n : ℕ) → 0 < length text → front_of at text ≡ Ok (Gap n) → Steps at text tokens tokens n
gap-steps at text tokens n s e =
    let f : GapFront text n = fits-here at text (Ok (Gap n)) s e in
    let some = gap-some f.is in
    let len : length text ≡ length f.gap + length f.rest = ap length f.parts ∙ length-append f.gap f.rest in
    let past = past-parts text f.gap f.rest n f.parts f.len in
    record {
      some = omega (arith, f.len);
      within = omega (arith, f.len);
      goes = λ answer d.
          let later : Lexed (at + length f.gap) f.rest answer = lexed-at (at + n) (at + length f.gap) text (drop n text) f.rest answer (ap (λ (m : ℕ). at + m) f.len) past d in
          let here : Lexed at text answer = subst (λ (q : List ℕ). Lexed at q answer) (sym f.parts) (over_gap at f.gap f.rest answer f.is later) in
          (answer, here, refl);
    }

behind-token : (tokens : List Token) (t : Token) (answer : Answer) → behind tokens (with_token t answer) ≡ behind (tokens ++ t ∷ []) answer
behind-token tokens t (Ok more) = ap Ok (sym (append_assoc tokens (t ∷ []) more))
behind-token tokens t (Err fault) = refl

-- a token goes to their end
pub token-steps : (at : ℕ) (text : List ℕ) (old new : List Token) (kind : Kind) (n : ℕ) → 0 < length text → front_of at text ≡ Ok (Lexeme kind n) → new ≡ old ++ record { kind = kind; from = at; to = at + n } ∷ [] → Steps at text old new n
token-steps at text old new kind n s e h =
    let f : TokenFront text kind n = fits-here at text (Ok (Lexeme kind n)) s e in
    let some = token-some kind f.slice f.is in
    let len : length text ≡ length f.slice + length f.rest = ap length f.parts ∙ length-append f.slice f.rest in
    let past = past-parts text f.slice f.rest n f.parts f.len in
    let there : at + length f.slice ≡ at + n = ap (λ (m : ℕ). at + m) (sym f.len) in
    record {
      some = omega (arith, f.len);
      within = omega (arith, f.len);
      goes = λ answer d.
          let later : Lexed (at + length f.slice) f.rest answer = lexed-at (at + n) (at + length f.slice) text (drop n text) f.rest answer (sym there) past d in
          let read : Lexed at (f.slice ++ f.rest) (with_token (record { kind = kind; from = at; to = at + length f.slice }) answer) = over_token at kind f.slice f.rest answer f.is f.longest later in
          let here : Lexed at text (with_token (record { kind = kind; from = at; to = at + n }) answer) = subst (λ (m : ℕ). Lexed at text (with_token (record { kind = kind; from = at; to = m }) answer)) there (subst (λ (q : List ℕ). Lexed at q (with_token (record { kind = kind; from = at; to = at + length f.slice }) answer)) (sym f.parts) read) in
          (with_token (record { kind = kind; from = at; to = at + n }) answer, here, behind-token old (record { kind = kind; from = at; to = at + n }) answer ∙ ap (λ (q : List Token). behind q answer) (sym h));
    }

pub token-within : (at : ℕ) (text : List ℕ) (kind : Kind) (n : ℕ) → 0 < length text → front_of at text ≡ Ok (Lexeme kind n) → n ≤ length text
token-within at text kind n s e =
    let f : TokenFront text kind n = fits-here at text (Ok (Lexeme kind n)) s e in
    let len : length text ≡ length f.slice + length f.rest = ap length f.parts ∙ length-append f.slice f.rest in
    omega (arith, f.len)

pub stops-fails : (at : ℕ) (text : List ℕ) (fault : LexFault) → 0 < length text → Stops fault (front_of at text ≡ Err fault) → Stops fault (Fails at text fault)
stops-fails at text NoMemory s h = tt
stops-fails at text TooLong s h = fits-here at text (Err TooLong) s h
stops-fails at text (NotUtf8 k) s h = fits-here at text (Err (NotUtf8 k)) s h
stops-fails at text (BadChar k) s h = fits-here at text (Err (BadChar k)) s h
stops-fails at text (OpenText k) s h = fits-here at text (Err (OpenText k)) s h
stops-fails at text (OpenComment k) s h = fits-here at text (Err (OpenComment k)) s h
stops-fails at text (TooLarge k) s h = fits-here at text (Err (TooLarge k)) s h

-- ---- the loop

-- the text from the place on decides, behind the tokens read so far
pub record Decides (text : List ℕ) (tokens : List Token) (at : ℕ) (rest : List ℕ) : Type 0 where
  pub decides : (answer : Answer) → Lexed at rest answer → Lexed 0 text (behind tokens answer)

pub decides-end : (text : List ℕ) (tokens : List Token) (at : ℕ) (rest : List ℕ) → Decides text tokens at rest → length rest ≡ 0 → Lexed 0 text (Ok tokens)
decides-end text tokens at [] h l = subst (λ (q : List Token). Lexed 0 text (Ok q)) (append-nil tokens) (h.decides (Ok []) (nothing_left at))
decides-end text tokens at (b ∷ bs) h l = absurd (omega arith)

pub decides-fault : (text : List ℕ) (tokens : List Token) (at : ℕ) (rest : List ℕ) (fault : LexFault) → Decides text tokens at rest → Stops fault (Fails at rest fault) → Stops fault (Lexed 0 text (Err fault))
decides-fault text tokens at rest NoMemory h f = tt
decides-fault text tokens at rest TooLong h f = h.decides (Err TooLong) (at_fault at rest TooLong f)
decides-fault text tokens at rest (NotUtf8 k) h f = h.decides (Err (NotUtf8 k)) (at_fault at rest (NotUtf8 k) f)
decides-fault text tokens at rest (BadChar k) h f = h.decides (Err (BadChar k)) (at_fault at rest (BadChar k) f)
decides-fault text tokens at rest (OpenText k) h f = h.decides (Err (OpenText k)) (at_fault at rest (OpenText k) f)
decides-fault text tokens at rest (OpenComment k) h f = h.decides (Err (OpenComment k)) (at_fault at rest (OpenComment k) f)
decides-fault text tokens at rest (TooLarge k) h f = h.decides (Err (TooLarge k)) (at_fault at rest (TooLarge k) f)

-- what is left of a text that is UTF-8
pub tail-at : (text rest : List ℕ) (at : ℕ) → IsUtf8 text → rest ≡ drop at text → IsTail rest
tail-at text rest at u e = record { front = take at text; utf8 = subst IsUtf8 (sym (ap (λ (q : List ℕ). take at text ++ q) e ∙ take-append-drop at text)) u }

-- ---- a fault that is handed on

pub step-fault : (at : ℕ) (text : List ℕ) (tokens : List Token) (fault : LexFault) (r : Result ℕ LexFault) → r ≡ Err fault → Stops fault (Fails at text fault)
    → MatchResult r (λ n. Steps at text tokens tokens n) (λ e. Stops e (Fails at text e))
step-fault at text tokens fault r e h = subst (λ (q : Result ℕ LexFault). MatchResult q (λ n. Steps at text tokens tokens n) (λ e. Stops e (Fails at text e))) (sym e) h

pub reads-stopped : (text : List ℕ) (fault : LexFault) (r : Answer) → r ≡ Err fault → Stops fault (Lexed 0 text (Err fault)) → Reads 0 text r
reads-stopped text fault r e h = subst (Reads 0 text) (sym e) h
