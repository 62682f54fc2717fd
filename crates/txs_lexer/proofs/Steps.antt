-- One step of each loop, by the functions that say how a text is read.
use Rattle.std.proofs.Common.{◌≡◌, ℕ, ◌+◌, ◌<◌, ◌≤◌, Bool, true, false, cond, eqb, eqb-true, List, [], ◌∷◌, ◌++◌, length, drop, Option, Some, None, Result, Ok, Err, refl, sym, ◌∙◌, ap, subst, append_assoc, arith}
use Rattle.txs_values.specs.Spelling.{escape_of}
use Rattle.txs_lexer.specs.Tokens.{is_plain}
use Rattle.txs_lexer.specs.Scan.{inside_len, with_byte, farther, with_escape, escaped, character, meaning}

-- ---- the inside of a text

pub inside-plain : (b : ℕ) (bs : List ℕ) → is_plain b ≡ true → inside_len (b ∷ bs) ≡ inside_len bs + 1
inside-plain b [] e = rw e refl
inside-plain b (c ∷ bs) e = rw e refl

pub inside-escape : (c : ℕ) (bs : List ℕ) → eqb c 10 ≡ false → inside_len (92 ∷ c ∷ bs) ≡ inside_len bs + 2
inside-escape c bs e = rw e refl

-- ---- the meaning of a text

-- the meaning, behind a text that so many bytes meant
abbrev pub ahead : List ℕ → ℕ → Result (List ℕ) ℕ → Result (List ℕ) ℕ
ahead text n (Ok bs) = Ok (text ++ bs)
ahead text n (Err k) = Err (n + k)

pub ahead-byte : (text : List ℕ) (n k b : ℕ) (r : Result (List ℕ) ℕ) → ahead text n (with_byte b (farther k r)) ≡ ahead (text ++ b ∷ []) (n + k) r
ahead-byte text n k b (Ok bs) = ap Ok (sym (append_assoc text (b ∷ []) bs))
ahead-byte text n k b (Err m) = ap Err (omega arith)

pub meaning-plain : (b : ℕ) (bs : List ℕ) → eqb b 92 ≡ false → meaning (b ∷ bs) ≡ with_byte b (farther 1 (meaning bs))
meaning-plain b [] e = rw e refl
meaning-plain b (c ∷ bs) e = rw e refl

-- one character, and then the others
pub record Goes (ws : List ℕ) (b n : ℕ) : Type 0 where
  pub some : 0 < n
  pub within : n ≤ length ws
  pub means : meaning ws ≡ with_byte b (farther n (meaning (drop n ws)))

plain-goes : (b : ℕ) (bs : List ℕ) → eqb b 92 ≡ false → Goes (b ∷ bs) b 1
plain-goes b bs e = record { some = omega arith; within = omega arith; means = meaning-plain b bs e }

escape-goes : (c b : ℕ) (bs : List ℕ) → escape_of c ≡ Some b → Goes (92 ∷ c ∷ bs) b 2
escape-goes c b bs e = record { some = omega arith; within = omega arith; means = ap (λ (o : Option ℕ). with_escape o (meaning bs)) e }

abbrev pub GoesBy : List ℕ → Option (ℕ × ℕ) → Type 0
GoesBy ws None = meaning ws ≡ Err 0
GoesBy ws (Some x) = Goes ws x.0 x.1

escaped-goes : (c : ℕ) (bs : List ℕ) (o : Option ℕ) → escape_of c ≡ o → GoesBy (92 ∷ c ∷ bs) (escaped o)
escaped-goes c bs None e = ap (λ (o : Option ℕ). with_escape o (meaning bs)) e
escaped-goes c bs (Some d) e = escape-goes c d bs e

last-goes : (b : ℕ) (t : Bool) → eqb b 92 ≡ t → GoesBy (b ∷ []) (cond t None (Some (b, 1)))
last-goes b true e = ap (λ (q : Bool). cond q (Err 0) (Ok (b ∷ []))) e
last-goes b false e = plain-goes b [] e

first-goes : (b c : ℕ) (bs : List ℕ) (t : Bool) → eqb b 92 ≡ t → GoesBy (b ∷ c ∷ bs) (cond t (escaped (escape_of c)) (Some (b, 1)))
first-goes b c bs true e = subst (λ (q : ℕ). GoesBy (q ∷ c ∷ bs) (escaped (escape_of c))) (sym (eqb-true b 92 e)) (escaped-goes c bs (escape_of c) refl)
first-goes b c bs false e = plain-goes b (c ∷ bs) e

character-goes : (b : ℕ) (bs : List ℕ) → GoesBy (b ∷ bs) (character (b ∷ bs))
character-goes b [] = last-goes b (eqb b 92) refl
character-goes b (c ∷ bs) = first-goes b c bs (eqb b 92) refl

by-character : (ws : List ℕ) → 0 < length ws → GoesBy ws (character ws)
by-character [] l = absurd (omega arith)
by-character (b ∷ bs) l = character-goes b bs

-- a character moves from what is left to what was read
pub read-on : (ws more text new : List ℕ) (len : ℕ) (x : ℕ × ℕ) → 0 < length ws → character ws ≡ Some x → more ≡ drop x.1 ws → new ≡ text ++ x.0 ∷ []
    → ahead new (len + x.1) (meaning more) ≡ ahead text len (meaning ws)
read-on ws more text new len x l e m n =
    let g : Goes ws x.0 x.1 = subst (GoesBy ws) e (by-character ws l) in
    let back : ahead (text ++ x.0 ∷ []) (len + x.1) (meaning (drop x.1 ws)) ≡ ahead text len (meaning ws) = sym (ap (ahead text len) g.means ∙ ahead-byte text len x.1 x.0 (meaning (drop x.1 ws))) in
    cc

pub read-within : (ws : List ℕ) (x : ℕ × ℕ) → 0 < length ws → character ws ≡ Some x → (0 < x.1) × (x.1 ≤ length ws)
read-within ws x l e = let g : Goes ws x.0 x.1 = subst (GoesBy ws) e (by-character ws l) in (g.some, g.within)
