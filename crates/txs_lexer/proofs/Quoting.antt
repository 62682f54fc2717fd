-- What the text in quotes gives, by the parts of the code that reads it.
use Rattle.std.proofs.Common.{◌≡◌, ℕ, Bool, true, false, eqb-true, List, [], ◌∷◌, ◌++◌, take, drop, Result, Ok, Err, sym, ◌∙◌, ap, subst, arith}
use Rattle.std.proofs.lemmas.List.{take-append-drop}
use Rattle.std.specs.Str.{IsUtf8}
use Rattle.txs_lexer.specs.declared.fault.LexFault.TheVariants.{OpenText}
use Rattle.txs_lexer.specs.Tokens.{Quotes, IsInside}
use Rattle.txs_lexer.specs.Scan.{IsTail, inside_len, meaning, meant, begins_with, quoted}
use Rattle.txs_values.proofs.Tests.{yes, no}
use Rattle.txs_lexer.proofs.Texts.{inside-cut, inside-meant, Meant}
use Rattle.txs_lexer.proofs.Utf8.{cut-before, cut-behind, quotes-utf8}

pub test-is : (behind past : List ℕ) (n : ℕ) (b t : Bool) → n ≡ inside_len behind → past ≡ drop n behind → b ≡ begins_with 34 past → b ≡ t → begins_with 34 (drop (inside_len behind) behind) ≡ t
test-is behind past n b t e p q r = ap (λ (m : ℕ). begins_with 34 (drop m behind)) (sym e) ∙ (ap (begins_with 34) (sym p) ∙ (sym q ∙ r))

pub meaning-is : (behind inside : List ℕ) (n : ℕ) (r x : Result (List ℕ) ℕ) → n ≡ inside_len behind → inside ≡ take n behind → r ≡ meaning inside → r ≡ x → meaning (take (inside_len behind) behind) ≡ x
meaning-is behind inside n r x e p q h = ap (λ (m : ℕ). meaning (take m behind)) (sym e) ∙ (ap meaning (sym p) ∙ (sym q ∙ h))

pub begins-parts : (b : ℕ) (bs : List ℕ) → begins_with b bs ≡ true → (rest : List ℕ) × (bs ≡ b ∷ rest)
begins-parts b [] h = absurd (cc)
begins-parts b (c ∷ bs) h = (bs, ap (λ (q : ℕ). q ∷ bs) (eqb-true c b h))

-- the parts of a text that is closed
pub record IsClosed (behind ws : List ℕ) : Type 0 where
  pub rest : List ℕ
  pub parts : behind ≡ ws ++ (34 ∷ rest)
  pub inside : IsInside ws

pub closed-parts : (behind : List ℕ) → begins_with 34 (drop (inside_len behind) behind) ≡ true → IsClosed behind (take (inside_len behind) behind)
closed-parts behind h =
    let quote = begins-parts 34 (drop (inside_len behind) behind) h in
    record {
      rest = quote.0;
      parts = sym (take-append-drop (inside_len behind) behind) ∙ ap (λ (q : List ℕ). take (inside_len behind) behind ++ q) quote.1;
      inside = (inside-cut behind).inside;
    }

pub quoted-open : (at : ℕ) (behind : List ℕ) → begins_with 34 (drop (inside_len behind) behind) ≡ false → quoted at behind ≡ Err (OpenText at)
unfolding quoted
quoted-open at behind h = no (begins_with 34 (drop (inside_len behind) behind)) (meant at (inside_len behind) (meaning (take (inside_len behind) behind))) (Err (OpenText at)) h

pub quoted-closed : (at : ℕ) (behind : List ℕ) (r : Result (List ℕ) ℕ) → begins_with 34 (drop (inside_len behind) behind) ≡ true → meaning (take (inside_len behind) behind) ≡ r → quoted at behind ≡ meant at (inside_len behind) r
unfolding quoted
quoted-closed at behind r h e = yes (begins_with 34 (drop (inside_len behind) behind)) (meant at (inside_len behind) (meaning (take (inside_len behind) behind))) (Err (OpenText at)) h ∙ ap (meant at (inside_len behind)) e

pub closed-utf8 : (behind text : List ℕ) → IsTail (34 ∷ behind) → begins_with 34 (drop (inside_len behind) behind) ≡ true → meaning (take (inside_len behind) behind) ≡ Ok text → IsUtf8 text
closed-utf8 behind text tail h e =
    let k = closed-parts behind h in
    let whole : IsUtf8 (tail.front ++ 34 ∷ (take (inside_len behind) behind ++ (34 ∷ k.rest))) = subst (λ (q : List ℕ). IsUtf8 (tail.front ++ 34 ∷ q)) k.parts tail.utf8 in
    let spelled : IsUtf8 (take (inside_len behind) behind) = cut-before (take (inside_len behind) behind) 34 k.rest (omega arith) (cut-behind tail.front 34 (take (inside_len behind) behind ++ (34 ∷ k.rest)) (omega arith) whole) in
    let means : Quotes text (take (inside_len behind) behind) = subst (Meant (take (inside_len behind) behind)) e (inside-meant k.inside) in
    quotes-utf8 [] means spelled
