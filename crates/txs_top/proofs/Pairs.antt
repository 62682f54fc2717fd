-- A list of two, by its parts.
use Rattle.std.proofs.Common.{◌≡◌, ◌⊎◌, ◌≢◌, inl, inr, ◌<◌, ◌≤◌, ℕ, List, [], ◌∷◌, length, get_or, map, sym, ◌∙◌, ap, arith}

pub pair-is : (X : Type 0) (v : X → List ℕ) (ws : List X) (w f : X) → 2 ≤ length ws → length ws < 3 → w ≡ get_or ws 0 w → f ≡ get_or ws 1 f → map v ws ≡ v w ∷ v f ∷ []
pair-is X v [] w f lo hi e g = absurd (omega arith)
pair-is X v (x ∷ []) w f lo hi e g = absurd (omega arith)
pair-is X v (x ∷ y ∷ []) w f lo hi e g = ap (λ (q : X). v q ∷ v y ∷ []) (sym e) ∙ ap (λ (q : X). v w ∷ v q ∷ []) (sym g)
pair-is X v (x ∷ y ∷ z ∷ ws) w f lo hi e g = absurd (omega arith)

pub second-is : (a b c d : List ℕ) → a ∷ b ∷ [] ≡ c ∷ d ∷ [] → b ≡ d
second-is a b c d h = cc

pub first-is : (a b c d : List ℕ) → a ∷ b ∷ [] ≡ c ∷ d ∷ [] → a ≡ c
first-is a b c d h = cc

pub not-four : (c : ℕ) → (c ≡ 0) ⊎ (c ≡ 10) → c ≢ 4
not-four c (inl e) q = absurd (omega (arith, e, q))
not-four c (inr e) q = absurd (omega (arith, e, q))

pub not-five : (c : ℕ) → (c ≡ 0) ⊎ (c ≡ 10) → c ≢ 5
not-five c (inl e) q = absurd (omega (arith, e, q))
not-five c (inr e) q = absurd (omega (arith, e, q))

pub unlike : (c a b : ℕ) → a < b → c ≡ a → c ≢ b
unlike c a b d e q = absurd (omega (arith, d, e, q))

pub above : (c a b : ℕ) → b < a → c ≡ a → c ≢ b
above c a b d e q = absurd (omega (arith, d, e, q))
