-- The longest run at the front of a text.
use Rattle.std.proofs.Common.{◌≡◌, ℕ, ◌≤◌, Bool, true, false, cond, List, [], ◌∷◌, ◌++◌, length, take, drop, refl, ap, arith}
use Rattle.txs_values.specs.Spelling.{run_of, past_run}

pub run-length : (p : ℕ → Bool) (bs : List ℕ) → length (run_of p bs) ≤ length bs
run-length p [] = omega arith
run-length p (b ∷ bs) = elim (p b) as (λ t. length (cond t (b ∷ run_of p bs) []) ≤ length (b ∷ bs)) [
  | true ↦ let h = run-length p bs in omega (arith, h)
  | false ↦ omega arith
]

pub take-run : (p : ℕ → Bool) (bs : List ℕ) → take (length (run_of p bs)) bs ≡ run_of p bs
take-run p [] = refl
take-run p (b ∷ bs) = elim (p b) as (λ t. take (length (cond t (b ∷ run_of p bs) [])) (b ∷ bs) ≡ cond t (b ∷ run_of p bs) []) [
  | true ↦ ap (λ (q : List ℕ). b ∷ q) (take-run p bs)
  | false ↦ refl
]

pub drop-run : (p : ℕ → Bool) (bs : List ℕ) → drop (length (run_of p bs)) bs ≡ past_run p bs
drop-run p [] = refl
drop-run p (b ∷ bs) = elim (p b) as (λ t. drop (length (cond t (b ∷ run_of p bs) [])) (b ∷ bs) ≡ cond t (past_run p bs) (b ∷ bs)) [
  | true ↦ drop-run p bs
  | false ↦ refl
]

-- a text is its run and what follows it
pub run-parts : (p : ℕ → Bool) (bs : List ℕ) → bs ≡ run_of p bs ++ past_run p bs
run-parts p [] = refl
run-parts p (b ∷ bs) = elim (p b) as (λ t. b ∷ bs ≡ cond t (b ∷ run_of p bs) [] ++ cond t (past_run p bs) (b ∷ bs)) [
  | true ↦ ap (λ (q : List ℕ). b ∷ q) (run-parts p bs)
  | false ↦ refl
]
