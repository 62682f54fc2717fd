-- What passes in the longest run at the front of a text, and what ends it.
use Rattle.std.proofs.Common.{◌≡◌, ℕ, Bool, true, false, cond, List, [], ◌∷◌, ◌++◌, refl, ap}
use Rattle.txs_values.specs.Spelling.{run_of, past_run}
use Rattle.txs_lexer.specs.Tokens.{AreAll, EndsRun}

run-all-at : (p : ℕ → Bool) (b : ℕ) (run : List ℕ) (t : Bool) → p b ≡ t → AreAll p run → AreAll p (cond t (b ∷ run) [])
run-all-at p b run true e h = (e, h)
run-all-at p b run false e h = tt

pub run-all : (p : ℕ → Bool) (bs : List ℕ) → AreAll p (run_of p bs)
run-all p [] = tt
run-all p (b ∷ bs) = run-all-at p b (run_of p bs) (p b) refl (run-all p bs)

run-ends-at : (p : ℕ → Bool) (b : ℕ) (bs past : List ℕ) (t : Bool) → p b ≡ t → EndsRun p past → EndsRun p (cond t past (b ∷ bs))
run-ends-at p b bs past true e h = h
run-ends-at p b bs past false e h = e

pub run-ends : (p : ℕ → Bool) (bs : List ℕ) → EndsRun p (past_run p bs)
run-ends p [] = tt
run-ends p (b ∷ bs) = run-ends-at p b bs (past_run p bs) (p b) refl (run-ends p bs)

run-none : (p : ℕ → Bool) (ys : List ℕ) → EndsRun p ys → run_of p ys ≡ []
run-none p [] h = refl
run-none p (b ∷ bs) h = rw h refl

-- what passes and ends is the run
pub run-is : (p : ℕ → Bool) (xs ys : List ℕ) → AreAll p xs → EndsRun p ys → run_of p (xs ++ ys) ≡ xs
run-is p [] ys all ends = run-none p ys ends
run-is p (x ∷ xs) ys all ends = rw all.0 (ap (λ (q : List ℕ). x ∷ q) (run-is p xs ys all.1 ends))
