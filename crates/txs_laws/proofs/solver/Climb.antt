-- Order compression: numbers slide towards the constants, and keep their order.
use Rattle.std.proofs.Common.{◌≡◌, ℕ, zero, suc, ◌+◌, ◌<◌, ◌≤◌, ℤ, pos, negsuc, ◌+ℤ◌, ◌-ℤ◌, Bool, true, false, ◌||◌, cond, ◌⊎◌, inl, inr, List, [], ◌∷◌, length, refl, sym, ap, ◌∙◌, arith}
use Rattle.std.specs.Ordering.{int_eq}
use Rattle.std.proofs.lemmas.Int.{ints}
use Rattle.std.proofs.lemmas.Bool.{cases_lt, false_from_ne_true}
use Rattle.txs_guard.specs.Mentioned.{any_is}
use Rattle.std.proofs.lemmas.Bool.Decides.{Decides-int_eq}

-- a number n above the least constant goes to climb n: constants stay, and the others follow one another
pub climb : (ℕ → Bool) → (ℕ → Bool) → ℕ → ℕ
climb ks xs zero = zero
climb ks xs (suc n) = cond (ks (suc n)) (suc n) (cond (xs (suc n)) (suc (climb ks xs n)) (climb ks xs n))

-- how many of those up to n are marked
pub marked : (ℕ → Bool) → ℕ → ℕ
marked xs zero = zero
marked xs (suc n) = cond (xs (suc n)) (suc (marked xs n)) (marked xs n)

climb_step : (k x : Bool) (n c : ℕ) → c ≤ n → cond k (suc n) (cond x (suc c) c) ≤ suc n
climb_step true x n c h = omega arith
climb_step false true n c h = omega arith
climb_step false false n c h = omega arith

pub climb_within : (ks xs : ℕ → Bool) (n : ℕ) → climb ks xs n ≤ n
unfolding climb
climb_within ks xs zero = omega arith
climb_within ks xs (suc n) = climb_step (ks (suc n)) (xs (suc n)) n (climb ks xs n) (climb_within ks xs n)

step_up : (k x : Bool) (n c : ℕ) → c ≤ n → c ≤ cond k (suc n) (cond x (suc c) c)
step_up true x n c h = omega arith
step_up false true n c h = omega arith
step_up false false n c h = omega arith

step_strict : (k x : Bool) (n c : ℕ) → c ≤ n → (k ≡ true) ⊎ (x ≡ true) → c < cond k (suc n) (cond x (suc c) c)
step_strict true x n c h m = omega arith
step_strict false true n c h m = omega arith
step_strict false false n c h (inl e) = cc
step_strict false false n c h (inr e) = cc

le_split : (m n : ℕ) → m ≤ suc n → (m ≤ n) ⊎ (m ≡ suc n)
le_split m n h = elim (cases_lt m (suc n)) [ inl a ↦ inl (omega arith) | inr b ↦ inr (omega arith) ]

climb_over : (ks xs : ℕ → Bool) (m n : ℕ) (c : ℕ) → climb ks xs m ≤ c → c ≡ climb ks xs n → climb ks xs m ≤ climb ks xs (suc n)
unfolding climb
climb_over ks xs m n c h e =
    let s = step_up (ks (suc n)) (xs (suc n)) n (climb ks xs n) (climb_within ks xs n) in omega arith

climb_mono_case : (ks xs : ℕ → Bool) (m n : ℕ) → (m ≤ n) ⊎ (m ≡ suc n) → (m ≤ n → climb ks xs m ≤ climb ks xs n)
    → climb ks xs m ≤ climb ks xs (suc n)
climb_mono_case ks xs m n (inl a) go = climb_over ks xs m n (climb ks xs n) (go a) refl
climb_mono_case ks xs m n (inr e) go = let q : climb ks xs m ≡ climb ks xs (suc n) = ap (climb ks xs) e in omega arith

pub climb_mono : (ks xs : ℕ → Bool) (m n : ℕ) → m ≤ n → climb ks xs m ≤ climb ks xs n
climb_mono ks xs m zero h = let q : climb ks xs m ≡ climb ks xs zero = ap (climb ks xs) (omega arith) in omega arith
climb_mono ks xs m (suc n) h = climb_mono_case ks xs m n (le_split m n h) (climb_mono ks xs m n)

climb_below_suc : (ks xs : ℕ → Bool) (m n : ℕ) → m ≤ n → (ks (suc n) ≡ true) ⊎ (xs (suc n) ≡ true) → climb ks xs m < climb ks xs (suc n)
unfolding climb
climb_below_suc ks xs m n h k =
    let a = climb_mono ks xs m n h in
    let s = step_strict (ks (suc n)) (xs (suc n)) n (climb ks xs n) (climb_within ks xs n) k in omega arith

-- a constant or a marked number lies above all before it
pub climb_strict : (ks xs : ℕ → Bool) (m n : ℕ) → m < n → (ks n ≡ true) ⊎ (xs n ≡ true) → climb ks xs m < climb ks xs n
climb_strict ks xs m zero h k = absurd (omega arith)
climb_strict ks xs m (suc n) h k = climb_below_suc ks xs m n (omega arith) k

pub climb_fixed : (ks xs : ℕ → Bool) (n : ℕ) → ks n ≡ true → climb ks xs n ≡ n
unfolding climb
climb_fixed ks xs zero e = refl
climb_fixed ks xs (suc n) e = rw e refl

-- the constant below, and how far above it
pub record Above (ks xs : ℕ → Bool) (n : ℕ) : Type 0 where
  pub from : ℕ
  pub over : ℕ
  pub is : climb ks xs n ≡ from + over
  pub base : (from ≡ zero) ⊎ (ks from ≡ true)
  pub few : over ≤ marked xs n

above_step : (ks xs : ℕ → Bool) (n : ℕ) (k x : Bool) → ks (suc n) ≡ k → xs (suc n) ≡ x → Above ks xs n → Above ks xs (suc n)
unfolding climb marked
above_step ks xs n true x ek ex a = record { from = suc n; over = zero; is = rw ek (omega arith); base = inr ek; few = omega arith }
above_step ks xs n false true ek ex a =
    record { from = a.from; over = suc a.over; is = rw (ek, ex) (let q = a.is in omega arith); base = a.base; few = rw ex (let q = a.few in omega arith) }
above_step ks xs n false false ek ex a =
    record { from = a.from; over = a.over; is = rw (ek, ex) a.is; base = a.base; few = rw ex a.few }

pub above : (ks xs : ℕ → Bool) (n : ℕ) → Above ks xs n
unfolding climb marked
above ks xs zero = record { from = zero; over = zero; is = refl; base = inl refl; few = omega arith }
above ks xs (suc n) = above_step ks xs n (ks (suc n)) (xs (suc n)) refl refl (above ks xs n)

-- ---- no more are marked than there are numbers

marked_none : (a : ℕ → Bool) (n : ℕ) → ((i : ℕ) → i ≤ n → a i ≡ false) → marked a n ≡ zero
unfolding marked
marked_none a zero h = refl
marked_none a (suc n) h = rw (h (suc n) (omega arith)) (marked_none a n (λ i l. h i (omega arith)))

one_step : (a : ℕ → Bool) (n : ℕ) (b : Bool) → a (suc n) ≡ b → ((i j : ℕ) → a i ≡ true → a j ≡ true → i ≡ j) → marked a n ≤ 1 → marked a (suc n) ≤ 1
unfolding marked
one_step a n false e u h = rw e h
one_step a n true e u h =
    let z = marked_none a n (λ i l. false_from_ne_true (a i) (λ t. let q = u i (suc n) t e in absurd (omega arith))) in rw e (omega arith)

marked_one : (a : ℕ → Bool) (n : ℕ) → ((i j : ℕ) → a i ≡ true → a j ≡ true → i ≡ j) → marked a n ≤ 1
unfolding marked
marked_one a zero u = omega arith
marked_one a (suc n) u = one_step a n (a (suc n)) refl u (marked_one a n u)

pub either_step : (p q : Bool) (m k l : ℕ) → m ≤ k + l → cond (p || q) (suc m) m ≤ cond p (suc k) k + cond q (suc l) l
either_step true true m k l h = omega arith
either_step true false m k l h = omega arith
either_step false true m k l h = omega arith
either_step false false m k l h = omega arith

marked_either : (a b : ℕ → Bool) (n : ℕ) → marked (λ i. a i || b i) n ≤ marked a n + marked b n
unfolding marked
marked_either a b zero = omega arith
marked_either a b (suc n) = either_step (a (suc n)) (b (suc n)) (marked (λ i. a i || b i) n) (marked a n) (marked b n) (marked_either a b n)

pub marked_few : (f : ℕ → ℤ) (xs : List ℤ) (n : ℕ) → ((i j : ℕ) → f i ≡ f j → i ≡ j) → marked (λ i. any_is int_eq (f i) xs) n ≤ length xs
marked_few f [] n u = let z = marked_none (λ i. false) n (λ i l. refl) in omega arith
marked_few f (x ∷ xs) n u =
    let a = marked_either (λ i. int_eq (f i) x) (λ i. any_is int_eq (f i) xs) n in
    let b = marked_one (λ i. int_eq (f i) x) n
    (λ i j p q. let s = (Decides-int_eq (f i) x).0 p in let t = (Decides-int_eq (f j) x).0 q in u i j (s ∙ sym t)) in
    let c = marked_few f xs n u in omega arith

-- ---- the numbers

abbrev pub up_test : ℤ → List ℤ → ℕ → Bool
up_test l xs i = any_is int_eq (l +ℤ pos i) xs

abbrev pub down_test : ℤ → List ℤ → ℕ → Bool
down_test l xs i = any_is int_eq (l -ℤ pos i) xs

abbrev pub none_at : ℕ → Bool
none_at i = false

pub slide : ℤ → List ℤ → List ℤ → ℤ → ℤ
slide l ks xs (pos n) = l +ℤ pos (climb (up_test l ks) (up_test l xs) n)
slide l ks xs (negsuc n) = l -ℤ pos (climb none_at (down_test l xs) (suc n))

-- the number to which x goes, where l is the least of the constants ks, and xs are the numbers at the point
pub pressed : ℤ → List ℤ → List ℤ → ℤ → ℤ
pressed l ks xs x = slide l ks xs (x -ℤ l)

-- x lies n above l, or below it
pub data Side (l x : ℤ) : Type 0 where
  up : (n : ℕ) → x ≡ l +ℤ pos n → Side l x
  down : (n : ℕ) → x ≡ l -ℤ pos (suc n) → Side l x

side_from : (l x d : ℤ) → x -ℤ l ≡ d → Side l x
side_from l x (pos n) e = up n (omega (arith, ints))
side_from l x (negsuc n) e = down n (omega (arith, ints))

pub side_of : (l x : ℤ) → Side l x
side_of l x = side_from l x (x -ℤ l) refl

pub pressed_up : (l : ℤ) (ks xs : List ℤ) (x : ℤ) (n : ℕ) → x ≡ l +ℤ pos n → pressed l ks xs x ≡ l +ℤ pos (climb (up_test l ks) (up_test l xs) n)
unfolding pressed slide
pressed_up l ks xs x n e = let d : x -ℤ l ≡ pos n = omega (arith, ints) in rw d refl

pub pressed_down : (l : ℤ) (ks xs : List ℤ) (x : ℤ) (n : ℕ) → x ≡ l -ℤ pos (suc n) → pressed l ks xs x ≡ l -ℤ pos (climb none_at (down_test l xs) (suc n))
unfolding pressed slide
pressed_down l ks xs x n e = let d : x -ℤ l ≡ negsuc n = omega (arith, ints) in rw d refl
