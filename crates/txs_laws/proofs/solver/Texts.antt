-- Texts: constants stay, and the others become fresh texts.
use Rattle.std.proofs.Common.{◌≡◌, ℕ, zero, suc, ◌+◌, ◌<◌, ◌≤◌, Bool, true, false, ◌||◌, cond, ◌⊎◌, inl, inr, List, [], ◌∷◌, length, map, take, refl, sym, ap, ◌∙◌, subst, arith}
use Rattle.std.specs.Str.{bytes_eq}
use Rattle.std.specs.Cmp.Lexicographic.{bytes_decides}
use Rattle.std.specs.Int.Digits.{digits_of}
use Rattle.std.proofs.lemmas.Int.Digits.{same_from_digits_of}
use Rattle.std.proofs.lemmas.Bool.{or_cases, or_left, or_right, false_from_ne_true, both_ways}
use Rattle.txs_terms.specs.Rules.{In}
use Rattle.txs_guard.specs.Candidates.{fresh_text, fresh_from, fresh_texts, text_candidates}
use Rattle.txs_guard.specs.Mentioned.{any_is}
use Rattle.txs_laws.proofs.rules.Lists.{In_front, In_back}
use Rattle.txs_laws.proofs.solver.Climb.{either_step}

abbrev pub Text : Type 0
Text = List ℕ

pub text_In : (x : Text) (xs : List Text) → any_is bytes_eq x xs ≡ true → In x xs
text_In x [] h = cc
text_In x (y ∷ ys) h =
    elim (or_cases (bytes_eq x y) (any_is bytes_eq x ys) h) [ inl a ↦ inl ((bytes_decides x y).0 a) | inr b ↦ inr (text_In x ys b) ]

pub In_text : (x : Text) (xs : List Text) → In x xs → any_is bytes_eq x xs ≡ true
In_text x [] h = absurd h
In_text x (y ∷ ys) (inl e) = or_left (bytes_eq x y) (any_is bytes_eq x ys) ((bytes_decides x y).1 e)
In_text x (y ∷ ys) (inr h) = or_right (bytes_eq x y) (any_is bytes_eq x ys) (In_text x ys h)

-- ---- fresh texts are distinct

shifted_same : (xs ys : List ℕ) → map (λ d. 48 + d) xs ≡ map (λ d. 48 + d) ys → xs ≡ ys
shifted_same [] [] e = refl
shifted_same [] (y ∷ ys) e = cc
shifted_same (x ∷ xs) [] e = cc
shifted_same (x ∷ xs) (y ∷ ys) e =
    let a : 48 + x ≡ 48 + y = cc in
    let b : map (λ d. 48 + d) xs ≡ map (λ d. 48 + d) ys = cc in
    let c : x ≡ y = omega arith in let d = shifted_same xs ys b in cc

pub fresh_same : (j k : ℕ) → fresh_text j ≡ fresh_text k → j ≡ k
fresh_same j k e =
    let a : map (λ d. 48 + d) (digits_of 10 (suc j)) ≡ map (λ d. 48 + d) (digits_of 10 (suc k)) = cc in
    let b = same_from_digits_of 10 (suc j) (suc k) (omega arith) (shifted_same _ _ a) in omega arith

-- the first place of a text
pub first_at : Text → List Text → ℕ
first_at x [] = zero
first_at x (y ∷ ys) = cond (bytes_eq x y) zero (suc (first_at x ys))

first_step : (x y : Text) (ys : List Text) (b : Bool) → bytes_eq x y ≡ b → In x (y ∷ ys) → (In x ys → first_at x ys < length ys)
    → cond b zero (suc (first_at x ys)) < suc (length ys)
first_step x y ys true e h go = omega arith
first_step x y ys false e (inl q) go = let t = (bytes_decides x y).1 q in absurd (both_ways (bytes_eq x y) e t)
first_step x y ys false e (inr h) go = let g = go h in omega arith

pub first_at-lt : (x : Text) (xs : List Text) → In x xs → first_at x xs < length xs
unfolding first_at
first_at-lt x [] h = absurd h
first_at-lt x (y ∷ ys) h = first_step x y ys (bytes_eq x y) refl h (first_at-lt x ys)

pub first_at_same : (x z : Text) (xs : List Text) → In x xs → In z xs → first_at x xs ≡ first_at z xs → x ≡ z
unfolding first_at
first_at_same x z [] h g e = absurd h
first_at_same x z (y ∷ ys) h g e = go (bytes_eq x y) (bytes_eq z y) refl refl h g e (first_at_same x z ys)
  where
    go : (a b : Bool) → bytes_eq x y ≡ a → bytes_eq z y ≡ b → In x (y ∷ ys) → In z (y ∷ ys)
        → cond a zero (suc (first_at x ys)) ≡ cond b zero (suc (first_at z ys))
        → (In x ys → In z ys → first_at x ys ≡ first_at z ys → x ≡ z) → x ≡ z
    go true true ea eb h g e r = (bytes_decides x y).0 ea ∙ sym ((bytes_decides z y).0 eb)
    go true false ea eb h g e r = absurd (omega arith)
    go false true ea eb h g e r = absurd (omega arith)
    go false false ea eb (inl q) g e r = absurd (both_ways _ ea ((bytes_decides x y).1 q))
    go false false ea eb (inr q) (inl p) e r = absurd (both_ways _ eb ((bytes_decides z y).1 p))
    go false false ea eb (inr q) (inr p) e r = r q p (omega arith)

-- ---- no more fresh texts are left out than there are constants

hits : (ℕ → Bool) → ℕ → ℕ → ℕ
hits a k zero = zero
hits a k (suc n) = cond (a k) (suc (hits a (suc k) n)) (hits a (suc k) n)

hits_none : (a : ℕ → Bool) (k n : ℕ) → ((i : ℕ) → k ≤ i → a i ≡ false) → hits a k n ≡ zero
unfolding hits
hits_none a k zero h = refl
hits_none a k (suc n) h = rw (h k (omega arith)) (hits_none a (suc k) n (λ i l. h i (omega arith)))

hits_step : (a : ℕ → Bool) (k n : ℕ) (b : Bool) → a k ≡ b → ((i j : ℕ) → a i ≡ true → a j ≡ true → i ≡ j) → hits a (suc k) n ≤ 1 → hits a k (suc n) ≤ 1
unfolding hits
hits_step a k n false e u h = rw e h
hits_step a k n true e u h =
    let z = hits_none a (suc k) n (λ i l. false_from_ne_true (a i) (λ t. let q = u i k t e in absurd (omega arith))) in rw e (omega arith)

hits_one : (a : ℕ → Bool) (k n : ℕ) → ((i j : ℕ) → a i ≡ true → a j ≡ true → i ≡ j) → hits a k n ≤ 1
unfolding hits
hits_one a k zero u = omega arith
hits_one a k (suc n) u = hits_step a k n (a k) refl u (hits_one a (suc k) n u)

hits_either : (a b : ℕ → Bool) (k n : ℕ) → hits (λ i. a i || b i) k n ≤ hits a k n + hits b k n
unfolding hits
hits_either a b k zero = omega arith
hits_either a b k (suc n) = either_step (a k) (b k) (hits (λ i. a i || b i) (suc k) n) (hits a (suc k) n) (hits b (suc k) n) (hits_either a b (suc k) n)

hits_few : (ts : List Text) (k n : ℕ) → hits (λ i. any_is bytes_eq (fresh_text i) ts) k n ≤ length ts
hits_few [] k n = let z = hits_none (λ i. false) k n (λ i l. refl) in omega arith
hits_few (t ∷ ts) k n =
    let a = hits_either (λ i. bytes_eq (fresh_text i) t) (λ i. any_is bytes_eq (fresh_text i) ts) k n in
    let b = hits_one (λ i. bytes_eq (fresh_text i) t) k n
    (λ i j p q. fresh_same i j ((bytes_decides (fresh_text i) t).0 p ∙ sym ((bytes_decides (fresh_text j) t).0 q))) in
    let c = hits_few ts k n in omega arith

count_step : (b : Bool) (x : Text) (xs : List Text) (h n : ℕ) → length xs + h ≡ n → length (cond b xs (x ∷ xs)) + cond b (suc h) h ≡ suc n
count_step true x xs h n e = omega arith
count_step false x xs h n e = omega arith

fresh_count : (ts : List Text) (k n : ℕ) → length (fresh_from ts k n) + hits (λ i. any_is bytes_eq (fresh_text i) ts) k n ≡ n
unfolding hits
fresh_count ts k zero = refl
fresh_count ts k (suc n) =
    count_step (any_is bytes_eq (fresh_text k) ts) (fresh_text k) (fresh_from ts (suc k) n) (hits (λ i. any_is bytes_eq (fresh_text i) ts) (suc k) n) n (fresh_count ts (suc k) n)

-- ---- each fresh text is no constant, and stands once

-- the text at a place
pub text_at : List Text → ℕ → Text
text_at [] i = []
text_at (x ∷ xs) zero = x
text_at (x ∷ xs) (suc i) = text_at xs i

record IsFresh (ts : List Text) (k : ℕ) (x : Text) : Type 0 where
  pub number : ℕ
  pub past : k ≤ number
  pub is : x ≡ fresh_text number
  pub new : any_is bytes_eq x ts ≡ false

fresh_at_step : (ts : List Text) (k n i : ℕ) (b : Bool) → any_is bytes_eq (fresh_text k) ts ≡ b
    → i < length (cond b (fresh_from ts (suc k) n) (fresh_text k ∷ fresh_from ts (suc k) n))
    → ((i : ℕ) → i < length (fresh_from ts (suc k) n) → IsFresh ts (suc k) (text_at (fresh_from ts (suc k) n) i))
    → IsFresh ts k (text_at (cond b (fresh_from ts (suc k) n) (fresh_text k ∷ fresh_from ts (suc k) n)) i)
unfolding text_at
fresh_at_step ts k n i true e h go =
    let f = go i h in let p = f.past in record { number = f.number; past = omega arith; is = f.is; new = f.new }
fresh_at_step ts k n zero false e h go = record { number = k; past = omega arith; is = refl; new = e }
fresh_at_step ts k n (suc i) false e h go =
    let f = go i (omega arith) in let p = f.past in record { number = f.number; past = omega arith; is = f.is; new = f.new }

fresh_at : (ts : List Text) (k n i : ℕ) → i < length (fresh_from ts k n) → IsFresh ts k (text_at (fresh_from ts k n) i)
fresh_at ts k zero i h = absurd (omega arith)
fresh_at ts k (suc n) i h = fresh_at_step ts k n i (any_is bytes_eq (fresh_text k) ts) refl h (fresh_at ts (suc k) n)

apart_from : (ts : List Text) (k n i : ℕ) → i < length (fresh_from ts (suc k) n) → fresh_text k ≡ text_at (fresh_from ts (suc k) n) i → ⊥
apart_from ts k n i h e =
    let f = fresh_at ts (suc k) n i h in let q = fresh_same k f.number (e ∙ f.is) in let p = f.past in omega arith

place_step : (ts : List Text) (k n i j : ℕ) (b : Bool)
    → i < length (cond b (fresh_from ts (suc k) n) (fresh_text k ∷ fresh_from ts (suc k) n))
    → j < length (cond b (fresh_from ts (suc k) n) (fresh_text k ∷ fresh_from ts (suc k) n))
    → text_at (cond b (fresh_from ts (suc k) n) (fresh_text k ∷ fresh_from ts (suc k) n)) i ≡ text_at (cond b (fresh_from ts (suc k) n) (fresh_text k ∷ fresh_from ts (suc k) n)) j
    → ((i j : ℕ) → i < length (fresh_from ts (suc k) n) → j < length (fresh_from ts (suc k) n)
    → text_at (fresh_from ts (suc k) n) i ≡ text_at (fresh_from ts (suc k) n) j → i ≡ j)
    → i ≡ j
unfolding text_at
place_step ts k n i j true hi hj e go = go i j hi hj e
place_step ts k n zero zero false hi hj e go = refl
place_step ts k n zero (suc j) false hi hj e go = absurd (apart_from ts k n j (omega arith) e)
place_step ts k n (suc i) zero false hi hj e go = absurd (apart_from ts k n i (omega arith) (sym e))
place_step ts k n (suc i) (suc j) false hi hj e go = ap suc (go i j (omega arith) (omega arith) e)

same_place : (ts : List Text) (k n i j : ℕ) → i < length (fresh_from ts k n) → j < length (fresh_from ts k n)
    → text_at (fresh_from ts k n) i ≡ text_at (fresh_from ts k n) j → i ≡ j
same_place ts k zero i j hi hj e = absurd (omega arith)
same_place ts k (suc n) i j hi hj e = place_step ts k n i j (any_is bytes_eq (fresh_text k) ts) hi hj e (same_place ts (suc k) n)

In_taken : (xs : List Text) (i n : ℕ) → i < n → i < length xs → In (text_at xs i) (take n xs)
unfolding text_at
In_taken [] i n h l = absurd (omega arith)
In_taken (x ∷ xs) i zero h l = absurd (omega arith)
In_taken (x ∷ xs) zero (suc n) h l = inl refl
In_taken (x ∷ xs) (suc i) (suc n) h l = inr (In_taken xs i n (omega arith) (omega arith))

-- ---- the text to which a text goes, where ts are the constants and xs the texts at the point, at most n

pub renamed : ℕ → List Text → List Text → Text → Text
renamed n ts xs t = cond (any_is bytes_eq t ts) t (text_at (fresh_from ts 0 (n + length ts)) (first_at t xs))

enough : (n : ℕ) (ts : List Text) → n ≤ length (fresh_from ts 0 (n + length ts))
enough n ts = let a = fresh_count ts 0 (n + length ts) in let b = hits_few ts 0 (n + length ts) in omega arith

pub renamed_constant : (n : ℕ) (ts xs : List Text) (t : Text) → In t ts → renamed n ts xs t ≡ t
unfolding renamed
renamed_constant n ts xs t h = rw (In_text t ts h) refl

renamed_fresh : (n : ℕ) (ts xs : List Text) (t : Text) → any_is bytes_eq t ts ≡ false → renamed n ts xs t ≡ text_at (fresh_from ts 0 (n + length ts)) (first_at t xs)
unfolding renamed
renamed_fresh n ts xs t e = rw e refl

candidate_by : (n : ℕ) (ts xs : List Text) (t : Text) (b : Bool) → any_is bytes_eq t ts ≡ b → length xs ≤ n → In t ts ⊎ In t xs → In (renamed n ts xs t) (text_candidates n ts)
candidate_by n ts xs t true e few h =
    let i = text_In t ts e in
    subst (λ (z : Text). In z (text_candidates n ts)) (sym (renamed_constant n ts xs t i)) (In_front t ts (fresh_texts ts n) i)
candidate_by n ts xs t false e few (inl h) = absurd (both_ways _ e (In_text t ts h))
candidate_by n ts xs t false e few (inr h) =
    let l = first_at-lt t xs h in
    let m = enough n ts in
    subst (λ (z : Text). In z (text_candidates n ts)) (sym (renamed_fresh n ts xs t e))
    (In_back _ ts (fresh_texts ts n) (In_taken (fresh_from ts 0 (n + length ts)) (first_at t xs) n (omega arith) (omega arith)))

pub renamed_candidate : (n : ℕ) (ts xs : List Text) (t : Text) → length xs ≤ n → In t ts ⊎ In t xs → In (renamed n ts xs t) (text_candidates n ts)
renamed_candidate n ts xs t few h = candidate_by n ts xs t (any_is bytes_eq t ts) refl few h

renamed_new : (n : ℕ) (ts xs : List Text) (t : Text) → any_is bytes_eq t ts ≡ false → length xs ≤ n → In t xs → any_is bytes_eq (renamed n ts xs t) ts ≡ false
renamed_new n ts xs t e few h =
    let l = first_at-lt t xs h in
    let m = enough n ts in
    let f = fresh_at ts 0 (n + length ts) (first_at t xs) (omega arith) in
    rw (renamed_fresh n ts xs t e) f.new

same_by : (n : ℕ) (ts xs : List Text) (t u : Text) (a b : Bool) → any_is bytes_eq t ts ≡ a → any_is bytes_eq u ts ≡ b → length xs ≤ n
    → In t ts ⊎ In t xs → In u ts ⊎ In u xs → renamed n ts xs t ≡ renamed n ts xs u → t ≡ u
same_by n ts xs t u true true ea eb few ht hu e =
    sym (renamed_constant n ts xs t (text_In t ts ea)) ∙ (e ∙ renamed_constant n ts xs u (text_In u ts eb))
same_by n ts xs t u true false ea eb few ht (inl h) e = absurd (both_ways _ eb (In_text u ts h))
same_by n ts xs t u true false ea eb few ht (inr h) e =
    let p = renamed_constant n ts xs t (text_In t ts ea) in
    let q = renamed_new n ts xs u eb few h in
    absurd (both_ways _ q (ap (λ (z : Text). any_is bytes_eq z ts) (sym e ∙ p) ∙ ea))
same_by n ts xs t u false true ea eb few (inl h) hu e = absurd (both_ways _ ea (In_text t ts h))
same_by n ts xs t u false true ea eb few (inr h) hu e =
    let p = renamed_constant n ts xs u (text_In u ts eb) in
    let q = renamed_new n ts xs t ea few h in
    absurd (both_ways _ q (ap (λ (z : Text). any_is bytes_eq z ts) (e ∙ p) ∙ eb))
same_by n ts xs t u false false ea eb few (inl h) hu e = absurd (both_ways _ ea (In_text t ts h))
same_by n ts xs t u false false ea eb few (inr h) (inl g) e = absurd (both_ways _ eb (In_text u ts g))
same_by n ts xs t u false false ea eb few (inr h) (inr g) e =
    let l = first_at-lt t xs h in
    let k = first_at-lt u xs g in
    let m = enough n ts in
    first_at_same t u xs h g
    (same_place ts 0 (n + length ts) (first_at t xs) (first_at u xs) (omega arith) (omega arith)
    (sym (renamed_fresh n ts xs t ea) ∙ (e ∙ renamed_fresh n ts xs u eb)))

pub renamed_same : (n : ℕ) (ts xs : List Text) (t u : Text) → length xs ≤ n → In t ts ⊎ In t xs → In u ts ⊎ In u xs
    → renamed n ts xs t ≡ renamed n ts xs u → t ≡ u
renamed_same n ts xs t u few ht hu e = same_by n ts xs t u (any_is bytes_eq t ts) (any_is bytes_eq u ts) refl refl few ht hu e
