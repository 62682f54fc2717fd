-- Tests that came out one way.
use Rattle.std.proofs.Common.{◌≡◌, ◌⊎◌, inl, inr, ℕ, ◌<◌, ◌≤◌, nat_le, nat_lt, arith, Bool, true, false, cond, not, ◌&&◌, List, refl, bytes_eq}
use Rattle.std.proofs.lemmas.Bool.Decides.{nat_tests}
use Rattle.std.proofs.lemmas.Slice.Eq.{bytes_eq-Decides}

-- ---- two texts

pub eq-bytes : (a b : List ℕ) → bytes_eq a b ≡ true → a ≡ b
eq-bytes a b h = (bytes_eq-Decides a b).0 h

pub bytes-eq : (a b : List ℕ) → a ≡ b → bytes_eq a b ≡ true
bytes-eq a b h = (bytes_eq-Decides a b).1 h

pub ne-bytes : (a b : List ℕ) → (a ≡ b → ⊥) → (x : Bool) → bytes_eq a b ≡ x → bytes_eq a b ≡ false
ne-bytes a b n true e = absurd (n (eq-bytes a b e))
ne-bytes a b n false e = e

pub other-bytes : (a b : List ℕ) → (a ≡ b → ⊥) → bytes_eq a b ≡ false
other-bytes a b n = ne-bytes a b n (bytes_eq a b) refl

-- ---- choices

-- a test that came out true or false
pub by-test : {X : Type 0} (b : Bool) (x y z : X) → cond b x y ≡ z → ((b ≡ true) × (x ≡ z)) ⊎ ((b ≡ false) × (y ≡ z))
by-test true x y z h = inl (refl, h)
by-test false x y z h = inr (refl, h)

pub yes : {X : Type 0} (b : Bool) (x y : X) → b ≡ true → cond b x y ≡ x
yes true x y e = refl
yes false x y e = absurd (cc)

pub no : {X : Type 0} (b : Bool) (x y : X) → b ≡ false → cond b x y ≡ y
no true x y e = absurd (cc)
no false x y e = refl

-- ---- both, and not

pub and-both : (a b : Bool) → (a && b) ≡ true → (a ≡ true) × (b ≡ true)
and-both true b h = (refl, h)
and-both false b h = cc

pub both-and : (a b : Bool) → a ≡ true → b ≡ true → (a && b) ≡ true
both-and true b e f = f
both-and false b e f = e

pub not-false : (b : Bool) → false ≡ not b → b ≡ true
not-false true e = refl
not-false false e = absurd (cc)

pub not-true : (b : Bool) → not b ≡ true → b ≡ false
not-true true e = absurd (cc)
not-true false e = refl

pub not-both : (b : Bool) → not b ≡ true → b ≡ true → ⊥
not-both true e f = absurd (cc)
not-both false e f = absurd (cc)

pub if-not : (b : Bool) → (b ≡ true → ⊥) → b ≡ false
if-not true n = absurd (n refl)
if-not false n = refl

-- ---- two numbers

pub le-true : (m n : ℕ) → m ≤ n → nat_le m n ≡ true
le-true m n h = grind (arith, nat_tests)

pub true-le : (m n : ℕ) → nat_le m n ≡ true → m ≤ n
true-le m n h = grind (arith, nat_tests)

pub lt-true : (m n : ℕ) → m < n → nat_lt m n ≡ true
lt-true m n h = grind (arith, nat_tests)

pub true-lt : (m n : ℕ) → nat_lt m n ≡ true → m < n
true-lt m n h = grind (arith, nat_tests)

pub lt-false : (m n : ℕ) → n ≤ m → nat_lt m n ≡ false
lt-false m n h = grind (arith, nat_tests)

pub false-lt : (m n : ℕ) → nat_lt m n ≡ false → n ≤ m
false-lt m n h = grind (arith, nat_tests)
