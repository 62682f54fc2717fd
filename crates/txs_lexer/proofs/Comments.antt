-- Where a comment ends.
use Rattle.std.proofs.Common.{◌≡◌, ℕ, suc, ◌+◌, ◌≤◌, Bool, true, false, ◌&&◌, cond, eqb, eqb-true, List, [], ◌∷◌, ◌++◌, length, Option, Some, None, refl, sym, ◌∙◌, ap, arith}
use Rattle.txs_lexer.specs.Tokens.{IsFirstEnd, HasNoEnd}
use Rattle.txs_lexer.specs.Scan.{before_end, more_by, begins_with}
use Rattle.txs_values.proofs.Tests.{and-both, yes, no}

-- an end stands so far in at most
pub record EndsWithin (bs : List ℕ) (n : ℕ) : Type 0 where
  pub place : ℕ
  pub is : before_end bs ≡ Some place
  pub within : place ≤ n

within-more : (f : ℕ) (bs : List ℕ) (n : ℕ) (t : Bool) → (eqb f 45 && begins_with 125 bs) ≡ t → EndsWithin bs n → EndsWithin (f ∷ bs) (suc n)
within-more f bs n true e h = record { place = 0; is = yes (eqb f 45 && begins_with 125 bs) (Some 0) (more_by 1 (before_end bs)) e; within = omega arith }
within-more f bs n false e h = record { place = 1 + h.place; is = no (eqb f 45 && begins_with 125 bs) (Some 0) (more_by 1 (before_end bs)) e ∙ ap (more_by 1) h.is; within = omega (arith, h.within) }

ends-within : (front back : List ℕ) → EndsWithin (front ++ (45 ∷ 125 ∷ back)) (length front)
ends-within [] back = record { place = 0; is = refl; within = omega arith }
ends-within (f ∷ fs) back = within-more f (fs ++ (45 ∷ 125 ∷ back)) (length fs) (eqb f 45 && begins_with 125 (fs ++ (45 ∷ 125 ∷ back))) refl (ends-within fs back)

-- the end that was found
pub record EndAt (bs : List ℕ) (n : ℕ) : Type 0 where
  pub inside : List ℕ
  pub rest : List ℕ
  pub parts : bs ≡ inside ++ (45 ∷ 125 ∷ rest)
  pub len : n ≡ length inside

begins-rest : (bs : List ℕ) → begins_with 125 bs ≡ true → (rest : List ℕ) × (bs ≡ 125 ∷ rest)
begins-rest [] h = absurd (cc)
begins-rest (c ∷ bs) h = (bs, ap (λ (q : ℕ). q ∷ bs) (eqb-true c 125 h))

end-here : (b : ℕ) (bs : List ℕ) (n : ℕ) → (eqb b 45 && begins_with 125 bs) ≡ true → 0 ≡ n → EndAt (b ∷ bs) n
end-here b bs n e h =
    let both = and-both (eqb b 45) (begins_with 125 bs) e in
    let after = begins-rest bs both.1 in
    record { inside = []; rest = after.0; parts = ap (λ (q : ℕ). q ∷ bs) (eqb-true b 45 both.0) ∙ ap (λ (q : List ℕ). 45 ∷ q) after.1; len = sym h }

end-later : (b : ℕ) (bs : List ℕ) (n m : ℕ) → 1 + m ≡ n → EndAt bs m → EndAt (b ∷ bs) n
end-later b bs n m e h = record { inside = b ∷ h.inside; rest = h.rest; parts = ap (λ (q : List ℕ). b ∷ q) h.parts; len = omega (arith, h.len) }

end-more : (b : ℕ) (bs : List ℕ) (n : ℕ) (o : Option ℕ) → ((m : ℕ) → o ≡ Some m → EndAt bs m) → more_by 1 o ≡ Some n → EndAt (b ∷ bs) n
end-more b bs n None h e = absurd (cc)
end-more b bs n (Some m) h e = let same : 1 + m ≡ n = cc in end-later b bs n m same (h m refl)

end-at : (b : ℕ) (bs : List ℕ) (n : ℕ) (t : Bool) → (eqb b 45 && begins_with 125 bs) ≡ t → ((m : ℕ) → before_end bs ≡ Some m → EndAt bs m)
    → cond t (Some 0) (more_by 1 (before_end bs)) ≡ Some n → EndAt (b ∷ bs) n
end-at b bs n true e h k = let same : 0 ≡ n = cc in end-here b bs n e same
end-at b bs n false e h k = end-more b bs n (before_end bs) h k

pub end-found : (bs : List ℕ) (n : ℕ) → before_end bs ≡ Some n → EndAt bs n
end-found [] n h = absurd (cc)
end-found (b ∷ bs) n h = end-at b bs n (eqb b 45 && begins_with 125 bs) refl (λ m e. end-found bs m e) h

-- the end that is found is the first
pub found-first : (inside rest : List ℕ) (n : ℕ) → before_end (inside ++ (45 ∷ 125 ∷ rest)) ≡ Some n → n ≡ length inside → IsFirstEnd inside rest
found-first inside rest n h e front back parts =
    let w = ends-within front back in
    let same : Some w.place ≡ Some n = sym w.is ∙ (ap before_end (sym parts) ∙ h) in
    let equal : w.place ≡ n = cc in
    omega (arith, w.within)

pub first-found : (inside rest : List ℕ) → IsFirstEnd inside rest → before_end (inside ++ (45 ∷ 125 ∷ rest)) ≡ Some (length inside)
first-found inside rest h =
    let w = ends-within inside rest in
    let e = end-found (inside ++ (45 ∷ 125 ∷ rest)) w.place w.is in
    let least : length inside ≤ length e.inside = h e.inside e.rest e.parts in
    let same : w.place ≡ length inside = omega (arith, w.within, e.len) in
    w.is ∙ ap Some same

pub none-found : (bs : List ℕ) → before_end bs ≡ None → HasNoEnd bs
none-found bs h front back parts =
    let w = ends-within front back in
    let some : Some w.place ≡ None = sym w.is ∙ (ap before_end (sym parts) ∙ h) in
    cc

none-at : (bs : List ℕ) (o : Option ℕ) → before_end bs ≡ o → HasNoEnd bs → before_end bs ≡ None
none-at bs None e h = e
none-at bs (Some n) e h = let k = end-found bs n e in absurd (h k.inside k.rest k.parts)

pub no-end : (bs : List ℕ) → HasNoEnd bs → before_end bs ≡ None
no-end bs h = none-at bs (before_end bs) refl h
