-- A loop that gathers what each item of a list gives, and one that seeks an item.
use Rattle.std.proofs.Common.{◌≡◌, ◌+◌, ◌<◌, ◌≤◌, ℕ, Bool, true, false, ◌||◌, ap, sym, ◌∙◌, List, [], ◌∷◌, ◌++◌, length, take, drop, get_or}
use Rattle.std.proofs.lemmas.List.{append_assoc, append-nil, at_drop_more, at_drop_all, take_more}

-- the list that is left begins with the item
pub left_over : {A B : Type 0} (F : List A → B) (xs : List A) (i : ℕ) (x : A) → i < length xs → x ≡ get_or xs i x → F (drop i xs) ≡ F (x ∷ drop (i + 1) xs)
left_over F xs i x below is = at_drop_more F xs i x below ∙ ap (λ y. F (y ∷ drop (i + 1) xs)) (sym is)

-- what was passed ends with it
pub taken_more : {A : Type 0} (xs : List A) (i : ℕ) (x : A) → i < length xs → x ≡ get_or xs i x → take i xs ++ x ∷ [] ≡ take (i + 1) xs
taken_more xs i x below is = ap (λ y. take i xs ++ y ∷ []) is ∙ sym (take_more xs i x below)

pub gather_more : {A B : Type 0} (F : List A → List B) → ((d : A) (ds : List A) → F (d ∷ ds) ≡ F (d ∷ []) ++ F ds)
    → (xs : List A) (i : ℕ) (x : A) (got more new : List B) → i < length xs → x ≡ get_or xs i x
    → got ++ F (drop i xs) ≡ F xs → more ≡ F (x ∷ []) → new ≡ got ++ more → new ++ F (drop (i + 1) xs) ≡ F xs
gather_more F split xs i x got more new below is h m n =
    ap (λ l. l ++ F (drop (i + 1) xs)) n
    ∙ (append_assoc got more (F (drop (i + 1) xs))
    ∙ (ap (λ l. got ++ l) (ap (λ k. k ++ F (drop (i + 1) xs)) m ∙ (sym (split x (drop (i + 1) xs)) ∙ sym (left_over F xs i x below is)))
    ∙ h))

pub gather_end : {A B : Type 0} (F : List A → List B) (xs : List A) (i : ℕ) (got : List B) → F [] ≡ [] → length xs ≤ i → got ++ F (drop i xs) ≡ F xs → got ≡ F xs
gather_end F xs i got nil past h = sym (append-nil got) ∙ (ap (λ l. got ++ l) (sym (at_drop_all F xs i past ∙ nil)) ∙ h)

pub seek_more : {A : Type 0} (F : List A → Bool) (G : A → Bool) → ((d : A) (ds : List A) → F (d ∷ ds) ≡ (G d || F ds))
    → (xs : List A) (i : ℕ) (x : A) → i < length xs → x ≡ get_or xs i x → F (drop i xs) ≡ F xs → G x ≡ false → F (drop (i + 1) xs) ≡ F xs
seek_more F G split xs i x below is h out =
    ap (λ b. b || F (drop (i + 1) xs)) (sym out) ∙ (sym (split x (drop (i + 1) xs)) ∙ (sym (left_over F xs i x below is) ∙ h))

pub seek_found : {A : Type 0} (F : List A → Bool) (G : A → Bool) → ((d : A) (ds : List A) → F (d ∷ ds) ≡ (G d || F ds))
    → (xs : List A) (i : ℕ) (x : A) → i < length xs → x ≡ get_or xs i x → F (drop i xs) ≡ F xs → G x ≡ true → true ≡ F xs
seek_found F G split xs i x below is h hit =
    ap (λ b. b || F (drop (i + 1) xs)) (sym hit) ∙ (sym (split x (drop (i + 1) xs)) ∙ (sym (left_over F xs i x below is) ∙ h))

pub seek_end : {A : Type 0} (F : List A → Bool) (xs : List A) (i : ℕ) → F [] ≡ false → length xs ≤ i → F (drop i xs) ≡ F xs → false ≡ F xs
seek_end F xs i nil past h = sym (at_drop_all F xs i past ∙ nil) ∙ h
