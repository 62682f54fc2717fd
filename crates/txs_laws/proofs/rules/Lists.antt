-- Members of lists, and walks that ended well.
use Rattle.std.proofs.Common.{◌≡◌, ℕ, Bool, true, false, cond, ◌⊎◌, inl, inr, List, [], ◌∷◌, ◌++◌, map, refl, sym, ap, subst}
use Rattle.txs_terms.specs.Rules.{In}
use Rattle.txs_terms.specs.Menu.{Item, Walk, faulted, walked, wide, then_walk, capped, too_many, gather, Verdict, holds, fails, faults, where_holds}

pub In_front : {A : Type 0} (x : A) (xs ys : List A) → In x xs → In x (xs ++ ys)
In_front x [] ys h = absurd h
In_front x (y ∷ xs) ys (inl e) = inl e
In_front x (y ∷ xs) ys (inr h) = inr (In_front x xs ys h)

pub In_back : {A : Type 0} (x : A) (xs ys : List A) → In x ys → In x (xs ++ ys)
In_back x [] ys h = h
In_back x (y ∷ xs) ys h = inr (In_back x xs ys h)

pub In-append : {A : Type 0} (x : A) (xs ys : List A) → In x (xs ++ ys) → In x xs ⊎ In x ys
In-append x [] ys h = inr h
In-append x (y ∷ xs) ys (inl e) = inl (inl e)
In-append x (y ∷ xs) ys (inr h) = elim (In-append x xs ys h) [ inl a ↦ inl (inr a) | inr b ↦ inr b ]

pub In-map : {A B : Type 0} (f : A → B) (y : B) (xs : List A) → In y (map f xs) → (x : A) × In x xs × (y ≡ f x)
In-map f y [] h = absurd h
In-map f y (x ∷ xs) (inl e) = (x, inl refl, e)
In-map f y (x ∷ xs) (inr h) = let p = In-map f y xs h in (p.0, inr p.1, p.2)

pub In_mapped : {A B : Type 0} (f : A → B) (x : A) (xs : List A) → In x xs → In (f x) (map f xs)
In_mapped f x [] h = absurd h
In_mapped f x (y ∷ xs) (inl e) = inl (ap f e)
In_mapped f x (y ∷ xs) (inr h) = inr (In_mapped f x xs h)

pub In-gather : {A : Type 0} (f : A → List Item) (y : Item) (xs : List A) → In y (gather f xs) → (x : A) × In x xs × In y (f x)
In-gather f y [] h = absurd h
In-gather f y (x ∷ xs) h =
    elim (In-append y (f x) (gather f xs) h)
    [ inl a ↦ (x, inl refl, a) | inr b ↦ (let p = In-gather f y xs b in (p.0, inr p.1, p.2)) ]

pub In_gathered : {A : Type 0} (f : A → List Item) (y : Item) (x : A) (xs : List A) → In x xs → In y (f x) → In y (gather f xs)
In_gathered f y x [] h g = absurd h
In_gathered f y x (z ∷ xs) (inl e) g = In_front y (f z) (gather f xs) (subst (λ w. In y (f w)) e g)
In_gathered f y x (z ∷ xs) (inr h) g = In_back y (f z) (gather f xs) (In_gathered f y x xs h g)

pub then_walk_from : (w : Walk) (go : ℕ → List Item → Walk) (n : ℕ) (is : List Item) → then_walk w go ≡ walked n is
    → (m : ℕ) × (js : List Item) × (w ≡ walked m js) × (go m js ≡ walked n is)
then_walk_from (faulted s) go n is e = cc
then_walk_from (walked m js) go n is e = (m, js, refl, e)

pub walked_items : (n m : ℕ) (is js : List Item) → walked n is ≡ walked m js → is ≡ js
walked_items n m is js e = cc

cond_sick : (b : Bool) (n m : ℕ) (is js : List Item) → cond b (faulted wide) (walked n is) ≡ walked m js → is ≡ js
cond_sick true n m is js e = cc
cond_sick false n m is js e = cc

pub capped_items : (n m : ℕ) (is js : List Item) → capped n is ≡ walked m js → is ≡ js
capped_items n m is js e = cond_sick (too_many is) n m is js e

pub entered : (b : Bool) (w : Walk) (n : ℕ) (is : List Item) → cond b w (faulted wide) ≡ walked n is → w ≡ walked n is
entered true w n is e = e
entered false w n is e = cc

pub not_wide : (b : Bool) (w : Walk) (n : ℕ) (is : List Item) → cond b (faulted wide) w ≡ walked n is → w ≡ walked n is
not_wide true w n is e = cc
not_wide false w n is e = e

pub where_holds_from : (v : Verdict) (k : ℕ) (go : Walk) (n : ℕ) (is : List Item) → where_holds v k go ≡ walked n is
    → ((v ≡ holds) × (go ≡ walked n is)) ⊎ ((v ≡ fails) × (is ≡ []))
where_holds_from holds k go n is e = inl (refl, e)
where_holds_from fails k go n is e = inr (refl, sym (walked_items k n [] is e))
where_holds_from faults k go n is e = cc
