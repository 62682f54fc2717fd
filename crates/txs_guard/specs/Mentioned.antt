-- The places that a query mentions, and its constants.
use Rattle.std.specs.Prelude.{ℕ, suc, ℤ, Bool, true, false, ◌&&◌, ◌||◌, cond, eqb, List, [], ◌∷◌, ◌++◌, map, Option, Some, None}
use Rattle.std.specs.Str.{bytes_eq}
use Rattle.txs_values.specs.Value.{Ty, Value, Values, num, bool, text, cons, no_value, and_value}
use Rattle.txs_terms.specs.Expr.{Expr, is_made_by, select, slot, one, two, equal}
use Rattle.txs_guard.specs.Query.{Query}
use Rattle.txs_guard.specs.Place.{Spot, spot_of, spot_type, is_type}
use Rattle.txs_guard.specs.Atom.{atoms_of_all, fixed_value}

-- selectors, each by its constructor and its field, the innermost first
abbrev pub Path : Type 0
Path = List (ℕ × ℕ)

-- those that begin with field j of constructor c, from there on
abbrev pub below : ℕ → ℕ → List Path → List Path
below c j [] = []
below c j ([] ∷ ps) = below c j ps
below c j ((s ∷ p) ∷ ps) = cond (eqb s.0 c && eqb s.1 j) (p ∷ below c j ps) (below c j ps)

-- the places that a value has
abbrev mutual
  pub places_of : Value → List Path
  places_of (num x) = [] ∷ []
  places_of (bool b) = [] ∷ []
  places_of (text bs) = [] ∷ []
  places_of (cons c vs) = [] ∷ places_of_each c 0 vs

  pub places_of_each : ℕ → ℕ → Values → List Path
  places_of_each c j no_value = []
  places_of_each c j (and_value v vs) = map (λ p. (c, j) ∷ p) (places_of v) ++ places_of_each c (suc j) vs

abbrev mutual
  pub numbers_in : Value → List ℤ
  numbers_in (num x) = x ∷ []
  numbers_in (bool b) = []
  numbers_in (text bs) = []
  numbers_in (cons c vs) = numbers_in_each vs

  pub numbers_in_each : Values → List ℤ
  numbers_in_each no_value = []
  numbers_in_each (and_value v vs) = numbers_in v ++ numbers_in_each vs

abbrev mutual
  pub texts_in : Value → List (List ℕ)
  texts_in (num x) = []
  texts_in (bool b) = []
  texts_in (text bs) = bs ∷ []
  texts_in (cons c vs) = texts_in_each vs

  pub texts_in_each : Values → List (List ℕ)
  texts_in_each no_value = []
  texts_in_each (and_value v vs) = texts_in v ++ texts_in_each vs

-- as a list
abbrev pub some_list : {A : Type 0} → Option A → List A
some_list None = []
some_list (Some x) = x ∷ []

-- what is made of each, in one list
abbrev pub flat : {A B : Type 0} → (A → List B) → List A → List B
flat f [] = []
flat f (x ∷ xs) = f x ++ flat f xs

-- what an order atom tests or compares
abbrev pub sides_of : Expr → List Expr
sides_of (slot i) = slot i ∷ []
sides_of (one (select c j) a) = one (select c j) a ∷ []
sides_of (one (is_made_by c) a) = a ∷ []
sides_of (equal a b) = a ∷ b ∷ []
sides_of (two o a b) = a ∷ b ∷ []
sides_of _ = []

-- a path and all that it begins with
abbrev pub prefixes : Path → List Path
prefixes [] = [] ∷ []
prefixes (s ∷ p) = [] ∷ map (λ r. s ∷ r) (prefixes p)

-- a place
abbrev pub spot : ℕ → Path → Spot
spot i p = record { base = i; path = p }

-- the place and those that its selectors pass, and below it every place of the constants that it is compared with
abbrev pub spots_below : List Value → Spot → List Spot
spots_below vs s = map (spot s.base) (flat prefixes (s.path ∷ flat (λ v. map (λ p. s.path ++ p) (places_of v)) vs))

-- each slot by itself
abbrev pub slot_spots : ℕ → List Ty → List Spot
slot_spots i [] = []
slot_spots i (t ∷ ts) = spot i [] ∷ slot_spots (suc i) ts

-- the paths of the places of a slot
abbrev pub paths_at : ℕ → List Spot → List Path
paths_at i [] = []
paths_at i (s ∷ ss) = cond (eqb s.base i) (s.path ∷ paths_at i ss) (paths_at i ss)

-- whether two paths are equal
abbrev pub same_path : Path → Path → Bool
same_path [] [] = true
same_path [] (t ∷ ts) = false
same_path (s ∷ ss) [] = false
same_path (s ∷ ss) (t ∷ ts) = (eqb s.0 t.0 && eqb s.1 t.1) && same_path ss ts

-- whether two places are equal
abbrev pub same_spot : Spot → Spot → Bool
same_spot s t = eqb s.base t.base && same_path s.path t.path

-- whether it is among these
abbrev pub any_is : {A : Type 0} → (A → A → Bool) → A → List A → Bool
any_is same x [] = false
any_is same x (y ∷ ys) = same x y || any_is same x ys

-- each once, at its first appearance, but for those that were seen
abbrev pub once : {A : Type 0} → (A → A → Bool) → List A → List A → List A
once same seen [] = []
once same seen (x ∷ xs) = cond (any_is same x seen) (once same seen xs) (x ∷ once same (x ∷ seen) xs)

module _ (q : Query) where
  -- the constants of an atom
  abbrev pub constants_of : Expr → List Value
  constants_of e = flat (λ a. some_list (fixed_value q a)) (sides_of e)

  -- the places that an atom mentions
  abbrev pub spots_of : Expr → List Spot
  spots_of e = flat (λ a. flat (spots_below (constants_of e)) (some_list (spot_of a))) (sides_of e)

  -- all places that a query mentions, in order, perhaps more than once
  abbrev pub mentioned : List Spot
  mentioned = slot_spots 0 q.slots ++ flat spots_of (atoms_of_all q.conjuncts)

  -- those of this type
  abbrev pub of_type : Ty → List Spot → List Spot
  of_type t [] = []
  of_type t (s ∷ ss) = cond (is_type t (spot_type q (Some s))) (s ∷ of_type t ss) (of_type t ss)

  -- the mentioned places of a type, each once
  abbrev pub places_with : Ty → List Spot
  places_with t = once same_spot [] (of_type t mentioned)

  -- the constants of a query, in order
  abbrev pub constants : List Value
  constants = flat constants_of (atoms_of_all q.conjuncts)

  -- the Ints of its constants
  abbrev pub numbers : List ℤ
  numbers = flat numbers_in constants

  -- the texts of its constants, each once, by first appearance
  abbrev pub texts : List (List ℕ)
  texts = once bytes_eq [] (flat texts_in constants)
