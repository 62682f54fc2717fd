-- The cell of a point, and what is known of the point at the mentioned places.
use Rattle.std.proofs.Common.{◌≡◌, ℕ, zero, suc, ◌<◌, ◌≤◌, ℤ, pos, Bool, true, false, ◌⊎◌, inl, inr, List, [], ◌∷◌, ◌++◌, length, refl, sym, ap, ◌∙◌, subst, arith}
use Rattle.std.specs.Prelude.{Option, Some, None, slice_get}
use Rattle.std.specs.Ordering.{int_eq}
use Rattle.std.specs.Str.{bytes_eq}
use Rattle.std.specs.Cmp.Lexicographic.{bytes_decides}
use Rattle.std.proofs.lemmas.List.{length-append}
use Rattle.std.proofs.lemmas.Bool.{both_ways}
use Rattle.txs_values.specs.Default.{default_of}
use Rattle.txs_values.specs.Value.{fits, Ty, integer, truth, string, named, Value, num, bool, text, cons, Table, has_type, HaveTypes}
use Rattle.txs_terms.specs.Rules.{In}
use Rattle.txs_guard.specs.Candidates.{least, cells, pools_of, longest, order_candidates}
use Rattle.txs_guard.specs.Mentioned.{flat, numbers, texts, mentioned, paths_at, places_with, spot}
use Rattle.txs_guard.specs.Place.{Spot, is_type}
use Rattle.txs_guard.specs.Point.{IsPoint}
use Rattle.txs_guard.specs.Query.{Query}
use Rattle.txs_laws.proofs.solver.Press.{IsKnown, least_is, pressed_order, pressed_fixed, pressed_candidate}
use Rattle.txs_laws.proofs.solver.Climb.{pressed}
use Rattle.txs_laws.proofs.solver.Texts.{Text, renamed, renamed_constant, renamed_candidate, renamed_same}
use Rattle.txs_laws.proofs.solver.Squash.{Shape, along, along_In, follow, follow-append, Known, Keeps}
use Rattle.txs_laws.proofs.solver.Members.{Lands, squash_all, In_flat, cell_In}
use Rattle.txs_laws.proofs.solver.Mentions.{rooted, deep, slot_mentioned, In_places, place_typed, paths_In}

-- the Ints of the constants are in range
abbrev pub ConstantsFit : Query → Type 0
ConstantsFit q = (x : ℤ) → In x (numbers q) → fits x ≡ true

-- ---- the numbers and texts of a point at the mentioned places

number_at : Option Value → List ℤ
number_at None = []
number_at (Some (num x)) = x ∷ []
number_at (Some (bool b)) = []
number_at (Some (text t)) = []
number_at (Some (cons c vs)) = []

text_there : Option Value → List Text
text_there None = []
text_there (Some (num x)) = []
text_there (Some (bool b)) = []
text_there (Some (text t)) = t ∷ []
text_there (Some (cons c vs)) = []

few_numbers : (o : Option Value) → length (number_at o) ≤ 1
unfolding number_at
few_numbers None = omega arith
few_numbers (Some (num x)) = omega arith
few_numbers (Some (bool b)) = omega arith
few_numbers (Some (text t)) = omega arith
few_numbers (Some (cons c vs)) = omega arith

few_texts : (o : Option Value) → length (text_there o) ≤ 1
unfolding text_there
few_texts None = omega arith
few_texts (Some (num x)) = omega arith
few_texts (Some (bool b)) = omega arith
few_texts (Some (text t)) = omega arith
few_texts (Some (cons c vs)) = omega arith

few_flat : {A B : Type 0} (f : A → List B) (xs : List A) → ((x : A) → length (f x) ≤ 1) → length (flat f xs) ≤ length xs
few_flat f [] h = omega arith
few_flat f (x ∷ xs) h = let a = few_flat f xs h in let b = h x in let c = length-append (f x) (flat f xs) in omega arith

value_there : List Value → Spot → Option Value
value_there p s = follow (slice_get p s.base) s.path

pub numbers_there : Query → List Value → List ℤ
numbers_there q p = flat (λ s. number_at (value_there p s)) (places_with q integer)

pub texts_there : Query → List Value → List Text
texts_there q p = flat (λ s. text_there (value_there p s)) (places_with q string)

few_integers : (q : Query) (p : List Value) → length (numbers_there q p) ≤ length (places_with q integer)
unfolding numbers_there
few_integers q p = few_flat (λ s. number_at (value_there p s)) (places_with q integer) (λ s. few_numbers (value_there p s))

few_string : (q : Query) (p : List Value) → length (texts_there q p) ≤ length (places_with q string)
unfolding texts_there
few_string q p = few_flat (λ s. text_there (value_there p s)) (places_with q string) (λ s. few_texts (value_there p s))

-- ---- the shape that squashes the point

abbrev pub shape : Query → List Value → Shape
shape q p = record {
  number = pressed (least (pos 0) (numbers q)) (pos 0 ∷ numbers q) (numbers_there q p);
  words = renamed (length (places_with q string)) (texts q) (texts_there q p);
  default = default_of q.defs.table;
  table = q.defs.table;
}

abbrev pub IsNumber : Query → List Value → ℤ → Type 0
IsNumber q p x = IsKnown (pos 0 ∷ numbers q) (numbers_there q p) x

abbrev pub IsText : Query → List Value → Text → Type 0
IsText q p t = In t (texts q) ⊎ In t (texts_there q p)

lands : (q : Query) (p : List Value) → ConstantsFit q → Lands (shape q p) (IsText q p) (pools_of q)
lands q p h = record {
  numbers = λ x f. pressed_candidate (length (places_with q integer)) (numbers q) (numbers_there q p) x (few_integers q p) h f;
  texts = λ t k. renamed_candidate (length (places_with q string)) (texts q) (texts_there q p) t (few_string q p) k;
}

bytes_same : (a b c d : Text) → (a ≡ b → c ≡ d) → (c ≡ d → a ≡ b) → bytes_eq c d ≡ bytes_eq a b
bytes_same a b c d f g = go (bytes_eq c d) (bytes_eq a b) refl refl
  where
    go : (x y : Bool) → bytes_eq c d ≡ x → bytes_eq a b ≡ y → x ≡ y
    go true true e h = refl
    go false false e h = refl
    go true false e h = absurd (both_ways _ h ((bytes_decides a b).1 (g ((bytes_decides c d).0 e))))
    go false true e h = absurd (both_ways _ e ((bytes_decides c d).1 (f ((bytes_decides a b).0 h))))

pub words_same : (q : Query) (p : List Value) (a b : Text) → IsText q p a → IsText q p b → bytes_eq ((shape q p).words a) ((shape q p).words b) ≡ bytes_eq a b
words_same q p a b ha hb =
    bytes_same a b _ _ (λ e. ap (renamed (length (places_with q string)) (texts q) (texts_there q p)) e)
    (λ e. renamed_same (length (places_with q string)) (texts q) (texts_there q p) a b (few_string q p) ha hb e)

pub keeps : (q : Query) (p : List Value) → Keeps (shape q p) (IsNumber q p) (IsText q p) (numbers q) (texts q)
keeps q p = record {
  numbers = λ x k hx hk.
      let l = least (pos 0) (numbers q) in
      let ks = pos 0 ∷ numbers q in
      let xs = numbers_there q p in
      let o = (pressed_order l ks xs x k (least_is (pos 0) (numbers q)) hx (inl (inr hk))).4 in
      let f = pressed_fixed l ks xs k (least_is (pos 0) (numbers q)) (inr hk) in
      ap (λ (z : ℤ). int_eq (pressed l ks xs x) z) (sym f) ∙ o;
  texts = λ x t hx ht.
      let f = renamed_constant (length (places_with q string)) (texts q) (texts_there q p) t ht in
      ap (λ (z : Text). bytes_eq (renamed (length (places_with q string)) (texts q) (texts_there q p) x) z) (sym f) ∙ words_same q p x t hx (inl ht);
}

-- ---- what is known at mentioned places

integer_of : (table : Table) (x : ℤ) (u : Ty) → has_type table (num x) u ≡ true → u ≡ integer
integer_of table x integer e = refl
integer_of table x truth e = cc
integer_of table x string e = cc
integer_of table x (named k) e = cc

string_of : (table : Table) (t : Text) (u : Ty) → has_type table (text t) u ≡ true → u ≡ string
string_of table x integer e = cc
string_of table x truth e = cc
string_of table x string e = refl
string_of table x (named k) e = cc

known_at : (q : Query) (p : List Value) → IsPoint q p → (i : ℕ) → Known (IsNumber q p) (IsText q p) (paths_at i (mentioned q)) (slice_get p i)
unfolding numbers_there texts_there number_at text_there value_there
known_at q p h i = (
  (λ r x m f.
      let t = place_typed q p h (spot i r) (num x) f in
      let e = integer_of q.defs.table x t.0 t.2 in
      let o = In_places q integer (spot i r) (ap (is_type integer) (t.1 ∙ ap Some e)) (paths_In i r (mentioned q) m) in
      inr (In_flat (λ s. number_at (value_there p s)) (spot i r) x (places_with q integer) o (subst (λ (z : Option Value). In x (number_at z)) (sym f) (inl refl)))),
  (λ r x m f.
      let t = place_typed q p h (spot i r) (text x) f in
      let e = string_of q.defs.table x t.0 t.2 in
      let o = In_places q string (spot i r) (ap (is_type string) (t.1 ∙ ap Some e)) (paths_In i r (mentioned q) m) in
      inr (In_flat (λ s. text_there (value_there p s)) (spot i r) x (places_with q string) o (subst (λ (z : Option Value). In x (text_there z)) (sym f) (inl refl)))),
)

-- what stands at a mentioned place
pub known_below : (q : Query) (p : List Value) → IsPoint q p → (s : Spot) (w : Value) → follow (slice_get p s.base) s.path ≡ Some w
    → Known (IsNumber q p) (IsText q p) (along s.path (paths_at s.base (mentioned q))) (Some w)
known_below q p h s w e =
    let k = known_at q p h s.base in (
      (λ r x m f. k.0 (s.path ++ r) x (along_In s.path r (paths_at s.base (mentioned q)) m)
          (follow-append (slice_get p s.base) s.path r ∙ (ap (λ (z : Option Value). follow z r) e ∙ f))),
      (λ r x m f. k.1 (s.path ++ r) x (along_In s.path r (paths_at s.base (mentioned q)) m)
          (follow-append (slice_get p s.base) s.path r ∙ (ap (λ (z : Option Value). follow z r) e ∙ f))),
    )

-- ---- the cell

abbrev pub cell_of : Query → List Value → List Value
cell_of q p = squash_all (shape q p) (mentioned q) 0 p

in_slots : (table : Table) (p : List Value) (ts : List Ty) (i : ℕ) (v : Value) → HaveTypes table p ts → slice_get p i ≡ Some v → i < length ts
in_slots table [] ts i v h e = cc
in_slots table (w ∷ vs) [] i v h e = absurd h
in_slots table (w ∷ vs) (t ∷ ts) zero v h e = omega arith
in_slots table (w ∷ vs) (t ∷ ts) (suc i) v h e = let q = in_slots table vs ts i v h.1 e in omega arith

pub cell_is : (q : Query) → ConstantsFit q → (p : List Value) → IsPoint q p → In (cell_of q p) (cells (order_candidates q))
cell_is q c p h =
    cell_In (shape q p) (IsNumber q p) (IsText q p) (pools_of q) (lands q p c) (mentioned q) (suc (longest (mentioned q))) (rooted q) (deep (mentioned q))
    p q.slots 0 h
    (λ j k e l. slot_mentioned q k (omega arith))
    (λ j k v e g. let a : j ≡ k = omega arith in
    subst (λ (o : Option Value). Known (IsNumber q p) (IsText q p) (paths_at k (mentioned q)) o) (ap (slice_get p) (sym a) ∙ g) (known_at q p h k))
