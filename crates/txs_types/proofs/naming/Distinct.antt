-- If no name of a file stands twice, no two of its constructors have one name.
use Rattle.std.proofs.Common.{◌≡◌, ◌⊎◌, ◌<◌, ℕ, zero, suc, Bool, true, false, ◌||◌, bytes_eq, ap, sym, subst, ◌∙◌, List, [], ◌∷◌, ◌++◌, append_assoc, Option, Some, refl, inl, inr, arith, true≢false}
use Rattle.std.proofs.lemmas.Bool.{cases_order}
use Rattle.std.proofs.lemmas.Slice.Eq.{bytes_eq-Decides}
use Rattle.txs_values.specs.Value.{Place, place_of, place_in, place_from}
use Rattle.txs_syntax.specs.declared.ast.Name.{Name}
use Rattle.txs_syntax.specs.declared.file.File.{File}
use Rattle.txs_syntax.specs.declared.file.Def.{Def}
use Rattle.txs_syntax.specs.declared.file.Def.TheVariants as def
use Rattle.txs_syntax.specs.declared.file.ConDef.{ConDef}
use Rattle.txs_typing.specs.Names.{test_name}
use Rattle.txs_typing.specs.Offends.{twice}
use Rattle.txs_types.specs.Files.{type_names, constructors_of, table_in, table_of, is_among, Repeats, here, further, built_in_names, names_in, constructor_names, defined_names, twice_name}
use Rattle.txs_typing.proofs.trees.Unique.{some_injective}
use Rattle.txs_typing.proofs.trees.NotBoth.{none≢some}
use Rattle.txs_types.proofs.files.Tables.{NoOffence}

-- one of the names is this text
abbrev In : List ℕ → List Name → Type 0
In y [] = ⊥
In y (n ∷ ns) = (n.text ≡ y) ⊎ In y ns

in_left : (y : List ℕ) (xs ys : List Name) → In y xs → In y (xs ++ ys)
in_left y [] ys h = absurd h
in_left y (x ∷ xs) ys (inl h) = inl h
in_left y (x ∷ xs) ys (inr h) = inr (in_left y xs ys h)

in_right : (y : List ℕ) (xs ys : List Name) → In y ys → In y (xs ++ ys)
in_right y [] ys h = h
in_right y (x ∷ xs) ys h = inr (in_right y xs ys h)

-- after these texts, no name is there already
abbrev Apart : List (List ℕ) → List Name → Type 0
Apart xs [] = Unit {0}
Apart xs (n ∷ ns) = (is_among n.text xs ≡ false) × Apart (n.text ∷ xs) ns

apart_of : (xs : List (List ℕ)) (ns : List Name) → ((at : ℕ) → Repeats xs ns at → ⊥) → Apart xs ns
apart_of xs [] h = tt
apart_of xs (n ∷ ns) h = (by_bool (is_among n.text xs) (λ e. h n.at (here e)), apart_of (n.text ∷ xs) ns (λ at r. h at (further r)))
  where
    by_bool : (b : Bool) → (b ≡ true → ⊥) → b ≡ false
    by_bool true k = absurd (k refl)
    by_bool false k = refl

or_left : (p q : Bool) → p ≡ true → (p || q) ≡ true
or_left true q h = refl
or_left false q h = absurd (true≢false (sym h))

or_right : (p q : Bool) → q ≡ true → (p || q) ≡ true
or_right true q h = refl
or_right false q h = h

-- a text before the names is none of them
not_again : (xs : List (List ℕ)) (ns : List Name) (y : List ℕ) → Apart xs ns → is_among y xs ≡ true → In y ns → ⊥
not_again xs [] y p h k = k
not_again xs (n ∷ ns) y p h (inl e) = true≢false (sym h ∙ (ap (λ z. is_among z xs) (sym e) ∙ p.0))
not_again xs (n ∷ ns) y p h (inr k) = not_again (n.text ∷ xs) ns y p.1 (or_right (bytes_eq n.text y) (is_among y xs) h) k

-- later names are apart, after all that stands before them
apart_behind : (xs : List (List ℕ)) (ns ms : List Name) → Apart xs (ns ++ ms) → (ys : List (List ℕ)) × Apart ys ms
apart_behind xs [] ms p = (xs, p)
apart_behind xs (n ∷ ns) ms p = apart_behind (n.text ∷ xs) ns ms p.1

-- ---- constructors

name_among : (types : List Name) (k : ℕ) (cs : List ConDef) (c : ℕ) (go : ℕ → Option Place) (q : Place) (ms : List Name) → ((c : ℕ) → go c ≡ Some q → In q.constructor.name ms)
    → place_in k (constructors_of types cs) c go ≡ Some q → In q.constructor.name (constructor_names cs ++ ms)
name_among types k [] c go q ms rest h = rest c h
name_among types k (x ∷ cs) zero go q ms rest h = inl (ap (λ p. p.constructor.name) (some_injective h))
name_among types k (x ∷ cs) (suc c) go q ms rest h =
    inr (inr (subst (In q.constructor.name) (sym (append_assoc (names_in x.fields.decls) (constructor_names cs) ms))
    (in_right q.constructor.name (names_in x.fields.decls) (constructor_names cs ++ ms) (name_among types k cs c go q ms rest h))))

name_in : (types : List Name) (k : ℕ) (ds : List Def) (c : ℕ) (q : Place) → place_from k (table_in types ds) c ≡ Some q → In q.constructor.name (defined_names ds)
name_in types k [] c q h = absurd (none≢some h)
name_in types k (def.TypeDef x cs ∷ ds) c q h =
    name_among types k cs c (place_from (suc k) (table_in types ds)) q (defined_names ds) (λ c e. name_in types (suc k) ds c q e) h
name_in types k (def.FuncDef x ps r e ∷ ds) c q h = inr (name_in types k ds c q h)
name_in types k (def.ConstDef x t e ∷ ds) c q h = inr (name_in types k ds c q h)

-- no two of these places have one name
abbrev NoTwo : (ℕ → Option Place) → Type 0
NoTwo go = (c d : ℕ) (p q : Place) → c < d → go c ≡ Some p → go d ≡ Some q → p.constructor.name ≡ q.constructor.name → ⊥

no_two_among : (types : List Name) (k : ℕ) (cs : List ConDef) (go : ℕ → Option Place) (ms : List Name) → ((c : ℕ) (q : Place) → go c ≡ Some q → In q.constructor.name ms)
    → ((ys : List (List ℕ)) → Apart ys ms → NoTwo go) → (xs : List (List ℕ)) → Apart xs (constructor_names cs ++ ms) → NoTwo (λ c. place_in k (constructors_of types cs) c go)
no_two_among types k [] go ms named rest xs p c d a b below f g same = rest xs p c d a b below f g same
no_two_among types k (x ∷ cs) go ms named rest xs p zero zero a b below f g same = omega (arith, below)
no_two_among types k (x ∷ cs) go ms named rest xs p (suc c) zero a b below f g same = omega (arith, below)
no_two_among types k (x ∷ cs) go ms named rest xs p zero (suc d) a b below f g same =
    let before : List (List ℕ) = test_name x.name.text ∷ x.name.text ∷ xs in
    let there : x.name.text ≡ b.constructor.name = ap (λ p. p.constructor.name) (some_injective f) ∙ same in
    not_again before ((names_in x.fields.decls ++ constructor_names cs) ++ ms) b.constructor.name p.1.1
    (or_right (bytes_eq (test_name x.name.text) b.constructor.name) _ (or_left (bytes_eq x.name.text b.constructor.name) _ ((bytes_eq-Decides x.name.text b.constructor.name).1 there)))
    (subst (In b.constructor.name) (sym (append_assoc (names_in x.fields.decls) (constructor_names cs) ms))
    (in_right b.constructor.name (names_in x.fields.decls) (constructor_names cs ++ ms) (name_among types k cs d go b ms (λ c e. named c b e) g)))
no_two_among types k (x ∷ cs) go ms named rest xs p (suc c) (suc d) a b below f g same =
    let before : List (List ℕ) = test_name x.name.text ∷ x.name.text ∷ xs in
    let later = apart_behind before (names_in x.fields.decls) (constructor_names cs ++ ms)
    (subst (Apart before) (append_assoc (names_in x.fields.decls) (constructor_names cs) ms) p.1.1) in
    no_two_among types k cs go ms named rest later.0 later.1 c d a b (omega (arith, below)) f g same

no_two : (types : List Name) (k : ℕ) (ds : List Def) (xs : List (List ℕ)) → Apart xs (defined_names ds) → NoTwo (place_from k (table_in types ds))
no_two types k [] xs p c d a b below f g same = none≢some f
no_two types k (def.TypeDef x cs ∷ ds) xs p c d a b below f g same =
    no_two_among types k cs (place_from (suc k) (table_in types ds)) (defined_names ds) (λ c q e. name_in types (suc k) ds c q e) (λ ys h. no_two types (suc k) ds ys h) xs p
    c d a b below f g same
no_two types k (def.FuncDef x ps r e ∷ ds) xs p c d a b below f g same = no_two types k ds (x.text ∷ xs) p.1 c d a b below f g same
no_two types k (def.ConstDef x t e ∷ ds) xs p c d a b below f g same = no_two types k ds (x.text ∷ xs) p.1 c d a b below f g same

pub distinct_names : (file : File) → NoOffence file → (c d : ℕ) (p q : Place) → place_of (table_of file) c ≡ Some p → place_of (table_of file) d ≡ Some q
    → p.constructor.name ≡ q.constructor.name → c ≡ d
distinct_names file none c d p q f g same =
    let apart = apart_of built_in_names (defined_names file.defs) (λ at r. none (twice at) (twice_name r)) in
    let two = no_two (type_names file.defs) 0 file.defs built_in_names apart in
    elim (cases_order c d) [
      | inl e ↦ e
      | inr (inl below) ↦ absurd (two c d p q below f g same)
      | inr (inr below) ↦ absurd (two d c q p below g f (sym same))
    ]
