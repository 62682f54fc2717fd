-- Loops over names: the number of a type, names without a definition, names that stand before already.
use Rattle.std.proofs.Common.{◌≡◌, ◌⊎◌, ◌<◌, ◌+◌, ℕ, suc, Bool, true, false, ◌||◌, cond, bytes_eq, refl, sym, ap, subst, ◌∙◌, inl, inr, List, [], ◌∷◌, ◌++◌, length, map, take, drop, get_or, Option, Some, None, MatchBool, add-one, true≢false, arith}
use Rattle.std.proofs.lemmas.List.{map-append}
use Rattle.txs_typing.proofs.Tests.{same_text, other_text}
use Rattle.txs_types.proofs.lists.Gathering.{left_over, taken_more}
use Rattle.txs_syntax.specs.declared.ast.Name.{Name}
use Rattle.txs_syntax.specs.declared.file.Decl.{Decl}
use Rattle.txs_typing.specs.declared.fault.TypeFault.{TypeFault}
use Rattle.txs_typing.specs.declared.fault.TypeFault.TheVariants as fault
use Rattle.txs_typing.specs.Offends.{Offence, twice, NotAfter}
use Rattle.txs_types.specs.Files.{type_number, is_among, types_used, Repeats, here, further}
use Rattle.txs_typing.specs.inner.Told.{Least, Finds}
use Rattle.txs_types.specs.inner.Among.{IsTwice}
use Rattle.txs_typing.proofs.judging.Told.{Either, finds_same, finds_least}

-- ---- the number of a type

pub number_found : (x : List ℕ) (types : List Name) (i : ℕ) (n : Name) → i < length types → n ≡ get_or types i n → n.text ≡ x
    → type_number x i (drop i types) ≡ i
number_found x types i n h e same =
    left_over (type_number x i) types i n h e ∙ ap (λ b. cond b i (type_number x (suc i) (drop (i + 1) types))) (same_text n.text x same)

pub number_passed : (x : List ℕ) (types : List Name) (i : ℕ) (n : Name) → i < length types → n ≡ get_or types i n → (n.text ≡ x → ⊥)
    → type_number x (i + 1) (drop (i + 1) types) ≡ type_number x i (drop i types)
number_passed x types i n h e other =
    ap (λ k. type_number x k (drop (i + 1) types)) (add-one i)
    ∙ sym (left_over (type_number x i) types i n h e ∙ ap (λ b. cond b i (type_number x (suc i) (drop (i + 1) types))) (other_text n.text x (λ e. absurd (other e))))

-- ---- one of the names is a text

abbrev pub texts : List Name → List (List ℕ)
texts ns = map (λ n. n.text) ns

pub among_found : (x : List ℕ) (types : List Name) (i : ℕ) (n : Name) → i < length types → n ≡ get_or types i n → n.text ≡ x
    → is_among x (texts (drop i types)) ≡ true
among_found x types i n h e same =
    left_over (λ ns. is_among x (texts ns)) types i n h e ∙ ap (λ b. b || is_among x (texts (drop (i + 1) types))) (same_text n.text x same)

pub among_passed : (x : List ℕ) (types : List Name) (i : ℕ) (n : Name) → i < length types → n ≡ get_or types i n → (n.text ≡ x → ⊥)
    → is_among x (texts (drop (i + 1) types)) ≡ is_among x (texts (drop i types))
among_passed x types i n h e other =
    sym (left_over (λ ns. is_among x (texts ns)) types i n h e ∙ ap (λ b. b || is_among x (texts (drop (i + 1) types))) (other_text n.text x (λ e. absurd (other e))))

-- ---- names without a definition

-- the types of the declarations so far, with one declaration more
pub used_next : (decls : List Decl) (i : ℕ) (d : Decl) → i < length decls → d ≡ get_or decls i d → types_used (take (i + 1) decls) ≡ types_used (take i decls) ++ d.ty ∷ []
used_next decls i d h e = ap types_used (sym (taken_more decls i d h e)) ∙ map-append (λ d. d.ty) (take i decls) (d ∷ [])

-- ---- names that stand before already

-- the texts that stand before, the last one first
abbrev pub seen : List (List ℕ) → List Name → List (List ℕ)
seen xs [] = xs
seen xs (n ∷ ns) = seen (n.text ∷ xs) ns

pub seen_next : (xs : List (List ℕ)) (ns : List Name) (m : Name) → seen xs (ns ++ m ∷ []) ≡ m.text ∷ seen xs ns
seen_next xs [] m = refl
seen_next xs (n ∷ ns) m = seen_next (n.text ∷ xs) ns m

repeats_last : (xs : List (List ℕ)) (ns : List Name) (m : Name) (at : ℕ) → Repeats xs (ns ++ m ∷ []) at
    → Repeats xs ns at ⊎ (is_among m.text (seen xs ns) ≡ true) × (at ≡ m.at)
repeats_last xs [] m at (here h) = inr (h, refl)
repeats_last xs [] m at (further r) = elim r [ ]
repeats_last xs (n ∷ ns) m at (here h) = inl (here h)
repeats_last xs (n ∷ ns) m at (further r) = elim (repeats_last (n.text ∷ xs) ns m at r) [ inl k ↦ inl (further k) | inr k ↦ inr k ]

repeats_front : (xs : List (List ℕ)) (ns : List Name) (m : Name) (at : ℕ) → Repeats xs ns at → Repeats xs (ns ++ m ∷ []) at
repeats_front xs [] m at r = elim r [ ]
repeats_front xs (n ∷ ns) m at (here h) = here h
repeats_front xs (n ∷ ns) m at (further r) = further (repeats_front (n.text ∷ xs) ns m at r)

repeats_end : (xs : List (List ℕ)) (ns : List Name) (m : Name) → is_among m.text (seen xs ns) ≡ true → Repeats xs (ns ++ m ∷ []) m.at
repeats_end xs [] m h = here h
repeats_end xs (n ∷ ns) m h = further (repeats_end (n.text ∷ xs) ns m h)

-- the name stands before
abbrev IsSeen : List (List ℕ) → Name → Offence → Type 0
IsSeen before m o = (is_among m.text before ≡ true) × (o ≡ twice m.at)

seen_found : (before : List (List ℕ)) (m : Name) (b : Bool) (g : Option TypeFault) → is_among m.text before ≡ b → MatchBool b (g ≡ Some (fault.Twice m.at)) (g ≡ None)
    → Finds g (IsSeen before m)
seen_found before m true g u e =
    subst (λ g. Finds g (IsSeen before m)) (sym e) (record { stands = (u, refl); first = λ o h. subst (NotAfter (twice m.at)) (sym h.1) (inr (refl, omega arith)) })
seen_found before m false g u e = subst (λ g. Finds g (IsSeen before m)) (sym e) (λ o h. true≢false (sym h.0 ∙ u))

-- what is told of the names so far, with one name more
pub repeats_next : (xs : List (List ℕ)) (ns : List Name) (m : Name) (f g r : Option TypeFault) → Finds f (IsTwice xs ns)
    → MatchBool (is_among m.text (seen xs ns)) (g ≡ Some (fault.Twice m.at)) (g ≡ None) → Least f g r → Finds r (IsTwice xs (ns ++ m ∷ []))
repeats_next xs ns m f g r h k l =
    finds_same r (Either (IsTwice xs ns) (IsSeen (seen xs ns) m)) (IsTwice xs (ns ++ m ∷ [])) to back
    (finds_least f g r (IsTwice xs ns) (IsSeen (seen xs ns) m) l h (seen_found (seen xs ns) m (is_among m.text (seen xs ns)) g refl k))
  where
    to : (o : Offence) → IsTwice xs ns o ⊎ IsSeen (seen xs ns) m o → IsTwice xs (ns ++ m ∷ []) o
    to o (inl (at, e, p)) = (at, e, repeats_front xs ns m at p)
    to o (inr (u, e)) = (m.at, e, repeats_end xs ns m u)

    back : (o : Offence) → IsTwice xs (ns ++ m ∷ []) o → IsTwice xs ns o ⊎ IsSeen (seen xs ns) m o
    back o (at, e, w) = elim (repeats_last xs ns m at w) [ inl p ↦ inl (at, e, p) | inr q ↦ inr (q.0, e ∙ ap twice q.1) ]

pub none_repeats : (xs : List (List ℕ)) (o : Offence) → IsTwice xs [] o → ⊥
none_repeats xs o (at, e, r) = elim r [ ]

or_put : (b s r : Bool) → (cond b true s || r) ≡ (s || (b || r))
or_put true true r = refl
or_put true false r = refl
or_put false true r = refl
or_put false false r = refl

or_same : (b s : Bool) → (b || s) ≡ cond b true s
or_same true s = refl
or_same false s = refl

-- a set of texts, of which one more is put in
pub put_next : (x : List ℕ) (texts : List (List ℕ)) (i : ℕ) (t : List ℕ) (old new all : Bool) → i < length texts → t ≡ get_or texts i t
    → new ≡ cond (bytes_eq t x) true old → (old || is_among x (drop i texts)) ≡ all → (new || is_among x (drop (i + 1) texts)) ≡ all
put_next x texts i t old new all h e n p =
    ap (λ b. b || is_among x (drop (i + 1) texts)) n
    ∙ (or_put (bytes_eq t x) old (is_among x (drop (i + 1) texts)) ∙ (sym (left_over (λ ts. old || is_among x ts) texts i t h e) ∙ p))

-- the text of the name at hand is put among those that stand before
pub seen_put : (x : List ℕ) (xs : List (List ℕ)) (ns : List Name) (i : ℕ) (n : Name) (old new : Bool) → i < length ns → n ≡ get_or ns i n
    → new ≡ cond (bytes_eq n.text x) true old → old ≡ is_among x (seen xs (take i ns)) → new ≡ is_among x (seen xs (take (i + 1) ns))
seen_put x xs ns i n old new h e p q =
    p ∙ (ap (cond (bytes_eq n.text x) true) q
    ∙ (sym (or_same (bytes_eq n.text x) (is_among x (seen xs (take i ns)))) ∙ sym (ap (λ ms. is_among x (seen xs ms)) (sym (taken_more ns i n h e)) ∙ ap (is_among x) (seen_next xs (take i ns) n))))
