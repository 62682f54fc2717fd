-- The offences of type names and of defaults.
use Rattle.std.proofs.Common.{◌≡◌, ◌⊎◌, inl, inr, ◌<◌, ◌+◌, ℕ, zero, suc, Bool, true, false, ◌||◌, IfSome, ap, sym, subst, ◌∙◌, List, [], ◌∷◌, ◌++◌, length, map, take, get_or, slice_get, option_map, Option, Some, None, refl, arith, true≢false}
use Rattle.txs_values.specs.Value.{Value, Table, named, size, height, value_size_limit, value_height_limit}
use Rattle.txs_values.specs.Default.{default_if, ranked, rounds}
use Rattle.txs_values.specs.Choices.{extent_of, extents_of}
use Rattle.txs_values.specs.declared.default.Extent.{Extent}
use Rattle.txs_syntax.specs.declared.ast.Name.{Name}
use Rattle.txs_syntax.specs.declared.file.ConDef.{ConDef}
use Rattle.txs_typing.specs.declared.fault.TypeFault.{TypeFault}
use Rattle.txs_typing.specs.declared.fault.TypeFault.TheVariants as fault
use Rattle.txs_typing.specs.Offends.{Offence, unknown, empty_type, big_type, NotAfter, Decides}
use Rattle.txs_types.specs.Files.{is_undefined, any_undefined, types_used, types_of_fields}
use Rattle.txs_typing.specs.inner.Told.{Finds, Least}
use Rattle.txs_types.specs.inner.Among.{AnyUndefined, FindsUndefined, BadDefault, none, big}
use Rattle.txs_typing.proofs.trees.Unique.{some_injective}
use Rattle.txs_typing.proofs.trees.NotBoth.{none≢some}
use Rattle.txs_types.proofs.lists.Gathering.{taken_more}
use Rattle.txs_typing.proofs.judging.Told.{finds_same, finds_least}
use Rattle.txs_types.proofs.lists.Collecting.{fields_append, split_undefined}

not_after_itself : (o : Offence) → NotAfter o o
not_after_itself o = inr (refl, omega arith)

-- ---- type names

only_one : (n m : Name) (j : ℕ) → slice_get (n ∷ []) j ≡ Some m → n ≡ m
only_one n m zero h = some_injective h
only_one n m (suc j) h = absurd (none≢some h)

undefined_stands : (types : List Name) (n : Name) → is_undefined types n ≡ true → Decides (AnyUndefined types (n ∷ [])) (unknown n.at)
undefined_stands types n h = record {
  stands = (0, n, refl, h, refl);
  first = λ p q. subst (NotAfter (unknown n.at)) (ap (λ (m : Name). unknown m.at) (only_one n q.1 q.0 q.2) ∙ sym q.4) (not_after_itself (unknown n.at));
}

undefined_none : (types : List Name) (n : Name) → is_undefined types n ≡ false → (o : Offence) → AnyUndefined types (n ∷ []) o → ⊥
undefined_none types n h o q = true≢false (sym (ap (is_undefined types) (only_one n q.1 q.0 q.2) ∙ q.3) ∙ h)

any_join : (types xs ys : List Name) (o : Offence) → AnyUndefined types xs o ⊎ AnyUndefined types ys o → AnyUndefined types (xs ++ ys) o
any_join types [] ys o (inl p) = absurd (none≢some p.2)
any_join types [] ys o (inr p) = p
any_join types (x ∷ xs) ys o (inr p) = let q = any_join types xs ys o (inr p) in (suc q.0, q.1, q.2, q.3, q.4)
any_join types (x ∷ xs) ys o (inl (zero, n, e, u, q)) = (zero, n, e, u, q)
any_join types (x ∷ xs) ys o (inl (suc j, n, e, u, q)) = let r = any_join types xs ys o (inl (j, n, e, u, q)) in (suc r.0, r.1, r.2, r.3, r.4)

any_split : (types xs ys : List Name) (o : Offence) → AnyUndefined types (xs ++ ys) o → AnyUndefined types xs o ⊎ AnyUndefined types ys o
any_split types [] ys o p = inr p
any_split types (x ∷ xs) ys o (zero, n, e, u, q) = inl (zero, n, e, u, q)
any_split types (x ∷ xs) ys o (suc j, n, e, u, q) = elim (any_split types xs ys o (j, n, e, u, q)) [
  | inl r ↦ inl (suc r.0, r.1, r.2, r.3, r.4)
  | inr r ↦ inr r
]

pub any_least : (types xs ys : List Name) (f g r : Option TypeFault) → Least f g r → Finds f (AnyUndefined types xs) → Finds g (AnyUndefined types ys) → Finds r (AnyUndefined types (xs ++ ys))
any_least types xs ys f g r l p q =
    finds_same r (λ o. AnyUndefined types xs o ⊎ AnyUndefined types ys o) (AnyUndefined types (xs ++ ys)) (λ o h. any_join types xs ys o h) (λ o h. any_split types xs ys o h)
    (finds_least f g r (AnyUndefined types xs) (AnyUndefined types ys) l p q)

more_right : (xs : List Name) → xs ≡ xs ++ []
more_right [] = refl
more_right (x ∷ xs) = ap (λ l. x ∷ l) (more_right xs)

-- ---- a fault only if a type name has no definition

pub is_told_undefined : (types : List Name) (n : Name) → is_undefined types n ≡ true → FindsUndefined types (n ∷ []) (Some (fault.Unknown n.at))
is_told_undefined types n h = record { told = undefined_stands types n h; stands = ap (λ b. b || false) h }

pub is_told_defined : (types : List Name) (n : Name) → is_undefined types n ≡ false → FindsUndefined types (n ∷ []) None
is_told_defined types n h = record { told = undefined_none types n h; stands = tt }

pub none_undefined_yet : (types : List Name) → FindsUndefined types [] None
none_undefined_yet types = record { told = λ o p. none≢some p.2; stands = tt }

or_right : (a b : Bool) → b ≡ true → (a || b) ≡ true
or_right true b h = refl
or_right false b h = h

either_true : (f g r : Option TypeFault) (a b : Bool) → Least f g r → IfSome f (λ _. a ≡ true) → IfSome g (λ _. b ≡ true) → IfSome r (λ _. (a || b) ≡ true)
either_true None None r a b l p q = subst (λ (r : Option TypeFault). IfSome r (λ _. (a || b) ≡ true)) (sym l) tt
either_true None (Some g) r a b l p q = subst (λ (r : Option TypeFault). IfSome r (λ _. (a || b) ≡ true)) (sym l) (or_right a b q)
either_true (Some f) None r a b l p q = subst (λ (r : Option TypeFault). IfSome r (λ _. (a || b) ≡ true)) (sym l) (ap (λ a. a || b) p)
either_true (Some f) (Some g) r a b l p q = subst (λ (r : Option TypeFault). IfSome r (λ _. (a || b) ≡ true)) (sym l.1) (ap (λ a. a || b) p)

pub undefined_least : (types xs ys : List Name) (f g r : Option TypeFault) → Least f g r → FindsUndefined types xs f → FindsUndefined types ys g
    → FindsUndefined types (xs ++ ys) r
undefined_least types xs ys f g r l p q = record {
  told = any_least types xs ys f g r l p.told q.told;
  stands = subst (λ b. IfSome r (λ _. b ≡ true)) (sym (split_undefined types xs ys)) (either_true f g r (any_undefined types xs) (any_undefined types ys) l p.stands q.stands);
}

pub fields_more : (types : List Name) (cs : List ConDef) (i : ℕ) (c : ConDef) (f g r : Option TypeFault) → i < length cs → c ≡ get_or cs i c
    → FindsUndefined types (types_of_fields (take i cs)) f → FindsUndefined types (types_used c.fields.decls) g → Least f g r
    → FindsUndefined types (types_of_fields (take (i + 1) cs)) r
fields_more types cs i c f g r below is p q l =
    subst (λ ds. FindsUndefined types (types_of_fields ds) r) (taken_more cs i c below is)
    (subst (λ ns. FindsUndefined types ns r) (sym (fields_append (take i cs) (c ∷ [])))
    (subst (λ ns. FindsUndefined types (types_of_fields (take i cs) ++ ns) r) (more_right (types_used c.fields.decls))
    (undefined_least types (types_of_fields (take i cs)) (types_used c.fields.decls) f g r l p q)))

no_undefined : (types ns : List Name) → ((o : Offence) → AnyUndefined types ns o → ⊥) → any_undefined types ns ≡ false
no_undefined types [] clean = refl
no_undefined types (n ∷ ns) clean = by (is_undefined types n) refl (no_undefined types ns (λ o p. clean o (suc p.0, p.1, p.2, p.3, p.4)))
  where
    by : (b : Bool) → is_undefined types n ≡ b → any_undefined types ns ≡ false → any_undefined types (n ∷ ns) ≡ false
    by true e rest = absurd (clean (unknown n.at) (0, n, refl, e, refl))
    by false e rest = ap (λ b. b || any_undefined types ns) e ∙ rest

-- what a fault says, and what none does
pub told_undefined : (types ns : List Name) (f : Option TypeFault) (g : TypeFault) → FindsUndefined types ns f → f ≡ Some g → any_undefined types ns ≡ true
told_undefined types ns f g p e = subst (λ (f : Option TypeFault). IfSome f (λ _. any_undefined types ns ≡ true)) e p.stands

pub told_defined : (types ns : List Name) (f : Option TypeFault) → FindsUndefined types ns f → f ≡ None → any_undefined types ns ≡ false
told_defined types ns f p e = no_undefined types ns (subst (λ f. Finds f (AnyUndefined types ns)) e p.told)

-- ---- defaults

-- where it stands in the list of them
extent_among : (os : List (Option Value)) (k : ℕ) (r : Option Extent) → r ≡ elim (slice_get (map (option_map extent_of) os) k) [ None ↦ None | Some e ↦ e ] → r ≡ option_map extent_of (ranked os (named k))
extent_among [] k r h = h
extent_among (None ∷ os) zero r h = h
extent_among (Some v ∷ os) zero r h = h
extent_among (o ∷ os) (suc k) r h = extent_among os k r h

pub extent_found : (table : Table) (extents : List (Option Extent)) (k : ℕ) (r : Option Extent) → extents ≡ extents_of table → r ≡ elim (slice_get extents k) [ None ↦ None | Some e ↦ e ]
    → r ≡ option_map extent_of (default_if table (named k))
extent_found table extents k r e h =
    extent_among (rounds (length table) table) k r (h ∙ ap (λ (es : List (Option Extent)). elim (slice_get es k) [ None ↦ None | Some e ↦ e ]) e)

-- the default of this extent
pub default_with : (o : Option Value) (e : Extent) → Some e ≡ option_map extent_of o → (v : Value) × (o ≡ Some v) × (e ≡ extent_of v)
default_with None e h = absurd (none≢some (sym h))
default_with (Some v) e h = (v, refl, some_injective h)

pub default_none : (o : Option Value) → None ≡ option_map extent_of o → o ≡ None
default_none None h = refl
default_none (Some v) h = absurd (none≢some h)

empty_first : (table : Table) (k : ℕ) (n : Name) → default_if table (named k) ≡ None → (p : Offence) → BadDefault table k n p → NotAfter (empty_type n.at) p
empty_first table k n e _ (none x) = not_after_itself (empty_type n.at)
empty_first table k n e _ (big v x y) = absurd (none≢some (sym e ∙ x))

pub empty_stands : (table : Table) (k : ℕ) (n : Name) → None ≡ option_map extent_of (default_if table (named k)) → Decides (BadDefault table k n) (empty_type n.at)
empty_stands table k n h =
    let e = default_none (default_if table (named k)) h in
    record { stands = none e; first = λ p q. empty_first table k n e p q }

is_above : (v : Value) (e : Extent) → e ≡ extent_of v → (16384 < e.size) ⊎ (1000 < e.height) → (value_size_limit < size v) ⊎ (value_height_limit < height v)
unfolding value_size_limit value_height_limit
is_above v e h (inl p) = let q = ap (λ (e : Extent). e.size) h in inl (omega (arith, q, p))
is_above v e h (inr p) = let q = ap (λ (e : Extent). e.height) h in inr (omega (arith, q, p))

is_below : (v : Value) (e : Extent) → e ≡ extent_of v → (value_size_limit < size v) ⊎ (value_height_limit < height v) → (16384 < e.size) ⊎ (1000 < e.height)
unfolding value_size_limit value_height_limit
is_below v e h (inl p) = let q = ap (λ (e : Extent). e.size) h in inl (omega (arith, q, p))
is_below v e h (inr p) = let q = ap (λ (e : Extent). e.height) h in inr (omega (arith, q, p))

big_first : (table : Table) (k : ℕ) (n : Name) (v : Value) → default_if table (named k) ≡ Some v → (p : Offence) → BadDefault table k n p → NotAfter (big_type n.at) p
big_first table k n v e _ (none x) = absurd (none≢some (sym x ∙ e))
big_first table k n v e _ (big w x y) = not_after_itself (big_type n.at)

pub big_stands : (table : Table) (k : ℕ) (n : Name) (e : Extent) → Some e ≡ option_map extent_of (default_if table (named k)) → (16384 < e.size) ⊎ (1000 < e.height)
    → Decides (BadDefault table k n) (big_type n.at)
big_stands table k n e h b =
    let d = default_with (default_if table (named k)) e h in
    record { stands = big d.0 d.1 (is_above d.0 e d.2 b); first = λ p q. big_first table k n d.0 d.1 p q }

-- a default within the limits
not_bad : (table : Table) (k : ℕ) (n : Name) (v : Value) → default_if table (named k) ≡ Some v → ((value_size_limit < size v) ⊎ (value_height_limit < height v) → ⊥)
    → (o : Offence) → BadDefault table k n o → ⊥
not_bad table k n v e b _ (none x) = none≢some (sym x ∙ e)
not_bad table k n v e b _ (big w x y) = b (subst (λ w. (value_size_limit < size w) ⊎ (value_height_limit < height w)) (some_injective (sym x ∙ e)) y)

pub no_bad : (table : Table) (k : ℕ) (n : Name) (e : Extent) → Some e ≡ option_map extent_of (default_if table (named k)) → ((16384 < e.size) ⊎ (1000 < e.height) → ⊥)
    → (o : Offence) → BadDefault table k n o → ⊥
no_bad table k n e h b o q =
    let d = default_with (default_if table (named k)) e h in
    not_bad table k n d.0 d.1 (λ y. b (is_below d.0 e d.2 y)) o q
