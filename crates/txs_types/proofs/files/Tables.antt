-- The types of a file in which no type name is unknown: all are of its table, and have defaults.
use Rattle.std.proofs.Common.{◌≡◌, ◌<◌, ◌+◌, ℕ, zero, suc, Bool, true, false, ◌||◌, cond, bytes_eq, codes, ap, sym, subst, ◌∙◌, List, [], ◌∷◌, ◌++◌, length, map, slice_get, Option, Some, None, refl, arith, true≢false}
use Rattle.std.proofs.lemmas.Slice.Eq.{bytes_eq-Decides}
use Rattle.txs_values.specs.Value.{Ty, Value, integer, truth, string, named, Field, Table, Place, place_in, place_from, field_types}
use Rattle.txs_values.specs.Default.{default_if}
use Rattle.txs_terms.specs.Typed.{IsType, AreTypes}
use Rattle.txs_syntax.specs.declared.ast.Name.{Name}
use Rattle.txs_syntax.specs.declared.file.File.{File}
use Rattle.txs_syntax.specs.declared.file.Def.{Def}
use Rattle.txs_syntax.specs.declared.file.Def.TheVariants as def
use Rattle.txs_syntax.specs.declared.file.ConDef.{ConDef}
use Rattle.txs_syntax.specs.declared.file.Decl.{Decl}
use Rattle.txs_typing.specs.Offends.{Offence, unknown, empty_type}
use Rattle.txs_types.specs.Files.{type_names, type_number, type_of, each_of, variables_in, constructors_of, table_in, table_of, is_among, built_in_types, types_used, types_of_fields, types_named, is_undefined, any_undefined, excused, default_in, FileOffends, unknown_type, no_value}
use Rattle.txs_typing.proofs.trees.Unique.{some_injective}
use Rattle.txs_typing.proofs.trees.NotBoth.{none≢some}
use Rattle.txs_types.proofs.files.Meaning.{IsRest, head_of, tail_of, all_of}

pub or_false : (p q : Bool) → p ≡ false → q ≡ false → (p || q) ≡ false
or_false true q h k = absurd (true≢false h)
or_false false q h k = k

flipped : (x y : List ℕ) → bytes_eq x y ≡ false → bytes_eq y x ≡ false
flipped x y h = by_bool (bytes_eq y x) refl
  where
    by_bool : (b : Bool) → bytes_eq y x ≡ b → b ≡ false
    by_bool true e = absurd (true≢false (sym ((bytes_eq-Decides x y).1 (sym ((bytes_eq-Decides y x).0 e))) ∙ h))
    by_bool false e = refl

-- ---- the types of names

pub same_length : (types : List Name) (ds : List Def) → length (table_in types ds) ≡ length (type_names ds)
same_length types [] = refl
same_length types (def.TypeDef x cs ∷ ds) = ap suc (same_length types ds)
same_length types (def.FuncDef x ps r e ∷ ds) = same_length types ds
same_length types (def.ConstDef x t e ∷ ds) = same_length types ds

below_by : (b r : Bool) (k m l : ℕ) → (b || r) ≡ true → (r ≡ true → m < suc k + l) → cond b k m < k + suc l
below_by true r k m l h rest = omega arith
below_by false r k m l h rest = omega (arith, rest h)

number_below : (x : List ℕ) (k : ℕ) (ns : List Name) → is_among x (map (λ n. n.text) ns) ≡ true → type_number x k ns < k + length ns
number_below x k [] h = absurd (true≢false (sym h))
number_below x k (n ∷ ns) h =
    below_by (bytes_eq n.text x) (is_among x (map (λ n. n.text) ns)) k (type_number x (suc k) ns) (length ns) h (λ r. number_below x (suc k) ns r)

known_by : (table : Table) (a b c : Bool) (k : ℕ) → (a ≡ false → b ≡ false → c ≡ false → k < length table)
    → IsType table (cond a integer (cond b truth (cond c string (named k))))
known_by table true b c k h = tt
known_by table false true c k h = tt
known_by table false false true k h = tt
known_by table false false false k h = h refl refl refl

is_defined : (a b : Bool) → cond a false (cond b false true) ≡ false → a ≡ false → b ≡ true
is_defined true b h k = absurd (true≢false k)
is_defined false true h k = refl
is_defined false false h k = absurd (true≢false h)

pub known_type : (table : Table) (types : List Name) (n : Name) → length table ≡ length types → is_undefined types n ≡ false → IsType table (type_of types n.text)
known_type table types n same h =
    let x : List ℕ = n.text in
    known_by table (bytes_eq x (codes "Int")) (bytes_eq x (codes "Bool")) (bytes_eq x (codes "String")) (type_number x 0 types) (λ a b c.
    let none : is_among x built_in_types ≡ false =
    or_false _ _ (flipped x (codes "Int") a) (or_false _ _ (flipped x (codes "Bool") b) (or_false _ _ (flipped x (codes "String") c) refl)) in
    let there = number_below x 0 types (is_defined (is_among x built_in_types) (is_among x (map (λ n. n.text) types)) h none) in
    omega (arith, same, there))

-- ---- definitions without an unknown type

abbrev pub AllDefined : List Name → List Name → Type 0
AllDefined types [] = Unit {0}
AllDefined types (n ∷ ns) = (is_undefined types n ≡ false) × AllDefined types ns

-- each type name that these definitions use is defined
abbrev pub AllKnown : List Name → List Def → Type 0
AllKnown types [] = Unit {0}
AllKnown types (d ∷ ds) = AllDefined types (types_named d) × AllKnown types ds

pub defined_left : (types xs ys : List Name) → AllDefined types (xs ++ ys) → AllDefined types xs
defined_left types [] ys h = tt
defined_left types (x ∷ xs) ys h = (h.0, defined_left types xs ys h.1)

pub defined_right : (types xs ys : List Name) → AllDefined types (xs ++ ys) → AllDefined types ys
defined_right types [] ys h = h
defined_right types (x ∷ xs) ys h = defined_right types xs ys h.1

pub all_defined : (types ns : List Name) → ((j : ℕ) (n : Name) → slice_get ns j ≡ Some n → is_undefined types n ≡ false) → AllDefined types ns
all_defined types [] h = tt
all_defined types (n ∷ ns) h = (h 0 n refl, all_defined types ns (λ j m e. h (suc j) m e))

abbrev pub NoOffence : File → Type 0
NoOffence file = (o : Offence) → FileOffends file o → ⊥

pub not_true : (b : Bool) → (b ≡ true → ⊥) → b ≡ false
not_true true h = absurd (h refl)
not_true false h = refl

known_from : (file : File) → NoOffence file → (i : ℕ) (ds : List Def) → IsRest file i ds → AllKnown (type_names file.defs) ds
known_from file none i [] h = tt
known_from file none i (d ∷ ds) h = (
  all_defined (type_names file.defs) (types_named d)
      (λ j n e. not_true (is_undefined (type_names file.defs) n) (λ u. none (unknown n.at) (unknown_type i j (head_of file i ds h) e u))),
  known_from file none (suc i) ds (tail_of file i d ds h),
)

-- ---- the types of variables and fields

types_append : (table : Table) (xs ys : List Field) → AreTypes table (field_types xs) → AreTypes table (field_types ys) → AreTypes table (field_types (xs ++ ys))
types_append table [] ys p q = q
types_append table (x ∷ xs) ys p q = (p.0, types_append table xs ys p.1 q)

types_of_each : (table : Table) (t : Ty) (ns : List Name) → IsType table t → AreTypes table (field_types (each_of t ns))
types_of_each table t [] h = tt
types_of_each table t (n ∷ ns) h = (h, types_of_each table t ns h)

pub known_variables : (table : Table) (types : List Name) → length table ≡ length types → (ds : List Decl) → AllDefined types (types_used ds)
    → AreTypes table (field_types (variables_in types ds))
known_variables table types same [] h = tt
known_variables table types same (d ∷ ds) h =
    types_append table (each_of (type_of types d.ty.text) d.names) (variables_in types ds)
    (types_of_each table (type_of types d.ty.text) d.names (known_type table types d.ty same h.0)) (known_variables table types same ds h.1)

abbrev pub HasKnownFields : Table → Place → Type 0
HasKnownFields table p = AreTypes table (field_types p.constructor.fields)

known_fields : (table : Table) (types : List Name) → length table ≡ length types → (k : ℕ) (cs : List ConDef) (c : ℕ) (go : ℕ → Option Place) (p : Place)
    → AllDefined types (types_of_fields cs) → ((c : ℕ) → go c ≡ Some p → HasKnownFields table p) → place_in k (constructors_of types cs) c go ≡ Some p → HasKnownFields table p
known_fields table types same k [] c go p known rest h = rest c h
known_fields table types same k (x ∷ cs) zero go p known rest h =
    subst (HasKnownFields table) (some_injective h)
    (known_variables table types same x.fields.decls (defined_left types (types_used x.fields.decls) (types_of_fields cs) known))
known_fields table types same k (x ∷ cs) (suc c) go p known rest h =
    known_fields table types same k cs c go p (defined_right types (types_used x.fields.decls) (types_of_fields cs) known) rest h

pub known_places : (table : Table) (types : List Name) → length table ≡ length types → (k : ℕ) (ds : List Def) (c : ℕ) (p : Place) → AllKnown types ds
    → place_from k (table_in types ds) c ≡ Some p → HasKnownFields table p
known_places table types same k [] c p known h = absurd (none≢some h)
known_places table types same k (def.TypeDef x cs ∷ ds) c p known h =
    known_fields table types same k cs c (place_from (suc k) (table_in types ds)) p known.0 (λ c e. known_places table types same (suc k) ds c p known.1 e) h
known_places table types same k (def.FuncDef x ps r e ∷ ds) c p known h = known_places table types same k ds c p known.1 h
known_places table types same k (def.ConstDef x t e ∷ ds) c p known h = known_places table types same k ds c p known.1 h

-- ---- defaults

none_undefined : (types ns : List Name) → AllDefined types ns → any_undefined types ns ≡ false
none_undefined types [] h = refl
none_undefined types (n ∷ ns) h = or_false (is_undefined types n) (any_undefined types ns) h.0 (none_undefined types ns h.1)

none_excused : (types : List Name) (ds : List Def) → AllKnown types ds → excused types ds ≡ table_in types ds
none_excused types [] h = refl
none_excused types (def.TypeDef x cs ∷ ds) h =
    ap (λ b. record { name = x.text; constructors = cond b (record { name = []; fields = [] } ∷ []) (constructors_of types cs) } ∷ excused types ds)
    (none_undefined types (types_of_fields cs) h.0)
    ∙ ap (λ t. record { name = x.text; constructors = constructors_of types cs } ∷ t) (none_excused types ds h.1)
none_excused types (def.FuncDef x ps r e ∷ ds) h = none_excused types ds h.1
none_excused types (def.ConstDef x t e ∷ ds) h = none_excused types ds h.1

get_below : {A : Type 0} (xs : List A) (i : ℕ) → i < length xs → (x : A) × (slice_get xs i ≡ Some x)
get_below [] i h = absurd (omega (arith, h))
get_below (x ∷ xs) zero h = (x, refl)
get_below (x ∷ xs) (suc i) h = get_below xs i (omega (arith, h))

some_default : (file : File) → NoOffence file → (k : ℕ) (n : Name) (r : Option Value) → slice_get (type_names file.defs) k ≡ Some n → default_in file k ≡ r
    → (v : Value) × (r ≡ Some v)
some_default file none k n None h e = absurd (none (empty_type n.at) (no_value k h e))
some_default file none k n (Some v) h e = (v, refl)

pub all_known : (file : File) → NoOffence file → AllKnown (type_names file.defs) file.defs
all_known file none = known_from file none 0 file.defs (all_of file)

pub has_default : (file : File) → NoOffence file → (k : ℕ) → k < length (table_of file) → (v : Value) × (default_if (table_of file) (named k) ≡ Some v)
has_default file none k below =
    let n = get_below (type_names file.defs) k (omega (arith, below, same_length (type_names file.defs) file.defs)) in
    let d = some_default file none k n.0 (default_in file k) n.1 refl in
    (d.0, ap (λ t. default_if t (named k)) (sym (none_excused (type_names file.defs) file.defs (all_known file none))) ∙ d.1)
