-- The default of a type by its constructor, with how large and high the default is.
use Rattle.std.specs.Prelude.{ℕ, zero, suc, ◌+◌, pos, Bool, true, false, cond, ◌&&◌, is_some, is_none, min, max, List, [], ◌∷◌, length, map, Option, Some, None, slice_get, option_map}
use Rattle.txs_values.specs.Default.{all_defaults, rounds}
use Rattle.txs_values.specs.Measure.{u64_max}
use Rattle.txs_values.specs.Value.{Ty, Value, Field, Constructor, Table, Place, place_of, packed, integer, truth, string, named, num, bool, text, cons, size, height}
use Rattle.txs_values.specs.declared.default.Choice as rust_choice
use Rattle.txs_values.specs.declared.default.Extent as rust_extent

-- how large and high a value is, up to 2^64 - 1
abbrev pub extent_of : Value → rust_extent.Extent
extent_of v = record { size = min (size v) u64_max; height = min (height v) u64_max }

-- how large and high the default of each type is, where it has one
abbrev pub extents_of : Table → List (Option rust_extent.Extent)
extents_of table = map (option_map extent_of) (rounds (length table) table)

-- the constructor of a default, and how large and high that is
abbrev pub choice_of : Value → rust_choice.Choice
choice_of (num x) = record { id = 0; extent = extent_of (num x) }
choice_of (bool b) = record { id = 0; extent = extent_of (bool b) }
choice_of (text bs) = record { id = 0; extent = extent_of (text bs) }
choice_of (cons c vs) = record { id = c; extent = extent_of (cons c vs) }

abbrev pub choices_of : List (Option Value) → List (Option rust_choice.Choice)
choices_of os = map (option_map choice_of) os

-- ---- as they are found

abbrev pub one : rust_extent.Extent
one = record { size = 1; height = 1 }

abbrev pub extent_chosen : List (Option rust_choice.Choice) → Ty → Option rust_extent.Extent
extent_chosen found integer = Some one
extent_chosen found truth = Some one
extent_chosen found string = Some one
extent_chosen found (named k) = elim (slice_get found k) [ None ↦ None | Some o ↦ option_map (λ c. c.extent) o ]

-- with this size and height of the fields before
abbrev pub fields_extent : List (Option rust_choice.Choice) → ℕ → ℕ → List Field → Option rust_extent.Extent
fields_extent found s h [] = Some (record { size = s; height = min (h + 1) u64_max })
fields_extent found s h (f ∷ fs) = elim (extent_chosen found f.ty) [ None ↦ None | Some e ↦ fields_extent found (min (s + e.size) u64_max) (max h e.height) fs ]

abbrev pub first_chosen : List (Option rust_choice.Choice) → ℕ → List Constructor → Option rust_choice.Choice
first_chosen found c [] = None
first_chosen found c (x ∷ xs) = elim (fields_extent found 1 0 x.fields) [ None ↦ first_chosen found (suc c) xs | Some e ↦ Some (record { id = c; extent = e }) ]

abbrev pub next_choices : List (Option rust_choice.Choice) → ℕ → Table → List (Option rust_choice.Choice) → List (Option rust_choice.Choice)
next_choices all c [] os = []
next_choices all c (t ∷ ts) [] = []
next_choices all c (t ∷ ts) (Some v ∷ os) = Some v ∷ next_choices all (c + length t.constructors) ts os
next_choices all c (t ∷ ts) (None ∷ os) = first_chosen all c t.constructors ∷ next_choices all (c + length t.constructors) ts os

abbrev pub choice_rounds : ℕ → Table → List (Option rust_choice.Choice)
choice_rounds zero table = map (λ t. None) table
choice_rounds (suc n) table = let os = choice_rounds n table in next_choices os 0 table os

-- whether each that is found in the second list is found in the first
abbrev pub finds_nothing : List (Option rust_choice.Choice) → List (Option rust_choice.Choice) → Bool
finds_nothing os [] = true
finds_nothing [] (n ∷ ns) = true
finds_nothing (o ∷ os) (n ∷ ns) = cond (is_none o && is_some n) false (finds_nothing os ns)

-- ---- the values that they stand for

abbrev pub chosen_in : List (Option rust_choice.Choice) → ℕ → Option rust_choice.Choice
chosen_in found k = elim (slice_get found k) [ None ↦ None | Some o ↦ o ]

abbrev pub made_by : (Ty → Option Value) → ℕ → Option Place → Option Value
made_by go c None = None
made_by go c (Some p) = option_map (λ vs. cons c (packed vs)) (all_defaults go p.constructor.fields)

abbrev pub built_by : (Ty → Option Value) → Table → Option rust_choice.Choice → Option Value
built_by go table None = None
built_by go table (Some c) = made_by go c.id (place_of table c.id)

-- with this many levels left
abbrev pub built : ℕ → Table → List (Option rust_choice.Choice) → Ty → Option Value
built zero table found ty = None
built (suc n) table found integer = Some (num (pos 0))
built (suc n) table found truth = Some (bool false)
built (suc n) table found string = Some (text [])
built (suc n) table found (named k) = built_by (built n table found) table (chosen_in found k)
