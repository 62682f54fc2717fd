-- The default of a type: by rounds, the first constructor whose fields have defaults already.
use Rattle.std.specs.Prelude.{ℕ, zero, suc, ◌+◌, pos, false, List, [], ◌∷◌, length, map, Option, Some, None, slice_get}
use Rattle.txs_values.specs.Value.{Ty, Value, Field, Constructor, Table, packed, integer, truth, string, named, num, bool, text, cons}

-- the defaults of fields, if each has one
abbrev pub all_defaults : (Ty → Option Value) → List Field → Option (List Value)
all_defaults go [] = Some []
all_defaults go (f ∷ fs) = elim (go f.ty) [ None ↦ None | Some v ↦ elim (all_defaults go fs) [ None ↦ None | Some vs ↦ Some (v ∷ vs) ] ]

-- the first of these constructors whose fields have defaults; the first has number c
abbrev pub first_made : (Ty → Option Value) → ℕ → List Constructor → Option Value
first_made go c [] = None
first_made go c (x ∷ xs) = elim (all_defaults go x.fields) [ None ↦ first_made go (suc c) xs | Some vs ↦ Some (cons c (packed vs)) ]

-- the default of a type by the defaults that are found already
abbrev pub ranked : List (Option Value) → Ty → Option Value
ranked os integer = Some (num (pos 0))
ranked os truth = Some (bool false)
ranked os string = Some (text [])
ranked os (named k) = elim (slice_get os k) [ None ↦ None | Some o ↦ o ]

-- one round over the types, whose first constructor has number c
abbrev pub next_round : List (Option Value) → ℕ → Table → List (Option Value) → List (Option Value)
next_round all c [] os = []
next_round all c (t ∷ ts) [] = []
next_round all c (t ∷ ts) (Some v ∷ os) = Some v ∷ next_round all (c + length t.constructors) ts os
next_round all c (t ∷ ts) (None ∷ os) = first_made (ranked all) c t.constructors ∷ next_round all (c + length t.constructors) ts os

-- what is found after n rounds
abbrev pub rounds : ℕ → Table → List (Option Value)
rounds zero table = map (λ t. None) table
rounds (suc n) table = let os = rounds n table in next_round os 0 table os

-- the default of a type, where it has one
abbrev pub default_if : Table → Ty → Option Value
default_if table t = ranked (rounds (length table) table) t

abbrev pub or_zero : Option Value → Value
or_zero None = num (pos 0)
or_zero (Some v) = v

-- the default of a type that has one
abbrev pub default_of : Table → Ty → Value
default_of table t = or_zero (default_if table t)
