-- Actions: a set of channels, ascending, each with its values.
use Rattle.std.specs.Prelude.{◌≡◌, ℕ, zero, suc, ◌<◌, Bool, true, false, ◌&&◌, ◌||◌, not, cond, eqb, ltb, List, [], ◌∷◌, ◌++◌, length}
use Rattle.txs_values.specs.Value.{Value, Ty, Table, HaveTypes}

pub record Part : Type 0 where
  pub channel : ℕ
  pub values : List Value

abbrev pub Action : Type 0
Action = List Part

pub data Label : Type 0 where
  act : Action → Label
  inner : Label
  ends : List Value → Label

abbrev pub Channels : Type 0
Channels = List ℕ

abbrev pub channels : Action → Channels
channels [] = []
channels (p ∷ ps) = p.channel ∷ channels ps

-- all values, in order
abbrev pub values : Action → List Value
values [] = []
values (p ∷ ps) = p.values ++ values ps

-- the values on one channel
abbrev pub values_on : Action → ℕ → List Value
values_on [] c = []
values_on (p ∷ ps) c = cond (eqb p.channel c) p.values (values_on ps c)

-- the values on these channels, in this order
abbrev pub values_over : Action → Channels → List Value
values_over a [] = []
values_over a (c ∷ cs) = values_on a c ++ values_over a cs

-- what an action has on these channels
abbrev pub part_of : Action → Channels → Action
part_of a [] = []
part_of a (c ∷ cs) = record { channel = c; values = values_on a c } ∷ part_of a cs

-- ---- channels

abbrev pub has : Channels → ℕ → Bool
has [] c = false
has (x ∷ xs) c = eqb x c || has xs c

abbrev pub kept : (ℕ → Bool) → Channels → Channels
kept p [] = []
kept p (c ∷ cs) = cond (p c) (c ∷ kept p cs) (kept p cs)

abbrev pub none_in : Channels → Channels → Bool
none_in gates [] = true
none_in gates (c ∷ cs) = not (has gates c) && none_in gates cs

-- with one more channel, ascending
abbrev pub with_channel : ℕ → Channels → Channels
with_channel c [] = c ∷ []
with_channel c (x ∷ xs) = cond (ltb c x) (c ∷ x ∷ xs) (cond (eqb c x) (x ∷ xs) (x ∷ with_channel c xs))

abbrev pub union : Channels → Channels → Channels
union [] ys = ys
union (x ∷ xs) ys = with_channel x (union xs ys)

-- each once, ascending
abbrev pub in_order : Channels → Channels
in_order cs = union cs []

-- each of them is above x
abbrev pub AllAbove : ℕ → Channels → Type 0
AllAbove x [] = Unit {0}
AllAbove x (y ∷ ys) = (x < y) × AllAbove x ys

abbrev pub Ascending : Channels → Type 0
Ascending [] = Unit {0}
Ascending (x ∷ xs) = AllAbove x xs × Ascending xs

abbrev pub same_channels : Channels → Channels → Bool
same_channels [] [] = true
same_channels [] (y ∷ ys) = false
same_channels (x ∷ xs) [] = false
same_channels (x ∷ xs) (y ∷ ys) = eqb x y && same_channels xs ys

abbrev pub is_empty : Channels → Bool
is_empty [] = true
is_empty (x ∷ xs) = false

-- the same channels of the gates, at least one of them, and no other in common
abbrev pub joins : Channels → Channels → Channels → Bool
joins gates xs ys =
    same_channels (kept (has gates) xs) (kept (has gates) ys) && not (is_empty (kept (has gates) xs))
    && none_in ys (kept (λ c. not (has gates c)) xs)

-- ---- types

-- the types on each channel, by its number
abbrev pub Scope : Type 0
Scope = List (List Ty)

abbrev pub types_on : Scope → ℕ → List Ty
types_on [] c = []
types_on (ts ∷ scope) zero = ts
types_on (ts ∷ scope) (suc c) = types_on scope c

abbrev pub arity : Scope → ℕ → ℕ
arity scope c = length (types_on scope c)

-- the types of all positions of these channels, in order
abbrev pub types_over : Scope → Channels → List Ty
types_over scope [] = []
types_over scope (c ∷ cs) = types_on scope c ++ types_over scope cs

-- n numbers from the first
abbrev pub from : ℕ → ℕ → List ℕ
from i zero = []
from i (suc n) = i ∷ from (suc i) n

-- the values on each channel have its types
abbrev pub IsTyped : Table → Scope → Action → Type 0
IsTyped table scope [] = Unit {0}
IsTyped table scope (p ∷ ps) = HaveTypes table p.values (types_on scope p.channel) × IsTyped table scope ps

-- one or more channels, ascending, each with values of its types
pub record IsAction (table : Table) (scope : Scope) (a : Action) : Type 0 where
  pub some : is_empty (channels a) ≡ false
  pub typed : IsTyped table scope a
  pub ascending : Ascending (channels a)
