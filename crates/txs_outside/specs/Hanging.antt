-- How often a system was hung up on, and a count that stops at its type's end.
use Rattle.std.specs.Prelude.{ℕ, ◌+◌, ◌-◌, ◌^◌, min, Option, None, Some}

-- one more, up to the type's end
abbrev pub more : ℕ → ℕ
more n = min (n + 1) (2 ^ 64 - 1)

-- the number that an entry of the list of calls has, 0 where none is told
abbrev pub number_of : Option ℕ → ℕ
number_of None = 0
number_of (Some n) = n
