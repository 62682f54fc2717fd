-- The bytes of spellings, and the constructors that names are of.
use Rattle.std.specs.Prelude.{ℕ, zero, suc, ◌+◌, Bool, cond, ◌&&◌, ◌||◌, eqb, nat_le, List, [], ◌∷◌, Option, Some, None, bytes_eq}
use Rattle.txs_values.specs.Value.{Field, Constructor, Table}

-- ---- bytes

-- a space or a tab
abbrev pub is_blank : ℕ → Bool
is_blank b = eqb b 32 || eqb b 9

-- the bytes from the first that is no blank
abbrev pub past_blanks : List ℕ → List ℕ
past_blanks [] = []
past_blanks (b ∷ bs) = cond (is_blank b) (past_blanks bs) (b ∷ bs)

abbrev pub is_digit : ℕ → Bool
is_digit b = nat_le 48 b && nat_le b 57

abbrev pub is_letter : ℕ → Bool
is_letter b = (nat_le 65 b && nat_le b 90) || (nat_le 97 b && nat_le b 122)

abbrev pub is_name_byte : ℕ → Bool
is_name_byte b = is_letter b || (is_digit b || eqb b 95)

-- the longest run at the front of bytes that pass, and what follows it
abbrev pub run_of : (ℕ → Bool) → List ℕ → List ℕ
run_of p [] = []
run_of p (b ∷ bs) = cond (p b) (b ∷ run_of p bs) []

abbrev pub past_run : (ℕ → Bool) → List ℕ → List ℕ
past_run p [] = []
past_run p (b ∷ bs) = cond (p b) (past_run p bs) (b ∷ bs)

-- ---- characters of a text

-- the character of an escape, by the byte behind its backslash
abbrev pub escape_of : ℕ → Option ℕ
escape_of b =
    cond (eqb b 34) (Some 34)
    (cond (eqb b 92) (Some 92)
    (cond (eqb b 110) (Some 10)
    (cond (eqb b 114) (Some 13)
    (cond (eqb b 116) (Some 9) None))))

-- a raw tab, line feed or carriage return is not among the characters of a text
abbrev pub is_raw : ℕ → Bool
is_raw b = eqb b 9 || (eqb b 10 || eqb b 13)

-- ---- names

-- a constructor of a type with its number, by its name
pub record Made : Type 0 where
  pub number : ℕ
  pub fields : List Field

abbrev pub made_in : ℕ → List Constructor → List ℕ → Option Made
made_in c [] name = None
made_in c (x ∷ xs) name = cond (bytes_eq x.name name) (Some (record { number = c; fields = x.fields })) (made_in (suc c) xs name)

abbrev pub count_of : List Constructor → ℕ
count_of [] = 0
count_of (x ∷ xs) = suc (count_of xs)

-- the constructor of type k by its name, where c constructors stand before those of this table
abbrev pub made_from : ℕ → Table → ℕ → List ℕ → Option Made
made_from c [] k name = None
made_from c (t ∷ ts) zero name = made_in c t.constructors name
made_from c (t ∷ ts) (suc k) name = made_from (c + count_of t.constructors) ts k name
