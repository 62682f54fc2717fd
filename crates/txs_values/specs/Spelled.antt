-- The spellings of a value, one case a form: the canonical text with blanks around each token, leading zeros allowed, and `-0` for 0.
use Rattle.std.specs.Prelude.{◌≡◌, ◌≤◌, ℕ, true, false, eqb, List, [], ◌∷◌, ◌++◌, Some, codes}
use Rattle.std.specs.Str.{is_utf8}
use Rattle.std.specs.Str.Parse.{signed_digits_value}
use Rattle.txs_values.specs.Value.{Ty, Value, text, Field, Table, Place, place_of, field_types, size, height, value_size_limit, value_height_limit, HasType, Values, integer, truth, string, named, num, bool, cons, no_value, and_value}
use Rattle.txs_values.specs.Spelling.{is_blank, is_digit, is_letter, is_name_byte, escape_of, is_raw}

-- spaces and tabs
abbrev pub AreBlanks : List ℕ → Type 0
AreBlanks [] = Unit {0}
AreBlanks (b ∷ bs) = (is_blank b ≡ true) × AreBlanks bs

abbrev pub AreDigits : List ℕ → Type 0
AreDigits [] = Unit {0}
AreDigits (b ∷ bs) = (is_digit b ≡ true) × AreDigits bs

-- a minus or nothing
pub data IsSign : List ℕ → Type 0 where
  no_sign : IsSign []
  minus_sign : IsSign (45 ∷ [])

-- the text and how it stands between its quotes: quote, backslash, line feed, carriage return and tab as escapes, each other byte as it is
pub data Quotes : List ℕ → List ℕ → Type 0 where
  nothing : Quotes [] []
  as_it_is : {bs ws : List ℕ} (b : ℕ) → eqb b 34 ≡ false → eqb b 92 ≡ false → is_raw b ≡ false → Quotes bs ws → Quotes (b ∷ bs) (b ∷ ws)
  escaped_by : {bs ws : List ℕ} (b c : ℕ) → escape_of c ≡ Some b → Quotes bs ws → Quotes (b ∷ bs) (92 ∷ c ∷ ws)

mutual
  -- these bytes spell the value of this type, with blanks before each token; numbers are of any size
  pub data Spells (table : Table) : Ty → Value → List ℕ → Type 0 where
    a_number : (blanks sign : List ℕ) (d : ℕ) (digits : List ℕ) → AreBlanks blanks → IsSign sign → AreDigits (d ∷ digits)
        → Spells table integer (num (signed_digits_value 10 (sign ++ d ∷ digits))) (blanks ++ (sign ++ d ∷ digits))
    a_true : (blanks : List ℕ) → AreBlanks blanks → Spells table truth (bool true) (blanks ++ codes "True")
    a_false : (blanks : List ℕ) → AreBlanks blanks → Spells table truth (bool false) (blanks ++ codes "False")
    a_text : (blanks bs ws : List ℕ) → AreBlanks blanks → Quotes bs ws → Spells table string (text bs) (blanks ++ (34 ∷ (ws ++ 34 ∷ [])))
    a_constant : (blanks : List ℕ) (c k : ℕ) (name : List ℕ) → AreBlanks blanks
        → place_of table c ≡ Some (record { ty = k; constructor = record { name = name; fields = [] } })
        → Spells table (named k) (cons c no_value) (blanks ++ name)
    a_made : (blanks before behind : List ℕ) (c k : ℕ) (name : List ℕ) (f : Field) (fs : List Field) (vs : Values) (ws : List ℕ)
        → AreBlanks blanks → AreBlanks before → AreBlanks behind
        → place_of table c ≡ Some (record { ty = k; constructor = record { name = name; fields = f ∷ fs } })
        → SpellsEach table (field_types (f ∷ fs)) vs ws
        → Spells table (named k) (cons c vs) (blanks ++ (name ++ (before ++ (40 ∷ (ws ++ (behind ++ 41 ∷ []))))))

  -- one value of each type, with commas between
  pub data SpellsEach (table : Table) : List Ty → Values → List ℕ → Type 0 where
    the_last : (t : Ty) (v : Value) (ws : List ℕ) → Spells table t v ws → SpellsEach table (t ∷ []) (and_value v no_value) ws
    one_more : (t u : Ty) (ts : List Ty) (v : Value) (vs : Values) (ws before more : List ℕ) → Spells table t v ws → AreBlanks before
        → SpellsEach table (u ∷ ts) vs more → SpellsEach table (t ∷ u ∷ ts) (and_value v vs) (ws ++ (before ++ (44 ∷ more)))

-- the whole text spells the value, with blanks at its end or none
pub record IsSpelling (table : Table) (t : Ty) (v : Value) (bs : List ℕ) : Type 0 where
  pub front : List ℕ
  pub behind : List ℕ
  pub parts : bs ≡ front ++ behind
  pub spells : Spells table t v front
  pub blanks : AreBlanks behind

-- a letter, and then letters, digits and `_`
abbrev pub IsName : List ℕ → Type 0
IsName [] = ⊥
IsName (b ∷ bs) = (is_letter b ≡ true) × AreNameBytes bs
  where
    AreNameBytes : List ℕ → Type 0
    AreNameBytes [] = Unit {0}
    AreNameBytes (c ∷ cs) = (is_name_byte c ≡ true) × AreNameBytes cs

-- each constructor is called by a name, and no two by the same
pub record IsNamed (table : Table) : Type 0 where
  pub names : (c : ℕ) (p : Place) → place_of table c ≡ Some p → IsName p.constructor.name
  pub distinct : (c d : ℕ) (p q : Place) → place_of table c ≡ Some p → place_of table d ≡ Some q → p.constructor.name ≡ q.constructor.name → c ≡ d

-- each text in a value is UTF-8
abbrev mutual
  pub HasTexts : Value → Type 0
  HasTexts (num x) = Unit {0}
  HasTexts (bool b) = Unit {0}
  HasTexts (text bs) = is_utf8 bs ≡ true
  HasTexts (cons c vs) = HaveTexts vs

  pub HaveTexts : Values → Type 0
  HaveTexts no_value = Unit {0}
  HaveTexts (and_value v vs) = HasTexts v × HaveTexts vs

-- of its type, its Ints in range, its texts UTF-8, and neither too large nor too high
pub record IsAllowed (table : Table) (t : Ty) (v : Value) : Type 0 where
  pub typed : HasType table v t
  pub texts : HasTexts v
  pub small : size v ≤ value_size_limit
  pub low : height v ≤ value_height_limit
