-- Why bytes are not read as a value of a type, and where.
use Rattle.std.specs.Prelude.{◌≡◌, ◌≢◌, ◌≤◌, ◌<◌, ℕ, suc, false, List, [], ◌∷◌, ◌++◌, length, Some, IsUtf8}
use Rattle.txs_values.specs.declared.refusal.ReadValueFault.{ReadValueFault}
use Rattle.txs_values.specs.declared.refusal.ReadValueFault.TheVariants.{NotText, WrongForm, Range, TooDeep, TooBig, NoMemory}
use Rattle.std.specs.Str.Parse.{signed_digits_value}
use Rattle.txs_values.specs.Value.{Ty, Value, Field, Table, place_of, field_types, fits, size, value_size_limit, value_height_limit, HasType, integer, named}
use Rattle.txs_values.specs.Spelling.{is_digit}
use Rattle.txs_values.specs.Spelled.{AreBlanks, AreDigits, IsSign, Spells, IsSpelling, IsNamed}

-- ---- tables whose texts can be read

-- a type has a value
abbrev pub HasValue : Table → Ty → Type 0
HasValue table t = (v : Value) × HasType table v t

abbrev pub HaveValues : Table → List Ty → Type 0
HaveValues table [] = Unit {0}
HaveValues table (t ∷ ts) = HasValue table t × HaveValues table ts

-- no two constructors have the same name, and the type and those of all fields have values
pub record IsReadable (table : Table) (t : Ty) : Type 0 where
  pub named : IsNamed table
  pub valued : HasValue table t
  pub fields_valued : (c k : ℕ) (name : List ℕ) (fs : List Field)
      → place_of table c ≡ Some (record { ty = k; constructor = record { name = name; fields = fs } }) → HaveValues table (field_types fs)

-- ---- places within a spelling

-- some spelling begins so
abbrev pub Begins : Table → Ty → List ℕ → Type 0
Begins table t p = (v : Value) × (more : List ℕ) × IsSpelling table t v (p ++ more)

-- values of these types, with a comma behind each
pub data Leads (table : Table) : List Ty → List ℕ → Type 0 where
  no_more : Leads table [] []
  one_before : (u : Ty) (us : List Ty) (v : Value) (ws before more : List ℕ) → Spells table u v ws → AreBlanks before → Leads table us more
      → Leads table (u ∷ us) (ws ++ (before ++ (44 ∷ more)))

-- in a spelling of a value of type t, a value of this type may stand behind these bytes, at this level
pub data Stands (table : Table) (t : Ty) : List ℕ → ℕ → Ty → Type 0 where
  as_whole : Stands table t [] 1 t
  as_argument : (front blanks before lead : List ℕ) (level c k : ℕ) (name : List ℕ) (fs : List Field) (us more : List Ty) (u : Ty)
      → Stands table t front level (named k) → AreBlanks blanks → AreBlanks before
      → place_of table c ≡ Some (record { ty = k; constructor = record { name = name; fields = fs } })
      → field_types fs ≡ us ++ u ∷ more → Leads table us lead
      → Stands table t (front ++ (blanks ++ (name ++ (before ++ (40 ∷ lead))))) (suc level) u

-- ---- what may be wrong, the text being cut in two at the place

pub data Reason : Type 0 where
  wrong_form : Reason
  past_range : Reason
  too_deep : Reason

-- no spelling, of which no longer front begins one
pub record IsWrong (table : Table) (t : Ty) (p r : List ℕ) : Type 0 where
  pub unspelled : (v : Value) → IsSpelling table t v (p ++ r) → ⊥
  pub begins : Begins table t p
  pub longest : (q more : List ℕ) → p ++ r ≡ q ++ more → Begins table t q → length q ≤ length p

-- no digit is in front
abbrev pub NoDigit : List ℕ → Type 0
NoDigit [] = Unit {0}
NoDigit (b ∷ bs) = is_digit b ≡ false

-- a number, with all its digits, that is out of the range of Int
pub record IsOutOfRange (table : Table) (t : Ty) (p r : List ℕ) : Type 0 where
  pub front : List ℕ
  pub blanks : List ℕ
  pub level : ℕ
  pub sign : List ℕ
  pub first : ℕ
  pub digits : List ℕ
  pub more : List ℕ
  pub before : p ≡ front ++ blanks
  pub stands : Stands table t front level integer
  pub are_blanks : AreBlanks blanks
  pub is_sign : IsSign sign
  pub are_digits : AreDigits (first ∷ digits)
  pub is_past : fits (signed_digits_value 10 (sign ++ first ∷ digits)) ≡ false
  pub here : r ≡ (sign ++ first ∷ digits) ++ more
  pub ends : NoDigit more

-- a parenthesis whose arguments would stand above the limit
pub record IsDeep (table : Table) (t : Ty) (p r : List ℕ) : Type 0 where
  pub front : List ℕ
  pub blanks : List ℕ
  pub behind : List ℕ
  pub c : ℕ
  pub k : ℕ
  pub name : List ℕ
  pub field : Field
  pub fields : List Field
  pub more : List ℕ
  pub before : p ≡ front ++ (blanks ++ (name ++ behind))
  pub stands : Stands table t front value_height_limit (named k)
  pub are_blanks : AreBlanks blanks
  pub blanks_behind : AreBlanks behind
  pub placed : place_of table c ≡ Some (record { ty = k; constructor = record { name = name; fields = field ∷ fields } })
  pub here : r ≡ 40 ∷ more

abbrev pub Applies : Table → Ty → Reason → List ℕ → List ℕ → Type 0
Applies table t wrong_form p r = IsWrong table t p r
Applies table t past_range p r = IsOutOfRange table t p r
Applies table t too_deep p r = IsDeep table t p r

-- this is wrong with the text, at this place
abbrev pub IsCause : Table → Ty → List ℕ → Reason → ℕ → Type 0
IsCause table t bs reason n = (p : List ℕ) × (r : List ℕ) × (bs ≡ p ++ r) × (n ≡ length p) × Applies table t reason p r

-- of what is wrong this stands first, the form going before the others at one place
pub record IsFirst (table : Table) (t : Ty) (bs : List ℕ) (reason : Reason) (n : ℕ) : Type 0 where
  pub applies : IsCause table t bs reason n
  pub first : (other : Reason) (m : ℕ) → IsCause table t bs other m → n ≤ m
  pub form_first : reason ≢ wrong_form → IsCause table t bs wrong_form n → ⊥

-- a spelling with nothing wrong in it, of a value past the limit of size
pub record IsTooBig (table : Table) (t : Ty) (bs : List ℕ) : Type 0 where
  pub value : Value
  pub spelled : IsSpelling table t value bs
  pub sound : (reason : Reason) (n : ℕ) → IsCause table t bs reason n → ⊥
  pub big : value_size_limit < size value

-- the cause of each fault; want of memory needs none
abbrev pub Refuses : Table → Ty → List ℕ → ReadValueFault → Type 0
Refuses table t bs NotText = IsUtf8 bs → ⊥
Refuses table t bs (WrongForm n) = IsUtf8 bs × IsFirst table t bs wrong_form n
Refuses table t bs (Range n) = IsUtf8 bs × IsFirst table t bs past_range n
Refuses table t bs (TooDeep n) = IsUtf8 bs × IsFirst table t bs too_deep n
Refuses table t bs TooBig = IsUtf8 bs × IsTooBig table t bs
Refuses table t bs NoMemory = Unit {0}
