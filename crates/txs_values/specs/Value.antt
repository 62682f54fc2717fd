-- Values and their types, over a table of types.
use Rattle.std.specs.Prelude.{◌≡◌, ℕ, zero, suc, ◌+◌, ◌^◌, ℤ, Bool, true, false, cond, ◌&&◌, max, List, [], ◌∷◌, length, eqb, nat_lt, Option, Some, None}
use Rattle.std.specs.Int.Signed.{mag}
use Rattle.std.specs.Ordering.{int_eq}
use Rattle.std.specs.Str.{bytes_eq}
use mathlib.Core.Bool.{beq}

-- Int, Bool, String, or a type of the table by its place
pub data Ty : Type 0 where
  integer : Ty
  truth : Ty
  string : Ty
  named : ℕ → Ty

-- A text is its bytes. A constructor is its place over the whole table.
mutual
  pub data Value : Type 0 where
    num : ℤ → Value
    bool : Bool → Value
    text : List ℕ → Value
    cons : ℕ → Values → Value

  pub data Values : Type 0 where
    no_value : Values
    and_value : Value → Values → Values

pub record Field : Type 0 where
  pub name : List ℕ
  pub ty : Ty

pub record Constructor : Type 0 where
  pub name : List ℕ
  pub fields : List Field

pub record TypeDef : Type 0 where
  pub name : List ℕ
  pub constructors : List Constructor

-- the types of a file, in order
abbrev pub Table : Type 0
Table = List TypeDef

-- a constructor with the number of its type
pub record Place : Type 0 where
  pub ty : ℕ
  pub constructor : Constructor

-- the constructor of this number among those of type k, or else what comes for the numbers behind them
abbrev pub place_in : ℕ → List Constructor → ℕ → (ℕ → Option Place) → Option Place
place_in k [] c go = go c
place_in k (x ∷ xs) zero go = Some (record { ty = k; constructor = x })
place_in k (x ∷ xs) (suc c) go = place_in k xs c go

abbrev pub place_from : ℕ → Table → ℕ → Option Place
place_from k [] c = None
place_from k (t ∷ ts) c = place_in k t.constructors c (place_from (suc k) ts)

-- the constructor of this number, with its type
abbrev pub place_of : Table → ℕ → Option Place
place_of table c = place_from 0 table c

abbrev pub field_types : List Field → List Ty
field_types [] = []
field_types (f ∷ fs) = f.ty ∷ field_types fs

-- a constructor's values as a list
abbrev pub listed : Values → List Value
listed no_value = []
listed (and_value v vs) = v ∷ listed vs

-- a list of values as a constructor holds it
abbrev pub packed : List Value → Values
packed [] = no_value
packed (v ∷ vs) = and_value v (packed vs)

-- whether two values are equal
abbrev mutual
  pub same_value : Value → Value → Bool
  same_value (num x) (num y) = int_eq x y
  same_value (num x) (bool b) = false
  same_value (num x) (text b) = false
  same_value (num x) (cons d ws) = false
  same_value (bool a) (num y) = false
  same_value (bool a) (bool b) = beq a b
  same_value (bool a) (text b) = false
  same_value (bool a) (cons d ws) = false
  same_value (text a) (num y) = false
  same_value (text a) (bool b) = false
  same_value (text a) (text b) = bytes_eq a b
  same_value (text a) (cons d ws) = false
  same_value (cons c vs) (num y) = false
  same_value (cons c vs) (bool b) = false
  same_value (cons c vs) (text b) = false
  same_value (cons c vs) (cons d ws) = eqb c d && same_each vs ws

  pub same_each : Values → Values → Bool
  same_each no_value no_value = true
  same_each no_value (and_value w ws) = false
  same_each (and_value v vs) no_value = false
  same_each (and_value v vs) (and_value w ws) = same_value v w && same_each vs ws

-- a value's nodes, with the bytes of its texts
abbrev mutual
  pub size : Value → ℕ
  size (num x) = 1
  size (bool b) = 1
  size (text bs) = 1 + length bs
  size (cons c vs) = 1 + sizes vs

  pub sizes : Values → ℕ
  sizes no_value = 0
  sizes (and_value v vs) = size v + sizes vs

-- how many values stand within one another
abbrev mutual
  pub height : Value → ℕ
  height (num x) = 1
  height (bool b) = 1
  height (text bs) = 1
  height (cons c vs) = 1 + heights vs

  pub heights : Values → ℕ
  heights no_value = 0
  heights (and_value v vs) = max (height v) (heights vs)

-- the limits of a value that is read or computed
unfoldable pub value_size_limit : ℕ
value_size_limit = 16384

unfoldable pub value_height_limit : ℕ
value_height_limit = 1000

-- whether a number is in the range of Int, -2^127 to 2^127 - 1 (`mag` is x for x from 0 on, and -x - 1 below 0)
unfoldable pub fits : ℤ → Bool
fits x = nat_lt (mag x) (2 ^ 127)

-- the types of a constructor's fields, where it is one of this type
abbrev pub fields_in : Option Place → ℕ → Option (List Ty)
fields_in None k = None
fields_in (Some p) k = cond (eqb p.ty k) (Some (field_types p.constructor.fields)) None

-- whether a value is one of this type; an Int is in its range
abbrev mutual
  pub has_type : Table → Value → Ty → Bool
  has_type table (num x) integer = fits x
  has_type table (num x) truth = false
  has_type table (num x) string = false
  has_type table (num x) (named k) = false
  has_type table (bool b) integer = false
  has_type table (bool b) truth = true
  has_type table (bool b) string = false
  has_type table (bool b) (named k) = false
  has_type table (text bs) integer = false
  has_type table (text bs) truth = false
  has_type table (text bs) string = true
  has_type table (text bs) (named k) = false
  has_type table (cons c vs) integer = false
  has_type table (cons c vs) truth = false
  has_type table (cons c vs) string = false
  has_type table (cons c vs) (named k) = has_fields table vs (fields_in (place_of table c) k)

  pub has_fields : Table → Values → Option (List Ty) → Bool
  has_fields table vs None = false
  has_fields table no_value (Some []) = true
  has_fields table no_value (Some (t ∷ ts)) = false
  has_fields table (and_value v vs) (Some []) = false
  has_fields table (and_value v vs) (Some (t ∷ ts)) = has_type table v t && has_fields table vs (Some ts)

abbrev pub HasType : Table → Value → Ty → Type 0
HasType table v t = has_type table v t ≡ true

-- one value of each type, in order
abbrev pub HaveTypes : Table → List Value → List Ty → Type 0
HaveTypes table [] [] = Unit {0}
HaveTypes table [] (t ∷ ts) = ⊥
HaveTypes table (v ∷ vs) [] = ⊥
HaveTypes table (v ∷ vs) (t ∷ ts) = HasType table v t × HaveTypes table vs ts
