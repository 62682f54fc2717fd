-- The form of a file that is read so far: one model over two channels of type Int, and one connection.
use Rattle.std.specs.Prelude.{◌≡◌, ◌⊎◌, ℕ, suc, ◌<◌, ◌^◌, ℤ, pos, Bool, true, false, ◌&&◌, ◌||◌, not, eqb, cond, List, [], ◌∷◌, ◌++◌, filter, codes, bytes_eq, Option, Some, None}
use Rattle.std.specs.List.{list_any, list_all}
use Rattle.std.specs.Str.Parse.{IsNumeral, digits_value}
use Rattle.txs_values.specs.Value.{num}
use Rattle.txs_values.specs.Spelling.{is_letter, is_name_byte, is_digit}
use Rattle.txs_terms.specs.Expr.{val, slot}
use Rattle.txs_terms.specs.Term.{Position, give, take, Offer, Term, stop, prefix, choice}

-- ---- words

-- a space, a tab, a line feed or a carriage return
abbrev pub is_gap : ℕ → Bool
is_gap b = eqb b 32 || (eqb b 9 || (eqb b 10 || eqb b 13))

abbrev pub onto : ℕ → List (List ℕ) → List (List ℕ)
onto b [] = (b ∷ []) ∷ []
onto b (word ∷ words) = (b ∷ word) ∷ words

-- the parts between single gaps
abbrev pub parts : List ℕ → List (List ℕ)
parts [] = [] ∷ []
parts (b ∷ bs) = cond (is_gap b) ([] ∷ parts bs) (onto b (parts bs))

abbrev pub has_byte : List ℕ → Bool
has_byte [] = false
has_byte (b ∷ bs) = true

-- the longest runs of bytes that are no gaps
abbrev pub words_of : List ℕ → List (List ℕ)
words_of bytes = filter has_byte (parts bytes)

-- ---- names

-- the words that are no names
abbrev pub reserved : List (List ℕ)
reserved =
    codes "TYPEDEF" ∷ codes "FUNCDEF" ∷ codes "CONSTDEF" ∷ codes "CHANDEF" ∷ codes "PROCDEF" ∷ codes "STAUTDEF" ∷ codes "MODELDEF" ∷ codes "PURPDEF" ∷ codes "CNECTDEF" ∷ codes "ENDDEF"
    ∷ codes "CHAN" ∷ codes "IN" ∷ codes "OUT" ∷ codes "SYNC" ∷ codes "BEHAVIOUR" ∷ codes "STATE" ∷ codes "VAR" ∷ codes "INIT" ∷ codes "TRANS" ∷ codes "GOAL"
    ∷ codes "CLIENTSOCK" ∷ codes "SERVERSOCK" ∷ codes "HOST" ∷ codes "PORT" ∷ codes "ENCODE" ∷ codes "DECODE" ∷ codes "STOP" ∷ codes "EXIT" ∷ codes "HIT" ∷ codes "MISS" ∷ codes "ISTEP"
    ∷ codes "ACCEPT" ∷ codes "NI" ∷ codes "HIDE" ∷ codes "LET" ∷ codes "IF" ∷ codes "THEN" ∷ codes "ELSE" ∷ codes "FI" ∷ codes "QUIET" ∷ []

-- a letter, and then letters, digits and `_`
abbrev pub is_worded : List ℕ → Bool
is_worded [] = false
is_worded (b ∷ bs) = is_letter b && list_all is_name_byte bs

-- whether a word is a name
abbrev pub is_name : List ℕ → Bool
is_name word = is_worded word && not (list_any (λ r. bytes_eq r word) reserved)

abbrev pub IsName : List ℕ → Type 0
IsName word = is_name word ≡ true

-- ---- behaviours

-- The place of the last binder of this name, which is its slot. Each position of a prefix has a place: `? x` has the name x, and `! e` none.
abbrev pub slot_from : ℕ → List (List ℕ) → List ℕ → Option ℕ → Option ℕ
slot_from k [] x found = found
slot_from k (n ∷ ns) x found = slot_from (suc k) ns x (cond (bytes_eq n x) (Some k) found)

abbrev pub slot_of : List (List ℕ) → List ℕ → Option ℕ
slot_of bound x = slot_from 0 bound x None

-- the input channel has the number 0, and the output channel 1
abbrev pub IsChannel : List ℕ → List ℕ → ℕ → List ℕ → Type 0
IsChannel i o c name = ((c ≡ 0) × (name ≡ i)) ⊎ ((c ≡ 1) × (name ≡ o))

-- digits that stand for this number, which is at most 2^127 - 1
abbrev pub IsNumber : List ℕ → ℤ → Type 0
IsNumber word n = (list_all is_digit word ≡ true) × IsNumeral 10 word × (n ≡ pos (digits_value 10 word)) × (digits_value 10 word < 2 ^ 127)

-- one offer of one position
abbrev pub offer : ℕ → Position → List Offer
offer c p = (record { channel = c; positions = p ∷ [] }) ∷ []

-- A behaviour is tight if it may stand after `>->` and before `##`; every one is loose, and so is a choice.
pub data Binding : Type 0 where
  tight : Binding
  loose : Binding

-- the words of a behaviour over the channels i and o, after the binders of these names
pub data Spells (i o : List ℕ) : Binding → List (List ℕ) → Term → List (List ℕ) → Type 0 where
  stops : {bound : List (List ℕ)} → Spells i o tight bound stop (codes "STOP" ∷ [])
  takes : {bound : List (List ℕ)} {t : Term} {more : List (List ℕ)} (c : ℕ) (name x : List ℕ)
      → IsChannel i o c name → IsName x → Spells i o tight (bound ++ x ∷ []) t more
      → Spells i o tight bound (prefix (offer c (take x)) [] t) (name ∷ codes "?" ∷ x ∷ codes ">->" ∷ more)
  gives_number : {bound : List (List ℕ)} {t : Term} {more : List (List ℕ)} (c : ℕ) (name word : List ℕ) (n : ℤ)
      → IsChannel i o c name → IsNumber word n → Spells i o tight (bound ++ [] ∷ []) t more
      → Spells i o tight bound (prefix (offer c (give (val (num n)))) [] t) (name ∷ codes "!" ∷ word ∷ codes ">->" ∷ more)
  gives_variable : {bound : List (List ℕ)} {t : Term} {more : List (List ℕ)} (c : ℕ) (name x : List ℕ) (k : ℕ)
      → IsChannel i o c name → IsName x → slot_of bound x ≡ Some k → Spells i o tight (bound ++ [] ∷ []) t more
      → Spells i o tight bound (prefix (offer c (give (slot k))) [] t) (name ∷ codes "!" ∷ x ∷ codes ">->" ∷ more)
  groups : {bound : List (List ℕ)} {t : Term} {words : List (List ℕ)} → Spells i o loose bound t words → Spells i o tight bound t (codes "(" ∷ words ++ codes ")" ∷ [])
  alone : {bound : List (List ℕ)} {t : Term} {words : List (List ℕ)} → Spells i o tight bound t words → Spells i o loose bound t words
  chooses : {bound : List (List ℕ)} {a b : Term} {left right : List (List ℕ)}
      → Spells i o tight bound a left → Spells i o loose bound b right → Spells i o loose bound (choice a b) (left ++ codes "##" ∷ right)
