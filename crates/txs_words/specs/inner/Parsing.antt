-- What is read of the words of a file.
use Rattle.std.specs.Prelude.{◌≡◌, ℕ, zero, suc, ◌*◌, ◌^◌, ℤ, pos, Bool, false, ◌&&◌, cond, nat_lt, eqb, List, [], ◌∷◌, ◌++◌, length, codes, bytes_eq, Option, Some, None, Result, Ok, Err}
use Rattle.std.specs.Borrow.{Bor}
use Rattle.std.specs.List.{list_all, list_any, AllByRecursion}
use Rattle.std.specs.Str.Parse.{digits_value}
use Rattle.txs_values.specs.Value.{num}
use Rattle.txs_values.specs.Spelling.{is_digit}
use Rattle.txs_terms.specs.Expr.{Expr, val, slot}
use Rattle.txs_terms.specs.Term.{Position, give, take, Term, stop, prefix, choice}
use Rattle.txs_terms.specs.View.{term_of}
use Rattle.txs_terms.specs.declared.term.Term as rust_term
use Rattle.txs_values.specs.declared.bytes.Bytes.{Bytes}
use Rattle.txs_words.specs.declared.load_fault.LoadFault.{LoadFault}
use Rattle.txs_words.specs.declared.load_fault.LoadFault.TheVariants.{Later, NoMemory}
use Rattle.txs_words.specs.Form.{is_gap, has_byte, is_name, slot_of, offer, Binding, tight, loose}

-- no byte is a gap
abbrev pub HasNoGap : List ℕ → Type 0
HasNoGap word = AllByRecursion (λ b. is_gap b ≡ false) word

-- whether a word is one of these
abbrev pub is_listed : List ℕ → List (List ℕ) → Bool
is_listed word words = list_any (λ w. bytes_eq w word) words

-- what a call answers is what is read, unless memory ran out
abbrev pub Reads : {X Y : Type 0} → (X → Y) → Result X LoadFault → Option Y → Type 0
Reads view (Ok x) read = read ≡ Some (view x)
Reads view (Err Later) read = read ≡ None
Reads view (Err NoMemory) read = Unit {0}

-- whether a word is digits
abbrev pub are_digits : List ℕ → Bool
are_digits word = has_byte word && list_all is_digit word

-- the number of digits, up to 2^127 - 1
abbrev pub number_read : List ℕ → Option ℤ
number_read word = cond (are_digits word && nat_lt (digits_value 10 word) (2 ^ 127)) (Some (pos (digits_value 10 word))) None

abbrev pub nonzero : ℕ → Option ℕ
nonzero port = cond (eqb port 0) None (Some port)

-- the port of digits
abbrev pub port_read : List ℕ → Option ℕ
port_read word = cond (are_digits word && nat_lt (digits_value 10 word) (2 ^ 16)) (nonzero (digits_value 10 word)) None

abbrev pub name_read : List ℕ → Option (List ℕ)
name_read word = cond (is_name word) (Some word) None

abbrev pub as_number : Option ℤ → Option Expr
as_number None = None
as_number (Some n) = Some (val (num n))

abbrev pub as_slot : Option ℕ → Option Expr
as_slot None = None
as_slot (Some k) = Some (slot k)

abbrev pub as_taken : Option (List ℕ) → Option Position
as_taken None = None
as_taken (Some x) = Some (take x)

abbrev pub as_given : Option Expr → Option Position
as_given None = None
as_given (Some e) = Some (give e)

-- the expression of a word, after these binders
abbrev pub expr_read : List (List ℕ) → List ℕ → Option Expr
expr_read bound word = cond (are_digits word) (as_number (number_read word)) (cond (is_name word) (as_slot (slot_of bound word)) None)

abbrev pub position_read : List (List ℕ) → List ℕ → List ℕ → Option Position
position_read bound sign word = cond (bytes_eq sign (codes "?")) (as_taken (name_read word)) (cond (bytes_eq sign (codes "!")) (as_given (expr_read bound word)) None)

-- the name that a position binds, or none
abbrev pub binder : Position → List ℕ
binder (take x) = x
binder (give e) = []

abbrev pub channel_read : List ℕ → List ℕ → List ℕ → Option ℕ
channel_read i o name = cond (bytes_eq name i) (Some 0) (cond (bytes_eq name o) (Some 1) None)

-- ---- behaviours

-- a term, and the words after it
abbrev pub Front : Type 0
Front = Term × List (List ℕ)

-- what a call answers: a term, and the words after it
abbrev pub front_of : rust_term.Term × Bor (List Bytes) → Front
front_of found = (term_of found.0, found.1.now)

-- the front of words, after binders
abbrev pub Reader : Type 0
Reader = List (List ℕ) → List (List ℕ) → Option Front

abbrev pub prefixed : ℕ → Position → Option Front → Option Front
prefixed c p None = None
prefixed c p (Some f) = Some (prefix (offer c p) [] f.0, f.1)

-- a prefix, if its channel and its position are read, before what is read after it
abbrev pub step_read : Option ℕ → Option Position → (Position → Option Front) → Option Front
step_read None p behind = None
step_read (Some c) None behind = None
step_read (Some c) (Some p) behind = prefixed c p (behind p)

-- a prefix, whose first word this is
abbrev pub prefix_read : Reader → List ℕ → List ℕ → List (List ℕ) → List ℕ → List (List ℕ) → Option Front
prefix_read tightly i o bound name [] = None
prefix_read tightly i o bound name (sign ∷ []) = None
prefix_read tightly i o bound name (sign ∷ word ∷ []) = None
prefix_read tightly i o bound name (sign ∷ word ∷ arrow ∷ more) =
    cond (bytes_eq arrow (codes ">->")) (step_read (channel_read i o name) (position_read bound sign word) (λ p. tightly (bound ++ binder p ∷ []) more)) None

-- what stands before `)`
abbrev pub closed : Term → List (List ℕ) → Option Front
closed t [] = None
closed t (word ∷ words) = cond (bytes_eq word (codes ")")) (Some (t, words)) None

abbrev pub grouped : Option Front → Option Front
grouped None = None
grouped (Some f) = closed f.0 f.1

abbrev pub beside : Term → Option Front → Option Front
beside a None = None
beside a (Some f) = Some (choice a f.0, f.1)

-- a choice if `##` comes next, and the left side alone if it does not
abbrev pub choice_read : (List (List ℕ) → Option Front) → Term → List (List ℕ) → Option Front
choice_read loosely a [] = Some (a, [])
choice_read loosely a (word ∷ words) = cond (bytes_eq word (codes "##")) (beside a (loosely words)) (Some (a, word ∷ words))

abbrev pub chosen : (List (List ℕ) → Option Front) → Option Front → Option Front
chosen loosely None = None
chosen loosely (Some f) = choice_read loosely f.0 f.1

-- the front of words, in at most so many steps
abbrev pub front_read : ℕ → Binding → List ℕ → List ℕ → Reader
front_read zero b i o bound words = None
front_read (suc k) tight i o bound [] = None
front_read (suc k) tight i o bound (word ∷ words) =
    cond (bytes_eq word (codes "STOP")) (Some (stop, words))
    (cond (bytes_eq word (codes "(")) (grouped (front_read k loose i o bound words))
    (prefix_read (front_read k tight i o) i o bound word words))
front_read (suc k) loose i o bound words = chosen (front_read k loose i o bound) (front_read k tight i o bound words)

-- a front after which nothing is left
abbrev pub entire : Option Front → Option Term
entire None = None
entire (Some f) = alone f.0 f.1
  where
    alone : Term → List (List ℕ) → Option Term
    alone t [] = Some t
    alone t (word ∷ words) = None

-- a behaviour, which all the words are
abbrev pub behaviour_read : List ℕ → List ℕ → List (List ℕ) → Option Term
behaviour_read i o words = entire (front_read (suc (2 * length words)) loose i o [] words)
