-- How a value is read, from the left, with one byte in sight. What is read is what the text spells by `Spelled`, which says so without an order of reading.
use Rattle.std.specs.Prelude.{ℕ, zero, suc, ◌+◌, Bool, true, false, cond, eqb, nat_le, min, List, [], ◌∷◌, ◌++◌, length, Option, Some, None, codes}
use Rattle.std.specs.Str.{is_utf8}
use Rattle.std.specs.Str.Parse.{signed_digits_value}
use Rattle.txs_values.specs.declared.reading.Kind.{Kind}
use Rattle.txs_values.specs.declared.reading.Kind.TheVariants.{Wrong, Past, Deep, Broken}
use Rattle.txs_values.specs.Value.{Ty, integer, truth, string, named, Value, num, bool, text, cons, no_value, packed, Field, Constructor, Table, fits, size, value_size_limit}
use Rattle.txs_values.specs.Spelling.{past_blanks, is_name_byte, is_raw, escape_of, Made}
use Rattle.txs_values.specs.Ints.{number_run, past_number, has_digit}

-- read, with the bytes that are left; or what is wrong, with the number of the bytes that are left
pub data Outcome (A : Type 0) : Type 0 where
  ok : A → List ℕ → Outcome A
  stop : Kind → ℕ → Outcome A

abbrev pub after : {A B : Type 0} → Outcome A → (A → List ℕ → Outcome B) → Outcome B
after (ok a r) go = go a r
after (stop k n) go = stop k n

-- the first of two, or else the second; where both stop, the place that is further on
abbrev pub either : {A : Type 0} → Outcome A → Outcome A → Outcome A
either (ok a r) other = ok a r
either (stop k n) (ok a r) = ok a r
either (stop k n) (stop l m) = stop l (min n m)

-- ---- tokens

abbrev pub symbol_here : ℕ → List ℕ → Outcome (Unit {0})
symbol_here c [] = stop Wrong 0
symbol_here c (b ∷ bs) = cond (eqb b c) (ok tt bs) (stop Wrong (length (b ∷ bs)))

abbrev pub symbol : ℕ → List ℕ → Outcome (Unit {0})
symbol c bs = symbol_here c (past_blanks bs)

abbrev pub number_read : List ℕ → Outcome Value
number_read bs =
    cond (has_digit (number_run bs))
    (cond (fits (signed_digits_value 10 (number_run bs))) (ok (num (signed_digits_value 10 (number_run bs))) (past_number bs)) (stop Past (length bs)))
    (stop Wrong (length (past_number bs)))

-- whether a byte of a name is in front
abbrev pub goes_on : List ℕ → Bool
goes_on [] = false
goes_on (b ∷ bs) = is_name_byte b

-- this name, with no byte of a name behind it
abbrev pub name_read : List ℕ → List ℕ → Outcome (Unit {0})
name_read [] bs = cond (goes_on bs) (stop Wrong (length bs)) (ok tt bs)
name_read (x ∷ xs) [] = stop Wrong 0
name_read (x ∷ xs) (b ∷ bs) = cond (eqb b x) (name_read xs bs) (stop Wrong (length (b ∷ bs)))

abbrev pub truth_read : List ℕ → Outcome Value
truth_read bs =
    either (after (name_read (codes "True") bs) (λ _ r. ok (bool true) r))
    (after (name_read (codes "False") bs) (λ _ r. ok (bool false) r))

-- with these before it
abbrev pub with_front : {A : Type 0} → List A → Outcome (List A) → Outcome (List A)
with_front front (ok xs r) = ok (front ++ xs) r
with_front front (stop k n) = stop k n

abbrev pub escape_read : Option ℕ → ℕ → Outcome (List ℕ) → Outcome (List ℕ)
escape_read None n o = stop Wrong n
escape_read (Some b) n o = with_front (b ∷ []) o

-- a text up to its closing quote, behind a backslash or not
abbrev pub quoted_read : Bool → List ℕ → Outcome (List ℕ)
quoted_read true [] = stop Wrong 0
quoted_read false [] = stop Wrong 0
quoted_read true (b ∷ bs) = escape_read (escape_of b) (length (b ∷ bs)) (quoted_read false bs)
quoted_read false (b ∷ bs) =
    cond (eqb b 34) (ok [] bs)
    (cond (eqb b 92) (quoted_read true bs)
    (cond (is_raw b) (stop Wrong (length (b ∷ bs))) (with_front (b ∷ []) (quoted_read false bs))))

abbrev pub text_read : List ℕ → Outcome Value
text_read bs =
    after (symbol_here 34 bs) (λ _ r.
    after (quoted_read false r) (λ t end. cond (is_utf8 t) (ok (text t) end) (stop Broken (length bs))))

-- ---- constructors

-- a constructor by its name, the first of these having number c
abbrev pub made_among : ℕ → List Constructor → List ℕ → Outcome Made
made_among c [] bs = stop Wrong (length bs)
made_among c (x ∷ xs) bs =
    either (after (name_read x.name bs) (λ _ r. ok (record { number = c; fields = x.fields }) r)) (made_among (suc c) xs bs)

-- a constructor of type k, where c constructors stand before those of this table
abbrev pub made_read : ℕ → Table → ℕ → List ℕ → Outcome Made
made_read c [] k bs = stop Wrong (length bs)
made_read c (t ∷ ts) zero bs = made_among c t.constructors bs
made_read c (t ∷ ts) (suc k) bs = made_read (c + length t.constructors) ts k bs

abbrev pub Reader : Type 0
Reader = Ty → List ℕ → Outcome Value

-- a comma, or a parenthesis behind the last argument
abbrev pub mark_behind : List Field → ℕ
mark_behind [] = 41
mark_behind (f ∷ fs) = 44

abbrev pub arguments_read : Reader → List Field → List ℕ → Outcome (List Value)
arguments_read below [] bs = ok [] bs
arguments_read below (f ∷ fs) bs =
    after (below f.ty bs) (λ v r.
    after (symbol (mark_behind fs) r) (λ _ more. with_front (v ∷ []) (arguments_read below fs more)))

-- where no parenthesis may open any more
abbrev pub full_read : List ℕ → Outcome Value
full_read [] = stop Wrong 0
full_read (b ∷ bs) = stop (cond (eqb b 40) Deep Wrong) (length (b ∷ bs))

-- the arguments in their parentheses, read by what reads the level below, if there is one
abbrev pub enclosed_read : Option Reader → ℕ → List Field → List ℕ → Outcome Value
enclosed_read None c fs bs = full_read (past_blanks bs)
enclosed_read (Some below) c fs bs =
    after (symbol 40 bs) (λ _ r.
    after (arguments_read below fs r) (λ vs end. ok (cons c (packed vs)) end))

-- what follows the name of a constructor
abbrev pub fields_read : Option Reader → ℕ → List Field → List ℕ → Outcome Value
fields_read below c [] bs = ok (cons c no_value) bs
fields_read below c (f ∷ fs) bs = enclosed_read below c (f ∷ fs) bs

-- ---- values

abbrev pub level_read : Table → Option Reader → Reader
level_read table below integer bs = number_read bs
level_read table below truth bs = truth_read bs
level_read table below string bs = text_read bs
level_read table below (named k) bs = after (made_read 0 table k bs) (λ m r. fields_read below m.number m.fields r)

-- a value with so many levels below its own
abbrev pub value_read : Table → ℕ → Reader
value_read table zero t bs = level_read table None t (past_blanks bs)
value_read table (suc left) t bs = level_read table (Some (value_read table left)) t (past_blanks bs)

-- what reads the level below
abbrev pub value_below : Table → ℕ → Option Reader
value_below table zero = None
value_below table (suc left) = Some (value_read table left)

-- the levels below a whole value
unfoldable pub levels_below : ℕ
levels_below = 999

abbrev pub ended : Value → List ℕ → Outcome Value
ended v [] = ok v []
ended v (b ∷ bs) = stop Wrong (length (b ∷ bs))

-- a value that only blanks follow
abbrev pub lone_read : Table → Ty → List ℕ → Outcome Value
lone_read table t bs = after (value_read table levels_below t bs) (λ v r. ended v (past_blanks r))

-- a value that is not too large
abbrev pub small_read : Outcome Value → Option Value
small_read (ok v r) = cond (nat_le (size v) value_size_limit) (Some v) None
small_read (stop k n) = None

-- the value of this type that the text spells, where it is allowed (`IsSpelling` and `IsAllowed` of `Spelled`)
abbrev pub read_text : Table → Ty → List ℕ → Option Value
read_text table t bs = small_read (lone_read table t bs)
