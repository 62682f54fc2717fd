-- Evaluation by value, from left to right, with limits of height and nodes.
use Rattle.std.specs.Prelude.{◌≡◌, ℕ, zero, suc, ℤ, pos, negsuc, ◌+ℤ◌, ◌-ℤ◌, ◌*ℤ◌, neg_ℤ, int_div, int_rem, Bool, true, false, not, ◌||◌, cond, ltb, eqb, List, [], ◌∷◌, ◌++◌, length, Option, Some, None, slice_get, int_lt, int_le, chars, encode_utf8}
use Rattle.txs_values.specs.Value.{Ty, integer, truth, string, named, Value, num, bool, text, cons, listed, packed, size, height, Table, Place, place_of, field_types, has_fields, same_value, fits, value_size_limit, value_height_limit}
use Rattle.txs_values.specs.Text.{text_of}
use Rattle.txs_values.specs.Reading.{read_text}
use Rattle.txs_terms.specs.Expr.{Unary, negate, negation, to_text, from_text, len, is_made_by, select, Binary, plus, minus, times, divide, remainder, concat, differ, less_than, at_most, more_than, at_least, char_at, Expr, val, slot, local, constant, one, two, equal, both, either, choose, apply, build, let_in, Exprs, none, more, put, with_local, filled}

-- the types of a function's parameters, and its body over them
pub record Body : Type 0 where
  pub takes : List Ty
  pub body : Expr

-- the types, the functions and the constants
pub record Defs : Type 0 where
  pub table : Table
  pub functions : List Body
  pub constants : List Expr

-- `wrong` is met where values are of other types than what takes them asks for, too many or too few, or where nothing has a number
pub data Fault : Type 0 where
  division : Fault
  range : Fault
  selector : Fault
  form : Fault
  high : Fault
  long : Fault
  big : Fault
  wrong : Fault

pub data Outcome : Type 0 where
  fine : Value → Outcome
  broken : Fault → Outcome

-- how an evaluation ends: a value with the nodes entered so far, or a fault
pub data Run : Type 0 where
  got : Value → ℕ → Run
  bad : Fault → Run

pub data Runs : Type 0 where
  gots : List Value → ℕ → Runs
  bads : Fault → Runs

unfoldable pub height_limit : ℕ
height_limit = 1000

unfoldable pub node_limit : ℕ
node_limit = 1000000

-- ---- the operators

-- an Int, if the number is in range
abbrev pub in_range : ℤ → Outcome
in_range x = cond (fits x) (fine (num x)) (broken range)

-- not too large
abbrev pub sized : Value → Outcome
sized v = cond (ltb value_size_limit (size v)) (broken big) (cond (ltb value_height_limit (height v)) (broken big) (fine v))

-- the field that a selector asks for
abbrev pub selected : Option Value → Outcome
selected None = broken wrong
selected (Some v) = fine v

abbrev pub spelled : Option Value → Outcome
spelled None = broken form
spelled (Some v) = fine v

abbrev pub text_to : Table → Ty → List ℕ → Outcome
text_to table string bs = fine (text bs)
text_to table integer bs = spelled (read_text table integer bs)
text_to table truth bs = spelled (read_text table truth bs)
text_to table (named k) bs = spelled (read_text table (named k) bs)

abbrev pub unary : Table → Unary → Value → Outcome
unary table negate (num x) = in_range (neg_ℤ x)
unary table negation (bool b) = fine (bool (not b))
unary table to_text (text bs) = sized (text bs)
unary table to_text (num x) = sized (text (text_of table (num x)))
unary table to_text (bool b) = sized (text (text_of table (bool b)))
unary table to_text (cons c vs) = sized (text (text_of table (cons c vs)))
unary table (from_text ty) (text bs) = text_to table ty bs
unary table len (text bs) = in_range (pos (length (chars bs)))
unary table (is_made_by c) (cons d vs) = fine (bool (eqb c d))
unary table (select c i) (cons d vs) = cond (eqb c d) (selected (slice_get (listed vs) i)) (broken selector)
unary table _ _ = broken wrong

abbrev pub char_of : Option ℕ → Outcome
char_of None = broken selector
char_of (Some c) = fine (text (encode_utf8 c))

abbrev pub char_from : List ℕ → ℤ → Outcome
char_from bs (pos i) = char_of (slice_get (chars bs) i)
char_from bs (negsuc i) = broken selector

abbrev pub divided : Binary → ℤ → ℤ → Outcome
divided divide x (pos zero) = broken division
divided remainder x (pos zero) = broken division
divided divide x y = in_range (int_div x y)
divided remainder x y = in_range (int_rem x y)
divided _ x y = broken wrong

abbrev pub integer_binary : Binary → ℤ → ℤ → Outcome
integer_binary plus x y = in_range (x +ℤ y)
integer_binary minus x y = in_range (x -ℤ y)
integer_binary times x y = in_range (x *ℤ y)
integer_binary divide x y = divided divide x y
integer_binary remainder x y = divided remainder x y
integer_binary less_than x y = fine (bool (int_lt x y))
integer_binary at_most x y = fine (bool (int_le x y))
integer_binary more_than x y = fine (bool (int_lt y x))
integer_binary at_least x y = fine (bool (int_le y x))
integer_binary differ x y = fine (bool (not (same_value (num x) (num y))))
integer_binary _ x y = broken wrong

abbrev pub text_binary : Binary → List ℕ → List ℕ → Outcome
text_binary concat a b = sized (text (a ++ b))
text_binary differ a b = fine (bool (not (same_value (text a) (text b))))
text_binary _ a b = broken wrong

abbrev pub other_binary : Binary → Value → Value → Outcome
other_binary differ x y = fine (bool (not (same_value x y)))
other_binary _ x y = broken wrong

abbrev pub binary : Binary → Value → Value → Outcome
binary o (num x) (num y) = integer_binary o x y
binary o (text a) (text b) = text_binary o a b
binary char_at (text a) (num i) = char_from a i
binary o x y = other_binary o x y

-- ---- the types that values have to have

-- whether two constructors stand in the table, with one type
abbrev pub have_one_type : Option Place → Option Place → Bool
have_one_type None q = false
have_one_type (Some p) None = false
have_one_type (Some p) (Some q) = eqb p.ty q.ty

-- whether two constructors are of one type; each is of one with itself
abbrev pub are_akin : Table → ℕ → ℕ → Bool
are_akin table c d = eqb c d || have_one_type (place_of table c) (place_of table d)

-- whether two values are of one type
abbrev pub are_comparable : Table → Value → Value → Bool
are_comparable table (num x) (num y) = true
are_comparable table (bool a) (bool b) = true
are_comparable table (text a) (text b) = true
are_comparable table (cons c vs) (cons d ws) = are_akin table c d
are_comparable table x y = false

-- whether a value is of the type of this constructor
abbrev pub is_akin : Table → ℕ → Value → Bool
is_akin table c (num x) = false
is_akin table c (bool b) = false
is_akin table c (text bs) = false
is_akin table c (cons d vs) = are_akin table c d

-- a test or a selector takes values of its constructor's type; `unary` says which the others take
abbrev pub takes_one : Table → Unary → Value → Bool
takes_one table (is_made_by c) x = is_akin table c x
takes_one table (select c i) x = is_akin table c x
takes_one table _ x = true

-- `<>` takes two values of one type; `binary` says which the others take
abbrev pub takes_two : Table → Binary → Value → Value → Bool
takes_two table differ x y = are_comparable table x y
takes_two table _ x y = true

-- whether there is one value of each type
abbrev pub have_types : Table → List Value → List Ty → Bool
have_types table vs ts = has_fields table (packed vs) (Some ts)

-- the types of the fields of a constructor that stands here
abbrev pub fields_at : Option Place → Option (List Ty)
fields_at None = None
fields_at (Some p) = Some (field_types p.constructor.fields)

-- whether there is one value for each field of a constructor, of its type
abbrev pub takes_fields : Table → ℕ → List Value → Bool
takes_fields table c vs = has_fields table (packed vs) (fields_at (place_of table c))

-- ---- runs

-- goes on if the values are of their types
abbrev pub checked : Bool → Run → Run
checked true r = r
checked false r = bad wrong

abbrev pub after : Outcome → ℕ → Run
after (fine v) n = got v n
after (broken f) n = bad f

abbrev pub then_run : Run → (Value → ℕ → Run) → Run
then_run (got v n) go = go v n
then_run (bad f) go = bad f

abbrev pub then_runs : Runs → (List Value → ℕ → Run) → Run
then_runs (gots vs n) go = go vs n
then_runs (bads f) go = bad f

abbrev pub Eval : Type 0
Eval = Expr → ℕ → Run

abbrev pub with_first : Value → Runs → Runs
with_first v (gots vs n) = gots (v ∷ vs) n
with_first v (bads f) = bads f

abbrev pub cons_run : Run → (ℕ → Runs) → Runs
cons_run (bad f) go = bads f
cons_run (got v n) go = with_first v (go n)

-- each in order
abbrev pub each : Eval → Exprs → ℕ → Runs
each ev none n = gots [] n
each ev (more e es) n = cons_run (ev e n) (each ev es)

abbrev pub if_true : Value → Run → Run → Run
if_true (num x) a b = bad wrong
if_true (bool true) a b = a
if_true (bool false) a b = b
if_true (text bs) a b = bad wrong
if_true (cons c vs) a b = bad wrong

abbrev pub body_run : {A : Type 0} → Option A → (A → Run) → Run
body_run None go = bad wrong
body_run (Some e) go = go e

module _ (defs : Defs) (ev : Eval) where
  -- one node, which is entered; `ev` evaluates one level below it
  abbrev pub node : Expr → ℕ → Run
  node (val v) n = got v n
  node (slot i) n = bad wrong
  node (local i) n = bad wrong
  node (constant k) n = body_run (slice_get defs.constants k) (λ e. ev e n)
  node (one o a) n = then_run (ev a n) (λ x m. checked (takes_one defs.table o x) (after (unary defs.table o x) m))
  node (two o a b) n =
      then_run (ev a n) (λ x m. then_run (ev b m) (λ y k. checked (takes_two defs.table o x y) (after (binary o x y) k)))
  node (equal a b) n =
      then_run (ev a n) (λ x m. then_run (ev b m) (λ y k. checked (are_comparable defs.table x y) (got (bool (same_value x y)) k)))
  node (both a b) n = then_run (ev a n) (λ x m. if_true x (ev b m) (got (bool false) m))
  node (either a b) n = then_run (ev a n) (λ x m. if_true x (got (bool true) m) (ev b m))
  node (choose c a b) n = then_run (ev c n) (λ x m. if_true x (ev a m) (ev b m))
  node (apply f es) n =
      then_runs (each ev es n)
      (λ vs m. body_run (slice_get defs.functions f) (λ b. checked (have_types defs.table vs b.takes) (ev (put (filled vs) b.body) m)))
  node (build c es) n =
      then_runs (each ev es n) (λ vs m. checked (takes_fields defs.table c vs) (after (sized (cons c (packed vs))) m))
  node (let_in x a b) n = then_run (ev a n) (λ v. ev (with_local v b))

abbrev pub bool_true : Value
bool_true = bool true

module _ (defs : Defs) where
  -- the value of an expression, when `left` more levels may be entered and `n` nodes were
  abbrev pub run : ℕ → Eval
  run zero e n = bad high
  run (suc left) e n = cond (ltb n node_limit) (node defs (run left) e (suc n)) (bad long)

  abbrev pub eval : Expr → Run
  eval e = run height_limit e 0

  abbrev pub Gives : Expr → Value → Type 0
  Gives e v = (n : ℕ) × (eval e ≡ got v n)

  -- each conjunct gives True
  abbrev pub Hold : List Expr → Type 0
  Hold [] = Unit {0}
  Hold (e ∷ es) = Gives e bool_true × Hold es
