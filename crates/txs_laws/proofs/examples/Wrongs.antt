-- Each way in which an evaluation is wrong, and beside it what is no such way.
--
--   TYPEDEF L ::= Nil | Cell { hd :: Int; tl :: L } ENDDEF
--   TYPEDEF C ::= Red | Green ENDDEF
--   FUNCDEF twice (x :: Int) :: Int ::= x + x ENDDEF
use Rattle.std.proofs.Common.{refl}
use Rattle.std.specs.Prelude.{◌≡◌, ℕ, true, false, List, [], ◌∷◌, pos, codes}
use Rattle.txs_values.specs.Value.{Ty, num, bool, cons, no_value, integer, named, Field, Constructor, Table}
use Rattle.txs_terms.specs.Expr.{Expr, Exprs, is_made_by, select, plus, differ, val, slot, one, two, equal, apply, build, none, more}
use Rattle.txs_terms.specs.Eval.{Defs, Run, got, bad, wrong, selector, run}
use Rattle.txs_terms.specs.Under.{parameters, run_bare}
use Rattle.txs_laws.proofs.examples.Words.{limits, number}

abbrev field : List ℕ → Ty → Field
field name t = record { name = name; ty = t }

abbrev plain : List ℕ → Constructor
plain name = record { name = name; fields = [] }

-- Nil is 0, Cell is 1, Red is 2 and Green is 3
abbrev table : Table
table =
    record {
      name = codes "L";
      constructors = plain (codes "Nil") ∷ record { name = codes "Cell"; fields = field (codes "hd") integer ∷ field (codes "tl") (named 0) ∷ [] } ∷ [];
    }
    ∷ record { name = codes "C"; constructors = plain (codes "Red") ∷ plain (codes "Green") ∷ [] } ∷ []

abbrev defs : Defs
defs = record { table = table; functions = record { takes = integer ∷ []; body = two plus (slot 0) (slot 0) } ∷ []; constants = [] }

abbrev ends : Expr → Run
ends e = run defs 4 e 0

abbrev nil : Expr
nil = val (cons 0 no_value)

abbrev red : Expr
red = val (cons 2 no_value)

abbrev green : Expr
green = val (cons 3 no_value)

abbrev true_one : Expr
true_one = val (bool true)

abbrev pair : Expr → Expr → Exprs
pair a b = more a (more b none)

abbrev alone : Expr → Exprs
alone a = more a none

-- ---- tests and selectors

-- isNil(Red)
test_of_another_type : ends (one (is_made_by 0) red) ≡ bad wrong
unfolding limits
test_of_another_type = refl

-- isCell(Nil)
test_of_its_type : ends (one (is_made_by 1) nil) ≡ got (bool false) 2
unfolding limits
test_of_its_type = refl

-- hd(Red)
selector_of_another_type : ends (one (select 1 0) red) ≡ bad wrong
unfolding limits
selector_of_another_type = refl

-- hd(Nil)
selector_of_its_type : ends (one (select 1 0) nil) ≡ bad selector
unfolding limits
selector_of_its_type = refl

-- ---- two sides

-- 1 == True
equal_of_two_types : ends (equal (number 1) true_one) ≡ bad wrong
unfolding limits
equal_of_two_types = refl

-- Nil == Red
equal_of_two_named_types : ends (equal nil red) ≡ bad wrong
unfolding limits
equal_of_two_named_types = refl

-- Red == Green
equal_of_one_type : ends (equal red green) ≡ got (bool false) 3
unfolding limits
equal_of_one_type = refl

-- 1 <> True
differ_of_two_types : ends (two differ (number 1) true_one) ≡ bad wrong
unfolding limits
differ_of_two_types = refl

-- Red <> Green
differ_of_one_type : ends (two differ red green) ≡ got (bool true) 3
unfolding limits
differ_of_one_type = refl

-- 1 + True
sum_of_two_types : ends (two plus (number 1) true_one) ≡ bad wrong
unfolding limits
sum_of_two_types = refl

-- ---- constructors

-- Cell(1)
too_few_fields : ends (build 1 (alone (number 1))) ≡ bad wrong
unfolding limits
too_few_fields = refl

-- Nil(1)
too_many_fields : ends (build 0 (alone (number 1))) ≡ bad wrong
unfolding limits
too_many_fields = refl

-- Cell(1, Red)
field_of_another_type : ends (build 1 (pair (number 1) red)) ≡ bad wrong
unfolding limits
field_of_another_type = refl

-- no constructor has this number
no_constructor : ends (build 4 none) ≡ bad wrong
unfolding limits
no_constructor = refl

-- ---- functions

-- twice()
too_few_arguments : ends (apply 0 none) ≡ bad wrong
unfolding limits
too_few_arguments = refl

-- twice(1, 2)
too_many_arguments : ends (apply 0 (pair (number 1) (number 2))) ≡ bad wrong
unfolding limits
too_many_arguments = refl

-- twice(True)
argument_of_another_type : ends (apply 0 (alone true_one)) ≡ bad wrong
unfolding limits
argument_of_another_type = refl

-- twice(2)
argument_of_its_type : ends (apply 0 (alone (number 2))) ≡ got (num (pos 4)) 5
unfolding limits
argument_of_its_type = refl

-- no function has this number
no_function : ends (apply 1 none) ≡ bad wrong
unfolding limits
no_function = refl

-- ---- the bare evaluation, which does not look

-- 1 == True
bare_equal : run_bare defs 4 (parameters []) (equal (number 1) true_one) 0 ≡ got (bool false) 3
unfolding limits
bare_equal = refl

-- twice(1, 2)
bare_arguments : run_bare defs 4 (parameters []) (apply 0 (pair (number 1) (number 2))) 0 ≡ got (num (pos 2)) 6
unfolding limits
bare_arguments = refl
