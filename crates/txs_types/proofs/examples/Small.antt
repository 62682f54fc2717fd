-- Small files and queries: what they mean, or what offends in them and where.
use Rattle.std.proofs.Common.{◌≡◌, ℕ, zero, suc, Bool, true, false, ◌&&◌, not, ap, List, [], ◌∷◌, codes, Some, None, refl, inl, inr, ◌∙◌, true≢false, arith}
use Rattle.std.specs.Prelude.{pos, eqb}
use Rattle.txs_values.specs.Value.{Ty, integer, truth, string, named, num, text}
use Rattle.txs_terms.specs.Expr.{Expr, none, more, val, slot, local, one, two, equal, choose, apply, from_text, minus}
use Rattle.txs_terms.specs.Defs.{Definitions}
use Rattle.txs_syntax.specs.declared.ast.Name.{Name}
use Rattle.txs_syntax.specs.declared.ast.Op.TheVariants as op
use Rattle.txs_syntax.specs.declared.ast.Ast.{Ast}
use Rattle.txs_syntax.specs.declared.ast.Binding.{Binding}
use Rattle.txs_syntax.specs.declared.ast.Ast.TheVariants as tree
use Rattle.txs_syntax.specs.declared.file.File.{File}
use Rattle.txs_syntax.specs.declared.file.Def.TheVariants as def
use Rattle.txs_syntax.specs.declared.file.DeclList.{DeclList}
use Rattle.txs_typing.proofs.trees.Folds.{fold_number, fold_text, fold_if, fold_name, fold_call, fold_binary, fold_group, fold_let, fold_negate}
use Rattle.txs_typing.specs.Names.{Scope, Fits, anything, inside, scope_over}
use Rattle.txs_typing.specs.Elaborates.{outside_step, from_outside, right_first, Elaborates, number, quoted, name, call, operated, compared, compared_back, chosen, nothing, one_more, equal_comparison, minus_operator, plus_operator, function_made, from_string_made}
use Rattle.txs_typing.specs.Offends.{start, start_step, keeps_need_step, twice, unknown, arity, mismatch, empty_type, Offends, Shows, stands, as_anything, else_branch, unknown_name, wrong_number, other_type, from_nowhere, grouped}
use Rattle.txs_types.specs.Files.{scope_in, FileOffends, here, further, twice_type, twice_name, twice_parameter, unknown_type, no_value, in_constant, IsMeant, a_function, no_function, no_constant, function_between}

abbrev pub word : ℕ → List ℕ → Name
word at x = record { at = at; text = x }

abbrev pub digit : ℕ → ℕ → Ast
digit at n = tree.Number at (pos n)

-- FUNCDEF f ( n :: Int ) :: Int ::= IF n == 0 THEN 0 ELSE f(n - 1) FI ENDDEF
abbrev pub n_is_int : DeclList
n_is_int = record { decls = record { names = word 12 (codes "n") ∷ []; ty = word 17 (codes "Int") } ∷ [] }

abbrev pub less_one : Ast
less_one = tree.Binary op.Minus (tree.Name (word 58 (codes "n"))) (digit 62 1)

abbrev pub n_is_zero : Ast
n_is_zero = tree.Binary op.Equal (tree.Name (word 37 (codes "n"))) (digit 42 0)

abbrev pub f_again : Ast
f_again = tree.Call (word 56 (codes "f")) (less_one ∷ [])

abbrev pub body_of_f : Ast
body_of_f = tree.If 34 n_is_zero (digit 49 0) f_again

abbrev pub f_file : File
f_file = record { defs = def.FuncDef (word 8 (codes "f")) n_is_int (word 26 (codes "Int")) body_of_f ∷ [] }

abbrev zero_value : Expr
zero_value = val (num (pos 0))

abbrev pub f_meant : Definitions
f_meant = record {
  table = [];
  functions = record {
    name = codes "f";
    takes = integer ∷ [];
    gives = integer;
    body = choose (equal (slot 0) zero_value) zero_value (apply 0 (more (two minus (slot 0) (val (num (pos 1)))) none));
  } ∷ [];
  constants = [];
}

left_first : right_first (tree.Name (word 37 (codes "n"))) (digit 42 0) ≡ false
left_first = ap (λ b. b && not (from_outside (digit 42 0))) (fold_name Bool outside_step (word 37 (codes "n")))

pub f_is_meant : IsMeant f_file f_meant
f_is_meant = record {
  table = refl;
  functions = a_function
      (chosen n_is_zero (digit 49 0) f_again
      (compared (tree.Name (word 37 (codes "n"))) (digit 42 0) equal_comparison left_first (name refl tt) (number (inl refl)) (inl refl))
      (number (inl refl))
      (call (less_one ∷ []) refl (one_more (operated (tree.Name (word 58 (codes "n"))) (digit 62 1) minus_operator (name refl (inl refl)) (number (inl refl)) (inl refl)) nothing) (function_made (Some integer) 0 (integer ∷ []) integer _) (inl refl)))
      no_function;
  constants = function_between no_constant;
}

-- ---- queries over no definitions

abbrev bare : Scope
bare = scope_over (record { table = []; functions = []; constants = [] }) []

-- fromString("1")
abbrev one_read : Ast
one_read = tree.Call (word 0 (codes "fromString")) (tree.Text 11 (codes "1") ∷ [])

reads_back : right_first one_read (digit 19 2) ≡ true
reads_back =
    ap (λ b. b && not (from_outside (digit 19 2))) (fold_call Bool outside_step (word 0 (codes "fromString")) (tree.Text 11 (codes "1") ∷ []))
    ∙ ap not (fold_number Bool outside_step 19 (pos 2))

-- fromString("1") == 2: the left side is needed at the type of the right one
read_and_compared : Elaborates bare None (tree.Binary op.Equal one_read (digit 19 2))
    (equal (one (from_text integer) (val (text (codes "1")))) (val (num (pos 2)))) truth
read_and_compared =
    compared_back one_read (digit 19 2) equal_comparison reads_back (number tt)
    (call (tree.Text 11 (codes "1") ∷ []) refl (one_more (quoted (inl refl)) nothing) (from_string_made integer (val (text (codes "1")))) (inl refl)) tt

-- which trees can be typed from outside alone: LET by its body, IF by its THEN branch
abbrev x_name : Name
x_name = word 4 (codes "x")

abbrev one_bound : Ast → List Binding
one_bound a = record { name = x_name; value = a } ∷ []

abbrev yes : Ast
yes = tree.Name (word 3 (codes "True"))

read_is_outside : from_outside one_read ≡ true
read_is_outside = fold_call Bool outside_step (word 0 (codes "fromString")) (tree.Text 11 (codes "1") ∷ [])

digit_is_inside : (at n : ℕ) → from_outside (digit at n) ≡ false
digit_is_inside at n = fold_number Bool outside_step at (pos n)

group_is_outside : from_outside (tree.Group 0 one_read) ≡ true
group_is_outside = fold_group Bool outside_step 0 one_read ∙ read_is_outside

let_is_outside : from_outside (tree.Let 0 (one_bound (digit 8 1)) one_read) ≡ true
let_is_outside = fold_let Bool outside_step 0 (one_bound (digit 8 1)) one_read ∙ read_is_outside

let_is_inside : from_outside (tree.Let 0 (one_bound one_read) (digit 30 1)) ≡ false
let_is_inside = fold_let Bool outside_step 0 (one_bound one_read) (digit 30 1) ∙ digit_is_inside 30 1

if_is_outside : from_outside (tree.If 0 yes one_read (digit 30 1)) ≡ true
if_is_outside = fold_if Bool outside_step 0 yes one_read (digit 30 1) ∙ read_is_outside

if_is_inside : from_outside (tree.If 0 yes (digit 13 1) one_read) ≡ false
if_is_inside = fold_if Bool outside_step 0 yes (digit 13 1) one_read ∙ digit_is_inside 13 1

-- fromString("1") alone
read_from_nowhere : Offends bare None one_read (mismatch 0)
read_from_nowhere =
    stands (fold_call ℕ start_step (word 0 (codes "fromString")) (tree.Text 11 (codes "1") ∷ []))
    (from_nowhere (tree.Text 11 (codes "1") ∷ []) refl (one_more (quoted (inl refl)) nothing))

-- x
x_is_unknown : Offends bare None (tree.Name (word 0 (codes "x"))) (unknown 0)
x_is_unknown = stands (fold_name ℕ start_step (word 0 (codes "x"))) (unknown_name refl)

-- len()
none_is_not_one : zero ≡ suc zero → ⊥
none_is_not_one p = true≢false (ap (λ n. eqb n 0) p)

len_of_nothing : Offends bare None (tree.Call (word 0 (codes "len")) []) (arity 0)
len_of_nothing = stands (fold_call ℕ start_step (word 0 (codes "len")) []) (wrong_number [] refl none_is_not_one)

-- ---- files

-- CONSTDEF c :: Bool ::= (1 + 2) ENDDEF
abbrev sum : Ast
sum = tree.Binary op.Plus (digit 24 1) (digit 28 2)

abbrev c_file : File
c_file = record { defs = def.ConstDef (word 9 (codes "c")) (word 14 (codes "Bool")) (tree.Group 23 sum) ∷ [] }

abbrev is_truth : Ty → Bool
is_truth integer = false
is_truth truth = true
is_truth string = false
is_truth (named k) = false

abbrev is_integer : Ty → Bool
is_integer integer = true
is_integer truth = false
is_integer string = false
is_integer (named k) = false

truth_is_not_integer : truth ≡ integer → ⊥
truth_is_not_integer p = true≢false (ap is_truth p)

not_fitting : Fits (scope_in c_file []) truth integer → ⊥
not_fitting (inl p) = truth_is_not_integer p
not_fitting (inr (inl p)) = p
not_fitting (inr (inr p)) = p

sum_is_no_truth : FileOffends c_file (mismatch 23)
sum_is_no_truth =
    in_constant 0 refl (stands (fold_group ℕ start_step 23 sum)
    (grouped sum (other_type sum (fold_binary Bool keeps_need_step op.Plus (digit 24 1) (digit 28 2))
    (operated (digit 24 1) (digit 28 2) plus_operator (number (inl refl)) (number (inl refl)) tt) not_fitting)))

-- the first tokens of (1) + 2, of - 1 and of LET x = 1 IN 2 NI
start_of_sum : start (tree.Binary op.Plus (tree.Group 23 (digit 24 1)) (digit 29 2)) ≡ 23
start_of_sum = fold_binary ℕ start_step op.Plus (tree.Group 23 (digit 24 1)) (digit 29 2) ∙ fold_group ℕ start_step 23 (digit 24 1)

start_of_negation : start (tree.Negate 5 (digit 7 1)) ≡ 5
start_of_negation = fold_negate ℕ start_step 5 (digit 7 1)

start_of_let : start (tree.Let 5 (one_bound (digit 13 1)) (digit 18 2)) ≡ 5
start_of_let = fold_let ℕ start_step 5 (one_bound (digit 13 1)) (digit 18 2)

-- TYPEDEF Int ::= C ENDDEF
abbrev int_file : File
int_file = record { defs = def.TypeDef (word 8 (codes "Int")) (record { name = word 16 (codes "C"); fields = record { decls = [] } } ∷ []) ∷ [] }

int_is_there : FileOffends int_file (twice 8)
int_is_there = twice_type (here refl)

-- TYPEDEF T ::= C { t :: T } ENDDEF, and the same with U for the type of t
abbrev t_file : Name → File
t_file u = record {
  defs = def.TypeDef (word 8 (codes "T")) (record {
    name = word 14 (codes "C");
    fields = record { decls = record { names = word 18 (codes "t") ∷ []; ty = u } ∷ [] };
  } ∷ []) ∷ [];
}

t_is_empty : FileOffends (t_file (word 23 (codes "T"))) (empty_type 8)
t_is_empty = no_value 0 refl refl

u_is_unknown : FileOffends (t_file (word 23 (codes "U"))) (unknown 23)
u_is_unknown = unknown_type 0 0 refl refl refl

-- TYPEDEF T ::= C ENDDEF CONSTDEF isC :: Int ::= 1 ENDDEF
abbrev test_file : File
test_file = record {
  defs = def.TypeDef (word 8 (codes "T")) (record { name = word 14 (codes "C"); fields = record { decls = [] } } ∷ [])
      ∷ def.ConstDef (word 32 (codes "isC")) (word 39 (codes "Int")) (digit 47 1) ∷ [];
}

test_is_there : FileOffends test_file (twice 32)
test_is_there = twice_name (further (further (here refl)))

-- FUNCDEF g ( n , n :: Int ) :: Int ::= 1 ENDDEF
abbrev two_of_n : DeclList
two_of_n = record { decls = record { names = word 12 (codes "n") ∷ word 16 (codes "n") ∷ []; ty = word 21 (codes "Int") } ∷ [] }

abbrev g_file : File
g_file = record { defs = def.FuncDef (word 8 (codes "g")) two_of_n (word 30 (codes "Int")) (digit 38 1) ∷ [] }

n_is_there : FileOffends g_file (twice 16)
n_is_there = twice_parameter 0 refl (further (here refl))

-- IF True THEN 1 ELSE "x" FI, where Int is needed: the branch offends
abbrev x_text : Ast
x_text = tree.Text 20 (codes "x")

integer_is_not_string : integer ≡ string → ⊥
integer_is_not_string p = true≢false (ap is_integer p)

integer_fits_no_string : Fits bare integer string → ⊥
integer_fits_no_string (inl p) = integer_is_not_string p
integer_fits_no_string (inr (inl p)) = p
integer_fits_no_string (inr (inr p)) = p

branch_offends : Offends bare (Some integer) (tree.If 0 (tree.Name (word 3 (codes "True"))) (digit 13 1) x_text) (mismatch 20)
branch_offends =
    stands (fold_if ℕ start_step 0 (tree.Name (word 3 (codes "True"))) (digit 13 1) x_text)
    (else_branch (tree.Name (word 3 (codes "True"))) (digit 13 1) x_text
    (stands (fold_text ℕ start_step 20 (codes "x")) (other_type x_text (fold_text Bool keeps_need_step 20 (codes "x")) (quoted tt) integer_fits_no_string)))

-- LET x = y IN - x NI: y offends, and so x stands where Int is needed
y_offends : Shows bare (tree.Name (word 8 (codes "y"))) (anything bare)
y_offends = as_anything (stands (fold_name ℕ start_step (word 8 (codes "y"))) (unknown_name refl))

x_fits : Elaborates (inside bare (codes "x") (anything bare)) (Some integer) (tree.Name (word 13 (codes "x"))) (local 0) (anything bare)
x_fits = name refl (inr (inr (omega arith)))
