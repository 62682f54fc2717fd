-- The menus of HIDE. Out is the first channel in scope, and the first channel that a HIDE binds is the next number.
use Rattle.std.proofs.Common.{◌≡◌, List, [], ◌∷◌, refl}
use Rattle.std.specs.Prelude.{pos}
use Rattle.txs_values.specs.Value.{integer, num}
use Rattle.txs_terms.specs.Expr.{Expr, slot, equal, two, plus, minus, divide, more_than}
use Rattle.txs_terms.specs.Action.{Scope}
use Rattle.txs_terms.specs.Term.{Term, give, take, stop, exits, prefix, choice, par, hide}
use Rattle.txs_terms.specs.Menu.{on, within, ending, faulted, eval_fault, unfixed, walked, walk}
use Rattle.txs_laws.proofs.examples.Words.{limits, nothing, int, number, broken_number, is_number, x, y, offer, sends, sends_of, takes, quietly, item}

abbrev out : Scope
out = int ∷ []

-- HIDE [H :: Int] IN t NI
abbrev hidden : Term → Term
hidden t = hide (int ∷ []) t

-- HIDE [H :: Int] IN H ! 5 >-> STOP |[ H ]| H ? x >-> Out ! x >-> STOP NI: the communication is an internal step
communication : walk nothing 10 out (hidden (par (1 ∷ []) (sends 1 5 stop) (takes 1 (sends_of 0 (slot 0) stop)))) 0
    ≡ walked 4 (item within [] (hidden (par (1 ∷ []) stop (sends 0 5 stop))) ∷ [])
unfolding limits
communication = refl

-- HIDE [H :: Int] IN H ! 5 >-> STOP NI: it goes alone where nothing synchronises on it
alone_inside : walk nothing 10 out (hidden (sends 1 5 stop)) 0 ≡ walked 2 (item within [] (hidden stop) ∷ [])
unfolding limits
alone_inside = refl

-- HIDE [H :: Int] IN Out ? x >-> Out ! x >-> STOP NI
visible_menu : walk nothing 10 out (hidden (takes 0 (sends_of 0 (slot 0) stop))) 0
    ≡ walked 2 (item (on (0 ∷ [])) [] (hidden (sends_of 0 (slot 0) stop)) ∷ [])
unfolding limits
visible_menu = refl

-- HIDE [H :: Int] IN H ? x >-> Out ! x >-> STOP NI
unfixed_menu : walk nothing 10 out (hidden (takes 1 (sends_of 0 (slot 0) stop))) 0 ≡ faulted unfixed
unfolding limits
unfixed_menu = refl

-- HIDE [H :: Int] IN H ? x [[ x > 3 ]] >-> STOP NI
bounded_is_unfixed : walk nothing 10 out (hidden (prefix (offer 1 (take x ∷ []) ∷ []) (two more_than (slot 0) (number 3) ∷ []) stop)) 0 ≡ faulted unfixed
unfolding limits
bounded_is_unfixed = refl

-- HIDE [H :: Int] IN H ? x [[ gs ]] >-> Out ! x >-> STOP NI
abbrev hidden_by : List Expr → Term
hidden_by gs = hidden (prefix (offer 1 (take x ∷ []) ∷ []) gs (sends_of 0 (slot 0) stop))

-- .. [[ 3 + 4 == x ]] ..: the other way round, and an expression that is evaluated
fixed_by_guard : walk nothing 10 out (hidden_by (equal (two plus (number 3) (number 4)) (slot 0) ∷ [])) 0
    ≡ walked 2 (item within [] (hidden (sends 0 7 stop)) ∷ [])
unfolding limits
fixed_by_guard = refl

-- .. [[ x > 9 /\ x == 7 ]] ..: with x fixed a conjunct is False, and there is no item
false_once_fixed : walk nothing 10 out (hidden_by (two more_than (slot 0) (number 9) ∷ is_number 0 7 ∷ [])) 0 ≡ walked 2 []
unfolding limits
false_once_fixed = refl

-- .. [[ x == 7 /\ x == 8 ]] ..: the first that fixes it decides what x is
fixed_twice : walk nothing 10 out (hidden_by (is_number 0 7 ∷ is_number 0 8 ∷ [])) 0 ≡ walked 2 []
unfolding limits
fixed_twice = refl

-- .. [[ x == 7 /\ 10 / (x - 7) > 3 ]] ..: with x fixed a conjunct faults
faulty_once_fixed : walk nothing 10 out
    (hidden_by (is_number 0 7 ∷ two more_than (two divide (number 10) (two minus (slot 0) (number 7))) (number 3) ∷ [])) 0
    ≡ faulted eval_fault
unfolding limits
faulty_once_fixed = refl

-- .. [[ x == 7 /\ x > 9 /\ 10 / (x - 7) > 3 ]] ..: the False conjunct comes before the one that faults
false_first_once_fixed : walk nothing 10 out
    (hidden_by (is_number 0 7 ∷ two more_than (slot 0) (number 9) ∷ two more_than (two divide (number 10) (two minus (slot 0) (number 7))) (number 3) ∷ [])) 0
    ≡ walked 2 []
unfolding limits
false_first_once_fixed = refl

-- .. [[ x == 1 / 0 ]] ..: what x would be faults
faulty_fixing : walk nothing 10 out (hidden_by (equal (slot 0) broken_number ∷ [])) 0 ≡ faulted eval_fault
unfolding limits
faulty_fixing = refl

-- ---- several channels

-- HIDE [H, K :: Int] IN K ? y | H ? x [[ x == y /\ y == 4 ]] >-> Out ! x + y >-> STOP NI: y is fixed first, and then x
in_turn : walk nothing 10 out
    (hide (int ∷ int ∷ [])
    (prefix (offer 2 (take y ∷ []) ∷ offer 1 (take x ∷ []) ∷ []) (equal (slot 1) (slot 0) ∷ is_number 0 4 ∷ [])
    (sends_of 0 (two plus (slot 1) (slot 0)) stop))) 0
    ≡ walked 2 (item within [] (hide (int ∷ int ∷ []) (sends_of 0 (two plus (number 4) (number 4)) stop)) ∷ [])
unfolding limits
in_turn = refl

-- HIDE [H :: Int] IN H ? y | Out ! 3 ? x [[ y == 3 + 4 /\ x > y ]] >-> Out ! y ! x >-> STOP NI, where Out has two Ints
abbrev shown_and_hidden : Term
shown_and_hidden =
    hidden
    (prefix (offer 1 (take y ∷ []) ∷ offer 0 (give (number 3) ∷ take x ∷ []) ∷ [])
    (equal (slot 0) (two plus (number 3) (number 4)) ∷ two more_than (slot 2) (slot 0) ∷ [])
    (prefix (offer 0 (give (slot 0) ∷ give (slot 2) ∷ []) ∷ []) [] stop))

-- Out!$1!$2 [[$1 == 3]] [[$2 > 7]], then HIDE [H :: Int] IN Out ! 7 ! $2 >-> STOP NI
shown_and_hidden_menu : walk nothing 10 ((integer ∷ integer ∷ []) ∷ []) shown_and_hidden 0
    ≡ walked 2 (item (on (0 ∷ [])) (is_number 0 3 ∷ two more_than (slot 1) (number 7) ∷ [])
    (hidden (prefix (offer 0 (give (number 7) ∷ give (slot 1) ∷ []) ∷ []) [] stop)) ∷ [])
unfolding limits
shown_and_hidden_menu = refl

-- HIDE [H :: Int] IN H ? y | Out ? x [[ y == x ]] >-> STOP NI: a value that comes from outside fixes nothing
fixed_by_visible : walk nothing 10 out
    (hidden (prefix (offer 1 (take y ∷ []) ∷ offer 0 (take x ∷ []) ∷ []) (equal (slot 0) (slot 1) ∷ []) stop)) 0
    ≡ faulted unfixed
unfolding limits
fixed_by_visible = refl

-- HIDE [H :: Int] IN HIDE [K :: Int] IN H ! 1 | K ! 2 >-> Out ! 3 >-> STOP NI NI: the inner HIDE shows H, and the outer one does not
nested_menu : walk nothing 10 out
    (hidden (hidden (prefix (offer 1 (give (number 1) ∷ []) ∷ offer 2 (give (number 2) ∷ []) ∷ []) [] (sends 0 3 stop)))) 0
    ≡ walked 3 (item within [] (hidden (hidden (sends 0 3 stop))) ∷ [])
unfolding limits
nested_menu = refl

-- HIDE [H :: Int] IN HIDE [K :: Int] IN K ? x >-> STOP NI ## H ! 1 >-> STOP NI: the walk ends at the inner HIDE
nested_unfixed : walk nothing 10 out (hidden (choice (hidden (takes 2 stop)) (sends 1 1 stop))) 0 ≡ faulted unfixed
unfolding limits
nested_unfixed = refl

-- ---- what is no action

-- HIDE [H :: Int] IN ISTEP >-> H ! 1 >-> STOP ## Out ! 2 >-> STOP NI
hidden_step : walk nothing 10 out (hidden (choice (quietly (sends 1 1 stop)) (sends 0 2 stop))) 0
    ≡ walked 4 (item within [] (hidden (sends 1 1 stop)) ∷ item (on (0 ∷ [])) (is_number 0 2 ∷ []) (hidden stop) ∷ [])
unfolding limits
hidden_step = refl

-- HIDE [H :: Int] IN EXIT ! 5 NI: after the exit nothing is hidden
hidden_exit : walk nothing 10 out (hidden (exits (number 5 ∷ []))) 0 ≡ walked 2 (item (ending (num (pos 5) ∷ [])) [] stop ∷ [])
unfolding limits
hidden_exit = refl
