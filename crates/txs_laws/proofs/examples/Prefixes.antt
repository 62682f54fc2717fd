-- The menus of prefixes, ISTEP and EXIT.
use Rattle.std.proofs.Common.{◌≡◌, List, [], ◌∷◌, refl}
use Rattle.std.specs.Prelude.{pos}
use Rattle.txs_values.specs.Value.{integer, num}
use Rattle.txs_terms.specs.Expr.{Expr, slot, two, plus, less_than, more_than}
use Rattle.txs_terms.specs.Action.{Scope}
use Rattle.txs_terms.specs.Term.{Term, give, take, stop, exits, prefix, step}
use Rattle.txs_terms.specs.Menu.{on, within, ending, faulted, eval_fault, walked, walk}
use Rattle.txs_laws.proofs.examples.Words.{limits, nothing, int, pair, number, broken_number, is_so, not_so, faulty, is_number, x, y, offer, item}

-- the channel A has two Ints, and B has one
abbrev two_and_one : Scope
two_and_one = (integer ∷ integer ∷ []) ∷ int ∷ []

-- A ! 1 + 1 ? x [[ x > 5 ]] >-> EXIT ! x
abbrev gives_and_takes : Term
gives_and_takes = prefix (offer 0 (give (two plus (number 1) (number 1)) ∷ take x ∷ []) ∷ []) (two more_than (slot 1) (number 5) ∷ []) (exits (slot 1 ∷ []))

-- A!$1!$2 [[$1 == 2]] [[$2 > 5]], then EXIT ! $2
gives_and_takes_menu : walk nothing 10 two_and_one gives_and_takes 0
    ≡ walked 1 (item (on (0 ∷ [])) (is_number 0 2 ∷ two more_than (slot 1) (number 5) ∷ []) (exits (slot 1 ∷ [])) ∷ [])
unfolding limits
gives_and_takes_menu = refl

-- B ? x | A ? y ! 7 [[ x < y ]] >-> EXIT ! x ! y: the action has A before B, and so have the slots
abbrev descending : Term
descending =
    prefix (offer 1 (take x ∷ []) ∷ offer 0 (take y ∷ give (number 7) ∷ []) ∷ []) (two less_than (slot 0) (slot 1) ∷ [])
    (exits (slot 0 ∷ slot 1 ∷ []))

-- A!$1!$2 B!$3 [[$2 == 7]] [[$3 < $1]], then EXIT ! $3 ! $1
descending_menu : walk nothing 10 two_and_one descending 0
    ≡ walked 1 (item (on (0 ∷ 1 ∷ [])) (is_number 1 7 ∷ two less_than (slot 2) (slot 0) ∷ []) (exits (slot 2 ∷ slot 0 ∷ [])) ∷ [])
unfolding limits
descending_menu = refl

-- Tick >-> STOP, where Tick has no values
signal_menu : walk nothing 10 ([] ∷ []) (prefix (offer 0 [] ∷ []) [] stop) 0 ≡ walked 1 (item (on (0 ∷ [])) [] stop ∷ [])
unfolding limits
signal_menu = refl

abbrev guarded_by : List Expr → Term
guarded_by gs = prefix (offer 1 (take x ∷ []) ∷ []) gs stop

-- B ? x [[ x > 5 /\ 1 == 1 ]] >-> STOP: what is True without x goes
true_conjunct : walk nothing 10 two_and_one (guarded_by (two more_than (slot 0) (number 5) ∷ is_so ∷ [])) 0
    ≡ walked 1 (item (on (1 ∷ [])) (two more_than (slot 0) (number 5) ∷ []) stop ∷ [])
unfolding limits
true_conjunct = refl

-- B ? x [[ x > 5 /\ 1 == 2 ]] >-> STOP: no item
false_conjunct : walk nothing 10 two_and_one (guarded_by (two more_than (slot 0) (number 5) ∷ not_so ∷ [])) 0 ≡ walked 1 []
unfolding limits
false_conjunct = refl

-- B ? x [[ x > 5 /\ 1 / 0 == 1 ]] >-> STOP
faulty_conjunct : walk nothing 10 two_and_one (guarded_by (two more_than (slot 0) (number 5) ∷ faulty ∷ [])) 0 ≡ faulted eval_fault
unfolding limits
faulty_conjunct = refl

-- B ? x [[ 1 == 2 /\ 1 / 0 == 1 ]] >-> STOP: the first that is False or faults decides
false_before_faulty : walk nothing 10 two_and_one (guarded_by (not_so ∷ faulty ∷ [])) 0 ≡ walked 1 []
unfolding limits
false_before_faulty = refl

-- B ? x [[ 1 / 0 == 1 /\ 1 == 2 ]] >-> STOP
faulty_before_false : walk nothing 10 two_and_one (guarded_by (faulty ∷ not_so ∷ [])) 0 ≡ faulted eval_fault
unfolding limits
faulty_before_false = refl

-- B ! 1 / 0 [[ 1 == 2 ]] >-> STOP: what is given is evaluated before the guard
faulty_giving : walk nothing 10 two_and_one (prefix (offer 1 (give broken_number ∷ []) ∷ []) (not_so ∷ []) stop) 0 ≡ faulted eval_fault
unfolding limits
faulty_giving = refl

-- ---- ISTEP and EXIT

-- ISTEP [[ 1 == 1 ]] >-> EXIT ! 1 / 0: what follows is not evaluated
step_menu : walk nothing 10 pair (step (is_so ∷ []) (exits (broken_number ∷ []))) 0 ≡ walked 1 (item within [] (exits (broken_number ∷ [])) ∷ [])
unfolding limits
step_menu = refl

-- ISTEP [[ 1 == 2 ]] >-> STOP
false_step : walk nothing 10 pair (step (not_so ∷ []) stop) 0 ≡ walked 1 []
unfolding limits
false_step = refl

-- ISTEP [[ 1 / 0 == 1 ]] >-> STOP
faulty_step : walk nothing 10 pair (step (faulty ∷ []) stop) 0 ≡ faulted eval_fault
unfolding limits
faulty_step = refl

-- EXIT ! 1 + 1 ! 5
exit_menu : walk nothing 10 pair (exits (two plus (number 1) (number 1) ∷ number 5 ∷ [])) 0
    ≡ walked 1 (item (ending (num (pos 2) ∷ num (pos 5) ∷ [])) [] stop ∷ [])
unfolding limits
exit_menu = refl

-- EXIT ! 1 / 0
faulty_exit : walk nothing 10 pair (exits (broken_number ∷ [])) 0 ≡ faulted eval_fault
unfolding limits
faulty_exit = refl

-- STOP
stop_menu : walk nothing 10 pair stop 0 ≡ walked 1 []
unfolding limits
stop_menu = refl
