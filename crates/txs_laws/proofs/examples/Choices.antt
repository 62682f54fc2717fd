-- The menus of guards, choices and LET.
use Rattle.std.proofs.Common.{◌≡◌, [], ◌∷◌, refl}
use Rattle.txs_terms.specs.Expr.{slot, two, plus}
use Rattle.txs_terms.specs.Term.{stop, exits, guard, choice, bind, hide, hit, miss}
use Rattle.txs_terms.specs.Menu.{on, within, faulted, eval_fault, unfixed, wide, walked, walk}
use Rattle.txs_laws.proofs.examples.Words.{limits, nothing, int, pair, number, broken_number, is_so, not_so, faulty, is_number, x, y, sends, sends_of, takes, quietly, item}

-- [[ 1 == 1 ]] =>> A ! 5 >-> STOP
true_guard : walk nothing 10 pair (guard (is_so ∷ []) (sends 0 5 stop)) 0 ≡ walked 2 (item (on (0 ∷ [])) (is_number 0 5 ∷ []) stop ∷ [])
unfolding limits
true_guard = refl

-- [[ 1 == 2 ]] =>> EXIT ! 1 / 0: the body is not walked, so one node is met and nothing faults
false_guard : walk nothing 10 pair (guard (not_so ∷ []) (exits (broken_number ∷ []))) 0 ≡ walked 1 []
unfolding limits
false_guard = refl

-- [[ 1 / 0 == 1 ]] =>> A ! 5 >-> STOP
faulty_guard : walk nothing 10 pair (guard (faulty ∷ []) (sends 0 5 stop)) 0 ≡ faulted eval_fault
unfolding limits
faulty_guard = refl

-- [[ 1 == 2 /\ 1 / 0 == 1 ]] =>> A ! 5 >-> STOP
false_guard_first : walk nothing 10 pair (guard (not_so ∷ faulty ∷ []) (sends 0 5 stop)) 0 ≡ walked 1 []
unfolding limits
false_guard_first = refl

-- ---- choices

-- B ! 2 >-> STOP ## ISTEP >-> A ! 1 >-> STOP: the left side's items come first
choice_menu : walk nothing 10 pair (choice (sends 1 2 stop) (quietly (sends 0 1 stop))) 0
    ≡ walked 3 (item (on (1 ∷ [])) (is_number 0 2 ∷ []) stop ∷ item within [] (sends 0 1 stop) ∷ [])
unfolding limits
choice_menu = refl

-- STOP ## EXIT ! 1 / 0: a fault of one side is one of the choice
faulty_choice : walk nothing 10 pair (choice stop (exits (broken_number ∷ []))) 0 ≡ faulted eval_fault
unfolding limits
faulty_choice = refl

-- HIDE [H :: Int] IN H ? x >-> STOP NI ## EXIT ! 1 / 0: the first fault of the walk from left to right decides
unfixed_before_faulty : walk nothing 10 pair (choice (hide (int ∷ []) (takes 2 stop)) (exits (broken_number ∷ []))) 0 ≡ faulted unfixed
unfolding limits
unfixed_before_faulty = refl

-- HIT ## MISS
goal_menu : walk nothing 10 pair (choice hit miss) 0 ≡ walked 3 []
unfolding limits
goal_menu = refl

-- STOP ## STOP, where a path may meet one node
short_path : walk nothing 1 pair (choice stop stop) 0 ≡ faulted wide
unfolding limits
short_path = refl

-- STOP ## STOP, where all nodes but two are met
many_nodes : walk nothing 10 pair (choice stop stop) 65534 ≡ faulted wide
unfolding limits
many_nodes = refl

-- STOP ## STOP, where all nodes but three are met
last_nodes : walk nothing 10 pair (choice stop stop) 65533 ≡ walked 65536 []
unfolding limits
last_nodes = refl

-- ---- LET

-- LET x = 1; y = x + 1 IN A ! y >-> B ! x >-> STOP NI
let_menu : walk nothing 10 pair (bind (x ∷ y ∷ []) (number 1 ∷ two plus (slot 0) (number 1) ∷ []) (sends_of 0 (slot 1) (sends_of 1 (slot 0) stop))) 0
    ≡ walked 2 (item (on (0 ∷ [])) (is_number 0 2 ∷ []) (sends 1 1 stop) ∷ [])
unfolding limits
let_menu = refl

-- LET x = 1 / 0 IN STOP NI
faulty_let : walk nothing 10 pair (bind (x ∷ []) (broken_number ∷ []) stop) 0 ≡ faulted eval_fault
unfolding limits
faulty_let = refl
