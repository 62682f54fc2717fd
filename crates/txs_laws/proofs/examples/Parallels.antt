-- The menus of parallel behaviours.
use Rattle.std.proofs.Common.{◌≡◌, [], ◌∷◌, refl}
use Rattle.std.specs.Prelude.{pos}
use Rattle.txs_values.specs.Value.{num}
use Rattle.txs_terms.specs.Expr.{slot, two, more_than}
use Rattle.txs_terms.specs.Action.{Scope}
use Rattle.txs_terms.specs.Term.{Term, give, take, stop, exits, prefix, choice, par}
use Rattle.txs_terms.specs.Menu.{on, within, ending, faulted, eval_fault, walked, walk}
use Rattle.txs_laws.proofs.examples.Words.{limits, nothing, int, number, broken_number, is_number, x, y, offer, sends, sends_of, takes, quietly, item}

-- the channels A, B and G
abbrev three : Scope
three = int ∷ int ∷ int ∷ []

-- A ! 1 >-> STOP |[ G ]| B ! 2 >-> STOP: each side alone
alone_menu : walk nothing 10 three (par (2 ∷ []) (sends 0 1 stop) (sends 1 2 stop)) 0
    ≡ walked 3 (item (on (0 ∷ [])) (is_number 0 1 ∷ []) (par (2 ∷ []) stop (sends 1 2 stop))
    ∷ item (on (1 ∷ [])) (is_number 0 2 ∷ []) (par (2 ∷ []) (sends 0 1 stop) stop) ∷ [])
unfolding limits
alone_menu = refl

-- A ? x >-> STOP |[ G ]| G ? y >-> B ! y >-> STOP: beside an item of one slot the other side's y is its second
beside_menu : walk nothing 10 three (par (2 ∷ []) (takes 0 stop) (takes 2 (sends_of 1 (slot 0) stop))) 0
    ≡ walked 3 (item (on (0 ∷ [])) [] (par (2 ∷ []) stop (takes 2 (sends_of 1 (slot 1) stop))) ∷ [])
unfolding limits
beside_menu = refl

-- ISTEP >-> STOP |[ G ]| ISTEP >-> B ! 2 >-> STOP: internal steps are never joined
inner_menu : walk nothing 10 three (par (2 ∷ []) (quietly stop) (quietly (sends 1 2 stop))) 0
    ≡ walked 3 (item within [] (par (2 ∷ []) stop (quietly (sends 1 2 stop))) ∷ item within [] (par (2 ∷ []) (quietly stop) (sends 1 2 stop)) ∷ [])
unfolding limits
inner_menu = refl

-- G ! 1 >-> STOP |[ G ]| STOP: a gate does not go alone
gate_menu : walk nothing 10 three (par (2 ∷ []) (sends 2 1 stop) stop) 0 ≡ walked 3 []
unfolding limits
gate_menu = refl

-- G ! 1 >-> STOP |[ G ]| G ? y >-> B ! y >-> STOP
joined_menu : walk nothing 10 three (par (2 ∷ []) (sends 2 1 stop) (takes 2 (sends_of 1 (slot 0) stop))) 0
    ≡ walked 3 (item (on (2 ∷ [])) (is_number 0 1 ∷ []) (par (2 ∷ []) stop (sends_of 1 (slot 0) stop)) ∷ [])
unfolding limits
joined_menu = refl

-- G ! 1 >-> STOP |[ G ]| G ! 2 >-> STOP: an item that no value meets, with the left's guards before the right's
different_values : walk nothing 10 three (par (2 ∷ []) (sends 2 1 stop) (sends 2 2 stop)) 0
    ≡ walked 3 (item (on (2 ∷ [])) (is_number 0 1 ∷ is_number 0 2 ∷ []) (par (2 ∷ []) stop stop) ∷ [])
unfolding limits
different_values = refl

-- G ! 1 | A ? x [[ x > 1 ]] >-> EXIT ! x |[ G ]| B ? x | G ? y [[ x > y ]] >-> EXIT ! x: all three channels at once
abbrev wide_join : Term
wide_join =
    par (2 ∷ [])
    (prefix (offer 2 (give (number 1) ∷ []) ∷ offer 0 (take x ∷ []) ∷ []) (two more_than (slot 1) (number 1) ∷ []) (exits (slot 1 ∷ [])))
    (prefix (offer 1 (take x ∷ []) ∷ offer 2 (take y ∷ []) ∷ []) (two more_than (slot 0) (slot 1) ∷ []) (exits (slot 0 ∷ [])))

-- A!$1 B!$2 G!$3 [[$3 == 1]] [[$1 > 1]] [[$2 > $3]], then EXIT ! $1 |[ G ]| EXIT ! $2
wide_join_menu : walk nothing 10 three wide_join 0
    ≡ walked 3 (item (on (0 ∷ 1 ∷ 2 ∷ [])) (is_number 2 1 ∷ two more_than (slot 0) (number 1) ∷ two more_than (slot 1) (slot 2) ∷ [])
    (par (2 ∷ []) (exits (slot 0 ∷ [])) (exits (slot 1 ∷ []))) ∷ [])
unfolding limits
wide_join_menu = refl

-- A ! 1 | G ! 1 >-> STOP |[ G ]| A ! 1 | G ! 1 >-> STOP: a channel that is no gate is not shared
shared_channel : walk nothing 10 three
    (par (2 ∷ []) (prefix (offer 0 (give (number 1) ∷ []) ∷ offer 2 (give (number 1) ∷ []) ∷ []) [] stop)
    (prefix (offer 0 (give (number 1) ∷ []) ∷ offer 2 (give (number 1) ∷ []) ∷ []) [] stop)) 0
    ≡ walked 3 []
unfolding limits
shared_channel = refl

-- B ! 1 | G ! 1 >-> STOP |[ B, G ]| G ! 1 >-> STOP: the gates of both actions must be the same
other_gates : walk nothing 10 three
    (par (1 ∷ 2 ∷ []) (prefix (offer 1 (give (number 1) ∷ []) ∷ offer 2 (give (number 1) ∷ []) ∷ []) [] stop) (sends 2 1 stop)) 0
    ≡ walked 3 []
unfolding limits
other_gates = refl

-- (G ! 1 >-> STOP ## A ! 2 >-> STOP ## G ! 3 >-> STOP) |[ G ]| (G ? x >-> STOP ## B ! 4 >-> STOP ## G ? x >-> B ! x >-> STOP)
abbrev left_side : Term
left_side = choice (sends 2 1 stop) (choice (sends 0 2 stop) (sends 2 3 stop))

abbrev right_side : Term
right_side = choice (takes 2 stop) (choice (sends 1 4 stop) (takes 2 (sends_of 1 (slot 0) stop)))

-- the right side where it stands beside an item of one slot
abbrev right_beside : Term
right_beside = choice (takes 2 stop) (choice (sends 1 4 stop) (takes 2 (sends_of 1 (slot 1) stop)))

-- the left alone, the right alone, and then the joined pairs with the left as the outer loop
order_menu : walk nothing 10 three (par (2 ∷ []) left_side right_side) 0
    ≡ walked 11 (item (on (0 ∷ [])) (is_number 0 2 ∷ []) (par (2 ∷ []) stop right_beside)
    ∷ item (on (1 ∷ [])) (is_number 0 4 ∷ []) (par (2 ∷ []) left_side stop)
    ∷ item (on (2 ∷ [])) (is_number 0 1 ∷ []) (par (2 ∷ []) stop stop)
    ∷ item (on (2 ∷ [])) (is_number 0 1 ∷ []) (par (2 ∷ []) stop (sends_of 1 (slot 0) stop))
    ∷ item (on (2 ∷ [])) (is_number 0 3 ∷ []) (par (2 ∷ []) stop stop)
    ∷ item (on (2 ∷ [])) (is_number 0 3 ∷ []) (par (2 ∷ []) stop (sends_of 1 (slot 0) stop)) ∷ [])
unfolding limits
order_menu = refl

-- A ! 1 >-> STOP ||| A ? x >-> STOP: nothing is joined
interleaved_menu : walk nothing 10 three (par [] (sends 0 1 stop) (takes 0 stop)) 0
    ≡ walked 3 (item (on (0 ∷ [])) (is_number 0 1 ∷ []) (par [] stop (takes 0 stop)) ∷ item (on (0 ∷ [])) [] (par [] (sends 0 1 stop) stop) ∷ [])
unfolding limits
interleaved_menu = refl

-- A ! 1 >-> STOP || A ? x >-> STOP: everything is joined
synchronous_menu : walk nothing 10 three (par (0 ∷ 1 ∷ 2 ∷ []) (sends 0 1 stop) (takes 0 stop)) 0
    ≡ walked 3 (item (on (0 ∷ [])) (is_number 0 1 ∷ []) (par (0 ∷ 1 ∷ 2 ∷ []) stop stop) ∷ [])
unfolding limits
synchronous_menu = refl

-- ---- exits

-- EXIT ! 1 ||| EXIT ! 1
joined_exits : walk nothing 10 three (par [] (exits (number 1 ∷ [])) (exits (number 1 ∷ []))) 0
    ≡ walked 3 (item (ending (num (pos 1) ∷ [])) [] stop ∷ [])
unfolding limits
joined_exits = refl

-- EXIT ! 1 |[ G ]| EXIT ! 2
different_exits : walk nothing 10 three (par (2 ∷ []) (exits (number 1 ∷ [])) (exits (number 2 ∷ []))) 0 ≡ walked 3 []
unfolding limits
different_exits = refl

-- EXIT ||| A ! 1 >-> EXIT: an exit does not go alone
one_exit : walk nothing 10 three (par [] (exits []) (sends 0 1 (exits []))) 0
    ≡ walked 3 (item (on (0 ∷ [])) (is_number 0 1 ∷ []) (par [] (exits []) (exits [])) ∷ [])
unfolding limits
one_exit = refl

-- STOP ||| EXIT ! 1 / 0
faulty_side : walk nothing 10 three (par [] stop (exits (broken_number ∷ []))) 0 ≡ faulted eval_fault
unfolding limits
faulty_side = refl
