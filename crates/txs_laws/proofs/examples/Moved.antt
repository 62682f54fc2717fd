-- Sets that an action moves, on the channels In and Out.
use Rattle.std.proofs.Common.{inl, inr, List, [], ◌∷◌, Some, None, refl}
use Rattle.txs_terms.specs.Expr.{slot, two, divide, more_than}
use Rattle.txs_terms.specs.Term.{Term, take, stop, prefix}
use Rattle.txs_terms.specs.Menu.{on}
use Rattle.txs_terms.specs.Close.{MovesTo, faults_somewhere, moves_to}
use Rattle.txs_laws.proofs.examples.Steps.{Member, member, AreMembers, moves_of, new}
use Rattle.txs_laws.proofs.examples.Words.{limits, nothing, pair, number, is_number, x, offer, sends, sends_of, takes, item, does}

-- Out ! 1 >-> In ! 3 >-> STOP and Out ? x >-> In ! x >-> STOP
abbrev one_sends : Term
one_sends = sends 1 1 (sends 0 3 stop)

abbrev other_takes : Term
other_takes = takes 1 (sends_of 0 (slot 0) stop)

abbrev both : List Member
both =
    member one_sends 1 (item (on (1 ∷ [])) (is_number 0 1 ∷ []) (sends 0 3 stop) ∷ [])
    ∷ member other_takes 1 (item (on (1 ∷ [])) [] (sends_of 0 (slot 0) stop) ∷ []) ∷ []

both_menus : AreMembers nothing pair both
unfolding limits
both_menus = (refl, (refl, tt))

-- Out!1: both can do it, and their terms stand in the members' order
both_move : MovesTo nothing pair (does 1 1) (one_sends ∷ other_takes ∷ []) (Some (sends 0 3 stop ∷ sends 0 1 stop ∷ []))
unfolding limits
both_move = moves_to (sends 0 3 stop ∷ sends 0 1 stop ∷ []) (sends 0 3 stop ∷ sends 0 1 stop ∷ []) (moves_of nothing pair (does 1 1) both both_menus)
    (inr (new (sends 0 3 stop) [] refl, inr (new (sends 0 1 stop) (sends 0 3 stop ∷ []) refl, refl)))

-- Out!2: the second alone can do it
one_moves : MovesTo nothing pair (does 1 2) (one_sends ∷ other_takes ∷ []) (Some (sends 0 2 stop ∷ []))
unfolding limits
one_moves = moves_to (sends 0 2 stop ∷ []) (sends 0 2 stop ∷ []) (moves_of nothing pair (does 1 2) both both_menus)
    (inr (new (sends 0 2 stop) [] refl, refl))

-- In!1: no member is on this channel
none_moves : MovesTo nothing pair (does 0 1) (one_sends ∷ other_takes ∷ []) (Some [])
unfolding limits
none_moves = moves_to [] [] (moves_of nothing pair (does 0 1) both both_menus) refl

-- Out!1 of Out ! 1 >-> STOP and Out ? x >-> STOP: a term that two members lead to stands there once
abbrev stopping : List Member
stopping = member (sends 1 1 stop) 1 (item (on (1 ∷ [])) (is_number 0 1 ∷ []) stop ∷ []) ∷ member (takes 1 stop) 1 (item (on (1 ∷ [])) [] stop ∷ []) ∷ []

same_rest : MovesTo nothing pair (does 1 1) (sends 1 1 stop ∷ takes 1 stop ∷ []) (Some (stop ∷ []))
unfolding limits
same_rest = moves_to (stop ∷ stop ∷ []) (stop ∷ []) (moves_of nothing pair (does 1 1) stopping (refl, (refl, tt)))
    (inr (new stop [] refl, inl (inl refl, refl)))

-- ---- a guard that may fault

-- Out ? x [[ 10 / x > 3 ]] >-> STOP
abbrev divides : Term
divides = prefix (offer 1 (take x ∷ []) ∷ []) (two more_than (two divide (number 10) (slot 0)) (number 3) ∷ []) stop

abbrev dividing : List Member
dividing = member divides 1 (item (on (1 ∷ [])) (two more_than (two divide (number 10) (slot 0)) (number 3) ∷ []) stop ∷ []) ∷ []

dividing_menu : AreMembers nothing pair dividing
unfolding limits
dividing_menu = (refl, tt)

-- Out!2, where the guard is True
guard_true : MovesTo nothing pair (does 1 2) (divides ∷ []) (Some (stop ∷ []))
unfolding limits
guard_true = moves_to (stop ∷ []) (stop ∷ []) (moves_of nothing pair (does 1 2) dividing dividing_menu) (inr (new stop [] refl, refl))

-- Out!5, where it is False
guard_false : MovesTo nothing pair (does 1 5) (divides ∷ []) (Some [])
unfolding limits
guard_false = moves_to [] [] (moves_of nothing pair (does 1 5) dividing dividing_menu) refl

-- Out!0, where it faults
guard_faults : MovesTo nothing pair (does 1 0) (divides ∷ []) None
unfolding limits
guard_faults = faults_somewhere (moves_of nothing pair (does 1 0) dividing dividing_menu)

-- Out!0, which another member can do: the fault of any guard is one of the whole
fault_beside : MovesTo nothing pair (does 1 0) (takes 1 stop ∷ divides ∷ []) None
unfolding limits
fault_beside = faults_somewhere (moves_of nothing pair (does 1 0) (member (takes 1 stop) 1 (item (on (1 ∷ [])) [] stop ∷ []) ∷ dividing) (refl, dividing_menu))
