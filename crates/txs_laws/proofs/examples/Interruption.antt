-- A behaviour that is interrupted and goes on, on the channels In and Out.
use Rattle.std.proofs.Common.{inl, inr, [], ◌∷◌, Some, refl}
use Rattle.txs_terms.specs.Term.{Term, stop, exits, enable, interrupt}
use Rattle.txs_terms.specs.Menu.{on, within}
use Rattle.txs_terms.specs.Close.{Closes, closed, done, next, MovesTo, moves_to}
use Rattle.txs_laws.proofs.examples.Steps.{Member, member, menus_nodes, AreMembers, targets_of, moves_of, new, longer}
use Rattle.txs_laws.proofs.examples.Words.{limits, nothing, pair, is_number, sends, takes, item, does}

-- t [>< (In ? x >-> EXIT)
abbrev interrupted_by_in : Term → Term
interrupted_by_in t = interrupt t (takes 0 (exits []))

-- (Out ! 1 >-> Out ! 2 >-> STOP) [>< (In ? x >-> EXIT)
abbrev first : Term
first = interrupted_by_in (sends 1 1 (sends 1 2 stop))

-- (Out ! 2 >-> STOP) [>< (In ? x >-> EXIT)
abbrev second : Term
second = interrupted_by_in (sends 1 2 stop)

-- EXIT >>> ((Out ! 2 >-> STOP) [>< (In ? x >-> EXIT))
abbrev comes_back : Term
comes_back = enable (exits []) [] second

-- STOP [>< (In ? x >-> EXIT)
abbrev last : Term
last = interrupted_by_in stop

abbrev first_member : Member
first_member = member first 3 (item (on (1 ∷ [])) (is_number 0 1 ∷ []) second ∷ item (on (0 ∷ [])) [] (enable (exits []) [] first) ∷ [])

abbrev second_member : Member
second_member = member second 3 (item (on (1 ∷ [])) (is_number 0 2 ∷ []) last ∷ item (on (0 ∷ [])) [] comes_back ∷ [])

abbrev back_member : Member
back_member = member comes_back 2 (item within [] second ∷ [])

first_menu : AreMembers nothing pair (first_member ∷ [])
unfolding limits
first_menu = (refl, tt)

second_menu : AreMembers nothing pair (second_member ∷ [])
unfolding limits
second_menu = (refl, tt)

both_menus : AreMembers nothing pair (back_member ∷ second_member ∷ [])
unfolding limits
both_menus = (refl, second_menu)

first_closed : Closes nothing pair 0 (first ∷ []) (closed (first ∷ []))
unfolding limits
first_closed = done [] (menus_nodes (first_member ∷ [])) refl (targets_of nothing pair (first_member ∷ []) first_menu) refl refl

-- Out!1
first_moves : MovesTo nothing pair (does 1 1) (first ∷ []) (Some (second ∷ []))
unfolding limits
first_moves = moves_to (second ∷ []) (second ∷ []) (moves_of nothing pair (does 1 1) (first_member ∷ []) first_menu) (inr (new second [] refl, refl))

second_closed : Closes nothing pair 0 (second ∷ []) (closed (second ∷ []))
unfolding limits
second_closed = done [] (menus_nodes (second_member ∷ [])) refl (targets_of nothing pair (second_member ∷ []) second_menu) refl refl

-- In!5
is_interrupted : MovesTo nothing pair (does 0 5) (second ∷ []) (Some (comes_back ∷ []))
unfolding limits
is_interrupted = moves_to (comes_back ∷ []) (comes_back ∷ []) (moves_of nothing pair (does 0 5) (second_member ∷ []) second_menu)
    (inr (new comes_back [] refl, refl))

back_last : Closes nothing pair 1 (comes_back ∷ second ∷ []) (closed (comes_back ∷ second ∷ []))
unfolding limits
back_last = done (second ∷ []) (menus_nodes (back_member ∷ second_member ∷ [])) refl
    (targets_of nothing pair (back_member ∷ second_member ∷ []) both_menus) refl (inl (inr (inl refl), refl))

back_closed : Closes nothing pair 0 (comes_back ∷ []) (closed (comes_back ∷ second ∷ []))
unfolding limits
back_closed = next (second ∷ []) (comes_back ∷ second ∷ []) (menus_nodes (back_member ∷ [])) refl
    (targets_of nothing pair (back_member ∷ []) (both_menus.0, tt)) refl (inr (new second (comes_back ∷ []) refl, refl))
    (longer (comes_back ∷ second ∷ []) (comes_back ∷ []) refl) back_last

-- Out!2, which goes on where the interruption came
goes_on : MovesTo nothing pair (does 1 2) (comes_back ∷ second ∷ []) (Some (last ∷ []))
unfolding limits
goes_on = moves_to (last ∷ []) (last ∷ []) (moves_of nothing pair (does 1 2) (back_member ∷ second_member ∷ []) both_menus) (inr (new last [] refl, refl))

-- Out!1 is not possible there
not_again : MovesTo nothing pair (does 1 1) (comes_back ∷ second ∷ []) (Some [])
unfolding limits
not_again = moves_to [] [] (moves_of nothing pair (does 1 1) (back_member ∷ second_member ∷ []) both_menus) refl
