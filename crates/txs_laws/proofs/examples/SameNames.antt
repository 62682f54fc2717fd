-- Two hidden channels of one name are different ones. In and Out are the channels in scope; the behaviour's H is the
-- third channel, and the H of the process is the fourth.
use Rattle.std.proofs.Common.{inl, inr, List, [], ◌∷◌, Some, refl}
use Rattle.txs_terms.specs.Expr.{slot}
use Rattle.txs_terms.specs.Term.{Term, stop, par, hide, call}
use Rattle.txs_terms.specs.Rules.{Model}
use Rattle.txs_terms.specs.Menu.{on, within}
use Rattle.txs_terms.specs.Close.{Closes, closed, done, next, MovesTo, moves_to}
use Rattle.txs_laws.proofs.examples.Steps.{Member, member, menus_nodes, AreMembers, targets_of, moves_of, new, longer}
use Rattle.txs_laws.proofs.examples.Words.{limits, processes, int, pair, is_number, sends, sends_of, takes, item, does}

-- PROCDEF W [F :: Int] ( ) ::= F ? n >-> HIDE [H :: Int] IN F ! n >-> STOP |[ H ]| H ! 9 >-> F ! 9 >-> STOP NI ENDDEF
abbrev w : Term
w = takes 0 (hide (int ∷ []) (par (1 ∷ []) (sends_of 0 (slot 0) stop) (sends 1 9 (sends 0 9 stop))))

abbrev model : Model
model = processes (w ∷ [])

-- HIDE [H :: Int] IN t |[ H ]| u NI
abbrev inside : Term → Term → Term
inside t u = hide (int ∷ []) (par (2 ∷ []) t u)

-- HIDE [H :: Int] IN t |[ H ]| H ! 9 >-> F ! 9 >-> STOP NI in the process, where F is the behaviour's H
abbrev within_w : Term → Term
within_w t = hide (int ∷ []) (par (3 ∷ []) t (sends 3 9 (sends 2 9 stop)))

-- HIDE [H :: Int] IN (H ! 5 >-> H ? m >-> Out ! m >-> STOP) |[ H ]| W [H] ( ) NI; the first slot is that of H ! 5, and m is the second
abbrev behaviour : Term
behaviour = inside (sends 2 5 (takes 2 (sends_of 1 (slot 1) stop))) (call 0 (2 ∷ []) [])

-- after the communication of 5 to the process, and after its answer
abbrev asked : Term
asked = inside (takes 2 (sends_of 1 (slot 0) stop)) (within_w (sends 2 5 stop))

abbrev answered : Term
answered = inside (sends 1 5 stop) (within_w stop)

abbrev behaviour_member : Member
behaviour_member = member behaviour 5 (item within [] asked ∷ [])

abbrev asked_member : Member
asked_member = member asked 7 (item within [] answered ∷ [])

-- the one item that is not internal
abbrev answered_member : Member
answered_member = member answered 7 (item (on (1 ∷ [])) (is_number 0 5 ∷ []) (inside stop (within_w stop)) ∷ [])

abbrev members : List Member
members = behaviour_member ∷ asked_member ∷ answered_member ∷ []

are_members : AreMembers model pair members
unfolding limits
are_members = (refl, (refl, (refl, tt)))

abbrev all_of_them : List Term
all_of_them = behaviour ∷ asked ∷ answered ∷ []

last_level : Closes model pair 2 all_of_them (closed all_of_them)
unfolding limits
last_level = done (asked ∷ answered ∷ []) (menus_nodes members) refl (targets_of model pair members are_members) refl
    (inl (inr (inl refl), inl (inr (inr (inl refl)), refl)))

middle_level : Closes model pair 1 (behaviour ∷ asked ∷ []) (closed all_of_them)
unfolding limits
middle_level = next (asked ∷ answered ∷ []) all_of_them (menus_nodes (behaviour_member ∷ asked_member ∷ [])) refl
    (targets_of model pair (behaviour_member ∷ asked_member ∷ []) (are_members.0, (are_members.1.0, tt))) refl
    (inl (inr (inl refl), inr (new answered (behaviour ∷ asked ∷ []) refl, refl))) (longer all_of_them (behaviour ∷ asked ∷ []) refl) last_level

behaviour_closed : Closes model pair 0 (behaviour ∷ []) (closed all_of_them)
unfolding limits
behaviour_closed = next (asked ∷ []) (behaviour ∷ asked ∷ []) (menus_nodes (behaviour_member ∷ [])) refl
    (targets_of model pair (behaviour_member ∷ []) (are_members.0, tt)) refl (inr (new asked (behaviour ∷ []) refl, refl))
    (longer (behaviour ∷ asked ∷ []) (behaviour ∷ []) refl) middle_level

-- Out!5
says_five : MovesTo model pair (does 1 5) all_of_them (Some (inside stop (within_w stop) ∷ []))
unfolding limits
says_five = moves_to (inside stop (within_w stop) ∷ []) (inside stop (within_w stop) ∷ []) (moves_of model pair (does 1 5) members are_members)
    (inr (new (inside stop (within_w stop)) [] refl, refl))

-- Out!9, which would come if both were one channel
not_nine : MovesTo model pair (does 1 9) all_of_them (Some [])
unfolding limits
not_nine = moves_to [] [] (moves_of model pair (does 1 9) members are_members) refl
