-- A communication inside a HIDE, and exits that do not meet, on the channels In and Out; H is the third channel.
use Rattle.std.proofs.Common.{◌≡◌, inl, inr, List, [], ◌∷◌, Some, refl}
use Rattle.txs_terms.specs.Expr.{slot}
use Rattle.txs_terms.specs.Term.{Term, stop, exits, choice, par, enable, hide}
use Rattle.txs_terms.specs.Menu.{on, within, menu, walked}
use Rattle.txs_terms.specs.Close.{Closes, closed, done, next, MovesTo, moves_to}
use Rattle.txs_laws.proofs.examples.Steps.{Member, member, menus_nodes, AreMembers, targets_of, moves_of, new, longer}
use Rattle.txs_laws.proofs.examples.Words.{limits, nothing, int, pair, number, is_number, x, sends, sends_of, takes, item, does}

-- HIDE [H :: Int] IN t |[ H ]| u NI
abbrev inside : Term → Term → Term
inside t u = hide (int ∷ []) (par (2 ∷ []) t u)

-- HIDE [H :: Int] IN (H ! 1 >-> Out ! 1 >-> STOP ## H ! 2 >-> Out ! 2 >-> STOP) |[ H ]| H ? x >-> STOP NI
abbrev chooses : Term
chooses = inside (choice (sends 2 1 (sends 1 1 stop)) (sends 2 2 (sends 1 2 stop))) (takes 2 stop)

-- .. after the communication of 1, and of 2
abbrev after_one : Term
after_one = inside (sends 1 1 stop) stop

abbrev after_two : Term
after_two = inside (sends 1 2 stop) stop

-- two internal steps
chooses_menu : menu nothing pair chooses ≡ walked 6 (item within [] after_one ∷ item within [] after_two ∷ [])
unfolding limits
chooses_menu = refl

-- Out!1 after the one, and Out!2 after the other
after_one_menu : menu nothing pair after_one ≡ walked 4 (item (on (1 ∷ [])) (is_number 0 1 ∷ []) (inside stop stop) ∷ [])
unfolding limits
after_one_menu = refl

after_two_menu : menu nothing pair after_two ≡ walked 4 (item (on (1 ∷ [])) (is_number 0 2 ∷ []) (inside stop stop) ∷ [])
unfolding limits
after_two_menu = refl

abbrev chooses_member : Member
chooses_member = member chooses 6 (item within [] after_one ∷ item within [] after_two ∷ [])

abbrev members : List Member
members =
    chooses_member
    ∷ member after_one 4 (item (on (1 ∷ [])) (is_number 0 1 ∷ []) (inside stop stop) ∷ [])
    ∷ member after_two 4 (item (on (1 ∷ [])) (is_number 0 2 ∷ []) (inside stop stop) ∷ []) ∷ []

are_members : AreMembers nothing pair members
are_members = (chooses_menu, (after_one_menu, (after_two_menu, tt)))

abbrev all_of_them : List Term
all_of_them = chooses ∷ after_one ∷ after_two ∷ []

chooses_last : Closes nothing pair 1 all_of_them (closed all_of_them)
unfolding limits
chooses_last = done (after_one ∷ after_two ∷ []) (menus_nodes members) refl (targets_of nothing pair members are_members) refl
    (inl (inr (inl refl), inl (inr (inr (inl refl)), refl)))

chooses_closed : Closes nothing pair 0 (chooses ∷ []) (closed all_of_them)
unfolding limits
chooses_closed = next (after_one ∷ after_two ∷ []) all_of_them (menus_nodes (chooses_member ∷ [])) refl
    (targets_of nothing pair (chooses_member ∷ []) (chooses_menu, tt)) refl
    (inr (new after_one (chooses ∷ []) refl, inr (new after_two (chooses ∷ after_one ∷ []) refl, refl))) (longer all_of_them (chooses ∷ []) refl) chooses_last

-- Out!1 and Out!2 are possible, and Out!3 is not
says_one : MovesTo nothing pair (does 1 1) all_of_them (Some (inside stop stop ∷ []))
unfolding limits
says_one = moves_to (inside stop stop ∷ []) (inside stop stop ∷ []) (moves_of nothing pair (does 1 1) members are_members) (inr (new (inside stop stop) [] refl, refl))

says_two : MovesTo nothing pair (does 1 2) all_of_them (Some (inside stop stop ∷ []))
unfolding limits
says_two = moves_to (inside stop stop ∷ []) (inside stop stop ∷ []) (moves_of nothing pair (does 1 2) members are_members) (inr (new (inside stop stop) [] refl, refl))

says_no_other : MovesTo nothing pair (does 1 3) all_of_them (Some [])
unfolding limits
says_no_other = moves_to [] [] (moves_of nothing pair (does 1 3) members are_members) refl

-- ---- exits of both sides

-- EXIT ! 1 ||| EXIT ! 2 >>> ACCEPT ? x IN Out ! x >-> STOP NI
abbrev pub two_exits : Term
two_exits = enable (par [] (exits (number 1 ∷ [])) (exits (number 2 ∷ []))) (x ∷ []) (sends_of 1 (slot 0) stop)

-- the values differ, so there is nothing to do
pub two_exits_menu : menu nothing pair two_exits ≡ walked 4 []
unfolding limits
two_exits_menu = refl

two_exits_closed : Closes nothing pair 0 (two_exits ∷ []) (closed (two_exits ∷ []))
unfolding limits
two_exits_closed = done [] 0 refl (targets_of nothing pair (member two_exits 4 [] ∷ []) (two_exits_menu, tt)) refl refl
