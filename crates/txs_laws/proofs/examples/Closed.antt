-- Sets that are closed under internal steps.
use Rattle.std.proofs.Common.{◌≡◌, inl, inr, List, [], ◌∷◌, refl, sym, ap, ◌∙◌}
use Rattle.txs_terms.specs.Expr.{slot}
use Rattle.txs_terms.specs.Term.{Term, stop, exits, hide, call}
use Rattle.txs_terms.specs.Rules.{Model}
use Rattle.txs_terms.specs.Menu.{within, MenuFault, eval_fault, unfixed, faulted, menu}
use Rattle.txs_terms.specs.Close.{HasFault, Closes, closed, faulty_set, member_faults, done, next}
use Rattle.txs_laws.proofs.examples.Steps.{Member, member, menus_nodes, targets_of, new, longer}
use Rattle.txs_laws.proofs.examples.Words.{limits, nothing, processes, int, pair, broken_number, sends_of, takes, quietly, item}

-- PROCDEF P [ ] ( ) ::= ISTEP >-> P [ ] ( ) ENDDEF: a loop of internal steps is closed by itself
abbrev pub loops : Model
loops = processes (quietly (call 0 [] []) ∷ [])

abbrev pub loop : Term
loop = call 0 [] []

abbrev looping : List Member
looping = member loop 2 (item within [] loop ∷ []) ∷ []

loop_closed : Closes loops pair 0 (loop ∷ []) (closed (loop ∷ []))
unfolding limits
loop_closed = done (loop ∷ []) (menus_nodes looping) refl (targets_of loops pair looping (refl, tt)) refl (inl (inl refl, refl))

-- ISTEP >-> ISTEP >-> STOP: a level for each internal step
abbrev once : Term
once = quietly stop

abbrev twice : Term
twice = quietly once

abbrev level_0 : List Member
level_0 = member twice 1 (item within [] once ∷ []) ∷ []

abbrev level_1 : List Member
level_1 = member twice 1 (item within [] once ∷ []) ∷ member once 1 (item within [] stop ∷ []) ∷ []

abbrev level_2 : List Member
level_2 = member twice 1 (item within [] once ∷ []) ∷ member once 1 (item within [] stop ∷ []) ∷ member stop 1 [] ∷ []

last_level : Closes nothing pair 2 (twice ∷ once ∷ stop ∷ []) (closed (twice ∷ once ∷ stop ∷ []))
unfolding limits
last_level = done (once ∷ stop ∷ []) (menus_nodes level_2) refl (targets_of nothing pair level_2 (refl, (refl, (refl, tt)))) refl
    (inl (inr (inl refl), inl (inr (inr (inl refl)), refl)))

middle_level : Closes nothing pair 1 (twice ∷ once ∷ []) (closed (twice ∷ once ∷ stop ∷ []))
unfolding limits
middle_level = next (once ∷ stop ∷ []) (twice ∷ once ∷ stop ∷ []) (menus_nodes level_1) refl (targets_of nothing pair level_1 (refl, (refl, tt))) refl
    (inl (inr (inl refl), inr (new stop (twice ∷ once ∷ []) refl, refl))) (longer (twice ∷ once ∷ stop ∷ []) (twice ∷ once ∷ []) refl) last_level

twice_closed : Closes nothing pair 0 (twice ∷ []) (closed (twice ∷ once ∷ stop ∷ []))
unfolding limits
twice_closed = next (once ∷ []) (twice ∷ once ∷ []) (menus_nodes level_0) refl (targets_of nothing pair level_0 (refl, tt)) refl
    (inr (new once (twice ∷ []) refl, refl)) (longer (twice ∷ once ∷ []) (twice ∷ []) refl) middle_level

-- ---- faults

-- a menu that ends with one fault ends with no other
no_other : (model : Model) (t : Term) (s r : MenuFault) → menu model pair t ≡ faulted s → (faulted s ≡ faulted r → ⊥) → HasFault model pair (t ∷ []) r → ⊥
no_other model t s r m h (u, p, q) = elim p [ inl e ↦ h (sym m ∙ ap (menu model pair) (sym e) ∙ q) | inr b ↦ absurd b ]

-- HIDE [H :: Int] IN H ? x >-> Out ! x >-> STOP NI: nothing fixes x
abbrev unfixed_term : Term
unfixed_term = hide (int ∷ []) (takes 2 (sends_of 1 (slot 0) stop))

unfixed_closing : Closes nothing pair 0 (unfixed_term ∷ []) (faulty_set unfixed)
unfolding limits
unfixed_closing = member_faults refl ((unfixed_term, inl refl, refl), no_other nothing unfixed_term unfixed eval_fault refl other)
  where
    other : faulted unfixed ≡ faulted eval_fault → ⊥
    other e = cc

-- that term and EXIT ! 1 / 0 in one set: a fault of evaluation goes before it, wherever it stands
eval_first : Closes nothing pair 0 (unfixed_term ∷ exits (broken_number ∷ []) ∷ []) (faulty_set eval_fault)
unfolding limits
eval_first = member_faults refl (exits (broken_number ∷ []), inr (inl refl), refl)
