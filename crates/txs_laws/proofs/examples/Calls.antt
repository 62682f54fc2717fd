-- The menus of calls and of automata.
use Rattle.std.proofs.Common.{◌≡◌, [], ◌∷◌, refl}
use Rattle.txs_terms.specs.Expr.{slot, two, plus, more_than}
use Rattle.txs_terms.specs.Term.{Term, give, take, stop, hide, call, machine, par, Automaton, offering, silent}
use Rattle.txs_terms.specs.Rules.{Model}
use Rattle.txs_terms.specs.Menu.{on, within, faulted, eval_fault, walked, walk}
use Rattle.txs_laws.proofs.examples.Words.{limits, processes, int, pair, number, broken_number, not_so, is_number, x, offer, sends, sends_of, takes, item}

-- PROCDEF Count [F :: Int] (n :: Int) ::= F ! n >-> Count [F] (n + 1) ENDDEF
abbrev count : Term
count = sends_of 0 (slot 0) (call 0 (0 ∷ []) (two plus (slot 0) (number 1) ∷ []))

-- PROCDEF Twice [F :: Int] (n :: Int) ::= HIDE [H :: Int] IN H ! n >-> F ! n >-> STOP NI ENDDEF
abbrev twice : Term
twice = hide (int ∷ []) (sends_of 1 (slot 0) (sends_of 0 (slot 0) stop))

-- PROCDEF Pass [F, G :: Int] ( ) ::= F ? x >-> Pass [G, F] ( ) ENDDEF
abbrev pass : Term
pass = takes 0 (call 2 (1 ∷ 0 ∷ []) [])

abbrev model : Model
model = processes (count ∷ twice ∷ pass ∷ [])

-- Count [B] (2 + 1): the argument of the next call is not evaluated yet
count_menu : walk model 10 pair (call 0 (1 ∷ []) (two plus (number 2) (number 1) ∷ [])) 0
    ≡ walked 2 (item (on (1 ∷ [])) (is_number 0 3 ∷ []) (call 0 (1 ∷ []) (two plus (number 3) (number 1) ∷ [])) ∷ [])
unfolding limits
count_menu = refl

-- Count [B] (1 / 0)
faulty_argument : walk model 10 pair (call 0 (1 ∷ []) (broken_number ∷ [])) 0 ≡ faulted eval_fault
unfolding limits
faulty_argument = refl

-- Twice [A] (5) among two channels: the hidden channel of the body is the third, and not B
twice_menu : walk model 10 pair (call 1 (0 ∷ []) (number 5 ∷ [])) 0 ≡ walked 3 (item within [] (hide (int ∷ []) (sends 0 5 stop)) ∷ [])
unfolding limits
twice_menu = refl

-- HIDE [K :: Int] IN Twice [K] (5) |[ K ]| K ? x >-> B ! x >-> STOP NI: the body's HIDE stands above K
twice_inside : walk model 10 pair (hide (int ∷ []) (par (2 ∷ []) (call 1 (2 ∷ []) (number 5 ∷ [])) (takes 2 (sends_of 1 (slot 0) stop)))) 0
    ≡ walked 6 (item within [] (hide (int ∷ []) (par (2 ∷ []) (hide (int ∷ []) (sends 2 5 stop)) (takes 2 (sends_of 1 (slot 0) stop)))) ∷ [])
unfolding limits
twice_inside = refl

-- Pass [B, A] ( ): the channels change places at each call
pass_menu : walk model 10 pair (call 2 (1 ∷ 0 ∷ []) []) 0 ≡ walked 2 (item (on (1 ∷ [])) [] (call 2 (0 ∷ 1 ∷ []) []) ∷ [])
unfolding limits
pass_menu = refl

-- ---- automata

-- STAUTDEF Sums [F, G :: Int] (a, b :: Int) ::= STATE s, t INIT s TRANS
--   s -> F ? x [[ x > a ]] { a := b; b := a + x } -> t   s -> ISTEP { a := b; b := a } -> s
--   s -> ISTEP [[ 1 == 2 ]] -> t   t -> G ! a -> s ENDDEF
abbrev sums : Automaton
sums = record {
  formals = 0 ∷ 1 ∷ [];
  states =
      (offering (offer 0 (take x ∷ []) ∷ []) (two more_than (slot 2) (slot 0) ∷ []) (slot 1 ∷ two plus (slot 0) (slot 2) ∷ []) 1
      ∷ silent [] (slot 1 ∷ slot 0 ∷ []) 0 ∷ silent (not_so ∷ []) (slot 0 ∷ slot 1 ∷ []) 1 ∷ [])
      ∷ (offering (offer 1 (give (slot 0) ∷ []) ∷ []) [] (slot 0 ∷ slot 1 ∷ []) 0 ∷ []) ∷ [];
}

abbrev machines : Model
machines = record { defs = record { table = []; functions = []; constants = [] }; bodies = []; automata = sums ∷ [] }

-- Sums [B, A] at s with a = 1 and b = 2: all updates read the old values, and they are evaluated later
first_state : walk machines 10 pair (machine 0 (1 ∷ 0 ∷ []) (number 1 ∷ number 2 ∷ []) 0) 0
    ≡ walked 1 (item (on (1 ∷ [])) (two more_than (slot 0) (number 1) ∷ [])
    (machine 0 (1 ∷ 0 ∷ []) (number 2 ∷ two plus (number 1) (slot 0) ∷ []) 1)
    ∷ item within [] (machine 0 (1 ∷ 0 ∷ []) (number 2 ∷ number 1 ∷ []) 0) ∷ [])
unfolding limits
first_state = refl

-- Sums [B, A] at t with a = 2 and b = 1 + 7
second_state : walk machines 10 pair (machine 0 (1 ∷ 0 ∷ []) (number 2 ∷ two plus (number 1) (number 7) ∷ []) 1) 0
    ≡ walked 1 (item (on (0 ∷ [])) (is_number 0 2 ∷ []) (machine 0 (1 ∷ 0 ∷ []) (number 2 ∷ number 8 ∷ []) 0) ∷ [])
unfolding limits
second_state = refl

-- Sums [B, A] at t with a = 1 / 0
faulty_state : walk machines 10 pair (machine 0 (1 ∷ 0 ∷ []) (broken_number ∷ number 2 ∷ []) 1) 0 ≡ faulted eval_fault
unfolding limits
faulty_state = refl
