-- The menus of enable, disable and interrupt.
use Rattle.std.proofs.Common.{◌≡◌, [], ◌∷◌, refl}
use Rattle.std.specs.Prelude.{pos}
use Rattle.txs_values.specs.Value.{num}
use Rattle.txs_terms.specs.Expr.{slot, two, plus}
use Rattle.txs_terms.specs.Term.{stop, exits, enable, disable, interrupt}
use Rattle.txs_terms.specs.Menu.{on, within, ending, walked, walk}
use Rattle.txs_laws.proofs.examples.Words.{limits, nothing, pair, number, is_number, y, sends, sends_of, takes, quietly, item}

-- A ? x >-> EXIT ! x + 1 >>> ACCEPT ? y IN B ! y >-> STOP NI: beside an item of one slot y is the second
enable_acts : walk nothing 10 pair (enable (takes 0 (exits (two plus (slot 0) (number 1) ∷ []))) (y ∷ []) (sends_of 1 (slot 0) stop)) 0
    ≡ walked 2 (item (on (0 ∷ [])) [] (enable (exits (two plus (slot 0) (number 1) ∷ [])) (y ∷ []) (sends_of 1 (slot 1) stop)) ∷ [])
unfolding limits
enable_acts = refl

-- EXIT ! 3 + 1 >>> ACCEPT ? y IN B ! y >-> A ! y >-> STOP NI: an internal step with the value put in
enable_exits : walk nothing 10 pair (enable (exits (two plus (number 3) (number 1) ∷ [])) (y ∷ []) (sends_of 1 (slot 0) (sends_of 0 (slot 0) stop))) 0
    ≡ walked 2 (item within [] (sends 1 4 (sends 0 4 stop)) ∷ [])
unfolding limits
enable_exits = refl

-- EXIT >>> B ! 1 >-> STOP
enable_plainly : walk nothing 10 pair (enable (exits []) [] (sends 1 1 stop)) 0 ≡ walked 2 (item within [] (sends 1 1 stop) ∷ [])
unfolding limits
enable_plainly = refl

-- ISTEP >-> EXIT >>> B ! 1 >-> STOP
enable_steps : walk nothing 10 pair (enable (quietly (exits [])) [] (sends 1 1 stop)) 0
    ≡ walked 2 (item within [] (enable (exits []) [] (sends 1 1 stop)) ∷ [])
unfolding limits
enable_steps = refl

-- ---- disable

-- A ! 1 >-> STOP [>> B ! 2 >-> STOP
disable_menu : walk nothing 10 pair (disable (sends 0 1 stop) (sends 1 2 stop)) 0
    ≡ walked 3 (item (on (0 ∷ [])) (is_number 0 1 ∷ []) (disable stop (sends 1 2 stop)) ∷ item (on (1 ∷ [])) (is_number 0 2 ∷ []) stop ∷ [])
unfolding limits
disable_menu = refl

-- ISTEP >-> EXIT [>> ISTEP >-> EXIT
disable_steps : walk nothing 10 pair (disable (quietly (exits [])) (quietly (exits []))) 0
    ≡ walked 3 (item within [] (disable (exits []) (quietly (exits []))) ∷ item within [] (exits []) ∷ [])
unfolding limits
disable_steps = refl

-- EXIT ! 1 [>> EXIT ! 2: the left side's exit leaves nothing that could take over
disable_exits : walk nothing 10 pair (disable (exits (number 1 ∷ [])) (exits (number 2 ∷ []))) 0
    ≡ walked 3 (item (ending (num (pos 1) ∷ [])) [] stop ∷ item (ending (num (pos 2) ∷ [])) [] stop ∷ [])
unfolding limits
disable_exits = refl

-- A ? x >-> STOP [>> B ? y >-> A ! y >-> STOP: beside the left side's item y is the second slot
disable_beside : walk nothing 10 pair (disable (takes 0 stop) (takes 1 (sends_of 0 (slot 0) stop))) 0
    ≡ walked 3 (item (on (0 ∷ [])) [] (disable stop (takes 1 (sends_of 0 (slot 1) stop))) ∷ item (on (1 ∷ [])) [] (sends_of 0 (slot 0) stop) ∷ [])
unfolding limits
disable_beside = refl

-- ---- interrupt

-- A ! 1 >-> STOP [>< B ? x >-> EXIT: after the interruption the whole comes back
interrupt_menu : walk nothing 10 pair (interrupt (sends 0 1 stop) (takes 1 (exits []))) 0
    ≡ walked 3 (item (on (0 ∷ [])) (is_number 0 1 ∷ []) (interrupt stop (takes 1 (exits [])))
    ∷ item (on (1 ∷ [])) [] (enable (exits []) [] (interrupt (sends 0 1 stop) (takes 1 (exits [])))) ∷ [])
unfolding limits
interrupt_menu = refl

-- EXIT >>> (A ! 1 >-> STOP [>< B ? x >-> EXIT)
interrupt_is_over : walk nothing 10 pair (enable (exits []) [] (interrupt (sends 0 1 stop) (takes 1 (exits [])))) 0
    ≡ walked 2 (item within [] (interrupt (sends 0 1 stop) (takes 1 (exits []))) ∷ [])
unfolding limits
interrupt_is_over = refl

-- A ! 1 >-> STOP [>< EXIT: the right side's exit is an internal step to the whole
interrupt_returns : walk nothing 10 pair (interrupt (sends 0 1 stop) (exits [])) 0
    ≡ walked 3 (item (on (0 ∷ [])) (is_number 0 1 ∷ []) (interrupt stop (exits [])) ∷ item within [] (interrupt (sends 0 1 stop) (exits [])) ∷ [])
unfolding limits
interrupt_returns = refl

-- ISTEP >-> STOP [>< ISTEP >-> EXIT
interrupt_steps : walk nothing 10 pair (interrupt (quietly stop) (quietly (exits []))) 0
    ≡ walked 3 (item within [] (interrupt stop (quietly (exits [])))
    ∷ item within [] (enable (exits []) [] (interrupt (quietly stop) (quietly (exits [])))) ∷ [])
unfolding limits
interrupt_steps = refl

-- EXIT ! 1 [>< B ? x >-> EXIT: the left side's exit is one of the whole
interrupt_exits : walk nothing 10 pair (interrupt (exits (number 1 ∷ [])) (takes 1 (exits []))) 0
    ≡ walked 3 (item (ending (num (pos 1) ∷ [])) [] stop ∷ item (on (1 ∷ [])) [] (enable (exits []) [] (interrupt (exits (number 1 ∷ [])) (takes 1 (exits [])))) ∷ [])
unfolding limits
interrupt_exits = refl

-- (A ? x >-> A ! x >-> STOP) [>< (B ? y >-> EXIT): beside the right side's item x is the second slot
interrupt_beside : walk nothing 10 pair (interrupt (takes 0 (sends_of 0 (slot 0) stop)) (takes 1 (exits []))) 0
    ≡ walked 3 (item (on (0 ∷ [])) [] (interrupt (sends_of 0 (slot 0) stop) (takes 1 (exits [])))
    ∷ item (on (1 ∷ [])) [] (enable (exits []) [] (interrupt (takes 0 (sends_of 0 (slot 1) stop)) (takes 1 (exits [])))) ∷ [])
unfolding limits
interrupt_beside = refl
