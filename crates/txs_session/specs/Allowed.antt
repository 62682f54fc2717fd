-- What the rules allow after a trace, for a model over two channels of type Int.
use Rattle.std.specs.Prelude.{ℕ, ℤ, List, [], ◌∷◌, map, reverse}
use Rattle.txs_values.specs.Value.{integer, num}
use Rattle.txs_terms.specs.Action.{Action, Scope}
use Rattle.txs_terms.specs.Term.{Term}
use Rattle.txs_terms.specs.Rules as rules
use Rattle.txs_terms.specs.After.{Sync, Observable, acted, quiescence, Out, AllowedIn}
use Rattle.txs_terms.specs.View.{term_of}
use Rattle.txs_session.specs.declared.note.Seen.{Seen}
use Rattle.txs_session.specs.declared.note.Seen.TheVariants as seen
use Rattle.txs_words.specs.declared.model.Model.{Model}

-- no types, functions, constants, processes or automata are defined
abbrev pub definitions : rules.Model
definitions = record { defs = record { table = []; functions = []; constants = [] }; bodies = []; automata = [] }

-- the input channel has the number 0, and the output channel 1
abbrev pub scope : Scope
scope = (integer ∷ []) ∷ (integer ∷ []) ∷ []

abbrev pub sync : Sync
sync = record { ins = (0 ∷ []) ∷ []; outs = (1 ∷ []) ∷ [] }

-- the action of one channel with one Int
abbrev pub on : ℕ → ℤ → Action
on c v = record { channel = c; values = num v ∷ [] } ∷ []

abbrev pub observable_of : Seen → Observable
observable_of (seen.In v) = acted (on 0 v)
observable_of (seen.Out v) = acted (on 1 v)
observable_of seen.Quiet = quiescence

-- a trace that was numbered from the first on, with the latest first
abbrev pub latest_first : List Seen → List Observable
latest_first trace = map observable_of (reverse trace)

-- the rules allow to send the value after the trace
abbrev pub MaySend : Model → List Seen → ℤ → Type 0
MaySend m trace v = AllowedIn definitions scope sync (term_of m.start) (latest_first trace) (on 0 v)

-- the rules allow to see this after the trace
abbrev pub MaySee : Model → List Seen → Seen → Type 0
MaySee m trace s = Out definitions scope sync (term_of m.start) (latest_first trace) (observable_of s)

-- the rules allow this after the trace: to send it, or to see it
abbrev pub IsAllowed : Term → List Observable → Seen → Type 0
IsAllowed b trace (seen.In v) = AllowedIn definitions scope sync b trace (on 0 v)
IsAllowed b trace (seen.Out v) = Out definitions scope sync b trace (acted (on 1 v))
IsAllowed b trace seen.Quiet = Out definitions scope sync b trace quiescence
