-- Which channels the body of a process stands on.
use Rattle.std.specs.Prelude.{◌≡◌, ◌<◌, ℕ, ◌+◌, List, [], ◌∷◌, ◌++◌, length, map, Some, slice_get}
use Rattle.txs_values.specs.Value.{Value}
use Rattle.txs_terms.specs.Action.{Channels, in_order, Scope}
use Rattle.txs_terms.specs.Term.{Term, instance, stop, exits, prefix, step, guard, choice, par, enable, disable, interrupt, hide, call, bind, machine, hit, miss}
use Rattle.txs_terms.specs.Rules.{offered}
use Rattle.txs_terms.specs.Typed.{FitChannels}

-- the channels that the offers, calls and automata of a term are on, from left to right
abbrev pub names_in : Term → Channels
names_in stop = []
names_in (exits es) = []
names_in (prefix os gs t) = offered os ++ names_in t
names_in (step gs t) = names_in t
names_in (guard gs t) = names_in t
names_in (choice a b) = names_in a ++ names_in b
names_in (par gates a b) = names_in a ++ names_in b
names_in (enable a xs b) = names_in a ++ names_in b
names_in (disable a b) = names_in a ++ names_in b
names_in (interrupt a b) = names_in a ++ names_in b
names_in (hide hs t) = names_in t
names_in (call p cs es) = cs
names_in (bind xs es t) = names_in t
names_in (machine k cs es q) = cs
names_in hit = []
names_in miss = []

-- the gates of each parallel of a term, from left to right
abbrev pub gates_in : Term → List Channels
gates_in stop = []
gates_in (exits es) = []
gates_in (prefix os gs t) = gates_in t
gates_in (step gs t) = gates_in t
gates_in (guard gs t) = gates_in t
gates_in (choice a b) = gates_in a ++ gates_in b
gates_in (par gates a b) = gates ∷ (gates_in a ++ gates_in b)
gates_in (enable a xs b) = gates_in a ++ gates_in b
gates_in (disable a b) = gates_in a ++ gates_in b
gates_in (interrupt a b) = gates_in a ++ gates_in b
gates_in (hide hs t) = gates_in t
gates_in (call p cs es) = []
gates_in (bind xs es t) = gates_in t
gates_in (machine k cs es q) = []
gates_in hit = []
gates_in miss = []

-- the types of the channels that each HIDE of a term binds, which are numbered from the depth of the HIDE on
abbrev pub hidden_in : Term → List Scope
hidden_in stop = []
hidden_in (exits es) = []
hidden_in (prefix os gs t) = hidden_in t
hidden_in (step gs t) = hidden_in t
hidden_in (guard gs t) = hidden_in t
hidden_in (choice a b) = hidden_in a ++ hidden_in b
hidden_in (par gates a b) = hidden_in a ++ hidden_in b
hidden_in (enable a xs b) = hidden_in a ++ hidden_in b
hidden_in (disable a b) = hidden_in a ++ hidden_in b
hidden_in (interrupt a b) = hidden_in a ++ hidden_in b
hidden_in (hide hs t) = hs ∷ hidden_in t
hidden_in (call p cs es) = []
hidden_in (bind xs es t) = hidden_in t
hidden_in (machine k cs es q) = []
hidden_in hit = []
hidden_in miss = []

-- In a body called at this depth each channel has become that of `become`. A formal one is now the actual one, which is below the depth,
-- so no HIDE of the body binds it; one that a HIDE of the body bound stands as far above the depth as it stood above the formal ones,
-- so the same HIDE binds it.
pub record Stands (body called : Term) (formals : Scope) (cs : Channels) (depth : ℕ) (become : ℕ → ℕ) : Type 0 where
  pub names : names_in called ≡ map become (names_in body)
  pub gates : gates_in called ≡ map (λ gs. in_order (map become gs)) (gates_in body)
  pub hides : hidden_in called ≡ hidden_in body
  pub formal : (c : ℕ) → c < length formals → (slice_get cs c ≡ Some (become c)) × (become c < depth)
  pub bound : (k : ℕ) → become (length formals + k) ≡ depth + k

abbrev pub NoChannelIsCaptured : Type 0
NoChannelIsCaptured =
    (scope formals : Scope) (cs : Channels) (vs : List Value) (body : Term) → FitChannels scope cs formals
    → (become : ℕ → ℕ) × Stands body (instance cs vs (length scope) body) formals cs (length scope) become
