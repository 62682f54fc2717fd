-- Which of two faults goes first, and what is made of two results.
use Rattle.std.specs.Prelude.{◌≡◌, ◌⊎◌, ◌<◌, ℕ, Option, Some, None, option_map, Result, Ok, Err}
use Rattle.txs_typing.specs.declared.fault.TypeFault.{TypeFault}
use Rattle.txs_typing.specs.declared.fault.TypeFault.TheVariants as fault
use Rattle.txs_typing.specs.Offends.{Offence, offset, rank}
use Rattle.txs_typing.specs.Answer.{offence_of, Told}

-- the offset of a fault, and its rank among those at one offset
abbrev pub order : TypeFault → Option (ℕ × ℕ)
order f = option_map (λ o. (offset o, rank o)) (offence_of f)

abbrev pub IsBefore : ℕ × ℕ → ℕ × ℕ → Type 0
IsBefore a b = (a.0 < b.0) ⊎ (a.0 ≡ b.0) × (a.1 < b.1)

-- of two faults, this one goes first
pub data Lesser : TypeFault → TypeFault → TypeFault → Type 0 where
  memory_first : {f g : TypeFault} → Lesser f g fault.NoMemory
  left_first : {f g : TypeFault} (a b : ℕ × ℕ) → order f ≡ Some a → order g ≡ Some b → (IsBefore b a → ⊥) → Lesser f g f
  right_first : {f g : TypeFault} (a b : ℕ × ℕ) → order f ≡ Some a → order g ≡ Some b → IsBefore b a → Lesser f g g

-- both results, or the fault that goes first
abbrev pub Joined : {A B : Type 0} → Result A TypeFault → Result B TypeFault → Result (A × B) TypeFault → Type 0
Joined (Ok x) (Ok y) r = r ≡ Ok (x, y)
Joined (Ok x) (Err g) r = r ≡ Err g
Joined (Err f) (Ok y) r = r ≡ Err f
Joined (Err f) (Err g) r = (h : TypeFault) × (r ≡ Err h) × Lesser f g h

-- of two faults that may be, the one that goes first
abbrev pub Least : Option TypeFault → Option TypeFault → Option TypeFault → Type 0
Least None g r = r ≡ g
Least (Some f) None r = r ≡ Some f
Least (Some f) (Some g) r = (h : TypeFault) × (r ≡ Some h) × Lesser f g h

-- no such offence stands, or the fault tells which decides
abbrev pub Finds : Option TypeFault → (Offence → Type 0) → Type 0
Finds None Stands = (o : Offence) → Stands o → ⊥
Finds (Some f) Stands = Told f Stands
