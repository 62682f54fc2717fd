-- What the words of the program ask for, and what a run of a file does.
use Rattle.std.specs.Prelude.{◌≡◌, ◌<◌, ℕ, List, [], ◌∷◌, length, codes, Option, IfSome}
use Rattle.txs_outside.specs.Known.{Tells}
use Rattle.txs_words.specs.declared.model.Model.{Model}
use Rattle.txs_words.specs.File.{IsFile, StatesOnly}

-- the words ask for a run of this file
abbrev pub IsRun : List (List ℕ) → List ℕ → Type 0
IsRun words file = words ≡ codes "run" ∷ file ∷ []

-- no words of any form
abbrev pub IsNoForm : List (List ℕ) → Type 0
IsNoForm words = (file : List ℕ) → IsRun words file → ⊥

-- the bytes state no model
abbrev pub IsNoFile : List ℕ → Type 0
IsNoFile bytes = (m : Model) → IsFile bytes m → ⊥

-- the name is asked for, and these bytes are what it holds, if that is told
pub record Asked (words : List (List ℕ)) (contents : List ℕ → Option (List ℕ)) (bytes : List ℕ) : Type 0 where
  pub file : List ℕ
  pub run : IsRun words file
  pub holds : Tells (contents file) bytes

-- this holds of the model that the file states, and it states no other
pub record OfFile (contents : Option (List ℕ)) (P : Model → Type 0) : Type 0 where
  pub bytes : List ℕ
  pub holds : Tells contents bytes
  pub model : Model
  pub states : IsFile bytes model
  pub only : StatesOnly bytes model
  pub did : P model

-- the words ask for a run of a file, and this holds of its model
abbrev pub Ran : List (List ℕ) → (List ℕ → Option (List ℕ)) → (Model → Type 0) → Type 0
Ran words contents P = (file : List ℕ) × IsRun words file × OfFile (contents file) P

-- more than 1,048,576 bytes, if they are told
abbrev pub IsLong : Option (List ℕ) → Type 0
IsLong contents = IfSome contents (λ bytes. 1048576 < length bytes)

abbrev pub IsTooLong : List (List ℕ) → (List ℕ → Option (List ℕ)) → Type 0
IsTooLong words contents = (file : List ℕ) × IsRun words file × IsLong (contents file)
