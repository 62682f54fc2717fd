-- The files that state a model.
use Rattle.std.specs.Prelude.{◌≡◌, ◌≢◌, ℕ, ◌≤◌, Bool, true, not, ◌||◌, eqb, List, [], ◌∷◌, ◌++◌, length, codes, IsUtf8}
use Rattle.std.specs.List.{list_all}
use Rattle.std.specs.Str.Parse.{IsNumeral, digits_value}
use Rattle.txs_values.specs.Spelling.{is_digit}
use Rattle.txs_terms.specs.View.{term_of}
use Rattle.txs_words.specs.declared.model.Model.{Model}
use Rattle.txs_words.specs.Form.{words_of, IsName, loose, Spells}

-- the words before the behaviour
abbrev pub front_of : Model → List ℕ → List (List ℕ)
front_of m c =
    codes "CHANDEF" ∷ c ∷ codes "::=" ∷ m.input ∷ codes "," ∷ m.output ∷ codes "::" ∷ codes "Int" ∷ codes "ENDDEF"
    ∷ codes "MODELDEF" ∷ m.name ∷ codes "::=" ∷ codes "CHAN" ∷ codes "IN" ∷ m.input ∷ codes "CHAN" ∷ codes "OUT" ∷ m.output ∷ codes "BEHAVIOUR" ∷ []

-- a text in its quotes
abbrev pub quoted : List ℕ → List ℕ
quoted text = 34 ∷ text ++ 34 ∷ []

-- the words after the behaviour, with the words of the two ports and the variables of the two links
abbrev pub back_of : Model → List ℕ → List ℕ → List ℕ → List ℕ → List (List ℕ)
back_of m p q x s =
    codes "ENDDEF" ∷ codes "CNECTDEF" ∷ m.link ∷ codes "::=" ∷ codes "CLIENTSOCK"
    ∷ codes "CHAN" ∷ codes "OUT" ∷ m.input ∷ codes "HOST" ∷ quoted m.host ∷ codes "PORT" ∷ p ∷ codes "ENCODE" ∷ m.input ∷ codes "?" ∷ x ∷ codes "->" ∷ codes "!" ∷ codes "toString" ∷ codes "(" ∷ x ∷ codes ")"
    ∷ codes "CHAN" ∷ codes "IN" ∷ m.output ∷ codes "HOST" ∷ quoted m.host ∷ codes "PORT" ∷ q ∷ codes "DECODE" ∷ m.output ∷ codes "!" ∷ codes "fromString" ∷ codes "(" ∷ s ∷ codes ")" ∷ codes "<-" ∷ codes "?" ∷ s
    ∷ codes "ENDDEF" ∷ []

-- no quote and no backslash is among the bytes of a host
abbrev pub is_host_byte : ℕ → Bool
is_host_byte b = not (eqb b 34 || eqb b 92)

-- digits that stand for this port
abbrev pub IsPort : List ℕ → ℕ → Type 0
IsPort word port = (list_all is_digit word ≡ true) × IsNumeral 10 word × (digits_value 10 word ≡ port) × (1 ≤ port) × (port ≤ 65535)

-- the bytes are a file that states the model
pub record IsFile (bytes : List ℕ) (m : Model) : Type 0 where
  pub chandef : List ℕ
  pub behaviour : List (List ℕ)
  pub port_out : List ℕ
  pub port_in : List ℕ
  pub sent : List ℕ
  pub heard : List ℕ
  pub text : IsUtf8 bytes
  pub words : words_of bytes ≡ front_of m chandef ++ behaviour ++ back_of m port_out port_in sent heard
  pub names : IsName chandef × IsName m.input × IsName m.output × IsName m.name × IsName m.link × IsName sent × IsName heard
  pub channels : m.input ≢ m.output
  pub spelled : Spells m.input m.output loose [] (term_of m.start) behaviour
  pub short : length behaviour ≤ 400
  pub host : list_all is_host_byte m.host ≡ true
  pub ports : IsPort port_out m.port × IsPort port_in m.port

-- two models say the same: their names, host and port are the same, and so are their behaviours
pub record SaysSame (m n : Model) : Type 0 where
  pub name : m.name ≡ n.name
  pub input : m.input ≡ n.input
  pub output : m.output ≡ n.output
  pub link : m.link ≡ n.link
  pub host : m.host ≡ n.host
  pub port : m.port ≡ n.port
  pub start : term_of m.start ≡ term_of n.start

-- no file states two models
abbrev pub StatesOnly : List ℕ → Model → Type 0
StatesOnly bytes m = (n : Model) → IsFile bytes n → SaysSame n m
