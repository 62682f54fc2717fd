-- The words of a file taken apart, and what is read of them.
use Rattle.std.specs.Prelude.{ℕ, zero, suc, ◌-◌, Bool, true, false, ◌&&◌, not, cond, eqb, nat_le, List, [], ◌∷◌, ◌++◌, length, take, drop, codes, bytes_eq, Option, Some, None}
use Rattle.std.specs.List.{list_all}
use Rattle.txs_terms.specs.Term.{Term}
use Rattle.txs_terms.specs.View.{term_of}
use Rattle.txs_words.specs.declared.form.FileWords as rust
use Rattle.txs_words.specs.declared.model.Model as rust_model
use Rattle.txs_words.specs.Form.{is_name}
use Rattle.txs_words.specs.File.{is_host_byte}
use Rattle.txs_words.specs.inner.Parsing.{port_read, behaviour_read}

-- the words that a file may choose
pub record FileWords : Type 0 where
  pub chandef : List ℕ
  pub input : List ℕ
  pub output : List ℕ
  pub name : List ℕ
  pub behaviour : List (List ℕ)
  pub link : List ℕ
  pub host : List ℕ
  pub port_out : List ℕ
  pub port_in : List ℕ
  pub sent : List ℕ
  pub heard : List ℕ

abbrev pub file_words_of : rust.FileWords → FileWords
file_words_of p = record {
  chandef = p.chandef.now;
  input = p.input.now;
  output = p.output.now;
  name = p.name.now;
  behaviour = p.behaviour.now;
  link = p.link.now;
  host = p.host.now;
  port_out = p.port_out.now;
  port_in = p.port_in.now;
  sent = p.sent.now;
  heard = p.heard.now;
}

-- the words before the behaviour
abbrev pub front_words : FileWords → List (List ℕ)
front_words p =
    codes "CHANDEF" ∷ p.chandef ∷ codes "::=" ∷ p.input ∷ codes "," ∷ p.output ∷ codes "::" ∷ codes "Int" ∷ codes "ENDDEF"
    ∷ codes "MODELDEF" ∷ p.name ∷ codes "::=" ∷ codes "CHAN" ∷ codes "IN" ∷ p.input ∷ codes "CHAN" ∷ codes "OUT" ∷ p.output ∷ codes "BEHAVIOUR" ∷ []

-- the words after it, with the first link
abbrev pub out_words : FileWords → List (List ℕ)
out_words p =
    codes "ENDDEF" ∷ codes "CNECTDEF" ∷ p.link ∷ codes "::=" ∷ codes "CLIENTSOCK"
    ∷ codes "CHAN" ∷ codes "OUT" ∷ p.input ∷ codes "HOST" ∷ p.host ∷ codes "PORT" ∷ p.port_out ∷ codes "ENCODE" ∷ p.input ∷ codes "?" ∷ p.sent ∷ codes "->" ∷ codes "!" ∷ codes "toString" ∷ codes "(" ∷ p.sent ∷ codes ")" ∷ []

-- the second link, to the end
abbrev pub in_words : FileWords → List (List ℕ)
in_words p =
    codes "CHAN" ∷ codes "IN" ∷ p.output ∷ codes "HOST" ∷ p.host ∷ codes "PORT" ∷ p.port_in ∷ codes "DECODE" ∷ p.output ∷ codes "!" ∷ codes "fromString" ∷ codes "(" ∷ p.heard ∷ codes ")" ∷ codes "<-" ∷ codes "?" ∷ p.heard
    ∷ codes "ENDDEF" ∷ []

abbrev pub assembled : FileWords → List (List ℕ)
assembled p = front_words p ++ p.behaviour ++ (out_words p ++ in_words p)

-- ---- the words by their places

abbrev pub word_at : List (List ℕ) → ℕ → List ℕ
word_at [] k = []
word_at (w ∷ ws) zero = w
word_at (w ∷ ws) (suc k) = word_at ws k

abbrev pub placed : List (List ℕ) → List (List ℕ) → List (List ℕ) → FileWords
placed front behaviour back = record {
  chandef = word_at front 1;
  input = word_at front 3;
  output = word_at front 5;
  name = word_at front 10;
  behaviour = behaviour;
  link = word_at back 2;
  host = word_at back 9;
  port_out = word_at back 11;
  port_in = word_at back 28;
  sent = word_at back 15;
  heard = word_at back 34;
}

-- whether the words are these
abbrev pub are_same : List (List ℕ) → List (List ℕ) → Bool
are_same [] [] = true
are_same [] (x ∷ xs) = false
are_same (w ∷ ws) [] = false
are_same (w ∷ ws) (x ∷ xs) = bytes_eq w x && are_same ws xs

-- the words by their places, if all other words are those of the form
abbrev pub kept : List (List ℕ) → List (List ℕ) → List (List ℕ) → Option FileWords
kept front behaviour back =
    let p = placed front behaviour back in
    cond (are_same front (front_words p) && (are_same (take 22 back) (out_words p) && are_same (drop 22 back) (in_words p))) (Some p) None

abbrev pub taken_apart : List (List ℕ) → Option FileWords
taken_apart words =
    let rest = drop 19 words in
    cond (nat_le 59 (length words)) (kept (take 19 words) (take (length rest - 40) rest) (drop (length rest - 40) rest)) None

-- ---- what is read of them

-- a host, between two quotes
abbrev pub unquoted : List ℕ → List ℕ → List ℕ → Option (List ℕ)
unquoted front host back = cond (bytes_eq front (codes "\"") && (bytes_eq back (codes "\"") && list_all is_host_byte host)) (Some host) None

abbrev pub host_read : List ℕ → Option (List ℕ)
host_read word =
    let rest = drop 1 word in
    cond (nat_le 2 (length word)) (unquoted (take 1 word) (take (length rest - 1) rest) (drop (length rest - 1) rest)) None

abbrev pub same_port : Option ℕ → Option ℕ → Option ℕ
same_port None n = None
same_port (Some m) None = None
same_port (Some m) (Some n) = cond (eqb m n) (Some m) None

abbrev pub are_named : FileWords → Bool
are_named p = is_name p.chandef && (is_name p.input && (is_name p.output && (is_name p.name && (is_name p.link && (is_name p.sent && is_name p.heard)))))

abbrev pub is_in_form : FileWords → Bool
is_in_form p = are_named p && (not (bytes_eq p.input p.output) && nat_le (length p.behaviour) 400)

-- the parts of a model
pub record Parts : Type 0 where
  pub input : List ℕ
  pub output : List ℕ
  pub name : List ℕ
  pub link : List ℕ
  pub host : List ℕ
  pub port : ℕ
  pub start : Term

abbrev pub parts_of : rust_model.Model → Parts
parts_of m = record { input = m.input; output = m.output; name = m.name; link = m.link; host = m.host; port = m.port; start = term_of m.start }

abbrev pub joined : FileWords → Option ℕ → Option (List ℕ) → Option Term → Option Parts
joined p None host start = None
joined p (Some port) None start = None
joined p (Some port) (Some host) None = None
joined p (Some port) (Some host) (Some start) = Some (record { input = p.input; output = p.output; name = p.name; link = p.link; host = host; port = port; start = start })

abbrev pub model_read : FileWords → Option Parts
model_read p = cond (is_in_form p) (joined p (same_port (port_read p.port_out) (port_read p.port_in)) (host_read p.host) (behaviour_read p.input p.output p.behaviour)) None

abbrev pub of_file_words : Option FileWords → Option Parts
of_file_words None = None
of_file_words (Some p) = model_read p

-- the model of the words of a file
abbrev pub words_read : List (List ℕ) → Option Parts
words_read words = of_file_words (taken_apart words)
