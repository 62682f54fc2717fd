-- Runs of bytes: how a text parts into blanks, digits or the bytes of a name and what follows them.
use Rattle.std.proofs.Common.{◌≡◌, ℕ, Bool, true, false, cond, eqb, List, [], ◌∷◌, ◌++◌, refl, ap, ◌∙◌, arith}
use Rattle.std.proofs.lemmas.Bool.{cond-true, cond-false}
use Rattle.std.proofs.lemmas.Bool.Decides.{nat_tests}
use Rattle.txs_values.specs.Spelling.{is_blank, past_blanks, is_digit, is_letter, is_name_byte, run_of, past_run}
use Rattle.txs_values.specs.Spelled.{AreBlanks, AreDigits, IsName}

-- each byte passes
abbrev pub Each : (ℕ → Bool) → List ℕ → Type 0
Each p [] = Unit {0}
Each p (b ∷ bs) = (p b ≡ true) × Each p bs

-- no byte passes at the front
abbrev pub Stops : (ℕ → Bool) → List ℕ → Type 0
Stops p [] = Unit {0}
Stops p (b ∷ bs) = p b ≡ false

pub digits-each : (ds : List ℕ) → AreDigits ds → Each is_digit ds
digits-each [] h = tt
digits-each (d ∷ ds) h = (h.0, digits-each ds h.1)

pub each-digits : (ds : List ℕ) → Each is_digit ds → AreDigits ds
each-digits [] h = tt
each-digits (d ∷ ds) h = (h.0, each-digits ds h.1)

pub name-each : (b : ℕ) (bs : List ℕ) → IsName (b ∷ bs) → Each is_name_byte bs
name-each b [] h = tt
name-each b (c ∷ cs) h = (h.1.0, name-each b cs (h.0, h.1.1))

-- ---- a run and what follows it

each-if : (p : ℕ → Bool) (b : ℕ) (run : List ℕ) (t : Bool) → p b ≡ t → Each p run → Each p (cond t (b ∷ run) [])
each-if p b run true e h = (e, h)
each-if p b run false e h = tt

pub run-each : (p : ℕ → Bool) (bs : List ℕ) → Each p (run_of p bs)
run-each p [] = tt
run-each p (b ∷ bs) = each-if p b (run_of p bs) (p b) refl (run-each p bs)

pub run-parts : (p : ℕ → Bool) (bs : List ℕ) → bs ≡ run_of p bs ++ past_run p bs
run-parts p [] = refl
run-parts p (b ∷ bs) = elim (p b) as (λ t. b ∷ bs ≡ cond t (b ∷ run_of p bs) [] ++ cond t (past_run p bs) (b ∷ bs)) [
  | true ↦ ap (λ (q : List ℕ). b ∷ q) (run-parts p bs)
  | false ↦ refl
]

-- a whole run is found again before what stops it
pub run-append : (p : ℕ → Bool) (ws rest : List ℕ) → Each p ws → Stops p rest → run_of p (ws ++ rest) ≡ ws
run-append p [] [] h s = refl
run-append p [] (b ∷ rest) h s = cond-false (p b) (b ∷ run_of p rest) [] s
run-append p (w ∷ ws) rest h s =
    cond-true (p w) (w ∷ run_of p (ws ++ rest)) [] h.0 ∙ ap (λ (q : List ℕ). w ∷ q) (run-append p ws rest h.1 s)

pub past-append : (p : ℕ → Bool) (ws rest : List ℕ) → Each p ws → Stops p rest → past_run p (ws ++ rest) ≡ rest
past-append p [] [] h s = refl
past-append p [] (b ∷ rest) h s = cond-false (p b) (past_run p rest) (b ∷ rest) s
past-append p (w ∷ ws) rest h s = cond-true (p w) (past_run p (ws ++ rest)) (w ∷ (ws ++ rest)) h.0 ∙ past-append p ws rest h.1 s

-- ---- blanks

-- the blanks in front of a text
pub record Blanks (bs : List ℕ) : Type 0 where
  pub front : List ℕ
  pub blanks : AreBlanks front
  pub parts : bs ≡ front ++ past_blanks bs

blanks-if : (b : ℕ) (bs : List ℕ) (t : Bool) → is_blank b ≡ t → Blanks bs
    → (ws : List ℕ) × AreBlanks ws × (b ∷ bs ≡ ws ++ cond t (past_blanks bs) (b ∷ bs))
blanks-if b bs true e h = (b ∷ h.front, (e, h.blanks), ap (λ (q : List ℕ). b ∷ q) h.parts)
blanks-if b bs false e h = ([], tt, refl)

pub blanks-parts : (bs : List ℕ) → Blanks bs
blanks-parts [] = record { front = []; blanks = tt; parts = refl }
blanks-parts (b ∷ bs) =
    let h = blanks-if b bs (is_blank b) refl (blanks-parts bs) in
    record { front = h.0; blanks = h.1; parts = h.2 }

pub past_blanks-append : (ws rest : List ℕ) → AreBlanks ws → past_blanks (ws ++ rest) ≡ past_blanks rest
past_blanks-append [] rest h = refl
past_blanks-append (w ∷ ws) rest h = cond-true (is_blank w) (past_blanks (ws ++ rest)) (w ∷ (ws ++ rest)) h.0 ∙ past_blanks-append ws rest h.1

pub past_blanks-stops : (bs : List ℕ) → Stops is_blank bs → past_blanks bs ≡ bs
past_blanks-stops [] s = refl
past_blanks-stops (b ∷ bs) s = cond-false (is_blank b) (past_blanks bs) (b ∷ bs) s

-- blanks before what begins with no blank
pub past_blanks-is : (ws rest : List ℕ) → AreBlanks ws → Stops is_blank rest → past_blanks (ws ++ rest) ≡ rest
past_blanks-is ws rest h s = past_blanks-append ws rest h ∙ past_blanks-stops rest s

-- ---- which bytes are none of which

pub letter-blank : (b : ℕ) → is_letter b ≡ true → is_blank b ≡ false
letter-blank b h = grind (arith, nat_tests)

pub digit-blank : (b : ℕ) → is_digit b ≡ true → is_blank b ≡ false
digit-blank b h = grind (arith, nat_tests)

pub digit-minus : (b : ℕ) → is_digit b ≡ true → eqb b 45 ≡ false
digit-minus b h = grind (arith, nat_tests)

pub blank-name : (b : ℕ) → is_blank b ≡ true → is_name_byte b ≡ false
blank-name b h = grind (arith, nat_tests)

pub name-digit : (b : ℕ) → is_name_byte b ≡ false → is_digit b ≡ false
name-digit b h = grind (arith, nat_tests)

pub stops-digit : (rest : List ℕ) → Stops is_name_byte rest → Stops is_digit rest
stops-digit [] s = tt
stops-digit (b ∷ rest) s = name-digit b s

-- blanks, and then what begins with no byte of a name
pub stops-blanks : (ws rest : List ℕ) → AreBlanks ws → Stops is_name_byte rest → Stops is_name_byte (ws ++ rest)
stops-blanks [] rest h s = s
stops-blanks (w ∷ ws) rest h s = blank-name w h.0

pub stops-all : (ws : List ℕ) → AreBlanks ws → Stops is_name_byte ws
stops-all [] h = tt
stops-all (w ∷ ws) h = blank-name w h.0

-- a text of blanks alone
pub past_blanks-all : (ws : List ℕ) → AreBlanks ws → past_blanks ws ≡ []
past_blanks-all [] h = refl
past_blanks-all (w ∷ ws) h = cond-true (is_blank w) (past_blanks ws) (w ∷ ws) h.0 ∙ past_blanks-all ws h.1

pub blanks-all : (bs : List ℕ) → past_blanks bs ≡ [] → AreBlanks bs
blanks-all [] e = tt
blanks-all (b ∷ bs) e = by (is_blank b) refl e (blanks-all bs)
  where
    by : (t : Bool) → is_blank b ≡ t → cond t (past_blanks bs) (b ∷ bs) ≡ [] → (past_blanks bs ≡ [] → AreBlanks bs) → AreBlanks (b ∷ bs)
    by true t e more = (t, more e)
    by false t e more = absurd (cc)
