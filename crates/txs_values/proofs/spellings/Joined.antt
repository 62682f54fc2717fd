-- How tokens stop and spellings are joined; the fields of what is spelled.
use Rattle.std.proofs.Common.{◌≡◌, ℕ, ◌≤◌, true, cond, eq-eqb, List, [], ◌∷◌, ◌++◌, Some, None, refl, sym, ap, ◌∙◌, append_assoc, arith}
use Rattle.txs_values.specs.Value.{Ty, named, Value, num, bool, text, cons, Values, Field, Table, place_of, field_types, height, fields_in, HasType, has_fields}
use Rattle.txs_values.specs.Spelling.{is_blank, past_blanks}
use Rattle.txs_values.specs.Spelled.{AreBlanks, AreDigits, IsSign, no_sign, minus_sign, IsName}
use Rattle.txs_values.proofs.spellings.Bytes.{Stops, past_blanks-is, letter-blank, digit-blank}

-- blanks before a token that begins with no blank
pub token-is : (bl w rest : List ℕ) → AreBlanks bl → Stops is_blank (w ++ rest) → past_blanks ((bl ++ w) ++ rest) ≡ w ++ rest
token-is bl w rest h s = ap past_blanks (append_assoc bl w rest) ∙ past_blanks-is bl (w ++ rest) h s

pub number-stops : {sign : List ℕ} → IsSign sign → (d : ℕ) (ds rest : List ℕ) → AreDigits (d ∷ ds) → Stops is_blank ((sign ++ d ∷ ds) ++ rest)
number-stops no_sign d ds rest h = digit-blank d h.0
number-stops minus_sign d ds rest h = refl

pub name-stops : (name rest : List ℕ) → IsName name → Stops is_blank (name ++ rest)
name-stops [] rest n = absurd n
name-stops (b ∷ bs) rest n = letter-blank b n.0

-- the fields of a placed constructor
pub fields-typed : (table : Table) (c k : ℕ) (name : List ℕ) (fs : List Field) (vs : Values)
    → place_of table c ≡ Some (record { ty = k; constructor = record { name = name; fields = fs } })
    → HasType table (cons c vs) (named k) → has_fields table vs (Some (field_types fs)) ≡ true
fields-typed table c k name fs vs e h =
    sym (ap (λ o. has_fields table vs (fields_in o k)) e
    ∙ ap (λ t. has_fields table vs (cond t (Some (field_types fs)) None)) (eq-eqb k k refl)) ∙ h

-- a comma between, and a parenthesis behind
pub comma-joined : (ws before more tail : List ℕ) → (ws ++ (before ++ (44 ∷ more))) ++ tail ≡ ws ++ (before ++ 44 ∷ (more ++ tail))
comma-joined ws before more tail = simp append_assoc

pub same_types : {t u : Ty} {ts us : List Ty} → t ∷ ts ≡ u ∷ us → (t ≡ u) × (ts ≡ us)
same_types e = (cc, cc)

pub height-some : (v : Value) → 1 ≤ height v
height-some (num x) = omega arith
height-some (bool b) = omega arith
height-some (text bs) = omega arith
height-some (cons c vs) = omega arith
