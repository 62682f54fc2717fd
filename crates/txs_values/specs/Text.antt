-- The canonical text of a value.
use Rattle.std.specs.Prelude.{ℕ, true, false, cond, eqb, List, [], ◌∷◌, ◌++◌, Option, Some, None, codes}
use Rattle.std.specs.Fmt.{signed_decimal}
use Rattle.txs_values.specs.Value.{Value, num, bool, text, cons, Values, no_value, and_value, Table, Place, place_of}

-- `\"`, `\\`, `\n`, `\r` and `\t`
abbrev pub escaped : List ℕ → List ℕ
escaped [] = []
escaped (b ∷ bs) =
    cond (eqb b 34) (92 ∷ 34 ∷ escaped bs)
    (cond (eqb b 92) (92 ∷ 92 ∷ escaped bs)
    (cond (eqb b 10) (92 ∷ 110 ∷ escaped bs)
    (cond (eqb b 13) (92 ∷ 114 ∷ escaped bs)
    (cond (eqb b 9) (92 ∷ 116 ∷ escaped bs) (b ∷ escaped bs)))))

abbrev pub name_of : Option Place → List ℕ
name_of None = []
name_of (Some p) = p.constructor.name

-- An Int is decimal, a Bool is `True` or `False`, a text is quoted, and a constructor is `Name` or `Name(v,v)`.
abbrev mutual
  pub text_of : Table → Value → List ℕ
  text_of table (num x) = signed_decimal x
  text_of table (bool true) = codes "True"
  text_of table (bool false) = codes "False"
  text_of table (text bs) = 34 ∷ (escaped bs ++ 34 ∷ [])
  text_of table (cons c no_value) = name_of (place_of table c)
  text_of table (cons c (and_value v vs)) = name_of (place_of table c) ++ (40 ∷ (text_of table v ++ (texts_of table vs ++ 41 ∷ [])))

  -- each after a comma
  pub texts_of : Table → Values → List ℕ
  texts_of table no_value = []
  texts_of table (and_value v vs) = 44 ∷ (text_of table v ++ texts_of table vs)
