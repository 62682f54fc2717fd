-- The values of a constructor's fields as a list, from which they come back: a code, by which a proof tells them apart.
use Rattle.std.specs.Prelude.{◌≡◌, ◌⊎◌, ℕ, ℤ, Bool, List, [], ◌∷◌}
use Rattle.std.specs.Coded.{Coded, code_by, coded_ℕ, coded_ℤ, coded_bool, coded_list, coded⊎}
use Rattle.txs_values.specs.Value.{Values, num, bool, text, cons, no_value, and_value}
use base.Stored.{coded_unit}
use mathlib.Core.Logic.{inl, inr}
use mathlib.Core.Path.{refl, ap, ◌∙◌}

-- the end of some fields, a number, a truth value, a text, or a constructor whose fields follow
abbrev pub Part : Type 0
Part = Unit {0} ⊎ (ℤ ⊎ (Bool ⊎ (List ℕ ⊎ ℕ)))

-- the parts of values, and these behind them
abbrev pub parts : Values → List Part → List Part
parts no_value more = inl tt ∷ more
parts (and_value (num x) vs) more = inr (inl x) ∷ parts vs more
parts (and_value (bool b) vs) more = inr (inr (inl b)) ∷ parts vs more
parts (and_value (text bs) vs) more = inr (inr (inr (inl bs))) ∷ parts vs more
parts (and_value (cons c fs) vs) more = inr (inr (inr (inr c))) ∷ parts fs (parts vs more)

-- a part in front of what those behind it stand for
abbrev pub joined : Part → List Values → List Values
joined (inl u) rest = no_value ∷ rest
joined (inr p) [] = []
joined (inr (inl x)) (vs ∷ rest) = and_value (num x) vs ∷ rest
joined (inr (inr (inl b))) (vs ∷ rest) = and_value (bool b) vs ∷ rest
joined (inr (inr (inr (inl bs)))) (vs ∷ rest) = and_value (text bs) vs ∷ rest
joined (inr (inr (inr (inr c)))) (fs ∷ []) = []
joined (inr (inr (inr (inr c)))) (fs ∷ vs ∷ rest) = and_value (cons c fs) vs ∷ rest

-- what parts stand for
abbrev pub whole : List Part → List Values
whole [] = []
whole (p ∷ ps) = joined p (whole ps)

pub whole-parts : (vs : Values) (more : List Part) → whole (parts vs more) ≡ vs ∷ whole more
whole-parts no_value more = refl
whole-parts (and_value (num x) vs) more = ap (joined (inr (inl x))) (whole-parts vs more)
whole-parts (and_value (bool b) vs) more = ap (joined (inr (inr (inl b)))) (whole-parts vs more)
whole-parts (and_value (text bs) vs) more = ap (joined (inr (inr (inr (inl bs))))) (whole-parts vs more)
whole-parts (and_value (cons c fs) vs) more =
    ap (joined (inr (inr (inr (inr c))))) (whole-parts fs (parts vs more) ∙ ap (λ (q : List Values). fs ∷ q) (whole-parts vs more))

abbrev pub first_whole : List Values → Values
first_whole [] = no_value
first_whole (vs ∷ rest) = vs

abbrev pub coded_values : Coded Values
coded_values =
    code_by (List Part) (coded_list (coded⊎ coded_unit (coded⊎ coded_ℤ (coded⊎ coded_bool (coded⊎ (coded_list coded_ℕ) coded_ℕ)))))
    (λ vs. parts vs []) (λ ps. first_whole (whole ps)) (λ vs. ap first_whole (whole-parts vs []))
