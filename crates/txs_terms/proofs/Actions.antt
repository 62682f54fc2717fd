-- An action of one Int on one channel is an action where the channel is of Ints.
use Rattle.std.proofs.Common.{◌≡◌, ℕ, ℤ, List, [], ◌∷◌, true, refl, sym, subst}
use Rattle.txs_values.specs.Value.{Ty, integer, Table, num, fits, HaveTypes}
use Rattle.txs_terms.specs.Action.{Scope, IsAction, types_on}
use Rattle.txs_terms.specs.Sets.{IsInt}

int_types : (table : Table) (ts : List Ty) (v : ℤ) → ts ≡ integer ∷ [] → fits v ≡ true → HaveTypes table (num v ∷ []) ts
int_types table ts v e h = subst (λ us. HaveTypes table (num v ∷ []) us) (sym e) (h, tt)

pub int_action : (table : Table) (scope : Scope) (c : ℕ) (v : ℤ) → fits v ≡ true → IsInt scope c
    → IsAction table scope (record { channel = c; values = num v ∷ [] } ∷ [])
int_action table scope c v h e = record { some = refl; typed = (int_types table (types_on scope c) v e h, tt); ascending = (tt, tt) }
