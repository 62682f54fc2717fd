-- A text is read as the value that it spells.
use Rattle.std.proofs.Common.{◌≡◌, ◌≤◌, ◌↔◌, ℕ, Bool, true, false, cond, nat_le, leb-true, le-leb, inl, inr, List, [], ◌∷◌, Some, None, refl, ap, ◌∙◌, subst, arith}
use Rattle.std.proofs.lemmas.Bool.{cond-true}
use Rattle.txs_values.specs.Value.{Ty, Value, Table, size, value_size_limit}
use Rattle.txs_values.specs.Spelling.{past_blanks}
use Rattle.txs_values.specs.Spelled.{IsSpelling, IsNamed, IsAllowed}
use Rattle.txs_values.specs.Reading.{Outcome, ok, stop, after, value_read, levels_below, ended, lone_read, small_read, read_text}
use Rattle.txs_values.proofs.spellings.Finds.{Ends, Fine}
use Rattle.txs_values.proofs.spellings.Fronts.{same_some}
use Rattle.txs_values.proofs.spellings.Lone.{levels-all, lone-ends, lone-read}

-- nothing is left behind a whole value
ended-nothing : (w : Value) (bs : List ℕ) (v : Value) (r : List ℕ) → ended w bs ≡ ok v r → r ≡ []
ended-nothing w [] v r e = cc
ended-nothing w (b ∷ bs) v r e = absurd (cc)

after-nothing : (o : Outcome Value) (v : Value) (r : List ℕ) → after o (λ v r. ended v (past_blanks r)) ≡ ok v r → r ≡ []
after-nothing (ok w s) v r e = ended-nothing w (past_blanks s) v r e
after-nothing (stop k n) v r e = absurd (cc)

small-if : (v w : Value) (t : Bool) → nat_le (size v) value_size_limit ≡ t → cond t (Some v) None ≡ Some w → (v ≡ w) × (size v ≤ value_size_limit)
small-if v w true e h = (same_some h, leb-true (size v) value_size_limit e)
small-if v w false e h = absurd (cc)

small-some : (o : Outcome Value) (w : Value) → small_read o ≡ Some w → (v : Value) × (r : List ℕ) × (o ≡ ok v r) × (v ≡ w) × (size v ≤ value_size_limit)
small-some (ok v r) w h = let p = small-if v w (nat_le (size v) value_size_limit) refl h in (v, r, refl, p.0, p.1)
small-some (stop k n) w h = absurd (cc)

pub spelled : (table : Table) (t : Ty) (bs : List ℕ) (v : Value) → read_text table t bs ≡ Some v → IsSpelling table t v bs × IsAllowed table t v
spelled table t bs v h =
    let p = small-some (lone_read table t bs) v h in
    let e : lone_read table t bs ≡ ok p.0 [] = p.2 ∙ ap (ok p.0) (after-nothing (value_read table levels_below t bs) p.0 p.1 p.2) in
    subst (λ w. IsSpelling table t w bs × IsAllowed table t w) p.3 (lone-read table t bs [] p.0 e p.4)

read : (table : Table) (t : Ty) (bs : List ℕ) (v : Value) → IsNamed table → IsSpelling table t v bs → IsAllowed table t v → read_text table t bs ≡ Some v
read table t bs v n s a = by (lone-ends table t n v bs s)
  where
    by : Ends (Fine table levels_below t v) (lone_read table t bs) v [] → read_text table t bs ≡ Some v
    by (inl e) = ap small_read e ∙ cond-true (nat_le (size v) value_size_limit) (Some v) None (le-leb (size v) value_size_limit a.small)
    by (inr l) = let low = a.low in let top = levels-all in absurd (l.broken (a.typed, omega (arith, low, top), a.texts))

pub read_is_spelled : (table : Table) (t : Ty) (bs : List ℕ) (v : Value) → IsNamed table → (read_text table t bs ≡ Some v) ↔ (IsSpelling table t v bs × IsAllowed table t v)
read_is_spelled table t bs v n = (spelled table t bs v, λ p. read table t bs v n p.0 p.1)
