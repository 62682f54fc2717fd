-- The canonical text of a constructor, piece by piece.
use Rattle.std.proofs.Common.{◌≡◌, ℕ, ◌≤◌, List, [], ◌∷◌, ◌++◌, length, get_or, drop, refl, sym, ◌∙◌, ap, arith, append_assoc}
use Rattle.std.proofs.lemmas.List.{append-nil, drop_all}
use Rattle.txs_values.specs.declared.value.Value as rust
use Rattle.txs_values.specs.declared.value.Value.TheVariants as variant
use Rattle.txs_values.specs.Text.{name_of, text_of, texts_of}
use Rattle.txs_values.specs.Value.{Table, Values, place_of, cons, packed}
use Rattle.txs_values.specs.View.{value_of, values_of}

pieces : (name first others o0 o1 o2 o3 o4 o5 : List ℕ) → o1 ≡ o0 ++ name → o2 ≡ o1 ++ 40 ∷ [] → o3 ≡ o2 ++ first → o4 ≡ o3 ++ others → o5 ≡ o4 ++ 41 ∷ []
    → o5 ≡ o0 ++ (name ++ (40 ∷ (first ++ (others ++ 41 ∷ []))))
pieces name first others o0 o1 o2 o3 o4 o5 h1 h2 h3 h4 h5 = rw (h5, h4, h3, h2, h1) (simp append_assoc refl)

made : (table : Table) (id : ℕ) (fields : List rust.Value) (x : rust.Value) → 1 ≤ length fields → x ≡ get_or fields 0 x
    → text_of table (cons id (packed (values_of fields))) ≡ name_of (place_of table id) ++ (40 ∷ (text_of table (value_of x) ++ (texts_of table (packed (values_of (drop 1 fields))) ++ 41 ∷ [])))
made table id [] x l e = absurd (omega (arith, l))
made table id (y ∷ ys) x l e = ap (λ (q : rust.Value). name_of (place_of table id) ++ (40 ∷ (text_of table (value_of q) ++ (texts_of table (packed (values_of ys)) ++ 41 ∷ [])))) (sym e)

pub written-made : (table : Table) (id : ℕ) (fields : List rust.Value) (x : rust.Value) (o0 o1 o2 o3 o4 o5 : List ℕ) → 1 ≤ length fields → x ≡ get_or fields 0 x
    → o1 ≡ o0 ++ name_of (place_of table id) → o2 ≡ o1 ++ 40 ∷ [] → o3 ≡ o2 ++ text_of table (value_of x) → o4 ≡ o3 ++ texts_of table (packed (values_of (drop 1 fields))) → o5 ≡ o4 ++ 41 ∷ []
    → o5 ≡ o0 ++ text_of table (cons id (packed (values_of fields)))
written-made table id fields x o0 o1 o2 o3 o4 o5 l e h1 h2 h3 h4 h5 =
    pieces _ _ _ o0 o1 o2 o3 o4 o5 h1 h2 h3 h4 h5 ∙ ap (λ (q : List ℕ). o0 ++ q) (sym (made table id fields x l e))

-- at the end of the fields
pub written-others : (table : Table) (others : List rust.Value) (i : ℕ) (out start : List ℕ) → length others ≤ i
    → out ++ texts_of table (packed (values_of (drop i others))) ≡ start ++ texts_of table (packed (values_of others)) → out ≡ start ++ texts_of table (packed (values_of others))
written-others table others i out start l h =
    let e : drop i others ≡ [] = drop_all i others l in
    sym (append-nil out) ∙ (ap (λ (q : List rust.Value). out ++ texts_of table (packed (values_of q))) (sym e) ∙ h)

pub written-value : (table : Table) (id : ℕ) (fields : Values) (listed : List rust.Value) (value : rust.Value) (out new : List ℕ) → value ≡ variant.Cons id fields → packed (values_of listed) ≡ fields
    → new ≡ out ++ text_of table (cons id (packed (values_of listed))) → new ≡ out ++ text_of table (value_of value)
written-value table id fields listed value out new e l h =
    h ∙ ap (λ (q : Values). out ++ text_of table (cons id q)) l ∙ ap (λ (v : rust.Value). out ++ text_of table (value_of v)) (sym e)
