-- Places and numbers over a table of types.
use native.Mathlib.Numerals.{unary_clauses}
use Rattle.std.proofs.Common.{◌≡◌, ℕ, zero, suc, ◌+◌, ◌-◌, ◌<◌, ◌≤◌, List, [], ◌∷◌, ◌++◌, length, drop, get_or, Option, Some, None, refl, sym, ◌∙◌, ap, add-one, arith}
use Rattle.std.proofs.lemmas.List.{drop_more, map-append, length-map}
use Rattle.std.specs.Prelude.{slice_get}
use Rattle.txs_values.specs.Value.{TypeDef, Table, Place, place_in, place_from}
use Rattle.txs_values.specs.TableView.{cons_of, conses_of, type_of, table_of, constructor_count, constructor_limit, IsCounted}
use Rattle.txs_values.specs.declared.table.ConsDef as rust_cons
use Rattle.txs_values.specs.declared.table.TypeDef as rust_type

pub place_in-found : (k : ℕ) (xs : List rust_cons.ConsDef) (c : ℕ) (go : ℕ → Option Place) (x : rust_cons.ConsDef) → slice_get xs c ≡ Some x → place_in k (conses_of xs) c go ≡ Some (record { ty = k; constructor = cons_of x })
place_in-found k [] c go x h = absurd (cc)
place_in-found k (y ∷ ys) zero go x h = cc
place_in-found k (y ∷ ys) (suc c) go x h = place_in-found k ys c go x h

pub place_in-past : (k : ℕ) (xs : List rust_cons.ConsDef) (c : ℕ) (go : ℕ → Option Place) → slice_get xs c ≡ None → place_in k (conses_of xs) c go ≡ go (c - length xs)
place_in-past k [] c go h = simp unary_clauses refl
place_in-past k (y ∷ ys) zero go h = absurd (cc)
place_in-past k (y ∷ ys) (suc c) go h = simp unary_clauses (place_in-past k ys c go h)

pub past-length : {A : Type 0} (xs : List A) (c : ℕ) → slice_get xs c ≡ None → length xs ≤ c
past-length [] c h = omega arith
past-length (y ∷ ys) zero h = absurd (cc)
past-length (y ∷ ys) (suc c) h = let p = past-length ys c h in omega (arith, p)

pub constructor_count-append : (ts : Table) (t : TypeDef) → constructor_count (ts ++ t ∷ []) ≡ constructor_count ts + length t.constructors
constructor_count-append [] t = omega arith
constructor_count-append (u ∷ us) t = let h = constructor_count-append us t in omega (arith, h)

-- the rest of a table from its next type on
next : (ts : List rust_type.TypeDef) (i : ℕ) (d : rust_type.TypeDef) → i < length ts → d ≡ get_or ts i d → drop i ts ≡ d ∷ drop (i + 1) ts
next ts i d l e = drop_more ts i d l ∙ ap (λ (q : rust_type.TypeDef). q ∷ drop (i + 1) ts) (sym e)

pub place-found : (ts : List rust_type.TypeDef) (i ty left : ℕ) (d : rust_type.TypeDef) (x : rust_cons.ConsDef) (place : Option Place) → i < length ts → d ≡ get_or ts i d
    → slice_get d.cons left ≡ Some x → place_from ty (table_of (drop i ts)) left ≡ place → place ≡ Some (record { ty = ty; constructor = cons_of x })
place-found ts i ty left d x place l e h p =
    sym p ∙ (ap (λ (q : List rust_type.TypeDef). place_from ty (table_of q) left) (next ts i d l e) ∙ place_in-found ty d.cons left (place_from (suc ty) (table_of (drop (i + 1) ts))) x h)

pub place-past : (ts : List rust_type.TypeDef) (i ty left : ℕ) (d : rust_type.TypeDef) (place : Option Place) → i < length ts → d ≡ get_or ts i d
    → slice_get d.cons left ≡ None → place_from ty (table_of (drop i ts)) left ≡ place → place_from (ty + 1) (table_of (drop (i + 1) ts)) (left - length d.cons) ≡ place
place-past ts i ty left d place l e h p =
    let q = add-one ty in
    rw q (sym (sym p ∙ (ap (λ (q : List rust_type.TypeDef). place_from ty (table_of q) left) (next ts i d l e) ∙ place_in-past ty d.cons left (place_from (suc ty) (table_of (drop (i + 1) ts))) h)))

pub counted-more : (ts all : List rust_type.TypeDef) (t : rust_type.TypeDef) (count more : ℕ) → IsCounted count (table_of ts) → more ≡ length t.cons → more ≤ constructor_limit - count
    → all ≡ ts ++ t ∷ [] → IsCounted (count + more) (table_of all)
counted-more ts all t count more h m l e =
    let n = constructor_count-append (table_of ts) (type_of t) in
    let k = length-map t.cons cons_of in
    let g = h.counted in
    let w = h.within in
    let a : table_of all ≡ table_of ts ++ type_of t ∷ [] = ap table_of e ∙ map-append type_of ts (t ∷ []) in
    record {
      counted = rw a (omega (arith, n, k, g, m));
      within = omega (arith, w, l);
    }
