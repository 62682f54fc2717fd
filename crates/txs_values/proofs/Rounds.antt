-- What the loops over rounds and fields keep.
use Rattle.std.proofs.Common.{◌≡◌, ℕ, zero, suc, ◌+◌, ◌-◌, ◌<◌, ◌≤◌, ◌&&◌, true, false, cond, is_some, is_none, List, [], ◌∷◌, ◌++◌, length, map, take, drop, get_or, Option, Some, None, Result, Ok, Err, IfOk, IfSome, ◌≢◌, refl, sym, ap, ◌∙◌, arith, option_map}
use Rattle.std.proofs.lemmas.List.{length-map, drop_more, take_more, take_all, map-append}
use Rattle.txs_values.proofs.Building.{built-ranked, rounds-made}
use Rattle.txs_values.proofs.Choosing.{rounds-end, rounds-ranked, extent-ranked, extent-choice, choice_rounds-length, nothing-more}
use Rattle.txs_values.specs.Choices.{extent_of, extents_of, choices_of, extent_chosen, next_choices, choice_rounds, finds_nothing, chosen_in, made_by, built_by, built}
use Rattle.txs_values.specs.Default.{all_defaults, rounds, default_if}
use Rattle.txs_values.specs.TableView.{field_of, cons_of, type_of, table_of}
use Rattle.txs_values.specs.Value.{Ty, named, Value, cons, packed, Table, Field, place_of}
use Rattle.txs_values.specs.View.{ty_of, value_of, values_of}
use Rattle.txs_values.specs.declared.default.Choice as rust_choice
use Rattle.txs_values.specs.declared.default.Extent as rust_extent
use Rattle.txs_values.specs.declared.table.ConsDef as rust_cons
use Rattle.txs_values.specs.declared.table.FieldDef as rust_field
use Rattle.txs_values.specs.declared.table.TypeDef as rust_type
use Rattle.txs_values.specs.declared.value.Value as rust

-- ---- rounds

pub rounds-same : (defs : List rust_type.TypeDef) (found : List (Option rust_choice.Choice)) (i : ℕ) → found ≡ choice_rounds i (table_of defs) → length found ≡ length defs
rounds-same defs found i e = ap length e ∙ (choice_rounds-length i (table_of defs) ∙ length-map defs type_of)

pub rounds-last : (defs : List rust_type.TypeDef) (found next : List (Option rust_choice.Choice)) (i : ℕ) → found ≡ choice_rounds i (table_of defs)
    → next ≡ next_choices found 0 (table_of defs) found → finds_nothing found next ≡ true → i < length defs → found ≡ choice_rounds (length defs) (table_of defs)
rounds-last defs found next i e n h l =
    let same : length found ≡ length (table_of defs) = rounds-same defs found i e ∙ sym (length-map defs type_of) in
    let still : finds_nothing found (next_choices found 0 (table_of defs) found) ≡ true = ap (finds_nothing found) (sym n) ∙ h in
    rounds-end (table_of defs) found i e (nothing-more found 0 (table_of defs) found same still) (length defs - i) (length defs) (omega (arith, l))

abbrev goes_on : Option rust_choice.Choice → Option rust_choice.Choice → List (Option rust_choice.Choice) → List (Option rust_choice.Choice) → List (Option rust_choice.Choice) → List (Option rust_choice.Choice) → Type 0
goes_on o n os ns qs rs = finds_nothing os ns ≡ cond (is_none o && is_some n) false (finds_nothing qs rs)

pub finds-more : (found next : List (Option rust_choice.Choice)) (i : ℕ) (o n : Option rust_choice.Choice) → length found ≡ length next → i < length next → o ≡ get_or found i o → n ≡ get_or next i n
    → finds_nothing (drop i found) (drop i next) ≡ cond (is_none o && is_some n) false (finds_nothing (drop (i + 1) found) (drop (i + 1) next))
finds-more found next i o n s l x y =
    let a : drop i found ≡ o ∷ drop (i + 1) found = drop_more found i o (omega (arith, s, l)) ∙ ap (λ (q : Option rust_choice.Choice). q ∷ drop (i + 1) found) (sym x) in
    let b : drop i next ≡ n ∷ drop (i + 1) next = drop_more next i n l ∙ ap (λ (q : Option rust_choice.Choice). q ∷ drop (i + 1) next) (sym y) in
    ap (λ (q : List (Option rust_choice.Choice)). finds_nothing q (drop i next)) a ∙ ap (finds_nothing (o ∷ drop (i + 1) found)) b

-- ---- what the rounds tell

pub extent-default : (defs : List rust_type.TypeDef) (table : Table) (found : List (Option rust_choice.Choice)) (t : Ty) (r : Option rust_extent.Extent) → table_of defs ≡ table
    → found ≡ choice_rounds (length defs) (table_of defs) → r ≡ extent_chosen found t → r ≡ option_map extent_of (default_if table t)
extent-default defs table found t r d f e =
    let n : length defs ≡ length (table_of defs) = sym (length-map defs type_of) in
    let g : found ≡ choice_rounds (length (table_of defs)) (table_of defs) = f ∙ ap (λ (q : ℕ). choice_rounds q (table_of defs)) n in
    e ∙ (ap (λ (q : List (Option rust_choice.Choice)). extent_chosen q t) (g ∙ rounds-ranked (length (table_of defs)) (table_of defs))
    ∙ (extent-ranked (rounds (length (table_of defs)) (table_of defs)) t ∙ ap (λ (q : Table). option_map extent_of (default_if q t)) d))

extents-ranked : (os : List (Option Value)) → map (option_map (λ (c : rust_choice.Choice). c.extent)) (choices_of os) ≡ map (option_map extent_of) os
extents-ranked [] = refl
extents-ranked (None ∷ os) = ap (λ (q : List (Option rust_extent.Extent)). None ∷ q) (extents-ranked os)
extents-ranked (Some v ∷ os) =
    ap (λ (e : rust_extent.Extent). Some e ∷ map (option_map (λ (c : rust_choice.Choice). c.extent)) (choices_of os)) (extent-choice v)
    ∙ ap (λ (q : List (Option rust_extent.Extent)). Some (extent_of v) ∷ q) (extents-ranked os)

extents-default : (defs : List rust_type.TypeDef) (table : Table) (found : List (Option rust_choice.Choice)) → table_of defs ≡ table
    → found ≡ choice_rounds (length defs) (table_of defs) → map (option_map (λ (c : rust_choice.Choice). c.extent)) found ≡ extents_of table
extents-default defs table found d f =
    let m : length defs ≡ length table = sym (length-map defs type_of) ∙ ap length d in
    let g : found ≡ choice_rounds (length table) table = f ∙ (ap (λ (q : ℕ). choice_rounds q (table_of defs)) m ∙ ap (choice_rounds (length table)) d) in
    ap (map (option_map (λ (c : rust_choice.Choice). c.extent))) (g ∙ rounds-ranked (length table) table) ∙ extents-ranked (rounds (length table) table)

pub extents-ok : {E : Type 0} (defs : List rust_type.TypeDef) (table : Table) (found : List (Option rust_choice.Choice)) (r : Result (List (Option rust_extent.Extent)) E) → table_of defs ≡ table
    → found ≡ choice_rounds (length defs) (table_of defs) → IfOk r (λ es. es ≡ map (option_map (λ (c : rust_choice.Choice). c.extent)) found) → IfOk r (λ es. es ≡ extents_of table)
extents-ok defs table found (Ok es) d f h = h ∙ extents-default defs table found d f
extents-ok defs table found (Err e) d f h = h

pub built-default : (defs : List rust_type.TypeDef) (table : Table) (found : List (Option rust_choice.Choice)) (t : Ty) (n : ℕ) (v : Value) → table_of defs ≡ table
    → found ≡ choice_rounds (length defs) (table_of defs) → built n table found t ≡ Some v → default_if table t ≡ Some v
built-default defs table found t n v d f e =
    let m : length defs ≡ length table = sym (length-map defs type_of) ∙ ap length d in
    let g : found ≡ choice_rounds (length table) table = f ∙ (ap (λ (q : ℕ). choice_rounds q (table_of defs)) m ∙ ap (choice_rounds (length table)) d) in
    let h : built n table found t ≡ _ = ap (λ (q : List (Option rust_choice.Choice)). built n table q t) (g ∙ rounds-ranked (length table) table) in
    built-ranked n table (rounds (length table) table) (rounds-made (length table) table) t v (sym h ∙ e)

-- ---- the fields of a default

snoc-by : (v w : Value) (os : Option (List Value)) (ws : List Value) → os ≡ Some ws → elim os [ None ↦ None | Some us ↦ Some (v ∷ us) ] ≡ Some (v ∷ ws)
snoc-by v w os ws e = ap (λ (q : Option (List Value)). elim q [ None ↦ None | Some us ↦ Some (v ∷ us) ]) e

all-snoc-rest : (go : Ty → Option Value) (fs : List Field) (f : Field) (w v : Value) (o : Option (List Value)) (vs : List Value) → all_defaults go fs ≡ o
    → ((us : List Value) → all_defaults go fs ≡ Some us → all_defaults go (fs ++ f ∷ []) ≡ Some (us ++ v ∷ []))
    → elim o [ None ↦ None | Some us ↦ Some (w ∷ us) ] ≡ Some vs → elim (all_defaults go (fs ++ f ∷ [])) [ None ↦ None | Some us ↦ Some (w ∷ us) ] ≡ Some (vs ++ v ∷ [])
all-snoc-rest go fs f w v None vs x h e = absurd (cc)
all-snoc-rest go fs f w v (Some us) vs x h e =
    let q : w ∷ us ≡ vs = cc in
    snoc-by w w (all_defaults go (fs ++ f ∷ [])) (us ++ v ∷ []) (h us x) ∙ ap (λ (z : List Value). Some (z ++ v ∷ [])) q

all-snoc-first : (go : Ty → Option Value) (fs : List Field) (f : Field) (v : Value) (o : Option Value) (vs : List Value)
    → ((us : List Value) → all_defaults go fs ≡ Some us → all_defaults go (fs ++ f ∷ []) ≡ Some (us ++ v ∷ []))
    → elim o [ None ↦ None | Some w ↦ elim (all_defaults go fs) [ None ↦ None | Some us ↦ Some (w ∷ us) ] ] ≡ Some vs
    → elim o [ None ↦ None | Some w ↦ elim (all_defaults go (fs ++ f ∷ [])) [ None ↦ None | Some us ↦ Some (w ∷ us) ] ] ≡ Some (vs ++ v ∷ [])
all-snoc-first go fs f v None vs h e = absurd (cc)
all-snoc-first go fs f v (Some w) vs h e = all-snoc-rest go fs f w v (all_defaults go fs) vs refl h e

all-snoc : (go : Ty → Option Value) (fs : List Field) (f : Field) (v : Value) (vs : List Value) → all_defaults go fs ≡ Some vs → go f.ty ≡ Some v → all_defaults go (fs ++ f ∷ []) ≡ Some (vs ++ v ∷ [])
all-snoc go [] f v vs e g =
    let q : [] ≡ vs = cc in
    ap (λ (o : Option Value). elim o [ None ↦ None | Some w ↦ Some (w ∷ []) ]) g ∙ ap (λ (z : List Value). Some (z ++ v ∷ [])) q
all-snoc go (h ∷ hs) f v vs e g = all-snoc-first go hs f v (go h.ty) vs (λ us x. all-snoc go hs f v us x g) e

pub fields-more : (go : Ty → Option Value) (items : List rust_field.FieldDef) (i : ℕ) (f : rust_field.FieldDef) (v : rust.Value) (vs new : List rust.Value) → i < length items → f ≡ get_or items i f
    → all_defaults go (map field_of (take i items)) ≡ Some (values_of vs) → go (ty_of f.ty) ≡ Some (value_of v) → new ≡ vs ++ v ∷ []
    → all_defaults go (map field_of (take (i + 1) items)) ≡ Some (values_of new)
fields-more go items i f v vs new l e h g n =
    let t : take (i + 1) items ≡ take i items ++ f ∷ [] = take_more items i f l ∙ ap (λ (q : rust_field.FieldDef). take i items ++ q ∷ []) (sym e) in
    let m : map field_of (take (i + 1) items) ≡ map field_of (take i items) ++ field_of f ∷ [] = ap (map field_of) t ∙ map-append field_of (take i items) (f ∷ []) in
    ap (all_defaults go) m ∙ (all-snoc go (map field_of (take i items)) (field_of f) (value_of v) (values_of vs) h g ∙ ap Some (sym (ap values_of n ∙ map-append value_of vs (v ∷ []))))

-- a constructor with all its fields
pub built-whole : (table : Table) (found : List (Option rust_choice.Choice)) (n k : ℕ) (ty : Ty) (choice : rust_choice.Choice) (kind : ℕ) (x : rust_cons.ConsDef) (vs : List Value) → 1 ≤ n → ty ≡ named k
    → chosen_in found k ≡ Some choice → place_of table choice.id ≡ Some (record { ty = kind; constructor = cons_of x })
    → all_defaults (built (n - 1) table found) (map field_of x.fields) ≡ Some vs → built n table found ty ≡ Some (cons choice.id (packed vs))
built-whole table found zero k ty choice kind x vs l t c p d = absurd (omega (arith, l))
built-whole table found (suc n) k ty choice kind x vs l t c p d =
    let m : suc n - 1 ≡ n = omega arith in
    let e : all_defaults (built n table found) (map field_of x.fields) ≡ Some vs = ap (λ (q : ℕ). all_defaults (built q table found) (map field_of x.fields)) (sym m) ∙ d in
    ap (built (suc n) table found) t ∙ (ap (built_by (built n table found) table) c ∙ (ap (made_by (built n table found) choice.id) p ∙ ap (option_map (λ (ws : List Value). cons choice.id (packed ws))) e))

-- the next round by what the call was passed and gave
next-choices : (defs : List rust_type.TypeDef) (found passed next : List (Option rust_choice.Choice)) → passed ≡ found → next ≡ next_choices passed 0 (table_of defs) passed → next ≡ next_choices found 0 (table_of defs) found
next-choices defs found passed next p n = n ∙ ap (λ (q : List (Option rust_choice.Choice)). next_choices q 0 (table_of defs) q) p

pub rounds-next : (defs : List rust_type.TypeDef) (found passed next old new : List (Option rust_choice.Choice)) (i : ℕ) → found ≡ choice_rounds i (table_of defs) → passed ≡ found
    → next ≡ next_choices passed 0 (table_of defs) passed → old ≡ found → new ≡ next → length old ≡ length new
rounds-next defs found passed next old new i e p n o w =
    let m : next ≡ choice_rounds (suc i) (table_of defs) = next-choices defs found passed next p n ∙ ap (λ (q : List (Option rust_choice.Choice)). next_choices q 0 (table_of defs) q) e in
    ap length o ∙ (rounds-same defs found i e ∙ sym (ap length w ∙ rounds-same defs next (suc i) m))

pub rounds-stop : (defs : List rust_type.TypeDef) (found passed next old new : List (Option rust_choice.Choice)) (i : ℕ) → found ≡ choice_rounds i (table_of defs) → passed ≡ found
    → next ≡ next_choices passed 0 (table_of defs) passed → old ≡ found → new ≡ next → finds_nothing old new ≡ true → i < length defs → found ≡ choice_rounds (length defs) (table_of defs)
rounds-stop defs found passed next old new i e p n o w h l =
    rounds-last defs found next i e (next-choices defs found passed next p n) (ap (finds_nothing found) (sym w) ∙ (ap (λ (q : List (Option rust_choice.Choice)). finds_nothing q new) (sym o) ∙ h)) l

-- a constructor at the end of its fields
pub built-end : (table : Table) (found : List (Option rust_choice.Choice)) (n k : ℕ) (ty : Ty) (chosen : Option rust_choice.Choice) (choice : rust_choice.Choice) (kind : ℕ) (x : rust_cons.ConsDef)
    (items : List rust_field.FieldDef) (i : ℕ) (fields : List rust.Value) → 1 ≤ n → ty ≡ named k → chosen ≡ chosen_in found k → chosen ≡ Some choice
    → place_of table choice.id ≡ Some (record { ty = kind; constructor = cons_of x }) → items ≡ x.fields → length items ≤ i
    → all_defaults (built (n - 1) table found) (map field_of (take i items)) ≡ Some (values_of fields) → built n table found ty ≡ Some (cons choice.id (packed (values_of fields)))
built-end table found n k ty chosen choice kind x items i fields l t c s p f m d =
    let e : take i items ≡ x.fields = take_all i items m ∙ f in
    built-whole table found n k ty choice kind x (values_of fields) l t (sym c ∙ s) p (ap (λ (q : List rust_field.FieldDef). all_defaults (built (n - 1) table found) (map field_of q)) (sym e) ∙ d)

pub built-ok : {E : Type 0} (defs : List rust_type.TypeDef) (table : Table) (found : List (Option rust_choice.Choice)) (t : Ty) (n : ℕ) (r : Result rust.Value E) → table_of defs ≡ table
    → found ≡ choice_rounds (length defs) (table_of defs) → IfOk r (λ v. built n table found t ≡ Some (value_of v)) → IfOk r (λ v. default_if table t ≡ Some (value_of v))
built-ok defs table found t n (Ok v) d f h = built-default defs table found t n (value_of v) d f h
built-ok defs table found t n (Err e) d f h = h

-- where it is measured there is one
pub extent-some : (o : Option Value) (r : Option rust_extent.Extent) → r ≡ option_map extent_of o → IfSome r (λ _. o ≢ None)
extent-some None None e = tt
extent-some None (Some x) e = absurd (cc)
extent-some (Some v) None e = tt
extent-some (Some v) (Some x) e = λ n. absurd (cc)

-- and where it is not, there is none
pub extent-none : (o : Option Value) (r : Option rust_extent.Extent) → r ≡ None → r ≡ option_map extent_of o → o ≡ None
extent-none None r n e = refl
extent-none (Some v) r n e = absurd (cc)
