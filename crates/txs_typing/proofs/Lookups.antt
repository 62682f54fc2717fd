-- Looking a name up in a list, from its front.
use Rattle.std.proofs.Common.{◌≡◌, ℕ, suc, ◌+◌, ◌<◌, Bool, true, false, cond, List, [], ◌∷◌, length, map, drop, get_or, Option, Some, None, refl, sym, ap, add-one, drop-cons, bytes_eq, true≢false}
use Rattle.txs_values.specs.declared.ty.Ty as rust_ty
use Rattle.txs_values.specs.Value.{Ty}
use Rattle.txs_values.specs.View.{ty_of}
use Rattle.txs_values.specs.TableView.{field_of}
use Rattle.txs_values.specs.declared.table.FieldDef as rust_field
use Rattle.txs_typing.specs.declared.meaning.GlobalName as rust_global
use Rattle.txs_typing.specs.Names.{Variable, named_constructor, last_of}
use Rattle.txs_typing.specs.Names as names
use Rattle.txs_typing.specs.inner.View.{global_of, globals_of}

-- this one, or else the other
abbrev pub or_else : {A : Type 0} → Option A → Option A → Option A
or_else None b = b
or_else (Some a) b = Some a

module _ (x : List ℕ) (gs : List rust_global.GlobalName) (i : ℕ) (d : rust_global.GlobalName) (here : i < length gs) where
  pub other_name : bytes_eq (get_or gs i d).name x ≡ false
      → names.global_of x (globals_of (drop i gs)) ≡ names.global_of x (globals_of (drop (i + 1) gs))
  other_name e = rw (drop-cons gs i d here, add-one, e) refl

  pub same_name : bytes_eq (get_or gs i d).name x ≡ true
      → names.global_of x (globals_of (drop i gs)) ≡ Some ((global_of (get_or gs i d)).means)
  same_name e = rw (drop-cons gs i d here, e) refl

abbrev stepped : {A : Type 0} → Bool → A → Option A → Option A
stepped t p r = elim r [ None ↦ cond t (Some p) None | Some q ↦ Some q ]

step_other : {A : Type 0} (t : Bool) (p : A) (r found : Option A) → t ≡ false → or_else (stepped t p r) found ≡ or_else r found
step_other t p None found e = ap (λ b. or_else (cond b (Some p) None) found) e
step_other t p (Some q) found e = refl

step_same : {A : Type 0} (t : Bool) (p : A) (r found : Option A) → t ≡ true → or_else (stepped t p r) found ≡ or_else r (Some p)
step_same t p None found e = ap (λ b. or_else (cond b (Some p) None) found) e
step_same t p (Some q) found e = refl

module _ (x : List ℕ) (vs : List rust_field.FieldDef) (i : ℕ) (d : rust_field.FieldDef) (here : i < length vs) where
  abbrev this : Variable
  this = field_of (get_or vs i d)

  pub last_other : (found : Option (ℕ × Ty)) → bytes_eq (get_or vs i d).name x ≡ false
      → or_else (last_of x i (map field_of (drop i vs))) found ≡ or_else (last_of x (i + 1) (map field_of (drop (i + 1) vs))) found
  last_other found e = rw (drop-cons vs i d here, add-one)
      (step_other (bytes_eq this.name x) (i, this.ty) (last_of x (suc i) (map field_of (drop (suc i) vs))) found e)

  pub last_same : (found : Option (ℕ × Ty)) → bytes_eq (get_or vs i d).name x ≡ true
      → or_else (last_of x i (map field_of (drop i vs))) found ≡ or_else (last_of x (i + 1) (map field_of (drop (i + 1) vs))) (Some (i, this.ty))
  last_same found e = rw (drop-cons vs i d here, add-one)
      (step_same (bytes_eq this.name x) (i, this.ty) (last_of x (suc i) (map field_of (drop (suc i) vs))) found e)

-- a constructor with fields means nothing alone
pub alone_with_fields : (c k : ℕ) (ts : List rust_ty.Ty) → (ts ≡ [] → false ≡ true) → None ≡ names.alone (named_constructor c k (map ty_of ts))
alone_with_fields c k [] h = absurd (true≢false (sym (h refl)))
alone_with_fields c k (t ∷ ts) h = refl
