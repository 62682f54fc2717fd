-- `fromString`: a text is read as the value that it spells, where that is an allowed one.
use Rattle.std.proofs.Common.{◌≡◌, ◌≢◌, ◌⊎◌, ⊎_elim, List, ℕ, Option, Some, None, refl, sym, ap, ◌∙◌, subst, IsUtf8}
use Rattle.txs_values.specs.Value.{Ty, integer, truth, string, named, Value, Table}
use Rattle.txs_values.specs.declared.ty.Ty as rust_ty
use Rattle.txs_values.specs.declared.ty.Ty.TheVariants as variant
use Rattle.txs_values.specs.declared.refusal.ReadValueFault.{ReadValueFault}
use Rattle.txs_values.specs.declared.refusal.ReadValueFault.TheVariants as fault
use Rattle.txs_values.specs.View.{ty_of}
use Rattle.txs_values.specs.Reading.{read_text}
use Rattle.txs_values.specs.Spelled.{IsSpelling, IsNamed, IsAllowed}
use Rattle.txs_values.proofs.spellings.Directions.{read_is_spelled}
use Rattle.txs_eval.specs.declared.fault.Stop.{Stop}
use Rattle.txs_eval.specs.declared.fault.Stop.TheVariants as stop
use Rattle.txs_eval.specs.Answer.{Stopped}
use Rattle.txs_terms.specs.Eval.{text_to, spelled, fine, broken, form}

spelled_so : (table : Table) (t : Ty) (bs : List ℕ) → t ≢ string → text_to table t bs ≡ spelled (read_text table t bs)
spelled_so table integer bs h = refl
spelled_so table truth bs h = refl
spelled_so table string bs h = absurd (h refl)
spelled_so table (named k) bs h = refl

pub reads : (table : Table) (t : Ty) (bs : List ℕ) (v : Value) → IsNamed table → t ≢ string → IsSpelling table t v bs → IsAllowed table t v → text_to table t bs ≡ fine v
reads table t bs v n h s a = spelled_so table t bs h ∙ ap spelled ((read_is_spelled table t bs v n).1 (s, a))

none_there : (o : Option Value) → ((v : Value) → o ≡ Some v → ⊥) → spelled o ≡ broken form
none_there None h = refl
none_there (Some v) h = absurd (h v refl)

pub reads_not : (table : Table) (t : Ty) (bs : List ℕ) → IsNamed table → t ≢ string → ((v : Value) → IsSpelling table t v bs → IsAllowed table t v → ⊥) → text_to table t bs ≡ broken form
reads_not table t bs n h k =
    spelled_so table t bs h ∙ none_there (read_text table t bs) (λ v q. let p = (read_is_spelled table t bs v n).0 q in k v p.0 p.1)

pub no_string : (t : rust_ty.Ty) → (t ≡ variant.Text → ⊥) → ty_of t ≢ string
no_string variant.Int h e = cc
no_string variant.Bool h e = cc
no_string variant.Text h e = h refl
no_string (variant.Named k) h e = cc

-- ---- the answer to a text that is not read

pub moved : {bs cs : List ℕ} → bs ≡ cs → IsUtf8 bs → IsUtf8 cs
moved e u = subst IsUtf8 e u

no_form : (table : Table) (t : Ty) (bs : List ℕ) {f : ReadValueFault} (s : Stop) → IsNamed table → t ≢ string → IsUtf8 bs
    → (f ≡ fault.NoMemory) ⊎ (IsNamed table → (v : Value) → IsUtf8 bs → IsSpelling table t v bs → IsAllowed table t v → ⊥) → f ≢ fault.NoMemory → s ≡ stop.Form
    → Stopped broken s (text_to table t bs)
no_form table t bs s n h u k m e =
    subst (λ x. Stopped broken x (text_to table t bs)) (sym e)
    (reads_not table t bs n h (λ v a b. ⊎_elim (λ p. absurd (m p)) (λ q. q n v u a b) k))

pub unread : (table : Table) (t : Ty) (bs : List ℕ) (f : ReadValueFault) (s : Stop) → IsNamed table → t ≢ string → IsUtf8 bs
    → (f ≡ fault.NoMemory) ⊎ (IsNamed table → (v : Value) → IsUtf8 bs → IsSpelling table t v bs → IsAllowed table t v → ⊥)
    → (f ≡ fault.NoMemory → s ≡ stop.NoMemory) → (f ≢ fault.NoMemory → s ≡ stop.Form) → Stopped broken s (text_to table t bs)
unread table t bs fault.NoMemory s n h u k w o = subst (λ x. Stopped broken x (text_to table t bs)) (sym (w refl)) tt
unread table t bs fault.NotText s n h u k w o = no_form table t bs s n h u k (λ e. cc) (o (λ e. cc))
unread table t bs (fault.WrongForm at) s n h u k w o = no_form table t bs s n h u k (λ e. cc) (o (λ e. cc))
unread table t bs (fault.Range at) s n h u k w o = no_form table t bs s n h u k (λ e. cc) (o (λ e. cc))
unread table t bs (fault.TooDeep at) s n h u k w o = no_form table t bs s n h u k (λ e. cc) (o (λ e. cc))
unread table t bs fault.TooBig s n h u k w o = no_form table t bs s n h u k (λ e. cc) (o (λ e. cc))
