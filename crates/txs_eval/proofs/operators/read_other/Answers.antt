use Rattle.std.proofs.Common.{◌≡◌, ◌⊎◌, ◌∙◌, subst, IsUtf8}
use Rattle.txs_values.specs.Value.{Value}
use Rattle.txs_values.specs.declared.refusal.ReadValueFault.TheVariants as fault
use Rattle.txs_values.specs.View.{value_of, ty_of}
use Rattle.txs_values.specs.Spelled.{IsSpelling, IsNamed, IsAllowed}
use Rattle.txs_eval.proofs.Readings.{reads, unread, moved}
use Rattle.txs_eval.proofs.operators.read_other.Goals as goal

pub returns-in-Ok : goal.returns-in-Ok
returns-in-Ok c =
    let h = c.in-Ok.ensures.exact in
    reads c.args.table.now (ty_of c.args.ty) c.args.text.now (value_of c.in-Ok.value) c.requires.named c.requires.other
    (subst (IsSpelling c.args.table.now (ty_of c.args.ty) (value_of c.in-Ok.value)) (c.as_bytes.ensures.value ∙ c.as_str.ensures) h.1) h.2

pub returns-in-Err : goal.returns-in-Err
returns-in-Err c =
    let same = c.as_bytes.ensures.value ∙ c.as_str.ensures in
    unread c.args.table.now (ty_of c.args.ty) c.args.text.now c.in-Err.fault c.unread.result c.requires.named c.requires.other
    (moved same c.as_bytes.ensures.utf8) (subst (λ l. (c.in-Err.fault ≡ fault.NoMemory) ⊎ (IsNamed c.args.table.now → (v : Value) → IsUtf8 l → IsSpelling c.args.table.now (ty_of c.args.ty) v l → IsAllowed c.args.table.now (ty_of c.args.ty) v → ⊥)) same c.in-Err.ensures.exact) c.unread.ensures.wanting c.unread.ensures.form
