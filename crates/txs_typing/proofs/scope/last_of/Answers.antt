use Rattle.std.proofs.Common.{◌∙◌, ℕ, ◌+◌, ap, sym, Some, Option, map, drop, refl, bytes_eq}
use Rattle.std.specs.Prelude.{option_map}
use Rattle.txs_values.specs.declared.ty.Ty as rust_ty
use Rattle.txs_values.specs.Value.{Ty}
use Rattle.txs_values.specs.View.{ty_of}
use Rattle.txs_values.specs.TableView.{field_of}
use Rattle.txs_typing.specs.Names.{last_of}
use Rattle.txs_typing.proofs.Lookups.{or_else, last_other, last_same}
use Rattle.txs_typing.proofs.Tests.{same_text, other_text}
use Rattle.txs_typing.proofs.scope.last_of.Goals.{then-is, else-is}
use Rattle.txs_typing.proofs.scope.last_of.Goals as goal

abbrev seen : Option (ℕ × rust_ty.Ty) → Option (ℕ × Ty)
seen f = option_map (λ p. (p.0, ty_of p.1)) f

pub loop-variable-preserved : goal.loop-variable-preserved
loop-variable-preserved c =
    let x = c.args.name.now in
    let here = c.variable-item.is in
    let i = c.loop-variable.variable-index in
    let rest = last_of x (i + 1) (map field_of (drop (i + 1) c.args.variables.now)) in (
      c.loop-variable.invariant.0 ∙ elim c.if-is.branch [
        | then-is w ↦ last_same x c.args.variables.now i c.variable-item.result c.loop-variable-test.true (seen c.loop-variable.found)
            (ap (λ v. bytes_eq v.name x) (sym here) ∙ same_text c.variable-item.result.name x (w.if-is.ensures.0 refl))
            ∙ (ap (λ v. or_else rest (Some (i, (field_of v).ty))) (sym here)
            ∙ (ap (λ k. or_else rest (Some (k, ty_of c.variable-item.result.ty))) (sym c.loop-variable.invariant.1)
            ∙ ap (λ f. or_else rest (seen f)) (sym w.found-is)))
        | else-is w ↦ last_other x c.args.variables.now i c.variable-item.result c.loop-variable-test.true (seen c.loop-variable.found)
            (ap (λ v. bytes_eq v.name x) (sym here) ∙ other_text c.variable-item.result.name x w.if-is.ensures.1)
            ∙ ap (λ f. or_else rest (seen f)) (sym w.found-is)
      ],
      ap (λ k. k + 1) c.loop-variable.invariant.1,
    )
