use Rattle.std.proofs.Common.{subst, ◌∙◌, List, ℕ}
use Rattle.std.specs.Prelude.{IfOk}
use Rattle.txs_syntax.specs.declared.ast.Name.{Name}
use Rattle.txs_types.specs.Files.{built_in_names}
use Rattle.txs_typing.specs.inner.Told.{Finds}
use Rattle.txs_types.specs.inner.Among.{IsTwice}
use Rattle.txs_types.proofs.offences.twice_name.Goals as goal

pub returns : goal.returns
returns c =
    subst (λ (ns : List Name). IfOk c.repeated.result (λ f. Finds f (IsTwice built_in_names ns))) (c.as_slice-2.ensures ∙ c.in_ok-names.ensures)
    (subst (λ (xs : List (List ℕ)). IfOk c.repeated.result (λ f. Finds f (IsTwice xs c.as_slice-2.result.now))) (c.as_slice.ensures ∙ c.in_ok-before.ensures) c.repeated.ensures)
