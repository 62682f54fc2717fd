use Rattle.std.proofs.Common.{subst, ◌∙◌, List, ℕ, []}
use Rattle.std.specs.Prelude.{IfOk}
use Rattle.txs_syntax.specs.declared.ast.Name.{Name}
use Rattle.txs_typing.specs.inner.Told.{Finds}
use Rattle.txs_types.specs.inner.Among.{IsTwice}
use Rattle.txs_types.proofs.offences.twice_among.Goals as goal

pub returns : goal.returns
returns c =
    subst (λ (ns : List Name). IfOk c.repeated.result (λ f. Finds f (IsTwice [] ns))) (c.as_slice-2.ensures ∙ c.in_ok-names.ensures)
    (subst (λ (xs : List (List ℕ)). IfOk c.repeated.result (λ f. Finds f (IsTwice xs c.as_slice-2.result.now))) (c.as_slice.ensures ∙ c.new-before.ensures) c.repeated.ensures)
