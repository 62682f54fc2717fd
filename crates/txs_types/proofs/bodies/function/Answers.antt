use Rattle.std.proofs.Common.{refl, ◌∙◌, ap, map}
use Rattle.txs_values.specs.View.{ty_of}
use Rattle.txs_values.specs.Value.{field_types}
use Rattle.txs_values.specs.TableView.{field_of}
use Rattle.txs_types.proofs.files.Judged.{judged_function}
use Rattle.txs_types.proofs.bodies.function.Goals as goal

pub returns-clause-judged : goal.returns-clause-judged
returns-clause-judged c =
    let s = c.requires.scope in
    let vs = c.in_ok-variables.variables in
    judged_function c.args.file.now c.args.name.now c.args.gives.now c.args.params.now c.args.body.now c.args.types.now
    (record { types = c.args.scope.now.types; globals = c.args.scope.now.globals; slots = vs; locals = c.args.scope.now.locals }) c.in_ok-name.name c.in_ok-takes.takes c.in_ok-gives.gives vs
    c.in_ok-typed.typed.expr (ty_of c.in_ok-typed.typed.ty) c.new-list.result c.push.new.self
    c.requires.types (record { types = s.types; globals = s.globals; locals = s.locals }) refl
    c.in_ok-variables.ensures (c.in_ok-takes.ensures ∙ ap (λ l. field_types (map field_of l)) c.as_slice.ensures) c.in_ok-gives.ensures c.in_ok-name.ensures
    (c.in_ok-typed.ensures.judged.0) (c.in_ok-typed.ensures.judged.1) c.new-list.ensures c.in_ok-push.ensures.ok
