use Rattle.txs_values.specs.View.{ty_of}
use Rattle.txs_types.proofs.files.Judged.{judged_constant}
use Rattle.txs_types.proofs.bodies.constant.Goals as goal

pub returns-clause-judged : goal.returns-clause-judged
returns-clause-judged c =
    let s = c.requires.scope in
    judged_constant c.args.file.now c.args.name.now c.args.of.now c.args.body.now c.args.types.now
    (record { types = c.args.scope.now.types; globals = c.args.scope.now.globals; slots = c.new.result; locals = c.args.scope.now.locals }) c.in_ok-name.name c.in_ok-ty.ty
    c.in_ok-typed.typed.expr (ty_of c.in_ok-typed.typed.ty) c.new-list.result c.push.new.self
    c.requires.types (record { types = s.types; globals = s.globals; locals = s.locals }) c.new.ensures
    c.in_ok-ty.ensures c.in_ok-name.ensures (c.in_ok-typed.ensures.judged.0) (c.in_ok-typed.ensures.judged.1) c.new-list.ensures c.in_ok-push.ensures.ok
