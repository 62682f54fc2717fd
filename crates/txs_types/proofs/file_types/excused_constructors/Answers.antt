use Rattle.std.proofs.Common.{sym, subst, IfOk, cond, [], ◌∷◌, ◌≡◌}
use Rattle.txs_values.specs.TableView.{conses_of}
use Rattle.txs_types.specs.Files.{types_of_fields, constructors_of}
use Rattle.txs_types.proofs.files.Offending.{told_undefined, told_defined}
use Rattle.txs_types.proofs.file_types.excused_constructors.Goals as goal

pub returns-in-Some : goal.returns-in-Some
returns-in-Some c =
    let types = c.args.types.now in
    let cons = c.args.cons.now in
    subst (λ b. IfOk c.one_without_fields.result (λ cs. conses_of cs ≡ cond b (record { name = []; fields = [] } ∷ []) (constructors_of types cons)))
    (sym (told_undefined types (types_of_fields cons) c.undefined_field.result _ c.undefined_field.ensures c.in-Some.is)) c.one_without_fields.ensures

pub returns-in-None : goal.returns-in-None
returns-in-None c =
    let types = c.args.types.now in
    let cons = c.args.cons.now in
    subst (λ b. IfOk c.constructors_of.result (λ cs. conses_of cs ≡ cond b (record { name = []; fields = [] } ∷ []) (constructors_of types cons)))
    (sym (told_defined types (types_of_fields cons) c.undefined_field.result c.undefined_field.ensures c.in-None.is)) c.constructors_of.ensures
