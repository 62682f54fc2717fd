use Rattle.std.proofs.Common.{subst, sym, ◌∷◌, []}
use Rattle.txs_syntax.specs.declared.file.Def.{Def}
use Rattle.txs_syntax.specs.declared.file.Def.TheVariants as def
use Rattle.txs_types.specs.Files.{types_used}
use Rattle.txs_typing.specs.inner.Told.{Finds}
use Rattle.txs_types.specs.inner.Among.{UnknownIn}
use Rattle.txs_types.proofs.files.Offending.{any_least}
use Rattle.txs_types.proofs.offences.unknown_in.Goals as goal

pub returns-in-TypeDef : goal.returns-in-TypeDef
returns-in-TypeDef c =
    subst (λ (d : Def). Finds c.undefined_field.result (UnknownIn c.args.types.now d)) (sym c.in-TypeDef.is)
    (subst (λ cs. Finds c.undefined_field.result (UnknownIn c.args.types.now (def.TypeDef c.in-TypeDef.name cs))) c.as_slice.ensures c.undefined_field.ensures.told)

pub returns-in-FuncDef : goal.returns-in-FuncDef
returns-in-FuncDef c =
    subst (λ (d : Def). Finds c.least.result (UnknownIn c.args.types.now d)) (sym c.in-FuncDef.is)
    (any_least c.args.types.now (types_used c.in-FuncDef.params.decls) (c.in-FuncDef.result ∷ []) c.undefined.result c.undefined_name.result c.least.result
    c.least.ensures c.undefined.ensures.told c.undefined_name.ensures.finds.told)

pub returns-in-ConstDef : goal.returns-in-ConstDef
returns-in-ConstDef c = subst (λ (d : Def). Finds c.undefined_name-in-ConstDef.result (UnknownIn c.args.types.now d)) (sym c.in-ConstDef.is) c.undefined_name-in-ConstDef.ensures.finds.told
