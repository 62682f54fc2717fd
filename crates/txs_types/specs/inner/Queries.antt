-- What is told of a query's declarations, and of the query.
use Rattle.std.specs.Prelude.{◌≡◌, ◌⊎◌, List, [], Option, Some, None, Result, Ok, Err}
use Rattle.txs_syntax.specs.declared.ast.Name.{Name}
use Rattle.txs_syntax.specs.declared.file.DeclList.{DeclList}
use Rattle.txs_terms.specs.declared.expr.Expr as rust_expr
use Rattle.txs_typing.specs.declared.fault.TypeFault.{TypeFault}
use Rattle.txs_typing.specs.declared.typed.Typed as rust_typed
use Rattle.txs_typing.specs.Offends.{Offence}
use Rattle.txs_types.specs.Files.{names_in, types_used}
use Rattle.txs_typing.specs.inner.Told.{Lesser}
use Rattle.txs_types.specs.inner.Among.{IsTwice, AnyUndefined}

-- the offence stands in the declarations, if the types have these names
abbrev pub InDeclarations : List Name → DeclList → Offence → Type 0
InDeclarations types list o = IsTwice [] (names_in list.decls) o ⊎ AnyUndefined types (types_used list.decls) o

-- the expression, if nothing was told, or the fault that goes first
abbrev pub Decided : Option TypeFault → Result rust_typed.Typed TypeFault → Result rust_expr.Expr TypeFault → Type 0
Decided None (Ok t) r = r ≡ Ok t.expr
Decided None (Err f) r = r ≡ Err f
Decided (Some f) (Ok t) r = r ≡ Err f
Decided (Some f) (Err g) r = (h : TypeFault) × (r ≡ Err h) × Lesser f g h
