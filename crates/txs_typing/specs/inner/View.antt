-- What the names, the scopes and the results of typing stand for.
use Rattle.std.specs.Prelude.{ℕ, List, map, Option, Result, Ok, Err}
use Rattle.txs_values.specs.declared.ty.Ty as rust_ty
use Rattle.txs_values.specs.Value.{Ty}
use Rattle.txs_values.specs.View.{ty_of}
use Rattle.txs_values.specs.TableView.{field_of}
use Rattle.txs_terms.specs.Expr.{Expr}
use Rattle.txs_terms.specs.View.{expr_of}
use Rattle.txs_syntax.specs.declared.ast.Ast.{Ast}
use Rattle.txs_typing.specs.declared.fault.TypeFault.{TypeFault}
use Rattle.txs_typing.specs.declared.meaning.Meaning as rust_meaning
use Rattle.txs_typing.specs.declared.meaning.Meaning.TheVariants as means
use Rattle.txs_typing.specs.declared.meaning.GlobalName as rust_global
use Rattle.txs_typing.specs.declared.scope.Scope as rust_scope
use Rattle.txs_typing.specs.declared.scope.Called as rust_called
use Rattle.txs_typing.specs.declared.typed.Typed as rust_typed
use Rattle.txs_typing.specs.Names.{Meaning, named_value, named_constant, named_function, named_constructor, named_test, named_selector, named_not, named_to_string, named_from_string, named_len, named_at, Global, Scope}
use Rattle.txs_typing.specs.Elaborates.{Elaborates, HasInts}
use Rattle.txs_typing.specs.Offends.{OffendsAt, Offends}
use Rattle.txs_typing.specs.Answer.{Told, want_of}

-- what a name means, if what is called takes arguments of these types
abbrev pub meaning_of : rust_meaning.Meaning → List Ty → Meaning
meaning_of (means.Truth b) ts = named_value b
meaning_of (means.Constant k t) ts = named_constant k (ty_of t)
meaning_of (means.Function f t) ts = named_function f ts (ty_of t)
meaning_of (means.Constructor c k) ts = named_constructor c k ts
meaning_of (means.Test c k) ts = named_test c k
meaning_of (means.Selector c j k t) ts = named_selector c j k (ty_of t)
meaning_of means.Not ts = named_not
meaning_of means.ToText ts = named_to_string
meaning_of means.FromText ts = named_from_string
meaning_of means.Length ts = named_len
meaning_of means.CharAt ts = named_at

abbrev pub global_of : rust_global.GlobalName → Global
global_of g = record { name = g.name; means = meaning_of g.means (map ty_of g.takes) }

abbrev pub globals_of : List rust_global.GlobalName → List Global
globals_of gs = map global_of gs

abbrev pub scope_of : rust_scope.Scope → Scope
scope_of s = record { types = s.types; globals = globals_of s.globals.list; slots = map field_of s.slots; locals = map field_of s.locals }

-- the tree, whose offset is given, means this expression, or this fault decides
abbrev pub JudgesAt : ℕ → Scope → Option Ty → Ast → Result rust_typed.Typed TypeFault → Type 0
JudgesAt at scope want a (Ok t) = Elaborates scope want a (expr_of t.expr) (ty_of t.ty) × HasInts a
JudgesAt at scope want a (Err f) = Told f (OffendsAt at scope want a)

abbrev pub Judges : Scope → Option Ty → Ast → Result rust_typed.Typed TypeFault → Type 0
Judges scope want a (Ok t) = Elaborates scope want a (expr_of t.expr) (ty_of t.ty) × HasInts a
Judges scope want a (Err f) = Told f (Offends scope want a)

-- the expression and its type
abbrev pub typed_of : rust_typed.Typed → Expr × Ty
typed_of t = (expr_of t.expr, ty_of t.ty)

-- the types at which arguments are needed
abbrev pub wants_of : List (Option rust_ty.Ty) → List (Option Ty)
wants_of ts = map want_of ts

-- what is called, and the arguments that it takes
abbrev pub called_of : rust_called.Called → Meaning × List (Option Ty)
called_of c = (meaning_of c.means (map ty_of c.takes), wants_of c.needs)
