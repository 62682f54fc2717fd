-- What the values of a LET's names give, and in which scope its body stands.
use Rattle.std.specs.Prelude.{◌≡◌, ◌⊎◌, ℕ, List, [], ◌∷◌, ◌++◌, None, Result, Ok, Err}
use Rattle.txs_values.specs.Value.{Ty}
use Rattle.txs_terms.specs.declared.expr.Binding as rust_binding
use Rattle.txs_values.specs.declared.table.FieldDef as rust_field
use Rattle.txs_terms.specs.Expr.{Expr}
use Rattle.txs_terms.specs.View.{Bound, bounds_of, expr_of, let_all}
use Rattle.txs_values.specs.View.{ty_of}
use Rattle.txs_syntax.specs.declared.ast.Binding.{Binding}
use Rattle.txs_typing.specs.declared.fault.TypeFault.{TypeFault}
use Rattle.txs_typing.specs.declared.fault.TypeFault.TheVariants as fault
use Rattle.txs_typing.specs.declared.scope.Scope as rust_scope
use Rattle.txs_typing.specs.Names.{Scope, inside}
use Rattle.txs_typing.specs.Elaborates.{Elaborates, HasInts}
use Rattle.txs_typing.specs.Offends.{Offence, Offends, Shows}
use Rattle.txs_typing.specs.Answer.{Told}
use Rattle.txs_typing.specs.inner.Told.{Lesser}
use Rattle.txs_typing.specs.inner.Parts.{Typed}

-- each value, where the names before it are seen, means its expression, and within them all the scope is this one
abbrev pub Values : Scope → List Binding → List Bound → Scope → Type 0
Values scope [] [] inner = scope ≡ inner
Values scope [] (v ∷ vs) inner = ⊥
Values scope (b ∷ bs) [] inner = ⊥
Values scope (b ∷ bs) (v ∷ vs) inner = (t : Ty) × (v.0 ≡ b.name.text) × Elaborates scope None b.value v.1 t × Values (inside scope b.name.text t) bs vs inner

-- within these names, each at the type that its value shows, the scope is this one
abbrev pub Enters : Scope → List Binding → Scope → Type 0
Enters scope [] inner = scope ≡ inner
Enters scope (b ∷ bs) inner = (t : Ty) × Shows scope b.value t × Enters (inside scope b.name.text t) bs inner

-- the offence stands in one of the values
abbrev pub InValues : Scope → List Binding → Offence → Type 0
InValues scope [] o = ⊥
InValues scope (b ∷ bs) o = Offends scope None b.value o ⊎ ((t : Ty) × Shows scope b.value t × InValues (inside scope b.name.text t) bs o)

-- the numbers in the values are in the range of Int
abbrev pub ValuesHaveInts : List Binding → Type 0
ValuesHaveInts [] = Unit {0}
ValuesHaveInts (b ∷ bs) = HasInts b.value × ValuesHaveInts bs

-- the values mean these expressions, or this fault decides among the offences in them; and the scope within is this one, but where memory was wanting
abbrev pub JudgesValues : Scope → List Binding → Scope → Result (List rust_binding.Binding) TypeFault → Type 0
JudgesValues scope bs inner (Ok vs) = Values scope bs (bounds_of vs) inner × ValuesHaveInts bs
JudgesValues scope bs inner (Err f) = (f ≡ fault.NoMemory) ⊎ Told f (InValues scope bs) × Enters scope bs inner

-- the inner scope is the outer one with more locals
abbrev pub IsWithin : rust_scope.Scope → rust_scope.Scope → Type 0
IsWithin outer inner = (more : List rust_field.FieldDef) × (inner ≡ record outer { locals = outer.locals ++ more })

-- the values so far, with one more result
abbrev pub GathersValue : List ℕ → Result (List rust_binding.Binding) TypeFault → Result Typed TypeFault → Result (List rust_binding.Binding) TypeFault → Type 0
GathersValue x (Ok vs) (Ok t) (Ok us) = us ≡ vs ++ record { name = x; value = t.expr } ∷ []
GathersValue x (Ok vs) (Ok t) (Err h) = h ≡ fault.NoMemory
GathersValue x (Ok vs) (Err g) r = r ≡ Err g
GathersValue x (Err f) (Ok t) r = r ≡ Err f
GathersValue x (Err f) (Err g) (Ok us) = ⊥
GathersValue x (Err f) (Err g) (Err h) = Lesser f g h

-- the expression within these names, and its type
abbrev pub typed_let : List rust_binding.Binding × Typed → Expr × Ty
typed_let p = (let_all (bounds_of p.0) (expr_of p.1.expr), ty_of p.1.ty)
