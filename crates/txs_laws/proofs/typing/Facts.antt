-- What typing gives to the laws on menus, sets and answers.
use Rattle.std.specs.Prelude.{◌≡◌, ℕ, List, [], length, Some}
use Rattle.txs_values.specs.Value.{Ty, Value, Table, HasType, HaveTypes}
use Rattle.txs_values.specs.Default.{default_of}
use Rattle.txs_terms.specs.Expr.{Expr}
use Rattle.txs_terms.specs.Eval.{Defs, run, got}
use Rattle.txs_terms.specs.Action.{Label, Channels, Scope}
use Rattle.txs_terms.specs.Term.{Term, fill, instance}
use Rattle.txs_terms.specs.Rules.{Model, Step}
use Rattle.txs_terms.specs.Typed.{Signatures, IsType, Of, IsTable, AreTyped, OfEach, OfBindings, FitChannels, OfTerm, IsTypedModel}
use Rattle.txs_terms.specs.Menu.{Item, all_values, bound_values, walk, walked}
use Rattle.txs_laws.specs.Items.{AreItems, StaysWithin}

pub record Facts : Type 0 where
  -- an expression that ends with a value gives one of its type
  pub run_typed : (defs : Defs) (signatures : Signatures) → AreTyped defs signatures → (e : Expr) (t : Ty) (left n : ℕ) → Of defs.table signatures [] [] e t
      → (v : Value) (m : ℕ) → run defs left e n ≡ got v m → HasType defs.table v t
  -- the default of a type of the table is of that type
  pub default_typed : (table : Table) → IsTable table → (t : Ty) → IsType table t → HasType table (default_of table t) t
  -- values put for all slots of a well typed term
  pub fill_typed : (table : Table) (signatures : Signatures) (scope : Scope) (slots exit_types : List Ty) (vs : List Value) (t : Term)
      → HaveTypes table vs slots → OfTerm table signatures scope slots exit_types t → OfTerm table signatures scope [] exit_types (fill vs t)
  -- the body of a call
  pub instance_typed : (table : Table) (signatures : Signatures) (formals scope : Scope) (slots exit_types : List Ty) (cs : Channels) (vs : List Value) (body : Term)
      → FitChannels scope cs formals → HaveTypes table vs slots → OfTerm table signatures formals slots exit_types body
      → OfTerm table signatures scope [] exit_types (instance cs vs (length scope) body)
  -- the values of well typed expressions, and of the bindings of a LET
  pub values_typed : (defs : Defs) (signatures : Signatures) → AreTyped defs signatures → (es : List Expr) (ts : List Ty)
      → OfEach defs.table signatures [] es ts → (vs : List Value) → all_values defs es ≡ Some vs → HaveTypes defs.table vs ts
  pub bound_typed : (defs : Defs) (signatures : Signatures) → AreTyped defs signatures → (es : List Expr) (ts : List Ty)
      → OfBindings defs.table signatures [] es ts → (vs : List Value) → bound_values defs [] es ≡ Some vs → HaveTypes defs.table vs ts
  -- the items of a walk
  pub walk_typed : (model : Model) (signatures : Signatures) → IsTypedModel model signatures → (left : ℕ) (scope : Scope) (exit_types : List Ty) (t : Term) (n m : ℕ) (items : List Item)
      → OfTerm model.defs.table signatures scope [] exit_types t → walk model left scope t n ≡ walked m items
      → AreItems model.defs.table signatures scope exit_types items
  -- a step leads to a well typed term
  pub step_typed : (model : Model) (signatures : Signatures) → IsTypedModel model signatures → (scope : Scope) (exit_types : List Ty) (t t' : Term) (l : Label)
      → OfTerm model.defs.table signatures scope [] exit_types t → Step model scope t l t'
      → StaysWithin model.defs.table scope exit_types l × OfTerm model.defs.table signatures scope [] exit_types t'
