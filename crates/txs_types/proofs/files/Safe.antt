-- The definitions that a file without a fault means: they are well typed, and their bodies are safe.
use Rattle.std.proofs.Common.{◌≡◌, ap, sym, subst, ◌∙◌, List, [], option_map, Option, Some, None}
use Rattle.std.proofs.lemmas.Option.{slice_get-map}
use Rattle.txs_values.specs.Value.{Table}
use Rattle.txs_terms.specs.Expr.{Expr}
use Rattle.txs_terms.specs.Eval.{Body}
use Rattle.txs_terms.specs.Typed.{Of, Signature}
use Rattle.txs_terms.specs.Defs.{Function, Constant, Definitions, signatures_of, AreDefined}
use Rattle.txs_terms.specs.View.{definitions_of}
use Rattle.txs_terms.specs.declared.defs.FunctionDef.{FunctionDef}
use Rattle.txs_terms.specs.declared.defs.ConstantDef.{ConstantDef}
use Rattle.txs_syntax.specs.declared.file.File.{File}
use Rattle.txs_typing.specs.declared.fault.TypeFault.{TypeFault}
use Rattle.txs_types.specs.declared.bodies.Collected as rust_collected
use Rattle.txs_typing.specs.Offends.{Offence}
use Rattle.txs_types.specs.Files.{type_names, table_in, FileOffends, IsMeant, FileHasNames}
use Rattle.txs_typing.specs.Answer.{Told, AreSafe}
use Rattle.txs_typing.specs.inner.Told.{Finds, Least}
use Rattle.txs_types.specs.inner.Among.{OutsideBodies}
use Rattle.txs_types.specs.inner.Collected.{FunctionsMeant, ConstantsMeant, FunctionsCollected, ConstantsCollected}
use Rattle.txs_types.proofs.lists.Deciding.{least_left, least_right}
use Rattle.txs_types.proofs.files.Defined.{meant_is_defined}
use Rattle.txs_types.proofs.files.Parts.{file_found, file_has_ints}
use Rattle.txs_typing.proofs.trees.Safe.{typed_is_safe}
use Rattle.txs_typing.proofs.trees.Unique.{some_injective}

pub defined_are_safe : (d : Definitions) → AreDefined d → AreSafe d
defined_are_safe d defined = record {
  functions = λ i f h.
      let make : (Function → Signature) = λ f. record { takes = f.takes; gives = f.gives } in
      let body : (Function → Body) = λ f. record { takes = f.takes; body = f.body } in
      let k = defined.typed.functions i (make f) (slice_get-map make d.functions i ∙ ap (option_map make) h) in
      typed_is_safe d f.takes f.body f.gives defined
      (subst (λ (e : Expr). Of d.table (signatures_of d) f.takes [] e f.gives)
      (ap (λ (b : Body). b.body) (some_injective (sym k.1 ∙ (slice_get-map body d.functions i ∙ ap (option_map body) h)))) k.2);
  constants = λ i c h.
      let k = defined.typed.constants i c.ty (slice_get-map (λ (c : Constant). c.ty) d.constants i ∙ ap (option_map (λ (c : Constant). c.ty)) h) in
      typed_is_safe d [] c.body c.ty defined
      (subst (λ (e : Expr). Of d.table (signatures_of d) [] [] e c.ty)
      (some_injective (sym k.1 ∙ (slice_get-map (λ (c : Constant). c.body) d.constants i ∙ ap (option_map (λ (c : Constant). c.body)) h))) k.2);
}

-- ---- what a file without a fault means

pub file_meant : (file : File) (table : Table) (fs : List FunctionDef) (ks : List ConstantDef) → table ≡ table_in (type_names file.defs) file.defs → FunctionsMeant file file.defs fs
    → ConstantsMeant file file.defs ks → IsMeant file (definitions_of (table, fs, ks))
file_meant file table fs ks e p q = record { table = e; functions = p.meant; constants = q.meant }

pub file_defined : (file : File) (table : Table) (fs : List FunctionDef) (ks : List ConstantDef) → FileHasNames file → ((o : Offence) → FileOffends file o → ⊥)
    → table ≡ table_in (type_names file.defs) file.defs → FunctionsMeant file file.defs fs → ConstantsMeant file file.defs ks → AreDefined (definitions_of (table, fs, ks))
file_defined file table fs ks names none e p q =
    meant_is_defined file (definitions_of (table, fs, ks)) names (file_has_ints file p.ints q.ints) none (file_meant file table fs ks e p q)

module _ (file : File) (outside : Option TypeFault) (fs : rust_collected.Collected FunctionDef) (ks : rust_collected.Collected ConstantDef) (without r : Option TypeFault)
    (a : Finds outside (OutsideBodies file)) (b : FunctionsCollected file file.defs fs) (c : ConstantsCollected file file.defs ks)
    (first : Least outside fs.fault without) (second : Least without ks.fault r) where
  pub offence_found : Finds r (FileOffends file)
  offence_found = file_found file outside fs.fault ks.fault without r a b.finds c.finds first second

  pub told_of : (f : TypeFault) → r ≡ Some f → Told f (FileOffends file)
  told_of f e = subst (λ (r : Option TypeFault). Finds r (FileOffends file)) e offence_found

  pub none_offends : r ≡ None → (o : Offence) → FileOffends file o → ⊥
  none_offends e = subst (λ (r : Option TypeFault). Finds r (FileOffends file)) e offence_found

  pub functions_meant : r ≡ None → FunctionsMeant file file.defs fs.list
  functions_meant e = b.made (least_right outside fs.fault without first (least_left without ks.fault r second e))

  pub constants_meant : r ≡ None → ConstantsMeant file file.defs ks.list
  constants_meant e = c.made (least_right without ks.fault r second e)

  pub all_defined : FileHasNames file → r ≡ None → (table : Table) → table ≡ table_in (type_names file.defs) file.defs → AreDefined (definitions_of (table, fs.list, ks.list))
  all_defined names e table same = file_defined file table fs.list ks.list names (none_offends e) same (functions_meant e) (constants_meant e)
