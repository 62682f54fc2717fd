-- What a list of definitions gives is what its first gives, and what the others do.
use Rattle.std.proofs.Common.{◌≡◌, Bool, true, false, ◌||◌, ap, sym, ◌∙◌, List, [], ◌∷◌, ◌++◌, refl}
use Rattle.std.proofs.lemmas.List.{append_assoc, append-nil}
use Rattle.txs_syntax.specs.declared.ast.Name.{Name}
use Rattle.txs_syntax.specs.declared.file.Def.{Def}
use Rattle.txs_syntax.specs.declared.file.Def.TheVariants as def
use Rattle.txs_syntax.specs.declared.file.ConDef.{ConDef}
use Rattle.txs_types.specs.declared.file_names.Counts.{Counts}
use Rattle.txs_typing.specs.Names.{constructor_globals, test_name}
use Rattle.txs_types.specs.Files.{type_names, names_in, constructor_names, defined_names, table_in, excused, types_used, types_of_fields, is_undefined, any_undefined, constructors_of}
use Rattle.txs_types.specs.inner.Counted.{counts_after, globals_from}

pub split_type_names : (d : Def) (ds : List Def) → type_names (d ∷ ds) ≡ type_names (d ∷ []) ++ type_names ds
split_type_names (def.TypeDef x cs) ds = refl
split_type_names (def.FuncDef x ps r e) ds = refl
split_type_names (def.ConstDef x t e) ds = refl

-- what stands after nothing
after_nothing : {A : Type 0} (xs ys : List A) → xs ++ ys ≡ (xs ++ []) ++ ys
after_nothing xs ys = ap (λ l. l ++ ys) (sym (append-nil xs))

pub split_constructor_names : (c : ConDef) (cs : List ConDef) → constructor_names (c ∷ cs) ≡ constructor_names (c ∷ []) ++ constructor_names cs
split_constructor_names c cs = ap (λ l. c.name ∷ record { at = c.name.at; text = test_name c.name.text } ∷ l) (after_nothing (names_in c.fields.decls) (constructor_names cs))

pub split_defined_names : (d : Def) (ds : List Def) → defined_names (d ∷ ds) ≡ defined_names (d ∷ []) ++ defined_names ds
split_defined_names (def.TypeDef x cs) ds = after_nothing (constructor_names cs) (defined_names ds)
split_defined_names (def.FuncDef x ps r e) ds = refl
split_defined_names (def.ConstDef x t e) ds = refl

pub split_table : (types : List Name) (d : Def) (ds : List Def) → table_in types (d ∷ ds) ≡ table_in types (d ∷ []) ++ table_in types ds
split_table types (def.TypeDef x cs) ds = refl
split_table types (def.FuncDef x ps r e) ds = refl
split_table types (def.ConstDef x t e) ds = refl

pub split_excused : (types : List Name) (d : Def) (ds : List Def) → excused types (d ∷ ds) ≡ excused types (d ∷ []) ++ excused types ds
split_excused types (def.TypeDef x cs) ds = refl
split_excused types (def.FuncDef x ps r e) ds = refl
split_excused types (def.ConstDef x t e) ds = refl

pub split_undefined : (types xs ys : List Name) → any_undefined types (xs ++ ys) ≡ (any_undefined types xs || any_undefined types ys)
split_undefined types [] ys = refl
split_undefined types (x ∷ xs) ys = by (is_undefined types x) (any_undefined types xs) (any_undefined types ys) (any_undefined types (xs ++ ys)) (split_undefined types xs ys)
  where
    by : (a b c d : Bool) → d ≡ (b || c) → (a || d) ≡ ((a || b) || c)
    by true b c d e = refl
    by false b c d e = e

pub split_fields : (types : List Name) (c : ConDef) (cs : List ConDef)
    → any_undefined types (types_of_fields (c ∷ cs)) ≡ (any_undefined types (types_used c.fields.decls) || any_undefined types (types_of_fields cs))
split_fields types c cs = split_undefined types (types_used c.fields.decls) (types_of_fields cs)

pub fields_append : (cs ds : List ConDef) → types_of_fields (cs ++ ds) ≡ types_of_fields cs ++ types_of_fields ds
fields_append [] ds = refl
fields_append (c ∷ cs) ds = ap (λ l. types_used c.fields.decls ++ l) (fields_append cs ds) ∙ sym (append_assoc (types_used c.fields.decls) (types_of_fields cs) (types_of_fields ds))

pub split_globals : (types : List Name) (c : Counts) (d : Def) (ds : List Def) → globals_from types c (d ∷ ds) ≡ globals_from types c (d ∷ []) ++ globals_from types (counts_after c d) ds
split_globals types c (def.TypeDef x cs) ds = after_nothing (constructor_globals c.types c.constructors (constructors_of types cs)) (globals_from types (counts_after c (def.TypeDef x cs)) ds)
split_globals types c (def.FuncDef x ps r e) ds = refl
split_globals types c (def.ConstDef x t e) ds = refl
