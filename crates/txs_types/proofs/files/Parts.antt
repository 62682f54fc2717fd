-- The offences of a file are those of its parts.
use Rattle.std.proofs.Common.{◌≡◌, ◌⊎◌, inl, inr, ℕ, zero, suc, ap, sym, subst, ◌∙◌, List, [], ◌∷◌, slice_get, Option, Some, refl}
use Rattle.txs_values.specs.Value.{Table}
use Rattle.txs_syntax.specs.declared.ast.Name.{Name}
use Rattle.txs_syntax.specs.declared.ast.Ast.{Ast}
use Rattle.txs_syntax.specs.declared.file.File.{File}
use Rattle.txs_syntax.specs.declared.file.Def.{Def}
use Rattle.txs_syntax.specs.declared.file.Def.TheVariants as def
use Rattle.txs_syntax.specs.declared.file.DeclList.{DeclList}
use Rattle.txs_typing.specs.declared.fault.TypeFault.{TypeFault}
use Rattle.txs_typing.specs.Elaborates.{HasInts}
use Rattle.txs_typing.specs.Offends.{Offence}
use Rattle.txs_types.specs.Files.{type_names, defined_names, built_in_types, built_in_names, excused, FileOffends, twice_type, twice_name, twice_parameter, unknown_type, no_value, big_default, in_function, in_constant}
use Rattle.txs_typing.specs.inner.Told.{Finds, Least}
use Rattle.txs_types.proofs.Laws.{FileHasInts}
use Rattle.txs_types.specs.inner.Among.{Among, AmongDefs, IsTwice, TwiceIn, UnknownIn, BadDefault, none, big, InFunction, InConstant, FunctionsHaveInts, ConstantsHaveInts, InNames, OutsideBodies, InFile}
use Rattle.txs_typing.proofs.trees.Unique.{some_injective}
use Rattle.txs_typing.proofs.trees.NotBoth.{none≢some}
use Rattle.txs_typing.proofs.judging.Told.{finds_same, finds_least}

pub names_found : (file : File) (types : List Name) (defs : List Def) (a b c d e f r : Option TypeFault) → types ≡ type_names file.defs → defs ≡ file.defs
    → Finds a (IsTwice built_in_types types) → Finds b (IsTwice built_in_names (defined_names defs)) → Finds c (AmongDefs TwiceIn defs) → Finds d (AmongDefs (UnknownIn types) defs)
    → Least a b e → Least c d f → Least e f r → Finds r (InNames file)
names_found file types defs a b c d e f r same these p q s t l m n =
    subst (λ types. Finds r (λ o. (IsTwice built_in_types types o ⊎ IsTwice built_in_names (defined_names file.defs) o) ⊎ (AmongDefs TwiceIn file.defs o ⊎ AmongDefs (UnknownIn types) file.defs o))) same
    (subst (λ ds. Finds r (λ o. (IsTwice built_in_types types o ⊎ IsTwice built_in_names (defined_names ds) o) ⊎ (AmongDefs TwiceIn ds o ⊎ AmongDefs (UnknownIn types) ds o))) these
    (finds_least e f r (λ o. IsTwice built_in_types types o ⊎ IsTwice built_in_names (defined_names defs) o) (λ o. AmongDefs TwiceIn defs o ⊎ AmongDefs (UnknownIn types) defs o) n
    (finds_least a b e (IsTwice built_in_types types) (IsTwice built_in_names (defined_names defs)) l p q)
    (finds_least c d f (AmongDefs TwiceIn defs) (AmongDefs (UnknownIn types) defs) m s t)))

pub outside_found : (file : File) (types : List Name) (defs : List Def) (table : Table) (a b r : Option TypeFault) → types ≡ type_names file.defs → defs ≡ file.defs → table ≡ excused types defs
    → Finds a (InNames file) → Finds b (Among (BadDefault table) types) → Least a b r → Finds r (OutsideBodies file)
outside_found file types defs table a b r same these made p q l =
    let same_table : table ≡ excused (type_names file.defs) file.defs = made ∙ (ap (λ ts. excused ts defs) same ∙ ap (excused (type_names file.defs)) these) in
    finds_least a b r (InNames file) (Among (BadDefault (excused (type_names file.defs) file.defs)) (type_names file.defs)) l p
    (subst (λ t. Finds b (Among (BadDefault t) (type_names file.defs))) same_table (subst (λ ts. Finds b (Among (BadDefault table) ts)) same q))

-- ---- each offence of the file is in a part

repeats_type : (file : File) (o : Offence) → IsTwice built_in_types (type_names file.defs) o → FileOffends file o
repeats_type file o p = subst (FileOffends file) (sym p.1) (twice_type p.2)

repeats_name : (file : File) (o : Offence) → IsTwice built_in_names (defined_names file.defs) o → FileOffends file o
repeats_name file o p = subst (FileOffends file) (sym p.1) (twice_name p.2)

repeats_parameter : (file : File) (i : ℕ) (d : Def) (o : Offence) → slice_get file.defs i ≡ Some d → TwiceIn d o → FileOffends file o
repeats_parameter file i (def.TypeDef x cs) o e p = absurd p
repeats_parameter file i (def.FuncDef x ps r a) o e p = subst (FileOffends file) (sym p.1) (twice_parameter i e p.2)
repeats_parameter file i (def.ConstDef x t a) o e p = absurd p

uses_unknown : (file : File) (i : ℕ) (d : Def) (o : Offence) → slice_get file.defs i ≡ Some d → UnknownIn (type_names file.defs) d o → FileOffends file o
uses_unknown file i d o e p = subst (FileOffends file) (sym p.4) (unknown_type i p.0 e p.2 p.3)

bad_default : (file : File) (k : ℕ) (n : Name) (o : Offence) → slice_get (type_names file.defs) k ≡ Some n → BadDefault (excused (type_names file.defs) file.defs) k n o → FileOffends file o
bad_default file k n o e (none h) = no_value k e h
bad_default file k n o e (big v h b) = big_default k e h b

body_of_function : (file : File) (i : ℕ) (d : Def) (o : Offence) → slice_get file.defs i ≡ Some d → InFunction file d o → FileOffends file o
body_of_function file i (def.TypeDef x cs) o e p = absurd p
body_of_function file i (def.FuncDef x ps r a) o e p = in_function i e p
body_of_function file i (def.ConstDef x t a) o e p = absurd p

body_of_constant : (file : File) (i : ℕ) (d : Def) (o : Offence) → slice_get file.defs i ≡ Some d → InConstant file d o → FileOffends file o
body_of_constant file i (def.TypeDef x cs) o e p = absurd p
body_of_constant file i (def.FuncDef x ps r a) o e p = absurd p
body_of_constant file i (def.ConstDef x t a) o e p = in_constant i e p

in_names : (file : File) (o : Offence) → InNames file o → FileOffends file o
in_names file o (inl (inl p)) = repeats_type file o p
in_names file o (inl (inr p)) = repeats_name file o p
in_names file o (inr (inl p)) = repeats_parameter file p.number p.item o p.there p.stands
in_names file o (inr (inr p)) = uses_unknown file p.number p.item o p.there p.stands

outside_bodies : (file : File) (o : Offence) → OutsideBodies file o → FileOffends file o
outside_bodies file o (inl p) = in_names file o p
outside_bodies file o (inr p) = bad_default file p.number p.item o p.there p.stands

pub offends_in : (file : File) (o : Offence) → InFile file o → FileOffends file o
offends_in file o (inl (inl p)) = outside_bodies file o p
offends_in file o (inl (inr p)) = body_of_function file p.number p.item o p.there p.stands
offends_in file o (inr p) = body_of_constant file p.number p.item o p.there p.stands

pub part_of : (file : File) (o : Offence) → FileOffends file o → InFile file o
part_of file _ (twice_type {at = at} h) = inl (inl (inl (inl (inl (at, refl, h)))))
part_of file _ (twice_name {at = at} h) = inl (inl (inl (inl (inr (at, refl, h)))))
part_of file _ (twice_parameter i {at = at} {x = x} {r = r} {ps = ps} {e = e} there h) =
    inl (inl (inl (inr (inl (record { number = i; item = def.FuncDef x ps r e; there = there; stands = (at, refl, h) })))))
part_of file _ (unknown_type i j {d = d} {n = n} there named h) = inl (inl (inl (inr (inr (record { number = i; item = d; there = there; stands = (j, n, named, h, refl) })))))
part_of file _ (no_value k {n = n} there h) = inl (inl (inr (record { number = k; item = n; there = there; stands = none h })))
part_of file _ (big_default k {n = n} {v = v} there h b) = inl (inl (inr (record { number = k; item = n; there = there; stands = big v h b })))
part_of file o (in_function i {x = x} {r = r} {ps = ps} {e = e} there h) = inl (inr (record { number = i; item = def.FuncDef x ps r e; there = there; stands = h }))
part_of file o (in_constant i {x = x} {t = t} {e = e} there h) = inr (record { number = i; item = def.ConstDef x t e; there = there; stands = h })

pub file_found : (file : File) (a b c e r : Option TypeFault) → Finds a (OutsideBodies file) → Finds b (AmongDefs (InFunction file) file.defs) → Finds c (AmongDefs (InConstant file) file.defs)
    → Least a b e → Least e c r → Finds r (FileOffends file)
file_found file a b c e r p q s l m =
    finds_same r (InFile file) (FileOffends file) (λ o h. offends_in file o h) (λ o h. part_of file o h)
    (finds_least e c r (λ o. OutsideBodies file o ⊎ AmongDefs (InFunction file) file.defs o) (AmongDefs (InConstant file) file.defs) m
    (finds_least a b e (OutsideBodies file) (AmongDefs (InFunction file) file.defs) l p q) s)

-- ---- the numbers in the bodies

functions_have_ints : (ds : List Def) → FunctionsHaveInts ds → (i : ℕ) (x r : Name) (ps : DeclList) (e : Ast) → slice_get ds i ≡ Some (def.FuncDef x ps r e) → HasInts e
functions_have_ints [] h i x r ps e at = absurd (none≢some at)
functions_have_ints (def.TypeDef y cs ∷ ds) h zero x r ps e at = absurd (kinds (some_injective at))
  where
    kinds : def.TypeDef y cs ≡ def.FuncDef x ps r e → ⊥
    kinds q = cc
functions_have_ints (def.TypeDef y cs ∷ ds) h (suc i) x r ps e at = functions_have_ints ds h i x r ps e at
functions_have_ints (def.FuncDef y qs s a ∷ ds) h zero x r ps e at = subst HasInts (same_body (some_injective at)) h.0
  where
    same_body : def.FuncDef y qs s a ≡ def.FuncDef x ps r e → a ≡ e
    same_body q = cc
functions_have_ints (def.FuncDef y qs s a ∷ ds) h (suc i) x r ps e at = functions_have_ints ds h.1 i x r ps e at
functions_have_ints (def.ConstDef y t a ∷ ds) h zero x r ps e at = absurd (kinds (some_injective at))
  where
    kinds : def.ConstDef y t a ≡ def.FuncDef x ps r e → ⊥
    kinds q = cc
functions_have_ints (def.ConstDef y t a ∷ ds) h (suc i) x r ps e at = functions_have_ints ds h i x r ps e at

constants_have_ints : (ds : List Def) → ConstantsHaveInts ds → (i : ℕ) (x t : Name) (e : Ast) → slice_get ds i ≡ Some (def.ConstDef x t e) → HasInts e
constants_have_ints [] h i x t e at = absurd (none≢some at)
constants_have_ints (def.TypeDef y cs ∷ ds) h zero x t e at = absurd (kinds (some_injective at))
  where
    kinds : def.TypeDef y cs ≡ def.ConstDef x t e → ⊥
    kinds q = cc
constants_have_ints (def.TypeDef y cs ∷ ds) h (suc i) x t e at = constants_have_ints ds h i x t e at
constants_have_ints (def.FuncDef y qs s a ∷ ds) h zero x t e at = absurd (kinds (some_injective at))
  where
    kinds : def.FuncDef y qs s a ≡ def.ConstDef x t e → ⊥
    kinds q = cc
constants_have_ints (def.FuncDef y qs s a ∷ ds) h (suc i) x t e at = constants_have_ints ds h i x t e at
constants_have_ints (def.ConstDef y s a ∷ ds) h zero x t e at = subst HasInts (same_body (some_injective at)) h.0
  where
    same_body : def.ConstDef y s a ≡ def.ConstDef x t e → a ≡ e
    same_body q = cc
constants_have_ints (def.ConstDef y s a ∷ ds) h (suc i) x t e at = constants_have_ints ds h.1 i x t e at

pub file_has_ints : (file : File) → FunctionsHaveInts file.defs → ConstantsHaveInts file.defs → FileHasInts file
file_has_ints file p q = record {
  functions = λ i x r ps e h. functions_have_ints file.defs p i x r ps e h;
  constants = λ i x t e h. constants_have_ints file.defs q i x t e h;
}
