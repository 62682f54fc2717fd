-- A small file in which nothing offends: FUNCDEF f ( n :: Int ) :: Int ::= IF n == 0 THEN 0 ELSE f(n - 1) FI ENDDEF. Its definitions are well typed.
use Rattle.std.proofs.Common.{◌≡◌, ℕ, zero, suc, Bool, true, false, ◌&&◌, ap, sym, subst, ◌∙◌, List, [], ◌∷◌, slice_get, codes, Some, refl, true≢false}
use Rattle.txs_values.specs.Value.{fits, Ty}
use Rattle.std.specs.Prelude.{pos}
use Rattle.txs_terms.specs.Expr.{Expr}
use Rattle.txs_syntax.specs.declared.file.File.{File}
use Rattle.txs_syntax.specs.declared.ast.Op.TheVariants as op
use Rattle.txs_syntax.specs.declared.ast.Ast.TheVariants as tree
use Rattle.txs_terms.specs.Defs.{Function, AreDefined}
use Rattle.txs_syntax.specs.declared.ast.Name.{Name}
use Rattle.txs_syntax.specs.declared.ast.Ast.{Ast}
use Rattle.txs_syntax.specs.declared.file.Def.{Def}
use Rattle.txs_syntax.specs.declared.file.Def.TheVariants as def
use Rattle.txs_syntax.specs.declared.file.DeclList.{DeclList}
use Rattle.txs_typing.specs.Elaborates.{Elaborates, HasInts, ints_step}
use Rattle.txs_typing.specs.Offends.{Offence, Offends}
use Rattle.txs_types.specs.Files.{names_in, type_names, variables_of, type_of, types_named, is_undefined, scope_in, Repeats, here, further, twice_type, twice_name, twice_parameter, unknown_type, no_value, big_default, in_function, in_constant, AreFunctions, a_function, FileHasNames}
use Rattle.txs_types.proofs.Laws.{FileHasInts}
use Rattle.txs_typing.proofs.trees.Folds.{fold_number, fold_name, fold_call, fold_binary, fold_if}
use Rattle.txs_typing.proofs.trees.Unique.{some_injective}
use Rattle.txs_typing.proofs.trees.NotBoth.{none≢some, never, clean}
use Rattle.txs_types.proofs.files.Tables.{NoOffence}
use Rattle.txs_types.proofs.examples.Small.{word, n_is_int, body_of_f, digit, less_one, n_is_zero, f_again, f_file, f_meant, f_is_meant}
use Rattle.txs_types.proofs.files.Defined.{meant_is_defined}

abbrev the_def : Def
the_def = def.FuncDef (word 8 (codes "f")) n_is_int (word 26 (codes "Int")) body_of_f

only_def : (i : ℕ) (d : Def) → slice_get f_file.defs i ≡ Some d → the_def ≡ d
only_def zero d h = some_injective h
only_def (suc i) d h = absurd (none≢some h)

abbrev types : List Name
types = type_names f_file.defs

-- nothing offends in the parameters, the types and the body
abbrev IsFine : Def → Type 0
IsFine (def.TypeDef x cs) = ⊥
IsFine (def.FuncDef x ps r e) =
    ((at : ℕ) → Repeats [] (names_in ps.decls) at → ⊥)
    × ((o : Offence) → Offends (scope_in f_file (variables_of types ps)) (Some (type_of types r.text)) e o → ⊥)
    × ((j : ℕ) (n : Name) → slice_get (types_named (def.FuncDef x ps r e)) j ≡ Some n → is_undefined types n ≡ false)
IsFine (def.ConstDef x t e) = ⊥

one_name : (at : ℕ) → Repeats [] (word 12 (codes "n") ∷ []) at → ⊥
one_name at (here e) = true≢false (sym e)
one_name at (further r) = elim r [ ]

types_are_known : (j : ℕ) (n : Name) → slice_get (types_named the_def) j ≡ Some n → is_undefined types n ≡ false
types_are_known zero n h = ap (is_undefined types) (sym (some_injective h))
types_are_known (suc zero) n h = ap (is_undefined types) (sym (some_injective h))
types_are_known (suc (suc j)) n h = absurd (none≢some h)

body_means : {file : File} {x r : Name} {ps : DeclList} {a : Ast} {ds : List Def} {fs : List Function} → AreFunctions file (def.FuncDef x ps r a ∷ ds) fs
    → (e : Expr) × (t : Ty) × Elaborates (scope_in file (variables_of (type_names file.defs) ps)) (Some (type_of (type_names file.defs) r.text)) a e t
body_means (a_function {e = e} {t = t} d rest) = (e, t, d)

is_fine : IsFine the_def
is_fine = (one_name, (λ o w. clean (never (body_means f_is_meant.functions).2) w), types_are_known)

fine : (i : ℕ) (d : Def) → slice_get f_file.defs i ≡ Some d → IsFine d
fine i d h = subst IsFine (only_def i d h) is_fine

no_offence : NoOffence f_file
no_offence o (twice_type r) = elim r [ ]
no_offence o (twice_name (here e)) = true≢false (sym e)
no_offence o (twice_name (further r)) = elim r [ ]
no_offence o (twice_parameter i {at = at} {x = x} {r = r} {ps = ps} {e = e} h w) = (fine i (def.FuncDef x ps r e) h).0 at w
no_offence o (unknown_type i j {d = d} {n = n} h g u) =
    true≢false (sym u ∙ subst (λ d. (j : ℕ) (n : Name) → slice_get (types_named d) j ≡ Some n → is_undefined types n ≡ false) (only_def i d h) types_are_known j n g)
no_offence o (no_value k h e) = none≢some h
no_offence o (big_default k h e b) = none≢some h
no_offence o (in_function i {x = x} {r = r} {ps = ps} {e = e} h w) = (fine i (def.FuncDef x ps r e) h).1 o w
no_offence o (in_constant i {x = x} {t = t} {e = e} h w) = fine i (def.ConstDef x t e) h

and_of : (x y : Bool) → x ≡ true → y ≡ true → (x && y) ≡ true
and_of x y p q = ap (λ x. x && y) p ∙ q

digit_fits : (at n : ℕ) → fits (pos n) ≡ true → HasInts (digit at n)
digit_fits at n h = fold_number Bool ints_step at (pos n) ∙ h

name_fits : (x : Name) → HasInts (tree.Name x)
name_fits x = fold_name Bool ints_step x

body_fits : HasInts body_of_f
unfolding fits
body_fits =
    fold_if Bool ints_step 34 n_is_zero (digit 49 0) f_again
    ∙ and_of _ _ (fold_binary Bool ints_step op.Equal (tree.Name (word 37 (codes "n"))) (digit 42 0) ∙ and_of _ _ (name_fits (word 37 (codes "n"))) (digit_fits 42 0 refl))
    (and_of _ _ (digit_fits 49 0 refl)
    (fold_call Bool ints_step (word 56 (codes "f")) (less_one ∷ [])
    ∙ and_of _ _ (fold_binary Bool ints_step op.Minus (tree.Name (word 58 (codes "n"))) (digit 62 1) ∙ and_of _ _ (name_fits (word 58 (codes "n"))) (digit_fits 62 1 refl)) refl))

abbrev BodyFits : Def → Type 0
BodyFits (def.TypeDef x cs) = ⊥
BodyFits (def.FuncDef x ps r e) = HasInts e
BodyFits (def.ConstDef x t e) = HasInts e

has_ints : FileHasInts f_file
has_ints = record {
  functions = λ i x r ps e h. subst BodyFits (only_def i (def.FuncDef x ps r e) h) body_fits;
  constants = λ i x t e h. subst BodyFits (only_def i (def.ConstDef x t e) h) body_fits;
}

has_names : FileHasNames f_file
has_names c p h = absurd (none≢some h)

f_is_defined : AreDefined f_meant
f_is_defined = meant_is_defined f_file f_meant has_names has_ints no_offence f_is_meant
