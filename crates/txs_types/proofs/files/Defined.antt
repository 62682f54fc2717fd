-- What a file without an offence means is well typed.
use Rattle.std.proofs.Common.{◌≡◌, ◌+◌, ℕ, zero, suc, ap, sym, subst, ◌∙◌, List, [], ◌∷◌, ◌++◌, length, map, slice_get, Some, refl, arith}
use Rattle.std.proofs.lemmas.Option.{slice_get-map}
use Rattle.std.proofs.lemmas.List.{length-map}
use Rattle.std.specs.Prelude.{option_map}
use Rattle.txs_values.specs.Value.{Ty, Table, place_of, place_from, field_types}
use Rattle.txs_terms.specs.Eval.{Body}
use Rattle.txs_terms.specs.Typed.{Signature, AreTypes, Of}
use Rattle.txs_terms.specs.Defs.{Function, Constant, Definitions, HaveHeaders, HaveConstantTypes, signatures_of, AreDefined}
use Rattle.txs_syntax.specs.declared.ast.Name.{Name}
use Rattle.txs_syntax.specs.declared.file.File.{File}
use Rattle.txs_syntax.specs.declared.file.Def.{Def}
use Rattle.txs_syntax.specs.declared.file.Def.TheVariants as def
use Rattle.txs_typing.specs.Names.{Variable, built_ins, constructor_globals}
use Rattle.txs_typing.specs.Elaborates.{HasInts}
use Rattle.txs_types.specs.Files.{type_names, type_of, variables_of, constructor_of, constructors_of, table_in, table_of, globals_in, scope_in, types_used, AreFunctions, no_function, a_function, AreFunctions.type_between, constant_between, AreConstants, no_constant, a_constant, AreConstants.type_between as type_by, function_between, FileHasNames}
use Rattle.txs_typing.proofs.Laws.{HasTypes}
use Rattle.txs_types.proofs.Laws.{FileHasInts, MeantIsDefined}
use Rattle.txs_typing.proofs.trees.Unique.{some_injective}
use Rattle.txs_typing.proofs.trees.NotBoth.{none≢some}
use Rattle.txs_typing.proofs.trees.Globals.{AreGood, good_append, good_constructors, place_after}
use Rattle.txs_typing.proofs.trees.WellTyped.{Sound, typed, at_need}
use Rattle.txs_types.proofs.files.Meaning.{function_of, constant_of, definitions_of, IsRest, head_of, tail_of, all_of}
use Rattle.txs_types.proofs.files.Tables.{NoOffence, AllKnown, all_known, same_length, known_type, known_variables, known_places, has_default, defined_left, defined_right}
use Rattle.txs_types.proofs.naming.Distinct.{distinct_names}

-- ---- the headers

have_headers : {file : File} {ds : List Def} {fs : List Function} → AreFunctions file ds fs → (table : Table) → length table ≡ length (type_names file.defs)
    → AllKnown (type_names file.defs) ds → HaveHeaders table fs
have_headers no_function table same known = tt
have_headers {file = file} (a_function {r = r} {ps = ps} d rest) table same known = (
  (
    known_variables table (type_names file.defs) same ps.decls (defined_left (type_names file.defs) (types_used ps.decls) (r ∷ []) known.0),
    known_type table (type_names file.defs) r same (defined_right (type_names file.defs) (types_used ps.decls) (r ∷ []) known.0).0,
  ),
  have_headers rest table same known.1,
)
have_headers (type_between rest) table same known = have_headers rest table same known.1
have_headers (constant_between rest) table same known = have_headers rest table same known.1

have_types : {file : File} {ds : List Def} {ks : List Constant} → AreConstants file ds ks → (table : Table) → length table ≡ length (type_names file.defs)
    → AllKnown (type_names file.defs) ds → HaveConstantTypes table ks
have_types no_constant table same known = tt
have_types {file = file} (a_constant {n = n} d rest) table same known = (known_type table (type_names file.defs) n same known.0.0, have_types rest table same known.1)
have_types (type_by rest) table same known = have_types rest table same known.1
have_types (function_between rest) table same known = have_types rest table same known.1

-- ---- the names of the file

-- what the definitions from here on let names mean
record Known (file : File) (d : Definitions) (k c f n : ℕ) (ds : List Def) (fs : List Function) (ks : List Constant) : Type 0 where
  many : k + length (table_in (type_names file.defs) ds) ≡ length d.table
  places : (i : ℕ) → place_of d.table (c + i) ≡ place_from k (table_in (type_names file.defs) ds) i
  functions : (i : ℕ) → slice_get d.functions (f + i) ≡ slice_get fs i
  constants : (i : ℕ) → slice_get d.constants (n + i) ≡ slice_get ks i
  known : AllKnown (type_names file.defs) ds

good_names : (file : File) (d : Definitions) → HasTypes d → length d.table ≡ length (type_names file.defs) → (k c f n : ℕ) (ds : List Def) {fs : List Function} {ks : List Constant}
    → Known file d k c f n ds fs ks → AreFunctions file ds fs → AreConstants file ds ks → AreGood d (globals_in (type_names file.defs) k c f n ds)
good_names file d ok same k c f n [] h p q = tt
good_names file d ok same k c f n (def.TypeDef x cs ∷ ds) h (type_between p) (type_by q) =
    let types = type_names file.defs in
    let go = place_from (suc k) (table_in types ds) in
    let as_long : length (constructors_of types cs) ≡ length cs = length-map cs (constructor_of types) in
    good_append d (constructor_globals k c (constructors_of types cs)) (globals_in types (suc k) (c + length cs) f n ds)
    (good_constructors d ok k (omega (arith, h.many)) c (constructors_of types cs) go h.places)
    (good_names file d ok same (suc k) (c + length cs) f n ds (record {
      many = omega (arith, h.many);
      places = λ i.
          subst (λ m. place_of d.table m ≡ go i) (omega (arith, as_long)) (h.places (length (constructors_of types cs) + i) ∙ place_after k (constructors_of types cs) go i);
      functions = h.functions;
      constants = h.constants;
      known = h.known.1;
    }) p q)
good_names file d ok same k c f n (def.FuncDef x ps r a ∷ ds) h (a_function {fs = fs} {e = e} dd p) (function_between q) =
    let types = type_names file.defs in
    let found : slice_get d.functions f ≡ Some (function_of file x ps r e) =
    subst (λ m. slice_get d.functions m ≡ Some (function_of file x ps r e)) (omega arith) (h.functions 0) in
    let make : (Function → Signature) = λ f. record { takes = f.takes; gives = f.gives } in (
      (
        slice_get-map make d.functions f ∙ ap (option_map make) found,
        known_variables d.table types same ps.decls (defined_left types (types_used ps.decls) (r ∷ []) h.known.0),
        known_type d.table types r same (defined_right types (types_used ps.decls) (r ∷ []) h.known.0).0,
      ),
      good_names file d ok same k c (suc f) n ds (record {
        many = h.many;
        places = h.places;
        functions = λ i. subst (λ m. slice_get d.functions m ≡ slice_get fs i) (omega arith) (h.functions (suc i));
        constants = h.constants;
        known = h.known.1;
      }) p q,
    )
good_names file d ok same k c f n (def.ConstDef x t a ∷ ds) h (constant_between p) (a_constant {ks = ks} {e = e} dd q) =
    let types = type_names file.defs in
    let found : slice_get d.constants n ≡ Some (constant_of file x t e) =
    subst (λ m. slice_get d.constants m ≡ Some (constant_of file x t e)) (omega arith) (h.constants 0) in
    let make : (Constant → Ty) = λ k. k.ty in (
      (slice_get-map make d.constants n ∙ ap (option_map make) found, known_type d.table types t same h.known.0.0),
      good_names file d ok same k c f (suc n) ds (record {
        many = h.many;
        places = h.places;
        functions = h.functions;
        constants = λ i. subst (λ m. slice_get d.constants m ≡ slice_get ks i) (omega arith) (h.constants (suc i));
        known = h.known.1;
      }) p q,
    )

-- ---- the bodies

abbrev HaveInts : List Def → Type 0
HaveInts [] = Unit {0}
HaveInts (def.TypeDef x cs ∷ ds) = HaveInts ds
HaveInts (def.FuncDef x ps r e ∷ ds) = HasInts e × HaveInts ds
HaveInts (def.ConstDef x t e ∷ ds) = HasInts e × HaveInts ds

have_ints : (file : File) → FileHasInts file → (i : ℕ) (ds : List Def) → IsRest file i ds → HaveInts ds
have_ints file ints i [] h = tt
have_ints file ints i (def.TypeDef x cs ∷ ds) h = have_ints file ints (suc i) ds (tail_of file i (def.TypeDef x cs) ds h)
have_ints file ints i (def.FuncDef x ps r e ∷ ds) h =
    (ints.functions i x r ps e (head_of file i ds h), have_ints file ints (suc i) ds (tail_of file i (def.FuncDef x ps r e) ds h))
have_ints file ints i (def.ConstDef x t e ∷ ds) h =
    (ints.constants i x t e (head_of file i ds h), have_ints file ints (suc i) ds (tail_of file i (def.ConstDef x t e) ds h))

-- the scope of each body is sound where its parameters are
abbrev AreSound : File → Definitions → Type 0
AreSound file d = (variables : List Variable) → AreTypes d.table (field_types variables) → Sound d (scope_in file variables)

function_bodies : {file : File} {ds : List Def} {fs : List Function} → AreFunctions file ds fs → (d : Definitions) → length d.table ≡ length (type_names file.defs) → AreSound file d
    → AllKnown (type_names file.defs) ds → HaveInts ds → (i : ℕ) (f : Function) → slice_get fs i ≡ Some f → Of d.table (signatures_of d) f.takes [] f.body f.gives
function_bodies no_function d same ok known ints i f h = absurd (none≢some h)
function_bodies {file = file} (a_function {x = x} {r = r} {ps = ps} {e = e} {t = t} dd rest) d same ok known ints zero f h =
    let types = type_names file.defs in
    let sound = ok (variables_of types ps) (known_variables d.table types same ps.decls (defined_left types (types_used ps.decls) (r ∷ []) known.0)) in
    let gives = known_type d.table types r same (defined_right types (types_used ps.decls) (r ∷ []) known.0).0 in
    subst (λ (f : Function). Of d.table (signatures_of d) f.takes [] f.body f.gives) (some_injective h)
    (at_need d (scope_in file (variables_of types ps)) e (type_of types r.text) t (typed d dd sound gives ints.0))
function_bodies (a_function dd rest) d same ok known ints (suc i) f h = function_bodies rest d same ok known.1 ints.1 i f h
function_bodies (type_between rest) d same ok known ints i f h = function_bodies rest d same ok known.1 ints i f h
function_bodies (constant_between rest) d same ok known ints i f h = function_bodies rest d same ok known.1 ints.1 i f h

constant_bodies : {file : File} {ds : List Def} {ks : List Constant} → AreConstants file ds ks → (d : Definitions) → length d.table ≡ length (type_names file.defs) → AreSound file d
    → AllKnown (type_names file.defs) ds → HaveInts ds → (i : ℕ) (k : Constant) → slice_get ks i ≡ Some k → Of d.table (signatures_of d) [] [] k.body k.ty
constant_bodies no_constant d same ok known ints i k h = absurd (none≢some h)
constant_bodies {file = file} (a_constant {n = n} {e = e} {t = t} dd rest) d same ok known ints zero k h =
    let types = type_names file.defs in
    let ty = known_type d.table types n same known.0.0 in
    subst (λ (k : Constant). Of d.table (signatures_of d) [] [] k.body k.ty) (some_injective h)
    (at_need d (scope_in file []) e (type_of types n.text) t (typed d dd (ok [] tt) ty ints.0))
constant_bodies (a_constant dd rest) d same ok known ints (suc i) k h = constant_bodies rest d same ok known.1 ints.1 i k h
constant_bodies (type_by rest) d same ok known ints i k h = constant_bodies rest d same ok known.1 ints i k h
constant_bodies (function_between rest) d same ok known ints i k h = constant_bodies rest d same ok known.1 ints.1 i k h

-- ---- the law

unmapped : {A B : Type 0} (make : A → B) (xs : List A) (i : ℕ) (b : B) → slice_get (map make xs) i ≡ Some b → (a : A) × (slice_get xs i ≡ Some a) × (make a ≡ b)
unmapped make [] i b h = absurd (none≢some h)
unmapped make (x ∷ xs) zero b h = (x, refl, some_injective h)
unmapped make (x ∷ xs) (suc i) b h = unmapped make xs i b h

module _ (file : File) (names : FileHasNames file) (ints : FileHasInts file) (none : NoOffence file) (fs : List Function) (ks : List Constant)
    (p : AreFunctions file file.defs fs) (q : AreConstants file file.defs ks) where
  abbrev types : List Name
  types = type_names file.defs

  abbrev made : Definitions
  made = definitions_of (table_of file) fs ks

  same : length (table_of file) ≡ length types
  same = same_length types file.defs

  known : AllKnown types file.defs
  known = all_known file none

  has_types : HasTypes made
  has_types = record {
    functions = have_headers p (table_of file) same known;
    constants = have_types q (table_of file) same known;
    fields = λ c place e. known_places (table_of file) types same 0 file.defs c place known e;
  }

  globals : AreGood made (built_ins ++ globals_in types 0 0 0 0 file.defs)
  globals =
      good_append made built_ins (globals_in types 0 0 0 0 file.defs) (tt, (tt, (tt, (tt, (tt, (tt, (tt, tt)))))))
      (good_names file made has_types same 0 0 0 0 file.defs (record {
        many = omega arith;
        places = λ i. ap (place_of (table_of file)) (omega arith);
        functions = λ i. ap (slice_get fs) (omega arith);
        constants = λ i. ap (slice_get ks) (omega arith);
        known = known;
      }) p q)

  sound : AreSound file made
  sound variables h = record { types = sym same; globals = globals; slots = h; locals = tt }

  are_defined : AreDefined made
  are_defined = record {
    functions = have_headers p (table_of file) same known;
    constants = have_types q (table_of file) same known;
    typed = record {
      table = record { defaults = λ k below. has_default file none k below; known = λ c place e. known_places (table_of file) types same 0 file.defs c place known e };
      functions = λ i s h.
          let make : (Function → Signature) = λ f. record { takes = f.takes; gives = f.gives } in
          let body : (Function → Body) = λ f. record { takes = f.takes; body = f.body } in
          let f = unmapped make fs i s h in (
            f.0.body,
            slice_get-map body fs i ∙ (ap (option_map body) f.1 ∙ ap (λ (s : Signature). Some (record { takes = s.takes; body = f.0.body })) f.2),
            subst (λ s. Of (table_of file) (signatures_of made) s.takes [] f.0.body s.gives) f.2
                (function_bodies p made same sound known (have_ints file ints 0 file.defs (all_of file)) i f.0 f.1),
          );
      constants = λ i t h.
          let k = unmapped (λ (k : Constant). k.ty) ks i t h in (
            k.0.body,
            slice_get-map (λ (k : Constant). k.body) ks i ∙ ap (option_map (λ (k : Constant). k.body)) k.1,
            subst (λ t. Of (table_of file) (signatures_of made) [] [] k.0.body t) k.2
                (constant_bodies q made same sound known (have_ints file ints 0 file.defs (all_of file)) i k.0 k.1),
          );
    };
    named = record { names = names; distinct = distinct_names file none };
  }

pub meant_is_defined : MeantIsDefined
meant_is_defined file d names ints none meant =
    subst AreDefined (ap (λ t. definitions_of t d.functions d.constants) (sym meant.table))
    (are_defined file names ints none d.functions d.constants meant.functions meant.constants)
