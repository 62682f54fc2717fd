-- The bodies of a file: what is judged of each, and what is collected of them.
use Rattle.std.proofs.Common.{◌≡◌, ◌+◌, ◌<◌, ◌≤◌, ℕ, ap, sym, subst, ◌∙◌, List, [], ◌∷◌, ◌++◌, length, map, take, get_or, Some, None, Result, Ok, Err, refl}
use Rattle.std.proofs.lemmas.List.{map-append, take_all}
use Rattle.txs_values.specs.TableView.{field_of}
use Rattle.txs_terms.specs.Defs.{Function, Constant}
use Rattle.txs_terms.specs.View.{function_of, constant_of}
use Rattle.txs_terms.specs.declared.defs.FunctionDef.{FunctionDef}
use Rattle.txs_terms.specs.declared.defs.ConstantDef.{ConstantDef}
use Rattle.txs_syntax.specs.declared.ast.Name.{Name}
use Rattle.txs_syntax.specs.declared.ast.Ast.{Ast}
use Rattle.txs_syntax.specs.declared.file.File.{File}
use Rattle.txs_syntax.specs.declared.file.Def.{Def}
use Rattle.txs_syntax.specs.declared.file.Def.TheVariants as def
use Rattle.txs_syntax.specs.declared.file.DeclList.{DeclList}
use Rattle.txs_typing.specs.declared.fault.TypeFault.{TypeFault}
use Rattle.txs_typing.specs.declared.scope.Scope as rust_scope
use Rattle.txs_types.specs.declared.bodies.Collected as rust_collected
use Rattle.txs_typing.specs.Names.{Scope, Global, Variable, built_ins}
use Rattle.txs_typing.specs.Elaborates.{Elaborates}
use Rattle.txs_typing.specs.Offends.{Offence}
use Rattle.txs_types.specs.Files.{type_names, type_of, variables_of, globals_in, scope_in, AreFunctions, no_function, a_function, AreFunctions.type_between, constant_between, AreConstants, no_constant, a_constant, AreConstants.type_between as type_by, function_between}
use Rattle.txs_typing.specs.inner.Told.{Finds}
use Rattle.txs_typing.specs.inner.View.{scope_of}
use Rattle.txs_types.specs.inner.Among.{AmongDefs, InFunction, InConstant, FunctionsHaveInts, ConstantsHaveInts, IsOfFile}
use Rattle.txs_types.specs.inner.Collected.{FunctionsMeant, ConstantsMeant, FunctionIn, ConstantIn, FunctionsCollected, ConstantsCollected, Judged, IsAdded, IsCollected}
use Rattle.txs_typing.proofs.trees.NotBoth.{none≢some, not_both}
use Rattle.txs_types.proofs.lists.Gathering.{taken_more}
use Rattle.txs_types.proofs.lists.Deciding.{least_none, least_right, among_least, among_none}

-- ---- the scope

scope_by : ℕ → List Global → List Variable → List Variable → Scope
scope_by n gs vs ls = record { types = n; globals = gs; slots = vs; locals = ls }

-- the scope of the file with these slots is that of a body
pub body_scope : (file : File) (s : rust_scope.Scope) (vs : List Variable) → IsOfFile file s → map field_of s.slots ≡ vs → scope_of s ≡ scope_in file vs
unfolding scope_by
body_scope file s vs h e =
    ap (λ n. scope_by n (scope_of s).globals (scope_of s).slots (scope_of s).locals) h.types
    ∙ (ap (λ gs. scope_by (length (type_names file.defs)) gs (scope_of s).slots (scope_of s).locals) h.globals
    ∙ (ap (λ vs. scope_by (length (type_names file.defs)) (built_ins ++ globals_in (type_names file.defs) 0 0 0 0 file.defs) vs (scope_of s).locals) e
    ∙ ap (λ ls. scope_by (length (type_names file.defs)) (built_ins ++ globals_in (type_names file.defs) 0 0 0 0 file.defs) vs ls) h.locals))

-- ---- what is collected

abbrev Appends : {A : Type 0} → (List Def → List A → Type 0) → Type 0
Appends {A} Meant = (ds es : List Def) (xs ys zs : List A) → zs ≡ xs ++ ys → Meant ds xs → Meant es ys → Meant (ds ++ es) zs

-- nothing offends in what is meant
abbrev IsClean : {A : Type 0} → (List Def → List A → Type 0) → (Def → Offence → Type 0) → Type 0
IsClean {A} Meant In = (d : Def) (xs : List A) → Meant (d ∷ []) xs → (o : Offence) → In d o → ⊥

collected_more : {A : Type 0} (Meant : List Def → List A → Type 0) (In : Def → Offence → Type 0) → Appends Meant → IsClean Meant In
    → (ds : List Def) (d : Def) (s t : rust_collected.Collected A) (j : Result (List A) TypeFault) → IsCollected Meant In ds s → Judged Meant In d j → IsAdded s j t
    → IsCollected Meant In (ds ++ d ∷ []) t
collected_more Meant In append clean ds d s t (Ok xs) p q a = record {
  finds = among_least (λ i. In) ds d s.fault None t.fault p.finds (clean d xs q) (least_none s.fault t.fault a.1);
  made = λ e. append ds (d ∷ []) s.list xs t.list a.0 (p.made (sym a.1 ∙ e)) q;
}
collected_more Meant In append clean ds d s t (Err f) p q a = record {
  finds = among_least (λ i. In) ds d s.fault (Some f) t.fault p.finds q a;
  made = λ e. absurd (none≢some (sym (least_right s.fault (Some f) t.fault a e)));
}

found_step : {A : Type 0} (Meant : List Def → List A → Type 0) (In : Def → Offence → Type 0) → Appends Meant → IsClean Meant In
    → (ds : List Def) (i : ℕ) (d : Def) (s t : rust_collected.Collected A) (j : Result (List A) TypeFault) → i < length ds → d ≡ get_or ds i d
    → IsCollected Meant In (take i ds) s → Judged Meant In d j → IsAdded s j t → IsCollected Meant In (take (i + 1) ds) t
found_step Meant In append clean ds i d s t j below is p q a =
    subst (λ ds. IsCollected Meant In ds t) (taken_more ds i d below is) (collected_more Meant In append clean (take i ds) d s t j p q a)

collected_start : {A : Type 0} (Meant : List Def → List A → Type 0) (In : Def → Offence → Type 0) → Meant [] [] → (s : rust_collected.Collected A) → s.list ≡ [] → s.fault ≡ None
    → IsCollected Meant In [] s
collected_start Meant In none s e f = record {
  finds = subst (λ g. Finds g (AmongDefs In [])) (sym f) (λ o h. among_none (λ i. In) o h);
  made = λ g. subst (Meant []) (sym e) none;
}

pub collected_end : {A : Type 0} (Meant : List Def → List A → Type 0) (In : Def → Offence → Type 0) (ds es : List Def) (i : ℕ) (s : rust_collected.Collected A) → length ds ≤ i → ds ≡ es
    → IsCollected Meant In (take i ds) s → IsCollected Meant In es s
collected_end Meant In ds es i s past e h = subst (λ ds. IsCollected Meant In ds s) (take_all i ds past ∙ e) h

-- ---- functions

functions_append : {file : File} {ds es : List Def} {fs gs : List Function} → AreFunctions file ds fs → AreFunctions file es gs → AreFunctions file (ds ++ es) (fs ++ gs)
functions_append no_function q = q
functions_append (a_function d p) q = a_function d (functions_append p q)
functions_append (type_between p) q = type_between (functions_append p q)
functions_append (constant_between p) q = constant_between (functions_append p q)

function_ints_append : (ds es : List Def) → FunctionsHaveInts ds → FunctionsHaveInts es → FunctionsHaveInts (ds ++ es)
function_ints_append [] es h k = k
function_ints_append (def.TypeDef x cs ∷ ds) es h k = function_ints_append ds es h k
function_ints_append (def.FuncDef x ps r e ∷ ds) es h k = (h.0, function_ints_append ds es h.1 k)
function_ints_append (def.ConstDef x t e ∷ ds) es h k = function_ints_append ds es h k

functions_meant_append : (file : File) (ds es : List Def) (fs gs hs : List FunctionDef) → hs ≡ fs ++ gs → FunctionsMeant file ds fs → FunctionsMeant file es gs → FunctionsMeant file (ds ++ es) hs
functions_meant_append file ds es fs gs hs e p q = record {
  meant = subst (λ l. AreFunctions file (ds ++ es) l) (sym (ap (map function_of) e ∙ map-append function_of fs gs)) (functions_append p.meant q.meant);
  ints = function_ints_append ds es p.ints q.ints;
}

-- nothing offends in the body of a function that is meant
none_in_function : {file : File} {ds : List Def} {fs : List Function} → AreFunctions file ds fs → (d : Def) → ds ≡ d ∷ [] → (o : Offence) → InFunction file d o → ⊥
none_in_function no_function d e o h = cc
none_in_function {file = file} (a_function {x = x} {r = r} {ps = ps} {a = a} {e = e} {t = t} m rest) (def.TypeDef y cs) q o h = h
none_in_function {file = file} (a_function {x = x} {r = r} {ps = ps} {a = a} {e = e} {t = t} m rest) (def.FuncDef y qs s b) q o h =
    let i : ps ≡ qs = cc in
    let j : r ≡ s = cc in
    let k : a ≡ b = cc in
    by i j k
  where
    by : ps ≡ qs → r ≡ s → a ≡ b → ⊥
    by i j k = not_both (scope_in file (variables_of (type_names file.defs) qs)) (Some (type_of (type_names file.defs) s.text)) b e t o
        (subst (λ qs. Elaborates (scope_in file (variables_of (type_names file.defs) qs)) (Some (type_of (type_names file.defs) s.text)) b e t) i
        (subst (λ s. Elaborates (scope_in file (variables_of (type_names file.defs) ps)) (Some (type_of (type_names file.defs) s.text)) b e t) j
        (subst (λ b. Elaborates (scope_in file (variables_of (type_names file.defs) ps)) (Some (type_of (type_names file.defs) r.text)) b e t) k m))) h
none_in_function (a_function m rest) (def.ConstDef y t b) q o h = h
none_in_function (type_between rest) (def.TypeDef y cs) q o h = h
none_in_function (type_between rest) (def.FuncDef y qs s b) q o h = cc
none_in_function (type_between rest) (def.ConstDef y t b) q o h = h
none_in_function (constant_between rest) (def.TypeDef y cs) q o h = h
none_in_function (constant_between rest) (def.FuncDef y qs s b) q o h = cc
none_in_function (constant_between rest) (def.ConstDef y t b) q o h = h

functions_clean : (file : File) → IsClean (FunctionsMeant file) (InFunction file)
functions_clean file d fs q = none_in_function q.meant d refl

pub functions_step : (file : File) (ds : List Def) (i : ℕ) (d : Def) (s t : rust_collected.Collected FunctionDef) (j : Result (List FunctionDef) TypeFault) → i < length ds → d ≡ get_or ds i d
    → FunctionsCollected file (take i ds) s → FunctionIn file d j → IsAdded s j t → FunctionsCollected file (take (i + 1) ds) t
functions_step file = found_step (FunctionsMeant file) (InFunction file) (functions_meant_append file) (functions_clean file)

pub functions_start : (file : File) (s : rust_collected.Collected FunctionDef) → s.list ≡ [] → s.fault ≡ None → FunctionsCollected file [] s
functions_start file = collected_start (FunctionsMeant file) (InFunction file) (record { meant = no_function; ints = tt })

pub no_function_in : (file : File) (d : Def) (fs : List FunctionDef) → fs ≡ [] → ((x r : Name) (ps : DeclList) (e : Ast) → d ≡ def.FuncDef x ps r e → ⊥) → FunctionsMeant file (d ∷ []) fs
no_function_in file (def.TypeDef x cs) fs e h = record { meant = subst (λ l. AreFunctions file (def.TypeDef x cs ∷ []) l) (sym (ap (map function_of) e)) (type_between no_function); ints = tt }
no_function_in file (def.FuncDef x ps r a) fs e h = absurd (h x r ps a refl)
no_function_in file (def.ConstDef x t a) fs e h = record { meant = subst (λ l. AreFunctions file (def.ConstDef x t a ∷ []) l) (sym (ap (map function_of) e)) (constant_between no_function); ints = tt }

-- ---- constants

constants_append : {file : File} {ds es : List Def} {fs gs : List Constant} → AreConstants file ds fs → AreConstants file es gs → AreConstants file (ds ++ es) (fs ++ gs)
constants_append no_constant q = q
constants_append (a_constant d p) q = a_constant d (constants_append p q)
constants_append (type_by p) q = type_by (constants_append p q)
constants_append (function_between p) q = function_between (constants_append p q)

constant_ints_append : (ds es : List Def) → ConstantsHaveInts ds → ConstantsHaveInts es → ConstantsHaveInts (ds ++ es)
constant_ints_append [] es h k = k
constant_ints_append (def.TypeDef x cs ∷ ds) es h k = constant_ints_append ds es h k
constant_ints_append (def.FuncDef x ps r e ∷ ds) es h k = constant_ints_append ds es h k
constant_ints_append (def.ConstDef x t e ∷ ds) es h k = (h.0, constant_ints_append ds es h.1 k)

constants_meant_append : (file : File) (ds es : List Def) (fs gs hs : List ConstantDef) → hs ≡ fs ++ gs → ConstantsMeant file ds fs → ConstantsMeant file es gs → ConstantsMeant file (ds ++ es) hs
constants_meant_append file ds es fs gs hs e p q = record {
  meant = subst (λ l. AreConstants file (ds ++ es) l) (sym (ap (map constant_of) e ∙ map-append constant_of fs gs)) (constants_append p.meant q.meant);
  ints = constant_ints_append ds es p.ints q.ints;
}

none_in_constant : {file : File} {ds : List Def} {ks : List Constant} → AreConstants file ds ks → (d : Def) → ds ≡ d ∷ [] → (o : Offence) → InConstant file d o → ⊥
none_in_constant no_constant d e o h = cc
none_in_constant (a_constant m rest) (def.TypeDef y cs) q o h = h
none_in_constant (a_constant m rest) (def.FuncDef y qs s b) q o h = h
none_in_constant {file = file} (a_constant {x = x} {n = n} {a = a} {e = e} {t = t} m rest) (def.ConstDef y s b) q o h =
    let j : n ≡ s = cc in
    let k : a ≡ b = cc in
    by j k
  where
    by : n ≡ s → a ≡ b → ⊥
    by j k = not_both (scope_in file []) (Some (type_of (type_names file.defs) s.text)) b e t o
        (subst (λ s. Elaborates (scope_in file []) (Some (type_of (type_names file.defs) s.text)) b e t) j
        (subst (λ b. Elaborates (scope_in file []) (Some (type_of (type_names file.defs) n.text)) b e t) k m)) h
none_in_constant (type_by rest) (def.TypeDef y cs) q o h = h
none_in_constant (type_by rest) (def.FuncDef y qs s b) q o h = h
none_in_constant (type_by rest) (def.ConstDef y t b) q o h = cc
none_in_constant (function_between rest) (def.TypeDef y cs) q o h = h
none_in_constant (function_between rest) (def.FuncDef y qs s b) q o h = h
none_in_constant (function_between rest) (def.ConstDef y t b) q o h = cc

constants_clean : (file : File) → IsClean (ConstantsMeant file) (InConstant file)
constants_clean file d ks q = none_in_constant q.meant d refl

pub constants_step : (file : File) (ds : List Def) (i : ℕ) (d : Def) (s t : rust_collected.Collected ConstantDef) (j : Result (List ConstantDef) TypeFault) → i < length ds → d ≡ get_or ds i d
    → ConstantsCollected file (take i ds) s → ConstantIn file d j → IsAdded s j t → ConstantsCollected file (take (i + 1) ds) t
constants_step file = found_step (ConstantsMeant file) (InConstant file) (constants_meant_append file) (constants_clean file)

pub constants_start : (file : File) (s : rust_collected.Collected ConstantDef) → s.list ≡ [] → s.fault ≡ None → ConstantsCollected file [] s
constants_start file = collected_start (ConstantsMeant file) (InConstant file) (record { meant = no_constant; ints = tt })

pub no_constant_in : (file : File) (d : Def) (ks : List ConstantDef) → ks ≡ [] → ((x t : Name) (e : Ast) → d ≡ def.ConstDef x t e → ⊥) → ConstantsMeant file (d ∷ []) ks
no_constant_in file (def.TypeDef x cs) ks e h = record { meant = subst (λ l. AreConstants file (def.TypeDef x cs ∷ []) l) (sym (ap (map constant_of) e)) (type_by no_constant); ints = tt }
no_constant_in file (def.FuncDef x ps r a) ks e h = record { meant = subst (λ l. AreConstants file (def.FuncDef x ps r a ∷ []) l) (sym (ap (map constant_of) e)) (function_between no_constant); ints = tt }
no_constant_in file (def.ConstDef x t a) ks e h = absurd (h x t a refl)
