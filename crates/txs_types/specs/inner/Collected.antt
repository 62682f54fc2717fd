-- What is collected of the bodies of a file.
use Rattle.std.specs.Prelude.{◌≡◌, List, [], ◌∷◌, ◌++◌, map, None, Result, Ok, Err, Some}
use Rattle.txs_syntax.specs.declared.file.File.{File}
use Rattle.txs_syntax.specs.declared.file.Def.{Def}
use Rattle.txs_terms.specs.View.{function_of, constant_of}
use Rattle.txs_terms.specs.declared.defs.FunctionDef.{FunctionDef}
use Rattle.txs_terms.specs.declared.defs.ConstantDef.{ConstantDef}
use Rattle.txs_typing.specs.declared.fault.TypeFault.{TypeFault}
use Rattle.txs_types.specs.declared.bodies.Collected as rust_collected
use Rattle.txs_typing.specs.Offends.{Offence}
use Rattle.txs_types.specs.Files.{AreFunctions, AreConstants}
use Rattle.txs_typing.specs.inner.Told.{Finds, Least}
use Rattle.txs_typing.specs.Answer.{Told}
use Rattle.txs_types.specs.inner.Among.{AmongDefs, InFunction, InConstant, FunctionsHaveInts, ConstantsHaveInts}

-- the functions that these definitions mean, and the numbers in their bodies are in the range of Int
pub record FunctionsMeant (file : File) (ds : List Def) (fs : List FunctionDef) : Type 0 where
  pub meant : AreFunctions file ds (map function_of fs)
  pub ints : FunctionsHaveInts ds

pub record ConstantsMeant (file : File) (ds : List Def) (ks : List ConstantDef) : Type 0 where
  pub meant : AreConstants file ds (map constant_of ks)
  pub ints : ConstantsHaveInts ds

-- what the definition means, or the fault that decides in its body
abbrev pub Judged : {A : Type 0} → (List Def → List A → Type 0) → (Def → Offence → Type 0) → Def → Result (List A) TypeFault → Type 0
Judged Meant In d (Ok xs) = Meant (d ∷ []) xs
Judged Meant In d (Err f) = Told f (In d)

-- with what was judged of one more definition
abbrev pub IsAdded : {A : Type 0} → rust_collected.Collected A → Result (List A) TypeFault → rust_collected.Collected A → Type 0
IsAdded old (Ok xs) new = (new.list ≡ old.list ++ xs) × (new.fault ≡ old.fault)
IsAdded old (Err f) new = Least old.fault (Some f) new.fault

-- the fault tells of the offences in these definitions, and if there is none they mean what is listed
pub record IsCollected {A : Type 0} (Meant : List Def → List A → Type 0) (In : Def → Offence → Type 0) (ds : List Def) (s : rust_collected.Collected A) : Type 0 where
  pub finds : Finds s.fault (AmongDefs In ds)
  pub made : s.fault ≡ None → Meant ds s.list

-- the function that the definition means, if it is one
abbrev pub FunctionIn : File → Def → Result (List FunctionDef) TypeFault → Type 0
FunctionIn file = Judged (FunctionsMeant file) (InFunction file)

abbrev pub ConstantIn : File → Def → Result (List ConstantDef) TypeFault → Type 0
ConstantIn file = Judged (ConstantsMeant file) (InConstant file)

abbrev pub FunctionsCollected : File → List Def → rust_collected.Collected FunctionDef → Type 0
FunctionsCollected file = IsCollected (FunctionsMeant file) (InFunction file)

abbrev pub ConstantsCollected : File → List Def → rust_collected.Collected ConstantDef → Type 0
ConstantsCollected file = IsCollected (ConstantsMeant file) (InConstant file)
