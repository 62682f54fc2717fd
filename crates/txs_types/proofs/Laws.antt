-- What holds of the definitions in specs/, as statements: the files beside prove each.
use Rattle.std.specs.Prelude.{◌≡◌, ◌⊎◌, ℕ, Some, slice_get}
use Rattle.txs_terms.specs.Defs.{Definitions, AreDefined}
use Rattle.txs_syntax.specs.declared.ast.Ast.{Ast}
use Rattle.txs_syntax.specs.declared.ast.Name.{Name}
use Rattle.txs_syntax.specs.declared.file.DeclList.{DeclList}
use Rattle.txs_syntax.specs.declared.file.Def.TheVariants as def
use Rattle.txs_syntax.specs.declared.file.File.{File}
use Rattle.txs_typing.specs.Elaborates.{HasInts}
use Rattle.txs_typing.specs.Offends.{Offence}
use Rattle.txs_types.specs.Files.{FileOffends, IsMeant, FileHasNames}

-- a file means definitions, or something offends in it (files/Meaning)
abbrev pub MeantOrOffends : Type 0
MeantOrOffends = (file : File) → ((d : Definitions) × IsMeant file d) ⊎ ((o : Offence) × FileOffends file o)

-- and no two lists of definitions (files/Meaning)
abbrev pub MeaningIsUnique : Type 0
MeaningIsUnique = (file : File) (c d : Definitions) → IsMeant file c → IsMeant file d → c ≡ d

-- the numbers in the bodies of the file are in the range of Int
pub record FileHasInts (file : File) : Type 0 where
  pub functions : (i : ℕ) (x r : Name) (ps : DeclList) (e : Ast) → slice_get file.defs i ≡ Some (def.FuncDef x ps r e) → HasInts e
  pub constants : (i : ℕ) (x t : Name) (e : Ast) → slice_get file.defs i ≡ Some (def.ConstDef x t e) → HasInts e

-- where constructors are called by names and numbers are in range: what a file without an offence means is well typed, each of its types
-- has a default, and no two constructors have one name (files/Defined)
abbrev pub MeantIsDefined : Type 0
MeantIsDefined =
    (file : File) (d : Definitions) → FileHasNames file → FileHasInts file → ((o : Offence) → FileOffends file o → ⊥) → IsMeant file d → AreDefined d
