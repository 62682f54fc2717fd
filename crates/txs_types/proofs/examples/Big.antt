-- A type whose default is too large: a hundred and twenty-eight fields, each with a default of size 129. Of places only that of the type counts.
use Rattle.std.proofs.Common.{ℕ, zero, suc, List, [], ◌∷◌, codes, refl, inl, arith}
use Rattle.txs_values.specs.Value.{value_size_limit}
use Rattle.txs_syntax.specs.declared.ast.Name.{Name}
use Rattle.txs_syntax.specs.declared.file.File.{File}
use Rattle.txs_syntax.specs.declared.file.Def.{Def}
use Rattle.txs_syntax.specs.declared.file.Def.TheVariants as def
use Rattle.txs_typing.specs.Offends.{big_type}
use Rattle.txs_types.specs.Files.{FileOffends, big_default}

abbrev word : ℕ → List ℕ → Name
word at x = record { at = at; text = x }

-- names at the places from `at` on
abbrev names : ℕ → ℕ → List Name
names zero at = []
names (suc n) at = word at (codes "a") ∷ names n (suc at)

-- a type with one constructor, whose fields are so many and of one type
abbrev wide : ℕ → List ℕ → ℕ → List ℕ → Def
wide at x n t = def.TypeDef (word at x) (record { name = word (suc at) (codes "C"); fields = record { decls = record { names = names n 10; ty = word 500 t } ∷ [] } } ∷ [])

abbrev wide_file : File
wide_file = record { defs = wide 8 (codes "T") 128 (codes "U") ∷ wide 600 (codes "U") 128 (codes "Int") ∷ [] }

t_is_big : FileOffends wide_file (big_type 8)
unfolding value_size_limit
t_is_big = big_default 0 refl refl (inl (omega arith))
