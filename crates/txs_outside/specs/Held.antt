-- What a list of named files holds.
use Rattle.std.specs.Prelude.{ℕ, List, [], ◌∷◌, Option, None, Some, if◌then◌else◌, bytes_eq}
use Rattle.txs_outside.specs.declared.sure_files.NamedFile.{NamedFile}

-- the bytes of the first file of the name
abbrev pub held : List NamedFile → List ℕ → Option (List ℕ)
held [] name = None
held (file ∷ files) name = if bytes_eq file.name name then Some file.bytes else held files name
