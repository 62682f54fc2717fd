use Rattle.std.proofs.Common.{◌≡◌, ◌++◌, drop}
use Rattle.txs_values.specs.TableView.{conses_of}
use Rattle.txs_types.specs.Files as files
use Rattle.txs_types.proofs.file_types.constructors_of.Given as goal

-- the constructors so far, with those that are left
abbrev pub invariant-loop-con : goal.invariant-loop-con
invariant-loop-con l = conses_of l.made ++ files.constructors_of l.types (drop l.con-index l.cons) ≡ files.constructors_of l.types l.cons
