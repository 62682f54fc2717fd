-- What contracts see of the objects in memory.
use Rattle.std.specs.Prelude.{ℕ, List, Option, Bool}
use Rattle.txs_outside.specs.declared.sut.SutEntry.{SutEntry}
use Rattle.txs_outside.specs.declared.playing.ScriptEntry.{ScriptEntry}
use Rattle.txs_outside.specs.declared.sure_files.NamedFile.{NamedFile}

-- a source that never fails
pub record SureSourceState : Type 0 where
  pub left : List ℕ
  pub given : List ℕ
  pub at_end : Bool

-- a source that fails at the listed calls, of which so many were made
pub record MemSourceState : Type 0 where
  pub left : List ℕ
  pub given : List ℕ
  pub at_end : Bool
  pub has_failed : Bool
  pub made : ℕ
  pub fails : List ℕ
  pub faults : ℕ

-- a sink that fails at the listed calls, of which so many were made
pub record MemSinkState : Type 0 where
  pub taken : List ℕ
  pub has_failed : Bool
  pub made : ℕ
  pub fails : List ℕ
  pub faults : ℕ

-- files that fail at the listed calls, of which so many were made
pub record MemFilesState : Type 0 where
  pub files : List NamedFile
  pub made : ℕ
  pub fails : List ℕ
  pub faults : ℕ

-- a system that never fails, with what it is still to tell
pub record SureSutState : Type 0 where
  pub script : List ScriptEntry
  pub dialled : ℕ

-- a system that fails at the listed calls, of which so many were made
pub record MemSutState : Type 0 where
  pub script : List ScriptEntry
  pub dialled : ℕ
  pub calls : Option (List SutEntry)
  pub hang_ups : ℕ
  pub made : ℕ
  pub fails : List ℕ
  pub faults : ℕ
