-- What contracts see of the adapters that are more than a count of faults.
use Rattle.std.specs.Prelude.{ℕ, Bool}

-- a reader as a source
pub record ReaderState : Type 0 where
  pub at_end : Bool
  pub has_failed : Bool
  pub faults : ℕ

-- a writer as a sink
pub record WriterState : Type 0 where
  pub has_failed : Bool
  pub faults : ℕ

-- a system behind connections
pub record TcpState : Type 0 where
  pub dialled : ℕ
  pub faults : ℕ
