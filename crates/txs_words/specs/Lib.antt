pub mod Form
pub mod File
pub mod inner
