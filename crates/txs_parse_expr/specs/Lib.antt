pub mod Answer
pub mod Reader
pub mod View
