pub mod Seen
pub mod Node
pub mod Bare
