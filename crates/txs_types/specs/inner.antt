-- What only contracts of functions within the crate cite. No public contract stands on these.
pub mod Among
pub mod Counted
pub mod Collected
pub mod Queries
