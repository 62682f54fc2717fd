pub mod Sets
pub mod Spelled
pub mod Sessions
