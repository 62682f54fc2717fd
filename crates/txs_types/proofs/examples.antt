-- Small files and queries, and what the definitions say of them.
pub mod Small
pub mod Big
pub mod Accepted
