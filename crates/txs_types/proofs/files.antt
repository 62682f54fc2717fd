-- Files and queries: their laws, their parts, and what is told of them.
pub mod Meaning
pub mod Parts
pub mod Bodies
pub mod Judged
pub mod Safe
pub mod Tables
pub mod Defined
pub mod Offending
pub mod Queries
