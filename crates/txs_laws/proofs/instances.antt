pub mod Names
pub mod Captured
