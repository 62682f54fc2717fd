pub mod Shared
pub mod SharedItems
