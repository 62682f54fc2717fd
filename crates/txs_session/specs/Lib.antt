pub mod Parts
pub mod Commands
pub mod Lines
pub mod Allowed
pub mod Session
pub mod Ready
