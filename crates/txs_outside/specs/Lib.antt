pub mod Known
pub mod Hanging
pub mod Causes
pub mod Reading
pub mod Calls
pub mod Held
pub mod Script
pub mod Memory
