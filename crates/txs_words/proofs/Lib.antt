pub mod Wording
pub mod Digits
pub mod Behaviours
pub mod Readers
pub mod Apart
pub mod Texts
pub mod Parts
pub mod Files
