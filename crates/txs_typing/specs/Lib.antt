pub mod Names
pub mod Elaborates
pub mod Offends
pub mod Answer
pub mod inner
