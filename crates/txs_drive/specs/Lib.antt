pub mod Course
pub mod Served
pub mod Cut
pub mod inner
