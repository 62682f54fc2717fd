pub mod Fronts
pub mod Scripts
