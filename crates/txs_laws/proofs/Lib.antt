pub mod rules
pub mod typing
pub mod solver
pub mod instances
pub mod bounded
pub mod examples
pub mod spellings
