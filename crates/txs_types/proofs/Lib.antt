pub mod Laws
pub mod lists
pub mod naming
pub mod files
pub mod examples
