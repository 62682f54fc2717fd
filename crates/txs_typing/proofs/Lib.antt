pub mod Laws
pub mod Tests
pub mod Lookups
pub mod trees
pub mod judging
