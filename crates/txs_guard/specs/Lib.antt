pub mod Query
pub mod Place
pub mod Atom
pub mod Mentioned
pub mod Candidates
pub mod Bounds
pub mod Answer
pub mod Point
