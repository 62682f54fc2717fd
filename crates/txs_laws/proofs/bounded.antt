pub mod Instance
pub mod Level
